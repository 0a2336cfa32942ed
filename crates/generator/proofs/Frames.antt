-- The frames that are made, cell by cell, and as the first of more. Rests on specs/Generator.
use Rattle.std.proofs.Common.{◌≡◌, ℕ, zero, suc, ◌+◌, ◌-◌, ◌*◌, ◌<◌, ◌≤◌, List, [], ◌∷◌, ◌++◌, length, get_or, take, sym, ap, ◌∙◌, add-zero, add-suc, arith, length-append, take_all, get_or-take, get_or-append-add}
use lib.ListN.{get_or-append}
use lib.Seq.{get_or_at, take-append-le}
use Rattle.lists.specs.Each.{table}
use Rattle.lists.proofs.Each.{length_table, get_d_table}
use Rattle.frames.specs.Cells.{cells_of_frame}
use Rattle.generator.specs.Generator.{code_made, codes_made, enable_byte, frames_made}

pub frame_length : (given : List ℕ) (f : ℕ) → length (cells_of_frame (codes_made given f) enable_byte) ≡ 7
unfolding codes_made
frame_length given f = omega (arith, length-append (table 6 (code_made given f)) (enable_byte ∷ []), length_table 6 (code_made given f))

pub frames_length : (given : List ℕ) (n : ℕ) → length (frames_made given n) ≡ 7 * n
unfolding frames_made
frames_length given zero = omega arith
frames_length given (suc n) =
    omega (
      arith,
      frames_length given n,
      frame_length given n,
      length-append (frames_made given n) (cells_of_frame (codes_made given n) enable_byte),
    )

-- "Making n frames equals the first n of making more", on the frames.
frames_first : (given : List ℕ) (n d : ℕ) → take (7 * n) (frames_made given (n + d)) ≡ frames_made given n
unfolding frames_made
frames_first given n zero = rw (add-zero n) (take_all (7 * n) (frames_made given n) (omega (arith, frames_length given n)))
frames_first given n (suc d) =
    rw (add-suc n d)
    (take-append-le (7 * n) (frames_made given (n + d)) (cells_of_frame (codes_made given (n + d)) enable_byte)
    (omega (arith, frames_length given (n + d)))
    ∙ frames_first given n d)

pub frames_prefix : (given : List ℕ) (n m : ℕ) → n ≤ m → take (7 * n) (frames_made given m) ≡ frames_made given n
frames_prefix given n m h =
    let e : m ≡ n + (m - n) = omega arith in
    ap (λ (k : ℕ). take (7 * n) (frames_made given k)) e ∙ frames_first given n (m - n)

-- Cell i of frame f, of n frames.
frame_cell : (given : List ℕ) (n f i : ℕ) → f < n → i < 7
    → get_or (frames_made given n) (7 * f + i) 0 ≡ get_or (cells_of_frame (codes_made given f) enable_byte) i 0
unfolding frames_made
frame_cell given n f i h k =
    sym (get_or-take (7 * suc f) (frames_made given n) (7 * f + i) 0 (omega arith))
    ∙ ap (λ (l : List ℕ). get_or l (7 * f + i) 0) (frames_prefix given (suc f) n (omega arith))
    ∙ ap (λ (j : ℕ). get_or (frames_made given f ++ cells_of_frame (codes_made given f) enable_byte) (j + i) 0) (sym (frames_length given f))
    ∙ get_or-append-add (frames_made given f) (cells_of_frame (codes_made given f) enable_byte) i 0

pub code_cell : (given : List ℕ) (n f c : ℕ) → f < n → c < 6 → get_or (frames_made given n) (7 * f + c) 0 ≡ code_made given f c
unfolding codes_made
code_cell given n f c h k =
    frame_cell given n f c h (omega arith)
    ∙ get_or-append (table 6 (code_made given f)) (enable_byte ∷ []) 0 c (omega (arith, length_table 6 (code_made given f)))
    ∙ get_d_table 6 (code_made given f) 0 c k

pub enable_cell : (given : List ℕ) (n f : ℕ) → f < n → get_or (frames_made given n) (7 * f + 6) 0 ≡ 0x7F
unfolding codes_made
enable_cell given n f h =
    frame_cell given n f 6 h (omega arith) ∙ get_or_at (table 6 (code_made given f)) enable_byte [] 0 6 (length_table 6 (code_made given f))
