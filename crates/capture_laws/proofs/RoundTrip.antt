-- Reading the bytes that writing makes finds the cells again: a code, a frame, the frames, the capture. Rests on the law of widths and that of
-- changes.
use Prim.Native.Nat.{ℕ, zero, suc, ◌+◌, ◌*◌, ◌≤◌, ◌<◌, zero-le}
use mathlib.Core.Path.{◌≡◌, refl, sym, ◌∙◌, ap}
use mathlib.Core.List.{List, [], ◌∷◌, ◌++◌, append_assoc, append-nil}
use mathlib.Core.Bool.{true}
use lib.ListN.{length, get_or, take, drop, length-append, length-take, length-drop}
use lib.Seq.{take-add, take-take, take_all, drop-append_seam}
use lib.IntN.{ℤ, pos, sub_ℕ, ◌+ℤ◌}
use native.Mathlib.Omega.{arith}
use borrow.Author.Tests.{le-ltb, lt-ltb, lt-leb, eq-eqb}
use Rattle.refusals.specs.Refusals.{accepted}
use Rattle.frames.specs.Codes.{code_limit, codes_in_range}
use Rattle.frames.specs.Cells.{most_frames, enable_limit, codes_at, enable_at, cells_of_frame, frames_in}
use Rattle.frames.proofs.Ranges.{Ranges, Sound, ranges_enable, ranges_drop, ranges_codes, codes_below}
use Rattle.frames.proofs.Frames.{frame_cells}
use Rattle.capture.specs.Marks.{mark, codes_before}
use Rattle.capture.specs.Numbers.{found, seven_bit, seven_bit_bytes, sent, received}
use Rattle.capture.proofs.Widths.{seven_bit_lem}
use Rattle.capture.proofs.Changes.{sent_below, received_sent, change_leads}
use Rattle.capture.proofs.Before.{before_in_range}
use Rattle.writer.specs.Writing.{changes, frame_bytes, frames_bytes, all_frames_bytes, capture_of}
use Rattle.reader.specs.Reading.{code, codes_from, frame, frames, mark_fault, from_mark, capture}

-- A change and back.
code_change : (p c : ℕ) (rest : List ℕ) → p < code_limit → c < code_limit
    → code p (seven_bit_bytes (sent (sub_ℕ c p)) ++ rest) ≡ found c (length (seven_bit_bytes (sent (sub_ℕ c p))))
unfolding code
code_change p c rest hp hc =
    let z = sent (sub_ℕ c p) in
    let n : seven_bit (seven_bit_bytes z ++ rest) ≡ found z (length (seven_bit_bytes z)) =
    (seven_bit_lem 1 0 zero-le).reads_back z rest (sent_below p c hp hc) zero-le in
    let l : pos p +ℤ received z ≡ pos c = ap (λ (d : ℤ). pos p +ℤ d) (received_sent (sub_ℕ c p)) ∙ change_leads p c in
    rw n (rw l (rw (lt-ltb c code_limit hc)))

-- The codes of a frame and back.
codes_changes : (previous codes rest : List ℕ) → length previous ≡ length codes
    → ((k : ℕ) → k < length codes → get_or previous k 0 < code_limit) → ((k : ℕ) → k < length codes → get_or codes k 0 < code_limit)
    → codes_from previous (changes previous codes ++ rest) ≡ found codes (length (changes previous codes))
unfolding codes_from changes
codes_changes [] [] rest h hp hc = refl
codes_changes [] (c ∷ codes) rest h hp hc = absurd (omega arith)
codes_changes (p ∷ previous) [] rest h hp hc = absurd (omega arith)
codes_changes (p ∷ previous) (c ∷ codes) rest h hp hc =
    let g = seven_bit_bytes (sent (sub_ℕ c p)) in
    let ch = changes previous codes in
    let ih = codes_changes previous codes rest (omega arith) (λ k l. hp (suc k) (omega arith)) (λ k l. hc (suc k) (omega arith)) in
    rw (append_assoc g ch rest)
    (rw (code_change p c (ch ++ rest) (hp 0 (omega arith)) (hc 0 (omega arith))) (rw (drop-append_seam g (ch ++ rest), ih, length-append g ch)))

frame_back : (previous codes : List ℕ) (enable : ℕ) (rest : List ℕ) → length previous ≡ 6 → length codes ≡ 6 → codes_in_range previous ≡ true
    → codes_in_range codes ≡ true → enable < enable_limit
    → frame previous (frame_bytes previous codes enable ++ rest) ≡ found (cells_of_frame codes enable) (length (frame_bytes previous codes enable))
unfolding frame frame_bytes
frame_back previous codes enable rest l m hp hc he =
    let e : codes_from previous (changes previous codes ++ rest) ≡ found codes (length (changes previous codes)) =
    codes_changes previous codes rest (l ∙ sym m) (λ k h. codes_below previous hp k (omega arith)) (λ k h. codes_below codes hc k (omega arith)) in
    rw (lt-leb enable_limit enable he, e) (ap (found (cells_of_frame codes enable)) (omega arith))

frames_back : (n : ℕ) (previous cells rest : List ℕ) → length previous ≡ 6 → 7 * n ≤ length cells → codes_in_range previous ≡ true → Ranges cells
    → frames n previous (frames_bytes n previous cells ++ rest) ≡ found (take (7 * n) cells) (length (frames_bytes n previous cells))
unfolding frames frames_bytes
frames_back zero previous cells rest l h hp R = refl
frames_back (suc n) previous cells rest l h hp R =
    let codes = codes_at cells 0 in
    let six : length codes ≡ 6 = simp length-take (omega arith) in
    let ih = frames_back n codes (drop 7 cells) rest six (simp length-drop (omega arith)) (ranges_codes cells R 0) (ranges_drop cells R) in
    let fb = frame_bytes previous codes (enable_at cells 0) in
    let F = frames_bytes n codes (drop 7 cells) in
    let a : 7 * suc n ≡ 7 + 7 * n = omega arith in
    let f : frame previous (fb ++ (F ++ rest)) ≡ found (take 7 cells) (length fb) =
    frame_back previous codes (enable_at cells 0) (F ++ rest) l six hp (ranges_codes cells R 0) (ranges_enable cells R 0)
    ∙ ap (λ (c : List ℕ). found c (length fb)) (frame_cells cells 0 (omega arith)) in
    rw (append_assoc fb F rest)
    (rw f (rw (take-take 6 7 cells (omega arith), drop-append_seam fb (F ++ rest), ih, length-append fb F, a, take-add 7 (7 * n) cells)))

mark_back : (s : List ℕ) → mark_fault mark (mark ++ s) ≡ accepted
unfolding mark_fault
mark_back s = refl

-- The capture of cells holds these cells.
pub capture_back : (cells : List ℕ) → Sound cells → (size : ℕ) × (capture (capture_of cells) ≡ found cells size)
unfolding capture from_mark capture_of
capture_back cells S =
    let n = frames_in cells in
    let fb = all_frames_bytes cells in
    let g = seven_bit_bytes n in
    let c : seven_bit (g ++ fb) ≡ found n (length g) = (seven_bit_lem 1 0 zero-le).reads_back n fb (omega (arith, S.few)) zero-le in
    let f : frames n codes_before fb ≡ found cells (length fb) =
    ap (frames n codes_before) (sym (append-nil fb)) ∙ frames_back n codes_before cells [] refl (omega (arith, S.whole)) before_in_range S.ranges
    ∙ ap (λ (xs : List ℕ). found xs (length fb)) (take_all (7 * n) cells (omega (arith, S.whole))) in
    let m : mark_fault mark (mark ++ (g ++ fb)) ≡ accepted = mark_back (g ++ fb) in (
      length fb,
      rw (eq-eqb (mark_fault mark (mark ++ (g ++ fb))) accepted m)
          (rw c (rw (le-ltb most_frames n S.few, drop-append_seam g fb, f, le-ltb (length fb) (length fb) (omega arith)))),
    )
