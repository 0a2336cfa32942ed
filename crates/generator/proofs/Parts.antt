-- A part of a list from an index on, lent and put back: what stands in the part is what stands in the whole, further on.
-- Rests on specs/Internal.
use Rattle.std.proofs.Common.{◌≡◌, ℕ, zero, suc, ◌+◌, ◌-◌, ◌*◌, ◌<◌, ◌≤◌, List, [], ◌∷◌, length, take, drop, set, sym, refl, ap, ◌∙◌, arith, append-nil, take_all, take-append-drop, length-drop, get_or-drop}
use borrow.Rule.Slice.PartMut.{put_mid}
use lib.ListN.{drop_of_length-le}
use lib.Seq.{sets, take-set-le, drop-set-add}
use Rattle.lists.proofs.Each.{table_same}
use Rattle.frames.specs.Cells.{cells_of_frame}
use Rattle.generator.specs.Generator.{enable_byte}
use Rattle.generator.specs.Internal.{sum_at, six_at, six_sums, codes_of_six, numbers_with_next, cells_with_next, numbers_after, cells_after, NextPut, SomePut}

-- ---- stores behind an index

take_sets : (vs l : List ℕ) (a i : ℕ) → a ≤ i → take a (sets l i vs) ≡ take a l
take_sets [] l a i h = refl
take_sets (v ∷ vs) l a i h = take_sets vs (set l i v) a (suc i) (omega arith) ∙ take-set-le a l i v h

drop_sets : (vs l : List ℕ) (a b : ℕ) → drop a (sets l (a + b) vs) ≡ sets (drop a l) b vs
drop_sets [] l a b = refl
drop_sets (v ∷ vs) l a b =
    let e : suc (a + b) ≡ a + suc b = omega arith in
    ap (λ (i : ℕ). drop a (sets (set l (a + b) v) i vs)) e
    ∙ drop_sets vs (set l (a + b) v) a (suc b)
    ∙ ap (λ (r : List ℕ). sets r (suc b) vs) (drop-set-add a l b v)

-- The part put back, where what lies before it is as it was.
part_back : (a : ℕ) (l new part : List ℕ) → a ≤ length l → take a new ≡ take a l → part ≡ drop a new → put_mid a (length l - a) l part ≡ new
part_back a l new part h t e =
    let all : length (drop a l) ≤ length l - a = omega (arith, length-drop a l) in
    rw (drop_of_length-le (drop a l) all, append-nil part, e, ← t) (take-append-drop a new)

-- The part that is lent, from an index to the end.
abbrev pub part_from : ℕ → List ℕ → List ℕ
part_from a l = take (length l - a) (drop a l)

part_is : (a : ℕ) (l : List ℕ) → part_from a l ≡ drop a l
part_is a l = take_all (length l - a) (drop a l) (omega (arith, length-drop a l))

-- ---- the numbers and cells of one frame more

six_part : (l : List ℕ) (a b : ℕ) → six_sums (drop a l) b ≡ six_sums l (a + b)
unfolding six_sums
six_part l a b = table_same 6 (six_at (drop a l) b) (six_at l (a + b)) each
  where
    each : (k : ℕ) → k < 6 → sum_at (drop a l) (b + k) ≡ sum_at l (a + b + k)
    each k h =
        let p : a + (b + k + 31) ≡ a + b + k + 31 = omega arith in
        let q : a + (b + k) ≡ a + b + k = omega arith in
        rw (get_or-drop a l (b + k + 31) 0, get_or-drop a l (b + k) 0, p, q)

numbers_part : (l : List ℕ) (a b : ℕ) → numbers_with_next (drop a l) b ≡ drop a (numbers_with_next l (a + b))
numbers_part l a b =
    let e : a + (b + 55) ≡ a + b + 55 = omega arith in
    ap (λ (six : List ℕ). sets (drop a l) (b + 55) six) (six_part l a b)
    ∙ sym (drop_sets (six_sums l (a + b)) l a (b + 55))
    ∙ ap (λ (i : ℕ). drop a (sets l i (six_sums l (a + b)))) e

abbrev frame_after : List ℕ → ℕ → List ℕ
frame_after l from = cells_of_frame (codes_of_six (six_sums l from)) enable_byte

cells_part : (l cells : List ℕ) (a b c d : ℕ) → cells_with_next (drop a l) b (drop (7 * c) cells) d ≡ drop (7 * c) (cells_with_next l (a + b) cells (c + d))
cells_part l cells a b c d =
    let e : 7 * c + 7 * d ≡ 7 * (c + d) = omega arith in
    ap (λ (six : List ℕ). sets (drop (7 * c) cells) (7 * d) (cells_of_frame (codes_of_six six) enable_byte)) (six_part l a b)
    ∙ sym (drop_sets (frame_after l (a + b)) cells (7 * c) (7 * d))
    ∙ ap (λ (i : ℕ). drop (7 * c) (sets cells i (frame_after l (a + b)))) e

-- ---- of m frames more

some_numbers : (l : List ℕ) (a b m : ℕ) → numbers_after (drop a l) b m ≡ drop a (numbers_after l (a + b) m)
unfolding numbers_after
some_numbers l a b zero = refl
some_numbers l a b (suc m) =
    let e : a + (b + 6 * m) ≡ a + b + 6 * m = omega arith in
    ap (λ (r : List ℕ). numbers_with_next r (b + 6 * m)) (some_numbers l a b m)
    ∙ numbers_part (numbers_after l (a + b) m) a (b + 6 * m)
    ∙ ap (λ (i : ℕ). drop a (numbers_with_next (numbers_after l (a + b) m) i)) e

some_cells : (l cells : List ℕ) (a b c d m : ℕ)
    → cells_after (drop a l) b (drop (7 * c) cells) d m ≡ drop (7 * c) (cells_after l (a + b) cells (c + d) m)
unfolding cells_after
some_cells l cells a b c d zero = refl
some_cells l cells a b c d (suc m) =
    let e : a + (b + 6 * m) ≡ a + b + 6 * m = omega arith in
    let g : c + (d + m) ≡ c + d + m = omega arith in
    ap (λ (r : List ℕ). cells_with_next r (b + 6 * m) (cells_after (drop a l) b (drop (7 * c) cells) d m) (d + m)) (some_numbers l a b m)
    ∙ ap (λ (r : List ℕ). cells_with_next (drop a (numbers_after l (a + b) m)) (b + 6 * m) r (d + m)) (some_cells l cells a b c d m)
    ∙ cells_part (numbers_after l (a + b) m) (cells_after l (a + b) cells (c + d) m) a (b + 6 * m) c (d + m)
    ∙ ap (λ (i : ℕ). drop (7 * c) (cells_with_next (numbers_after l (a + b) m) i (cells_after l (a + b) cells (c + d) m) (c + (d + m)))) e
    ∙ ap (λ (i : ℕ). drop (7 * c) (cells_with_next (numbers_after l (a + b) m) (a + b + 6 * m) (cells_after l (a + b) cells (c + d) m) i)) g

numbers_before : (l : List ℕ) (a m : ℕ) → take a (numbers_after l a m) ≡ take a l
unfolding numbers_after
numbers_before l a zero = refl
numbers_before l a (suc m) =
    take_sets (six_sums (numbers_after l a m) (a + 6 * m)) (numbers_after l a m) a (a + 6 * m + 55) (omega arith) ∙ numbers_before l a m

cells_before : (l cells : List ℕ) (a c m : ℕ) → take (7 * c) (cells_after l a cells c m) ≡ take (7 * c) cells
unfolding cells_after
cells_before l cells a c zero = refl
cells_before l cells a c (suc m) =
    take_sets (frame_after (numbers_after l a m) (a + 6 * m)) (cells_after l a cells c m) (7 * c) (7 * (c + m)) (omega arith)
    ∙ cells_before l cells a c m

-- ---- what is put into the parts is put into the whole

module _ (l cells part part_cells : List ℕ) (a c : ℕ) (h : a ≤ length l) (g : 7 * c ≤ length cells) where
  pub next_back : NextPut (part_from a l) 0 (part_from (7 * c) cells) 0 part part_cells
      → NextPut l a cells c (put_mid a (length l - a) l part) (put_mid (7 * c) (length cells - 7 * c) cells part_cells)
  next_back P =
      let N = rw (part_is a l, part_is (7 * c) cells) at P in
      let e : a + 0 ≡ a = omega arith in
      let z : c + 0 ≡ c = omega arith in
      record {
        numbers_are = part_back a l (numbers_with_next l a) part h
            (take_sets (six_sums l a) l a (a + 55) (omega arith))
            (N.numbers_are ∙ numbers_part l a 0 ∙ ap (λ (i : ℕ). drop a (numbers_with_next l i)) e);
        cells_are = part_back (7 * c) cells (cells_with_next l a cells c) part_cells g
            (take_sets (frame_after l a) cells (7 * c) (7 * c) (omega arith))
            (N.cells_are ∙ cells_part l cells a 0 c 0
            ∙ ap (λ (i : ℕ). drop (7 * c) (cells_with_next l i cells (c + 0))) e
            ∙ ap (λ (i : ℕ). drop (7 * c) (cells_with_next l a cells i)) z);
      }

  pub some_back : (m : ℕ) → SomePut (part_from a l) 0 (part_from (7 * c) cells) 0 m part part_cells
      → SomePut l a cells c m (put_mid a (length l - a) l part) (put_mid (7 * c) (length cells - 7 * c) cells part_cells)
  some_back m P =
      let S = rw (part_is a l, part_is (7 * c) cells) at P in
      let e : a + 0 ≡ a = omega arith in
      let z : c + 0 ≡ c = omega arith in
      record {
        numbers_are = part_back a l (numbers_after l a m) part h (numbers_before l a m)
            (S.numbers_are ∙ some_numbers l a 0 m ∙ ap (λ (i : ℕ). drop a (numbers_after l i m)) e);
        cells_are = part_back (7 * c) cells (cells_after l a cells c m) part_cells g (cells_before l cells a c m)
            (S.cells_are ∙ some_cells l cells a 0 c 0 m
            ∙ ap (λ (i : ℕ). drop (7 * c) (cells_after l i cells (c + 0) m)) e
            ∙ ap (λ (i : ℕ). drop (7 * c) (cells_after l a cells i m)) z);
      }
