-- Lemmas on lists that the library lacks, and lists for computed calls. Rests on the library alone.
use Prim.Native.Nat.{ℕ, zero, suc, ◌+◌, ◌≤◌, ◌<◌}
use mathlib.Core.Path.{◌≡◌, refl, sym, ◌∙◌, ap}
use mathlib.Core.List.{List, [], ◌∷◌, ◌++◌, append_assoc}
use lib.ListN.{length, get_or, take, drop, set, length-set}
use lib.Seq.{sets, sets-eq, drop-drop, get_or-set_same, get_or-set_other}
use borrow.Rule.Slice.PartMut.{put_mid}
use native.Mathlib.Omega.{arith}

-- two runs of stores, one behind the other, are one
pub sets_append : (l : List ℕ) (i : ℕ) (xs ys : List ℕ) → sets l i (xs ++ ys) ≡ sets (sets l i xs) (i + length xs) ys
sets_append l i [] ys = ap (λ (k : ℕ). sets l k ys) (omega arith)
sets_append l i (x ∷ xs) ys =
    sets_append (set l i x) (suc i) xs ys ∙ ap (λ (k : ℕ). sets (sets (set l i x) (suc i) xs) k ys) (omega arith)

-- a part of a list written whole is a run of stores
pub part_stored : (a k : ℕ) (l vs : List ℕ) → a + k ≤ length l → length vs ≡ k → put_mid a k l vs ≡ sets l a vs
part_stored a k l vs h e =
    let same : a + k ≡ a + length vs = omega arith in
    ap (λ (r : List ℕ). take a l ++ (vs ++ r)) (drop-drop k a l ∙ ap (λ (n : ℕ). drop n l) same)
    ∙ sym (append_assoc (take a l) vs (drop (a + length vs) l)) ∙ sym (sets-eq vs l a (omega arith))

-- an item before a run of stores, and one of the run
pub sets_before : (l : List ℕ) (i : ℕ) (vs : List ℕ) (j : ℕ) → j < i → get_or (sets l i vs) j 0 ≡ get_or l j 0
sets_before l i [] j h = refl
sets_before l i (v ∷ vs) j h =
    sets_before (set l i v) (suc i) vs j (omega arith) ∙ get_or-set_other l i j v 0 (λ z. omega arith)

pub sets_inside : (l : List ℕ) (i : ℕ) (vs : List ℕ) (k : ℕ) → i + length vs ≤ length l → k < length vs → get_or (sets l i vs) (i + k) 0 ≡ get_or vs k 0
sets_inside l i [] k h m = absurd (omega arith)
sets_inside l i (v ∷ vs) zero h m =
    let e : i + 0 ≡ i = omega arith in
    rw e (sets_before (set l i v) (suc i) vs i (omega arith) ∙ get_or-set_same l i v 0 (omega arith))
sets_inside l i (v ∷ vs) (suc k) h m =
    let e : i + suc k ≡ suc i + k = omega arith in
    rw e (sets_inside (set l i v) (suc i) vs k (omega (arith, length-set l i v)) (omega arith))

-- so many numbers, upwards from k
abbrev pub up_from : ℕ → ℕ → List ℕ
up_from k zero = []
up_from k (suc n) = k ∷ up_from (suc k) n
