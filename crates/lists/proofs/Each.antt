-- Laws of `every` and `table`: what a loop adds in one turn, what the whole says at each number, and how a table is read.
-- Rests on the definitions alone.
use Prim.Native.Nat.{ℕ, zero, suc, ◌+◌, ◌<◌}
use mathlib.Core.Path.{◌≡◌, refl, sym, ◌∙◌, subst}
use mathlib.Core.List.{List, [], ◌∷◌, ◌++◌}
use mathlib.Core.Bool.{Bool, true, false, ◌&&◌, cond}
use mathlib.Core.Logic.{⊎_elim}
use native.Mathlib.Nat.{eq-or-lt_of_le, le_of_suc-le-suc}
use native.Mathlib.Decide.{ℕ_discrete}
use native.Mathlib.Numerals.{add-one}
use native.Mathlib.Omega.{arith}
use lib.Dec.{eqb}
use lib.ListN.{length, take, set, length-append, length-set, get_or, get_or-append}
use lib.Seq.{take_all, take-suc-set, get_or_at, ext_get_or, get_or-set_same, get_or-set_other}
use borrow.Author.Tests.{eq-eqb, ne_eqb}
use Rattle.lists.specs.Each.{every, table}

pub and_true : (a b : Bool) → a ≡ true → b ≡ true → a && b ≡ true
and_true a b p q = rw (p, q)

pub and_left : (a b : Bool) → a && b ≡ true → a ≡ true
and_left true b e = refl
and_left false b e = e

pub and_right : (a b : Bool) → a && b ≡ true → b ≡ true
and_right true b e = e
and_right false b e = let z : false ≡ true = e in cc

-- one number more
pub every_more : (k : ℕ) (p : ℕ → Bool) → every (k + 1) p ≡ every k p && p k
unfolding every
every_more k p = rw add-one

-- a loop that tests one number a turn
pub every_step : (k : ℕ) (p : ℕ → Bool) (ok v : Bool) → ok ≡ every k p → v ≡ p k → ok && v ≡ every (k + 1) p
every_step k p ok v e q = rw (every_more, e, q)

-- what `every` says at each number
pub every_at : (n : ℕ) (p : ℕ → Bool) → every n p ≡ true → (k : ℕ) → k < n → p k ≡ true
unfolding every
every_at zero p e k h = absurd (omega arith)
every_at (suc n) p e k h =
    ⊎_elim (λ q. subst (λ (j : ℕ). p j ≡ true) (sym q) (and_right (every n p) (p n) e)) (λ l. every_at n p (and_left (every n p) (p n) e) k l)
    (eq-or-lt_of_le (le_of_suc-le-suc h))

pub every_true : (n : ℕ) (p : ℕ → Bool) → ((k : ℕ) → k < n → p k ≡ true) → every n p ≡ true
unfolding every
every_true zero p h = refl
every_true (suc n) p h = and_true _ _ (every_true n p (λ k l. h k (omega arith))) (h n (omega arith))

-- tests that are alike at each number
pub every_same : (n : ℕ) (p q : ℕ → Bool) → ((k : ℕ) → k < n → p k ≡ q k) → every n p ≡ every n q
unfolding every
every_same zero p q h = refl
every_same (suc n) p q h = rw (every_same n p q (λ k l. h k (omega arith)), h n (omega arith))

-- the table by its parts
pub length_table : {A : Type 0} (n : ℕ) (f : ℕ → A) → length (table n f) ≡ n
unfolding table
length_table zero f = refl
length_table (suc n) f = omega (arith, length-append (table n f) (f n ∷ []), length_table n f)

-- a list that is filled from the front, one element a turn
pub table_none : {A : Type 0} (l : List A) (f : ℕ → A) → take 0 l ≡ table 0 f
unfolding table
table_none [] f = refl
table_none (x ∷ l) f = refl

pub table_more : {A : Type 0} (l : List A) (k : ℕ) (f : ℕ → A) (a : A) → k < length l → take k l ≡ table k f → a ≡ f k
    → take (k + 1) (set l k a) ≡ table (k + 1) f
unfolding table
table_more l k f a h e q = rw (add-one, take-suc-set, e, q)

pub table_whole : {A : Type 0} (l : List A) (n : ℕ) (f : ℕ → A) → length l ≡ n → take n l ≡ table n f → l ≡ table n f
table_whole l n f h e = sym (take_all n l (omega arith)) ∙ e

-- the table read
pub get_d_table : {A : Type 0} (n : ℕ) (f : ℕ → A) (d : A) (k : ℕ) → k < n → get_or (table n f) k d ≡ f k
unfolding table
get_d_table zero f d k h = absurd (omega arith)
get_d_table {A} (suc n) f d k h =
    ⊎_elim
    (λ q. subst (λ (j : ℕ). get_or (table n f ++ (f n ∷ [])) j d ≡ f j) (sym q) (get_or_at (table n f) (f n) [] d n (length_table n f)))
    (λ l. get_or-append (table n f) (f n ∷ []) d k (omega (arith, length_table n f)) ∙ get_d_table n f d k l)
    (eq-or-lt_of_le (le_of_suc-le-suc h))

-- a table with one entry replaced
pub set_table : {A : Type 0} (n i : ℕ) (f : ℕ → A) (x : A) → i < n → set (table n f) i x ≡ table n (λ k. cond (eqb i k) x (f k))
set_table {A} n i f x h =
    ext_get_or x (set (table n f) i x) (table n g) (length-set (table n f) i x ∙ length_table n f ∙ sym (length_table n g))
    (λ k l. at k (inside k l) (ℕ_discrete k i) ∙ sym (get_d_table n g x k (inside k l)))
  where
    g : ℕ → A
    g k = cond (eqb i k) x (f k)

    inside : (k : ℕ) → k < length (set (table n f) i x) → k < n
    inside k l = rw (length-set, length_table) at l

    at : (k : ℕ) → k < n → Dec (k ≡ i) → get_or (set (table n f) i x) k x ≡ cond (eqb i k) x (f k)
    at k l (yes e) = rw (e, eq-eqb i i refl) (get_or-set_same (table n f) i x x (rw length_table h))
    at k l (no e) = rw (ne_eqb i k (λ q. e (sym q))) (get_or-set_other (table n f) i k x x e ∙ get_d_table n f x k l)

-- a table by equal functions
pub table_same : {A : Type 0} (n : ℕ) (f g : ℕ → A) → ((k : ℕ) → k < n → f k ≡ g k) → table n f ≡ table n g
unfolding table
table_same zero f g h = refl
table_same {A} (suc n) f g h = λ i. table_same n f g (λ k l. h k (omega arith)) i ++ (h n (omega arith) i ∷ [])
