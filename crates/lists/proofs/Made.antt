-- What `array::from_fn` makes: the table of what its closure answers. Rests on the laws of `table`.
use Prim.Native.Nat.{ℕ, zero, suc, ◌+◌, ◌<◌, ◌≤◌}
use mathlib.Core.Bool.{Bool, true, false}
use mathlib.Core.Path.{◌≡◌, refl, sym, ◌∙◌, subst}
use mathlib.Core.List.{List}
use native.Mathlib.Omega.{arith}
use borrow.Author.Tests.{ltb-true, ltb-false}
use lib.Dec.{ltb}
use lib.ListN.{length, get_or}
use denote.Param.Members.{Mut}
use Rattle.std.proofs.lemmas.List.{same_lists}
use Rattle.std.specs.Array.{IsFromFnResult, IsFromFnResultFrom}
use Rattle.std.specs.Fn.{Called}
use Rattle.lists.specs.Each.{table}
use Rattle.lists.proofs.Each.{length_table, get_d_table}

-- a number from i on is i or past it
from_on : {A : Type 0} (i k : ℕ) → i ≤ k → (k ≡ i → A) → (i + 1 ≤ k → A) → A
from_on {A} i k l at past = go (ltb i k) refl
  where
    go : (b : Bool) → ltb i k ≡ b → A
    go true e = past (omega (arith, ltb-true i k e))
    go false e = at (omega (arith, ltb-false i k e))

module _ {F B : Type 0} (g : Mut F (ℕ × Unit {0}) B) (h : ℕ → B) (f : F) (n : ℕ)
    (answers : (i : ℕ) (y : B) (q : F) → i < n → Called g f (i, tt) y q → (y ≡ h i) × (q ≡ f)) where
  each_at : (ys : List B) (i m : ℕ) → i + m ≡ n → (q : F) → q ≡ f → IsFromFnResultFrom g q ys i m → (k : ℕ) (d : B) → i ≤ k → k < n
      → get_or ys k d ≡ h k
  each_at ys i zero e q s made k d l r = absurd (omega arith)
  each_at ys i (suc m) e q s (next, y, at, called, rest) k d l r =
      let one : (y ≡ h i) × (next ≡ f) = answers i y next (omega arith) (subst (λ (p : F). Called g p (i, tt) y next) s called) in
      from_on i k l (λ same. rw same (at.1 d ∙ one.0)) (λ past. each_at ys (i + 1) m (omega arith) next one.1 rest k d past r)

  -- each call answers by h, and leaves the closure as it was
  pub made_table : (ys : List B) → IsFromFnResult g f ys n → ys ≡ table n h
  made_table ys made =
      same_lists ys (table n h) (made.long ∙ sym (length_table n h)) each
    where
      each : (k : ℕ) (d : B) → k < length ys → get_or ys k d ≡ get_or (table n h) k d
      each k d l =
          let r : k < n = omega (arith, made.long) in
          each_at ys 0 n (omega arith) f refl made.each k d (omega arith) r ∙ sym (get_d_table n h d k r)
