-- A loop that tests one number a turn. `Tested`: it goes on to the end, and below k the tests have come to `ok`.
-- `Passed`: it returns at the first number that fails, and those below k have passed. Rests on the laws of `every`.
use Prim.Native.Nat.{ℕ, ◌+◌, ◌<◌, ◌≤◌}
use mathlib.Core.Path.{◌≡◌, refl, sym, ap, ◌∙◌}
use mathlib.Core.Bool.{Bool, true, false, ◌&&◌, not}
use borrow.Author.Tests.{not-true, not-false}
use native.Mathlib.Omega.{arith}
use Rattle.lists.specs.Each.{every}
use Rattle.lists.proofs.Each.{every_more, every_step, every_at, and_true}

pub record Tested (n : ℕ) (p : ℕ → Bool) (ok : Bool) (k : ℕ) : Type 0 where
  pub within : k ≤ n
  pub is : ok ≡ every k p

pub tested_none : (n : ℕ) (p : ℕ → Bool) → Tested n p true 0
unfolding every
tested_none n p = record { within = omega arith; is = refl }

pub tested_more : (n : ℕ) (p : ℕ → Bool) (ok v : Bool) (k : ℕ) → Tested n p ok k → k < n → v ≡ p k → Tested n p (ok && v) (k + 1)
tested_more n p ok v k t h e = record { within = omega arith; is = every_step k p ok v t.is e }

pub tested_all : (n : ℕ) (p : ℕ → Bool) (ok : Bool) (k : ℕ) → Tested n p ok k → n ≤ k → ok ≡ every n p
tested_all n p ok k t h = t.is ∙ ap (λ (m : ℕ). every m p) (omega (arith, t.within))

pub ruleset tested_cases = (tested_none, tested_more, tested_all)

pub record Passed (n : ℕ) (p : ℕ → Bool) (k : ℕ) : Type 0 where
  pub within : k ≤ n
  pub passed : every k p ≡ true

pub passed_none : (n : ℕ) (p : ℕ → Bool) → Passed n p 0
unfolding every
passed_none n p = record { within = omega arith; passed = refl }

pub passed_more : (n : ℕ) (p : ℕ → Bool) (k : ℕ) (v : Bool) → Passed n p k → k < n → v ≡ p k → not v ≡ false → Passed n p (k + 1)
passed_more n p k v t h e f =
    record { within = omega arith; passed = every_more k p ∙ and_true _ _ t.passed (sym e ∙ not-false v f) }

pub failed_at : (n : ℕ) (p : ℕ → Bool) (k : ℕ) (v : Bool) → k < n → v ≡ p k → not v ≡ true → false ≡ every n p
failed_at n p k v h e f = go (every n p) refl
  where
    go : (b : Bool) → every n p ≡ b → false ≡ b
    go true q = sym (sym (every_at n p q k h) ∙ sym e ∙ not-true v f)
    go false q = refl

pub passed_all : (n : ℕ) (p : ℕ → Bool) (k : ℕ) → Passed n p k → n ≤ k → true ≡ every n p
passed_all n p k t h =
    let w = t.within in
    let end : k ≡ n = omega arith in
    sym (rw end at t.passed)
