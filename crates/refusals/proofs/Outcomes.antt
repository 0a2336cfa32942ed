-- What the checks of a call and its outcome come to, case by case. Rests on specs/Refusals and specs/Outcomes.
use Prim.Native.Nat.{ℕ, ◌<◌}
use mathlib.Core.Path.{◌≡◌, refl, sym, ◌∙◌}
use mathlib.Core.List.{List, [], ◌∷◌, ◌++◌}
use mathlib.Core.Bool.{Bool, true, false, cond}
use lib.ListN.{length, drop}
use native.Mathlib.Omega.{arith}
use borrow.Author.Tests.{ne_eqb}
use Rattle.refusals.specs.Refusals.{Check, ◌or_else◌, first_fault, accepted}
use Rattle.refusals.specs.Outcomes.{Outcome, Answered, outcome_of}

-- What stands behind checks of which one fails is not looked at.
pub first_refuses : (checks more : List Check) → (first_fault checks ≡ accepted → ⊥) → first_fault (checks ++ more) ≡ first_fault checks
first_refuses [] more h = absurd (h refl)
first_refuses ((true or_else k) ∷ checks) more h = first_refuses checks more h
first_refuses ((false or_else k) ∷ checks) more h = refl

-- The first check held, where what the checks come to is not its own number; the last one failed, where it is.
pub first_held : (t : Bool) (k n : ℕ) {rest : ℕ} → (k ≡ n → ⊥) → cond t rest k ≡ n → (t ≡ true) × (rest ≡ n)
first_held true k n h e = (refl, e)
first_held false k n h e = absurd (h e)

pub last_failed : (t : Bool) (k : ℕ) → (k ≡ accepted → ⊥) → first_fault ((t or_else k) ∷ []) ≡ k → t ≡ false
last_failed true k h e = absurd (h (sym e))
last_failed false k h e = refl

module _ (refusal count : ℕ) (items buffer : List ℕ) where
  pub made : refusal ≡ accepted
      → outcome_of refusal count items buffer ≡ record { refusal = accepted; count = count; buffer = items ++ drop (length items) buffer }
  made e = rw e

  -- "count 0", "buffer old"
  pub not_made : (refusal ≡ accepted → ⊥) → outcome_of refusal count items buffer ≡ record { refusal = refusal; count = 0; buffer = buffer }
  not_made h = rw (ne_eqb refusal accepted h)

  pub answered : (n m : ℕ) (new : List ℕ) → refusal ≡ accepted → n ≡ accepted → m ≡ count → new ≡ items ++ drop (length items) buffer
      → Answered (outcome_of refusal count items buffer) n m new
  answered n m new e a b c = rw (made e) (record { refusal_is = a; count_is = b; buffer_is = c })

  pub answered_not : (k n m : ℕ) → refusal ≡ k → 0 < k → n ≡ k → m ≡ 0 → Answered (outcome_of refusal count items buffer) n m buffer
  answered_not k n m e h a b = rw (not_made (λ z. omega arith)) (record { refusal_is = a ∙ sym e; count_is = b; buffer_is = refl })

-- What a call answered and left is the outcome, whatever its refusal.
pub answer_is : (outcome : Outcome) (refusal count : ℕ) (buffer : List ℕ) → Answered outcome refusal count buffer
    → (refusal ≡ outcome.refusal) × (count ≡ outcome.count) × (buffer ≡ outcome.buffer)
answer_is outcome refusal count buffer a = (a.refusal_is, a.count_is, a.buffer_is)
