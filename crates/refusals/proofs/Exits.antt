-- A refusal's number is none of an accepted call, and the refusal that the exit of a `?` hands on is the callee's. Rests on the definitions alone.
use lib.Dec.{eqb}
use mathlib.Core.Bool.{false}
use borrow.Author.Tests.{ne_eqb}
use Rattle.std.proofs.Common.{◌≡◌, ◌<◌, Result, Ok, Err, ap, arith}
use Rattle.std.specs.Result.{IsErrAnd}
use Rattle.refusals.specs.declared.Refusal.{Refusal}
use Rattle.refusals.specs.Refusals.{number_of, accepted}
use Rattle.refusals.specs.Outcomes.{refusal_in}

-- Each refusal has a number above 0.
pub some_number : (e : Refusal) → 0 < number_of e
some_number e = grind arith

pub number_not_zero : (e : Refusal) → number_of e ≡ accepted → ⊥
number_not_zero e z = omega (arith, some_number e, z)

pub not_accepted : (e : Refusal) → eqb (number_of e) accepted ≡ false
not_accepted e = ne_eqb (number_of e) accepted (number_not_zero e)

pub number_same : {A : Type 0} (r : Result A Refusal) (e : Refusal) → IsErrAnd r (λ y. y ≡ e) → refusal_in r ≡ number_of e
number_same (Ok a) e h = absurd h
number_same (Err y) e h = ap number_of h
