-- `Relay::change` meets its contract, accepted or refused.
use Prim.Native.Nat.{ℕ}
use Rattle.refusals.specs.declared.Refusal.{Refusal}
use Rattle.refusals.specs.Refusals.{number_of}
use Rattle.relay.specs.Relay.{accepted_change, refused_change, change_refusal, change_of}
use Rattle.relay.specs.declared.Levels.{Levels}
use Rattle.relay.specs.declared.Relay.{Relay}
use Rattle.relay.specs.declared.RelayAnswer.{RelayAnswer}
use Rattle.refusals.proofs.Exits.{not_accepted}
use mathlib.Core.Path.{◌≡◌}
use Rattle.relay.proofs.Relay.change.Goals as goal

module _ (r : Relay) (new : Levels) where
  accepted : (a : RelayAnswer) → 0 ≡ change_refusal r new → a ≡ accepted_change r new → a ≡ change_of r new
  unfolding change_of
  accepted a q p = rw (p, ← q)

  refused : (refusal : Refusal) (n : ℕ) → n ≡ number_of refusal → number_of refusal ≡ change_refusal r new
      → ◌≡◌ {A = RelayAnswer} (record { relay = r; refusal = n }) (change_of r new)
  unfolding change_of refused_change
  refused refusal n i q = rw (i, ← q, not_accepted refusal)

pub returns-in-Ok : goal.returns-in-Ok
returns-in-Ok c = search (accepted, c.in-Ok.ensures)

pub returns-in-Err : goal.returns-in-Err
returns-in-Err c = search (refused, c.in-Err.ensures)
