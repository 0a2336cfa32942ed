-- `Relay::reset` meets its contract, accepted or refused.
use Prim.Native.Nat.{ℕ}
use Rattle.refusals.specs.declared.Refusal.{Refusal}
use Rattle.refusals.specs.Refusals.{number_of}
use Rattle.relay.specs.Relay.{accepted_reset, refused_reset, reset_refusal, reset_of}
use Rattle.relay.specs.declared.Relay.{Relay}
use Rattle.relay.specs.declared.RelayAnswer.{RelayAnswer}
use Rattle.refusals.proofs.Exits.{not_accepted}
use mathlib.Core.Path.{◌≡◌}
use Rattle.relay.proofs.Relay.reset.Goals as goal

module _ (r : Relay) (mask : ℕ) where
  accepted : (a : RelayAnswer) → 0 ≡ reset_refusal r mask → a ≡ accepted_reset r mask → a ≡ reset_of r mask
  unfolding reset_of
  accepted a q p = rw (p, ← q)

  refused : (refusal : Refusal) (n : ℕ) → n ≡ number_of refusal → number_of refusal ≡ reset_refusal r mask
      → ◌≡◌ {A = RelayAnswer} (record { relay = r; refusal = n }) (reset_of r mask)
  unfolding reset_of refused_reset
  refused refusal n i q = rw (i, ← q, not_accepted refusal)

pub returns-in-Ok : goal.returns-in-Ok
returns-in-Ok c = search (accepted, c.in-Ok.ensures)

pub returns-in-Err : goal.returns-in-Err
returns-in-Err c = search (refused, c.in-Err.ensures)
