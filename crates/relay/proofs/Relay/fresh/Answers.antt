-- `Relay::fresh` meets its contract, for accepted settings and for refused ones.
use Prim.Native.Nat.{ℕ}
use Rattle.refusals.specs.declared.Refusal.{Refusal}
use Rattle.refusals.specs.Refusals.{accepted, number_of}
use Rattle.relay.specs.Relay.{unused_relay, fresh_relay, fresh_refusal, fresh_of}
use Rattle.relay.specs.Settings.{zero_settings}
use Rattle.relay.specs.declared.Relay.{Relay}
use Rattle.relay.specs.declared.RelayAnswer.{RelayAnswer}
use Rattle.relay.specs.declared.Settings.{Settings}
use Rattle.refusals.proofs.Exits.{not_accepted}
use mathlib.Core.Bool.{false}
use mathlib.Core.Path.{◌≡◌}
use Rattle.relay.proofs.Relay.fresh.Goals as goal

refused : (settings zeros : Settings) (refusal : Refusal) (n : ℕ) (r : Relay) → n ≡ number_of refusal
    → number_of refusal ≡ fresh_refusal settings
    → zeros ≡ zero_settings
    → r ≡ unused_relay false zeros
    → ◌≡◌ {A = RelayAnswer} (record { relay = r; refusal = n }) (fresh_of settings)
unfolding fresh_of
refused settings zeros refusal n r i e z q = rw (i, q, z, ← e, not_accepted refusal)

made : (settings : Settings) (r : Relay) → 0 ≡ fresh_refusal settings → r ≡ fresh_relay settings
    → ◌≡◌ {A = RelayAnswer} (record { relay = r; refusal = accepted }) (fresh_of settings)
unfolding fresh_of
made settings r e q = rw (q, ← e)

pub returns-in-Ok : goal.returns-in-Ok
returns-in-Ok c = search (made, c.in-Ok.ensures)

pub returns-in-Err : goal.returns-in-Err
returns-in-Err c = search (refused, c.in-Err.ensures)
