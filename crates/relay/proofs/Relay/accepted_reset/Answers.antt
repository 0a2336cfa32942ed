-- `Relay::accepted_reset` meets its contract: the six channels, and all else as it was.
use Prim.Native.Nat.{ℕ}
use Rattle.relay.specs.Internal.{resets_of}
use Rattle.relay.specs.Relay.{accepted_reset}
use Rattle.relay.specs.declared.Channel.{Channel}
use Rattle.relay.specs.declared.Relay.{Relay}
use Rattle.relay.specs.declared.RelayAnswer.{RelayAnswer}
use mathlib.Core.List.{List}
use mathlib.Core.Path.{◌≡◌}
use Rattle.relay.proofs.Relay.accepted_reset.Goals as goal

made : (r : Relay) (mask : ℕ) (channels : List Channel) → channels ≡ resets_of mask r.channels
    → ◌≡◌ {A = RelayAnswer} (record {
      relay = record { channels = channels; age = r.age; slot = r.slot; device_on = r.device_on; settings = r.settings };
      refusal = 0;
    }) (accepted_reset r mask)
unfolding accepted_reset resets_of
made r mask channels e = rw e

pub returns : goal.returns
returns c = search made
