-- `Relay::accepted_change` meets its contract: the six channels and the levels, and all else as it was.
use Rattle.relay.specs.Internal.{changes_of}
use Rattle.relay.specs.Relay.{accepted_change}
use Rattle.relay.specs.declared.RelayAnswer.{RelayAnswer}
use Rattle.relay.specs.declared.Channel.{Channel}
use Rattle.relay.specs.declared.Levels.{Levels}
use Rattle.relay.specs.declared.Relay.{Relay}
use mathlib.Core.List.{List}
use mathlib.Core.Path.{◌≡◌}
use Rattle.relay.proofs.Relay.accepted_change.Goals as goal

made : (r : Relay) (new : Levels) (channels : List Channel) → channels ≡ changes_of r.settings.levels new r.channels
    → ◌≡◌ {A = RelayAnswer} (record {
      relay = record {
        channels = channels;
        age = r.age;
        slot = r.slot;
        device_on = r.device_on;
        settings = record { levels = new; lengths = r.settings.lengths };
      };
      refusal = 0;
    }) (accepted_change r new)
unfolding accepted_change changes_of
made r new channels e = rw e

pub returns : goal.returns
returns c = search made
