-- `Relay::unused` meets its contract: six fresh channels.
use Rattle.relay.specs.Channel.{fresh_channel}
use Rattle.relay.specs.Relay.{unused_relay}
use Rattle.relay.specs.declared.Channel.{Channel}
use Rattle.relay.specs.declared.Relay.{Relay}
use Rattle.relay.specs.declared.Settings.{Settings}
use lib.ListN.{replicate}
use mathlib.Core.Bool.{Bool}
use mathlib.Core.Path.{◌≡◌}
use Rattle.relay.proofs.Relay.unused.Goals as goal

six_fresh : (on : Bool) (s : Settings) (ch : Channel) → ch ≡ fresh_channel
    → ◌≡◌ {A = Relay} (record { channels = replicate 6 ch; age = 0; slot = 0; device_on = on; settings = s }) (unused_relay on s)
unfolding unused_relay
six_fresh on s ch e = rw e

pub returns : goal.returns
returns c = search six_fresh
