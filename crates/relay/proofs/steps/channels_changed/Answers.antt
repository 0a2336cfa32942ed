-- `channels_changed` meets its contract: each channel is what new levels make of the old one.
use Prim.Native.Nat.{ℕ}
use Rattle.std.proofs.Common.{rules}
use Rattle.lists.proofs.Made.{made_table}
use Rattle.relay.specs.Channel.{no_channel, carried_over}
use Rattle.relay.specs.Internal.{changes_of}
use Rattle.relay.specs.Relay.{changed_channel}
use Rattle.relay.specs.Settings.{levels_of}
use Rattle.relay.specs.declared.Channel.{Channel}
use Rattle.relay.specs.declared.ChannelLevels.{ChannelLevels}
use Rattle.relay.specs.declared.Levels.{Levels}
use lib.ListN.{get_or}
use mathlib.Core.List.{List}
use mathlib.Core.Path.{◌≡◌}
use Rattle.relay.proofs.steps.channels_changed.Goals as goal

changed : (was new : Levels) (c : ℕ) (old : List Channel) (l m : ChannelLevels) (ch : Channel) → l ≡ levels_of was c → m ≡ levels_of new c
    → ch ≡ carried_over l m (get_or old c no_channel) → ch ≡ changed_channel was new old c
unfolding changed_channel
changed was new c old l m ch e f q = rw (q, e, f)

pub returns : goal.returns
unfolding changes_of
returns c =
    made_table _ (changed_channel c.args.was c.args.new c.args.old) _ 6 (λ i y q l k. search (rules, changed)) _ c.from_fn.ensures.items
