-- `channels_reset` meets its contract: each channel is what a reset makes of the old one.
use Prim.Native.Nat.{ℕ}
use Rattle.std.proofs.Common.{rules}
use Rattle.frames.specs.Bits.{bit_of}
use Rattle.lists.proofs.Made.{made_table}
use Rattle.relay.specs.Channel.{no_channel, cleared_of}
use Rattle.relay.specs.Internal.{resets_of}
use Rattle.relay.specs.Relay.{reset_channel}
use Rattle.relay.specs.declared.Channel.{Channel}
use lib.ListN.{get_or}
use mathlib.Core.Bool.{Bool, cond}
use mathlib.Core.List.{List}
use mathlib.Core.Path.{◌≡◌}
use Rattle.relay.proofs.steps.channels_reset.Goals as goal

reset : (mask c : ℕ) (old : List Channel) (b : Bool) (ch : Channel) → b ≡ bit_of mask c
    → ch ≡ cond b (cleared_of (get_or old c no_channel)) (get_or old c no_channel) → ch ≡ reset_channel mask old c
unfolding reset_channel
reset mask c old b ch e q = rw (q, e)

pub returns : goal.returns
unfolding resets_of
returns c = made_table _ (reset_channel c.args.mask c.args.old) _ 6 (λ i y q l k. search (rules, reset)) _ c.from_fn.ensures.items
