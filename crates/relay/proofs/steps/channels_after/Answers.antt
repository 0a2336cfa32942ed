-- `channels_after` meets its contract. The invariant of its loop: below c, the channels and the bits of the output are made.
use Prim.Native.Nat.{ℕ, ◌+◌, ◌^◌, ◌<◌, ◌≤◌}
use Rattle.frames.proofs.Output.{bits_more, bits_lt}
use Rattle.frames.specs.Bits.{bits_below, enabled_in}
use Rattle.lists.proofs.Filled.{filled_none, filled_more, filled_all, length_mapped}
use Rattle.phasor.specs.Lanes.{channel_window}
use Rattle.phasor.specs.declared.Window.{Window}
use Rattle.relay.specs.Channel.{no_channel, channel_with}
use Rattle.relay.specs.Internal.{channel_in, on_in, channels_and_output}
use Rattle.relay.specs.Settings.{levels_of}
use Rattle.relay.specs.declared.Channel.{Channel}
use Rattle.relay.specs.declared.ChannelsAndOutput.{ChannelsAndOutput}
use Rattle.relay.specs.declared.Settings.{Settings}
use borrow.Author.Rules.{rules}
use lib.ListN.{length, get_or, set}
use mathlib.Core.Bool.{Bool, ◌&&◌, ◌||◌, cond}
use mathlib.Core.List.{List}
use mathlib.Core.Path.{◌≡◌, refl, ◌∙◌}
use native.Mathlib.Omega.{arith}
use Rattle.relay.proofs.steps.channels_after.Invariants.{Making}
use Rattle.relay.proofs.steps.channels_after.Goals as goal

begin : (settings : Settings) (counted : Bool) (enable : ℕ) (windows : List Window) (old : List Channel) → length old ≡ 6
    → Making settings counted enable windows old old 0 0
unfolding bits_below
begin settings counted enable windows old h = record { filled = filled_none 6 _ old h; bits = refl }

module _
    (settings : Settings) (counted : Bool) (enable : ℕ) (windows : List Window) (old channels : List Channel) (output c : ℕ)
    (making : Making settings counted enable windows old channels output c)
  where
    -- one turn more, from what the callees answer
    again : (enabled : Bool) (ch : Channel) (out : ℕ) → c < 6
        → enabled ≡ enabled_in enable c
        → ch
        ≡ channel_with settings.lengths (levels_of settings.levels c) counted (enabled_in enable c) (channel_window windows c)
        (get_or old c no_channel)
        → out ≡ output + cond ((ch.loss_latch || ch.over_latch) && enabled) (2 ^ c) 0
        → Making settings counted enable windows old (set channels c ch) out (c + 1)
    unfolding channel_in on_in
    again enabled ch out h e q o =
        let made : ch ≡ channel_in settings counted enable windows old c = q in
        let on : (ch.loss_latch || ch.over_latch) && enabled ≡ on_in settings counted enable windows old c = rw (made, e) in
        record { filled = filled_more 6 _ channels c ch making.filled h made; bits = o ∙ bits_more c _ output _ making.bits on }

    output_lt : output < 2 ^ c
    output_lt = rw making.bits (bits_lt c _)

    done : 6 ≤ c
        → ◌≡◌ {A = ChannelsAndOutput} (record { channels = channels; output = output }) (channels_and_output settings counted enable windows old)
    unfolding channels_and_output
    done h =
        let w = making.filled.within in
        let end : c ≡ 6 = omega arith in
        rw (filled_all 6 _ channels c making.filled h, rw end at making.bits)

pub loop-c-init : goal.loop-c-init
loop-c-init c = search (begin, length_mapped)

pub with_bit-output-requires : goal.with_bit-output-requires
with_bit-output-requires c = search (rules, output_lt)

pub loop-c-preserved : goal.loop-c-preserved
loop-c-preserved c = search again

pub returns : goal.returns
returns c = search done
