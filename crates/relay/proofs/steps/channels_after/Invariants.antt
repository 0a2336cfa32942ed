-- `channels_after` meets its contract. The invariant of its loop: below c, the channels and the bits of the output are made.
use Prim.Native.Nat.{ℕ}
use Rattle.frames.specs.Bits.{bits_below}
use Rattle.lists.proofs.Filled.{Filled}
use Rattle.phasor.specs.declared.Window.{Window}
use Rattle.relay.specs.Internal.{channel_in, on_in}
use Rattle.relay.specs.declared.Channel.{Channel}
use Rattle.relay.specs.declared.Settings.{Settings}
use mathlib.Core.Bool.{Bool}
use mathlib.Core.List.{List}
use mathlib.Core.Path.{◌≡◌}
use Rattle.relay.proofs.steps.channels_after.Given as goal

pub record Making (settings : Settings) (counted : Bool) (enable : ℕ) (windows : List Window) (old channels : List Channel) (output c : ℕ) : Type 0 where
  pub filled : Filled 6 (channel_in settings counted enable windows old) channels c
  pub bits : output ≡ bits_below c (on_in settings counted enable windows old)

abbrev pub invariant-loop-c : goal.invariant-loop-c
invariant-loop-c l = Making l.seen.settings l.seen.counted l.seen.enable l.seen.windows l.old l.channels l.output l.c
