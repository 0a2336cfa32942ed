-- `Levels::of_channel` meets its contract, for a voltage and for a current.
use Prim.Native.Nat.{ℕ, ◌-◌, ◌<◌, ◌≤◌}
use Rattle.relay.specs.Settings.{levels_of}
use Rattle.relay.specs.declared.ChannelLevels.{ChannelLevels}
use Rattle.relay.specs.declared.Levels.{Levels}
use borrow.Author.Tests.{le-leb, lt-leb}
use lib.ListN.{get_or}
use mathlib.Core.Bool.{true, false}
use mathlib.Core.Path.{◌≡◌}
use Rattle.relay.proofs.Levels.of_channel.Goals as goal

voltage : (l : Levels) (c : ℕ) → c < 3
    → ◌≡◌ {A = ChannelLevels} (record { drop = get_or l.drop c 0; pickup = 0; restraint = 0; current = false }) (levels_of l c)
unfolding levels_of
voltage l c h = rw (lt-leb 3 c h)

current : (l : Levels) (c : ℕ) → 3 ≤ c
    → ◌≡◌ {A = ChannelLevels} (record {
      drop = get_or l.drop c 0;
      pickup = get_or l.pickup (c - 3) 0;
      restraint = get_or l.restraint (c - 3) 0;
      current = true;
    }) (levels_of l c)
unfolding levels_of
current l c h = rw (le-leb 3 c h)

pub returns-then-c-lt3 : goal.returns-then-c-lt3
returns-then-c-lt3 c = search voltage

pub returns : goal.returns
returns c = search current
