-- `levels_in_range` meets its contract: a loop that tests one level a turn.
use Rattle.lists.proofs.Tested.{Tested}
use Rattle.relay.specs.Settings.{level_in_range}
use lib.ListN.{length}
use Rattle.relay.proofs.limits.levels_in_range.Given as goal

abbrev pub invariant-loop-level : goal.invariant-loop-level
invariant-loop-level l = Tested (length l.levels) (level_in_range l.levels) l.ok l.level-index
