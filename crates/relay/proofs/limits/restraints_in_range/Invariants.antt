-- `restraints_in_range` meets its contract: a loop that tests one restraint a turn.
use Rattle.lists.proofs.Tested.{Tested}
use Rattle.relay.specs.Settings.{restraint_in_range}
use Rattle.relay.proofs.limits.restraints_in_range.Given as goal

abbrev pub invariant-loop-restraint : goal.invariant-loop-restraint
invariant-loop-restraint l = Tested 3 (restraint_in_range l.fn.restraints) l.ok l.restraint-index
