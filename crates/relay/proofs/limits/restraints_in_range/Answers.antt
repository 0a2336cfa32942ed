-- `restraints_in_range` meets its contract: a loop that tests one restraint a turn.
use Rattle.lists.proofs.Tested.{tested_cases}
use Rattle.relay.specs.Settings.{restraints_sound}
use Rattle.relay.proofs.limits.restraints_in_range.Goals as goal

pub loop-restraint-init : goal.loop-restraint-init
loop-restraint-init c = search tested_cases

pub loop-restraint-preserved : goal.loop-restraint-preserved
loop-restraint-preserved c = search tested_cases

pub returns : goal.returns
unfolding restraints_sound
returns c = search tested_cases
