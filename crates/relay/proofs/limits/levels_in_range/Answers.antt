-- `levels_in_range` meets its contract: a loop that tests one level a turn.
use Rattle.lists.proofs.Tested.{tested_cases}
use Rattle.relay.proofs.limits.levels_in_range.Goals as goal

pub loop-level-init : goal.loop-level-init
loop-level-init c = search tested_cases

pub loop-level-preserved : goal.loop-level-preserved
loop-level-preserved c = search tested_cases
