-- `states_sound` meets its contract. The invariant of its loop: runs and latches of the channels below c are sound.
use Rattle.lists.proofs.Tested.{passed_none, passed_more, passed_all, failed_at}
use Rattle.relay.specs.Internal.{states_sound}
use Rattle.relay.proofs.checks.states_sound.Goals as goal

pub loop-c-init : goal.loop-c-init
loop-c-init c = search passed_none

pub returns-then-not-state_sound : goal.returns-then-not-state_sound
unfolding states_sound
returns-then-not-state_sound c = search failed_at

pub loop-c-preserved : goal.loop-c-preserved
loop-c-preserved c = search passed_more

pub returns : goal.returns
unfolding states_sound
returns c = search passed_all
