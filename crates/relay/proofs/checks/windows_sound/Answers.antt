-- `windows_sound` meets its contract. The invariant of its loop: `ok` says whether the windows that were passed are sound.
use Rattle.lists.proofs.Tested.{tested_none, tested_more, tested_all}
use Rattle.relay.specs.Internal.{windows_sound}
use Rattle.relay.proofs.checks.windows_sound.Goals as goal

pub loop-channel-init : goal.loop-channel-init
loop-channel-init c = search tested_none

pub loop-channel-preserved : goal.loop-channel-preserved
loop-channel-preserved c = search tested_more

pub returns : goal.returns
unfolding windows_sound
returns c = search tested_all
