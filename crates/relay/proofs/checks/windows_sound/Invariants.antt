-- `windows_sound` meets its contract. The invariant of its loop: `ok` says whether the windows that were passed are sound.
use Rattle.lists.proofs.Tested.{Tested}
use Rattle.relay.specs.Internal.{window_sound_at}
use Rattle.relay.proofs.checks.windows_sound.Given as goal

abbrev pub invariant-loop-channel : goal.invariant-loop-channel
invariant-loop-channel l = Tested 6 (window_sound_at l.channels) l.ok l.channel-index
