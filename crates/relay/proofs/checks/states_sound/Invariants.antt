-- `states_sound` meets its contract. The invariant of its loop: runs and latches of the channels below c are sound.
use Rattle.lists.proofs.Tested.{Passed}
use Rattle.relay.specs.Internal.{state_sound_at}
use Rattle.relay.proofs.checks.states_sound.Given as goal

abbrev pub invariant-loop-c : goal.invariant-loop-c
invariant-loop-c l = Passed 6 (state_sound_at l.lengths l.channels) l.c
