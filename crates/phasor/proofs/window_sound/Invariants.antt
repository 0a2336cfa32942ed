-- `phasor::window_sound` meets its contract. The loop's invariant: the test of the slots passed.
use Rattle.lists.proofs.Tested.{Tested}
use Rattle.frames.specs.Codes.{sample_sound}
use Rattle.phasor.specs.Window.{sample_at}
use Rattle.phasor.proofs.window_sound.Given as goal

abbrev pub invariant-loop-sample : goal.invariant-loop-sample
invariant-loop-sample l = Tested 8 (λ j. sample_sound (sample_at l.fn.w j)) l.ok l.sample-index
