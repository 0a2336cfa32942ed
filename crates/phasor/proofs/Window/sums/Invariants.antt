-- `phasor::Window::sums` meets its contract. The loop's invariant: the two sums are those over the slots passed.
use Rattle.phasor.proofs.Weights.{Summing}
use Rattle.phasor.proofs.Window.sums.Given as goal

abbrev pub invariant-loop-slot : goal.invariant-loop-slot
invariant-loop-slot g l = Summing g.row.ORDER l.self.samples l.slot l.p
