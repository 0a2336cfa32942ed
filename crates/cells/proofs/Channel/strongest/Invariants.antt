-- The sum is carried along, and the strongest window so far is kept; the cases are those of Windows.
use Rattle.cells.specs.Channel.{codes}
use Rattle.cells.proofs.Windows.{StrongestRead}
use Rattle.cells.proofs.Channel.strongest.Given as goal

abbrev pub invariant-loop-f : goal.invariant-loop-f
invariant-loop-f l = StrongestRead (codes l.self) l.sum l.best l.f
