-- The first k of the eight squares are added; the cases are those of Windows.
use Rattle.cells.specs.Channel.{codes}
use Rattle.cells.proofs.Windows.{WindowRead}
use Rattle.cells.proofs.Channel.window_sum.Given as goal

abbrev pub invariant-loop-k : goal.invariant-loop-k
invariant-loop-k l = WindowRead (codes l.self) l.f l.sum l.k
