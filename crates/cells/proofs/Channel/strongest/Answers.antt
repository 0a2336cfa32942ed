-- The sum is carried along, and the strongest window so far is kept; the cases are those of Windows.
use Rattle.cells.proofs.Windows.{strongest_loop}
use Rattle.cells.proofs.Channel.strongest.Goals as goal

pub loop-f-init : goal.loop-f-init
loop-f-init c = search strongest_loop

pub rolled-sum-requires-clause-sum_fits : goal.rolled-sum-requires-clause-sum_fits
rolled-sum-requires-clause-sum_fits c = search strongest_loop

pub loop-f-preserved : goal.loop-f-preserved
loop-f-preserved c = search strongest_loop
