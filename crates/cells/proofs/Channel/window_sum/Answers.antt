-- The first k of the eight squares are added; the cases are those of Windows.
use Rattle.cells.proofs.Windows.{window_cases}
use Rattle.cells.proofs.Channel.window_sum.Goals as goal

pub loop-k-init : goal.loop-k-init
loop-k-init c = search window_cases

pub loop-k-preserved : goal.loop-k-preserved
loop-k-preserved c = search window_cases

pub returns : goal.returns
returns c = search window_cases
