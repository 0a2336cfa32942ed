-- The cell of frame f lies within the cells, and its square is that of the code; the cases are those of Windows.
use Rattle.cells.proofs.Windows.{square_here}
use Rattle.cells.proofs.Channel.square.Goals as goal

pub returns : goal.returns
returns c = search square_here
