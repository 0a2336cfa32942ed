-- The step is that of Rolling, on the two squares that were read.
use Rattle.cells.specs.Rolling.{rolled_on}
use Rattle.cells.proofs.Channel.rolled.Goals as goal

pub returns : goal.returns
unfolding rolled_on
returns c = rw (c.square-entering.ensures.0, c.square-leaving.ensures.0)
