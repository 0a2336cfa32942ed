-- The place of an excerpt that lies within the cells; the check finds the other cases alone.
use Rattle.cells.proofs.Excerpts.{place_part}
use Rattle.cells.proofs.place.Goals as goal

pub returns : goal.returns
returns c = place_part c.args.cells.now c.args.f c.args.n c.if-cells-ne0.false c.if-frames-f.false c.if-frames-f-2.false
