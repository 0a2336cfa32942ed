-- `phasor::amplitudes` meets its contract: no amplitude is above the bound, by the accuracy theorem.
use Rattle.phasor.proofs.Lanes.{never_above}
use Rattle.phasor.proofs.amplitudes.Goals as goal

pub returns-clause-range : goal.returns-clause-range
returns-clause-range c = never_above c.args.windows c.side_by_side.result c.requires c.side_by_side.ensures
