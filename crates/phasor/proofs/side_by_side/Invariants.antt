-- `phasor::side_by_side` meets its contract: the starts, the ends, and then the scaling of each.
use Rattle.phasor.specs.Lanes.{channel_window}
use Rattle.phasor.proofs.Lanes.{Scaling}
use Rattle.phasor.proofs.side_by_side.Given as goal

abbrev pub invariant-loop-c : goal.invariant-loop-c
invariant-loop-c g l = Scaling g.row.ORDER (channel_window l.fn.windows) g.row.COUNT l.c l.amplitudes
