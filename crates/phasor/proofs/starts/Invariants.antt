-- `phasor::starts` meets its contract: the lanes are filled one after the other.
use Rattle.phasor.specs.Lanes.{channel_window}
use Rattle.phasor.proofs.Lanes.{Starting}
use Rattle.phasor.proofs.starts.Given as goal

abbrev pub invariant-loop-c : goal.invariant-loop-c
invariant-loop-c g l = Starting g.row.ORDER (channel_window l.windows) g.row.COUNT g.row.LANES l.c l.sums
