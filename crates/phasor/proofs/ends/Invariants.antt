-- `phasor::ends` meets its contract: each lane goes through CORDIC.
use Rattle.phasor.proofs.Lanes.{Ending}
use Rattle.phasor.proofs.ends.Given as goal

abbrev pub invariant-loop-c : goal.invariant-loop-c
invariant-loop-c g l = Ending g.row.LANES l.sums l.c l.ends
