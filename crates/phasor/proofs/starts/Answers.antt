-- `phasor::starts` meets its contract: the lanes are filled one after the other.
use native.Mathlib.Omega.{arith}
use Rattle.phasor.specs.Lanes.{channel_window}
use Rattle.phasor.proofs.Lanes.{starts_again}
use Rattle.phasor.proofs.starts.Goals as goal

pub loop-c-preserved : goal.loop-c-preserved
loop-c-preserved g c =
    let l = c.loop-c in
    starts_again g.row.ORDER c.requires.order.0 c.requires.order.1 (channel_window c.args.windows) g.row.COUNT g.row.LANES c.requires.lanes.0 l.c
    l.sums c.sums.result (c.requires.sound l.c (omega arith)) l.invariant (omega arith) c.sums.ensures
