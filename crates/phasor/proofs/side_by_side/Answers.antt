-- `phasor::side_by_side` meets its contract: the starts, the ends, and then the scaling of each.
use native.Mathlib.Omega.{arith}
use mathlib.Core.Path.{◌≡◌}
use Rattle.std.proofs.lemmas.Grind.{common_steps}
use Rattle.phasor.specs.Lanes.{channel_window}
use Rattle.phasor.proofs.Lanes.{end_fits, end_scaled, scaling_done}
use Rattle.phasor.proofs.side_by_side.Goals as goal

pub scaled-requires : goal.scaled-requires
scaled-requires g c =
    let s = c.starts in
    end_fits g.row.ORDER (channel_window c.args.windows) g.row.COUNT g.row.LANES c.requires.lanes.0 s.result c.ends-ends.result
    s.ensures c.ends-ends.ensures c.loop-c.c (omega arith)

pub loop-c-preserved : goal.loop-c-preserved
loop-c-preserved g c =
    let s = c.starts in
    let new = end_scaled g.row.ORDER (channel_window c.args.windows) g.row.COUNT g.row.LANES c.requires.lanes.0 s.result c.ends-ends.result
    s.ensures c.ends-ends.ensures c.loop-c.c c.scaled.result (omega arith) c.scaled.ensures in
    grind (arith, common_steps, new)

pub returns : goal.returns
returns g c =
    let all : c.loop-c.c ≡ g.row.COUNT = omega arith in
    scaling_done g.row.ORDER (channel_window c.args.windows) g.row.COUNT c.loop-c.amplitudes (rw all at c.loop-c.invariant)
