-- `phasor::Point::cordic` meets its contract. The loop's invariant: after i turns the point is that of `steps i`, which stays in range.
use mathlib.Core.Path.{◌≡◌}
use native.Mathlib.Omega.{arith}
use Rattle.phasor.proofs.Magnitude.{ranged}
use Rattle.phasor.proofs.Point.cordic.Goals as goal

pub step-p-requires : goal.step-p-requires
step-p-requires c =
    let r = ranged c.args.self c.requires c.loop-i.i c.loop-i.invariant.0 in
    rw c.loop-i.invariant.1 (omega arith, omega (arith, r.x), omega (arith, r.y))

pub returns : goal.returns
returns c =
    let e : c.loop-i.i ≡ 16 = omega arith in
    rw e at c.loop-i.invariant.1
