-- `phasor::Point::cordic` meets its contract. The loop's invariant: after i turns the point is that of `steps i`, which stays in range.
use Prim.Native.Nat.{◌≤◌}
use mathlib.Core.Path.{◌≡◌}
use Rattle.phasor.specs.Cordic.{steps}
use Rattle.phasor.proofs.Point.cordic.Given as goal

abbrev pub invariant-loop-i : goal.invariant-loop-i
invariant-loop-i l = (l.i ≤ 16) × (l.p ≡ steps l.i l.fn.self)
