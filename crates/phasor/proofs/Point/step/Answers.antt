-- `phasor::Point::step` meets its contract, by each outcome of the test y >= 0.
use native.Mathlib.Omega.{arith}
use Rattle.std.proofs.lemmas.Grind.{common_steps}
use Rattle.phasor.specs.Cordic.{step_at}
use Rattle.phasor.proofs.Point.step.Goals as goal

pub returns-then-y-ge0 : goal.returns-then-y-ge0
unfolding step_at
returns-then-y-ge0 c = grind (arith, common_steps)

pub returns-else-y-ge0 : goal.returns-else-y-ge0
unfolding step_at
returns-else-y-ge0 c = grind (arith, common_steps)
