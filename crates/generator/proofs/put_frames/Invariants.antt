-- The loop keeps `Going`; the cases are those of Making.
use Rattle.std.proofs.Common.{◌*◌}
use Rattle.generator.proofs.Making.{Going}
use Rattle.generator.proofs.put_frames.Given as goal

abbrev pub invariant-loop-k : goal.invariant-loop-k
invariant-loop-k l = Going l.initial.numbers l.initial.cells l.n l.numbers l.cells l.from (4 * l.k)
