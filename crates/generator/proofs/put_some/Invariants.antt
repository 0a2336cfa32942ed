-- The loop keeps `SomePutting`; the cases are those of Making.
use Rattle.generator.proofs.Making.{SomePutting}
use Rattle.generator.proofs.put_some.Given as goal

abbrev pub invariant-loop-k : goal.invariant-loop-k
invariant-loop-k l = SomePutting l.initial.latest 0 l.initial.cells 0 l.m l.latest l.cells l.k
