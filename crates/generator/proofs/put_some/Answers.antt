-- The loop keeps `SomePutting`; the cases are those of Making.
use Rattle.generator.proofs.Making.{some_begin, some_again}
use Rattle.generator.proofs.put_some.Goals as goal

pub loop-k-init : goal.loop-k-init
loop-k-init c = search some_begin

pub loop-k-preserved : goal.loop-k-preserved
loop-k-preserved c = search some_again
