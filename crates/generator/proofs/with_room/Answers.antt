-- One number more at the front; the check finds the loop's beginning and its end alone.
use Rattle.generator.proofs.Copies.{copied_more}
use Rattle.generator.proofs.with_room.Goals as goal

pub loop-k-preserved : goal.loop-k-preserved
loop-k-preserved c =
    copied_more c.args.numbers.now c.args.from c.loop-k.numbers c.loop-k.k c.loop-k.invariant c.loop-k-test.true
