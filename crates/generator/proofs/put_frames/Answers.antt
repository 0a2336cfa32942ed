-- The loop keeps `Going`; the cases are those of Making.
use Rattle.generator.proofs.Making.{going_begin, going_step, going_end}
use Rattle.generator.proofs.put_frames.Goals as goal

pub loop-k-init : goal.loop-k-init
loop-k-init c = search going_begin

pub loop-k-preserved : goal.loop-k-preserved
loop-k-preserved c = search going_step

pub returns : goal.returns
returns c = search going_end
