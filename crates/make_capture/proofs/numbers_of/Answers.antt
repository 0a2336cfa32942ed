-- A loop that fills 55 numbers, each from four bytes.
use Rattle.lists.proofs.Filled.{filled_none, filled_more, filled_all}
use Rattle.make_capture.specs.Numbers.{numbers_of}
use Rattle.make_capture.proofs.numbers_of.Goals as goal

pub loop-k-init : goal.loop-k-init
loop-k-init c = search filled_none

pub loop-k-preserved : goal.loop-k-preserved
loop-k-preserved c = search filled_more

pub returns : goal.returns
unfolding numbers_of
returns c = search filled_all
