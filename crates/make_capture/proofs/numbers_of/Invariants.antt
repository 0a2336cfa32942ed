-- A loop that fills 55 numbers, each from four bytes.
use Rattle.lists.proofs.Filled.{Filled}
use Rattle.make_capture.specs.Numbers.{number_at}
use Rattle.make_capture.proofs.numbers_of.Given as goal

abbrev pub invariant-loop-k : goal.invariant-loop-k
invariant-loop-k l = Filled 55 (number_at l.bytes) l.numbers l.k
