-- A loop that copies 55 numbers to the front; each is read before its place is written.
use Rattle.generator.proofs.Copies.{Copied}
use Rattle.generator.proofs.with_room.Given as goal

abbrev pub invariant-loop-k : goal.invariant-loop-k
invariant-loop-k l = Copied l.initial.numbers l.from l.numbers l.k
