-- Six numbers are put behind the others.
use Rattle.lists.proofs.Pasted.{Pasted}
use Rattle.generator.proofs.put_next.Given as goal

abbrev pub invariant-loop-k : goal.invariant-loop-k
invariant-loop-k l = Pasted l.initial.latest 55 l.six l.latest l.k
