-- Six numbers are made, put behind, and their codes put into the cells: `next_put` of Making.
use Rattle.std.proofs.Common.{◌≡◌, length, arith}
use Rattle.lists.proofs.Pasted.{pasted_none, pasted_more}
use Rattle.generator.proofs.Making.{next_put}
use Rattle.generator.proofs.put_next.Goals as goal

pub loop-k-init : goal.loop-k-init
loop-k-init c =
    let six : length c.next_six-six.result ≡ 6 = search in
    pasted_none c.args.latest.now 55 c.next_six-six.result (omega arith)

pub loop-k-preserved : goal.loop-k-preserved
loop-k-preserved c =
    let six : length c.next_six-six.result ≡ 6 = search in
    let l = c.loop-k in
    pasted_more c.args.latest.now 55 c.next_six-six.result l.latest l.k l.invariant (omega arith)

pub returns : goal.returns
returns c = search next_put
