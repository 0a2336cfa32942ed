-- Each of the six codes is that of its number.
use Rattle.generator.specs.Internal.{code_of_six, codes_of_six}
use Rattle.generator.proofs.Copies.{table_of}
use Rattle.generator.proofs.codes_of.Goals as goal

pub returns : goal.returns
unfolding codes_of_six
returns c = table_of 6 (code_of_six c.args.six) c.map.result c.map.ensures.items.long (λ k h. (c.map.ensures.items.at k 0 0 h).2.met)
