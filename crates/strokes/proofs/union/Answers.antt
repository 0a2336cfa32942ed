-- `union` meets its contract: `a | b` of two bytes is their union by bits.
use mathlib.Core.Path.{sym}
use borrow.Author.Rules.{rules}
use Rattle.strokes.proofs.Bits.{union_is}
use Rattle.strokes.proofs.union.Goals as goal

pub returns : goal.returns
returns c = sym (union_is c.args.a c.args.b (search rules) (search rules))
