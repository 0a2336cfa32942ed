-- `windows_after` meets its contract: each window has the frame's sample of its channel in the slot.
use Rattle.std.proofs.Common.{rules}
use Rattle.std.proofs.iter.Serving.{serving}
use Rattle.frames.proofs.Ranges.{codes_below}
use Rattle.lists.proofs.Made.{made_table}
use Rattle.relay.specs.Internal.{stored_at, windows_of}
use Rattle.relay.proofs.steps.windows_after.Goals as goal

pub returns : goal.returns
unfolding windows_of
returns c =
    made_table _ (stored_at c.args.slot c.args.codes c.args.channels) _ 6 (λ i y q l k. search rules) _ c.from_fn.ensures.items

pub from_fn-requires : goal.from_fn-requires
from_fn-requires c = grind (serving, codes_below)
