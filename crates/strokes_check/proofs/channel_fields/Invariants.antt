-- The count is not above the samples so far.
use Rattle.std.proofs.Common.{◌≤◌}
use Rattle.strokes_check.proofs.channel_fields.Given as goal

abbrev pub invariant-loop-k : goal.invariant-loop-k
invariant-loop-k l = l.different ≤ l.k-counter
