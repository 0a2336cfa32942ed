-- The count is not above the levels so far: six drops, then two of each current.
use Rattle.std.proofs.Common.{◌≤◌, ◌+◌, ◌*◌}
use Rattle.strokes_check.proofs.settings_fields.Given as goal

abbrev pub invariant-loop-c : goal.invariant-loop-c
invariant-loop-c l = l.different ≤ l.c-counter

abbrev pub invariant-loop-c-2 : goal.invariant-loop-c-2
invariant-loop-c-2 l = l.different ≤ 6 + 2 * l.c-counter
