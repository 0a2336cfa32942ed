-- The count is not above the fields so far: those of the settings, then twelve of each channel.
use Rattle.std.proofs.Common.{◌≤◌, ◌+◌, ◌*◌}
use Rattle.strokes_check.proofs.show_fields.Given as goal

abbrev pub invariant-loop-c : goal.invariant-loop-c
invariant-loop-c g l = l.different ≤ 14 + 12 * l.c
