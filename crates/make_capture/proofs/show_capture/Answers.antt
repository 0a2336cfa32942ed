-- What was written is a part of the buffer, whatever the refusal. Rests on the outcome of `write`.
use Prim.Native.Nat.{ℕ, ◌≤◌}
use mathlib.Core.Path.{◌≡◌, sym}
use mathlib.Core.Bool.{Bool, true, false, cond}
use mathlib.Core.List.{List, ◌++◌}
use lib.ListN.{length, take, drop, length-append}
use lib.Dec.{eqb}
use lib.Seq.{length-take-le}
use native.Mathlib.Omega.{arith}
use Rattle.refusals.specs.Refusals.{first_fault, accepted}
use Rattle.refusals.specs.Outcomes.{Answered}
use Rattle.writer.specs.Writing.{capture_of, write_checks, write_of}
use Rattle.make_capture.proofs.show_capture.Goals as goal

count_within : (t : Bool) (items buffer : List ℕ) → cond t (length items) 0 ≤ length (cond t (items ++ drop (length items) buffer) buffer)
count_within true items buffer = omega (arith, length-append items (drop (length items) buffer))
count_within false items buffer = omega arith

written_within : (cells bytes new : List ℕ) (r m : ℕ) → Answered (write_of cells bytes) r m new → m ≤ length new
unfolding write_of
written_within cells bytes new r m a =
    rw (a.count_is, a.buffer_is) (count_within (eqb (first_fault (write_checks cells bytes)) accepted) (capture_of cells) bytes)

written_part : (cells bytes new : List ℕ) (r m : ℕ) → Answered (write_of cells bytes) r m new → m ≡ length (take m new)
written_part cells bytes new r m a = sym (length-take-le m new (written_within cells bytes new r m a))

pub slice_bounds-bytes-end : goal.slice_bounds-bytes-end
slice_bounds-bytes-end g c = written_within _ _ _ _ _ c.in-Ok.ensures

pub slice_bounds-write_all-end : goal.slice_bounds-write_all-end
slice_bounds-write_all-end g c = written_part _ _ _ _ _ c.in-Ok.ensures
