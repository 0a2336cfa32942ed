-- `phasor::Window::sums` meets its contract. The loop's invariant: the two sums are those over the slots passed.
use native.Mathlib.Omega.{arith}
use mathlib.Core.Path.{◌≡◌}
use Rattle.phasor.proofs.Weights.{summing_begin, slot_fits, summing_again, summing_done}
use Rattle.phasor.proofs.Window.sums.Goals as goal

pub loop-slot-init : goal.loop-slot-init
loop-slot-init g c = search summing_begin

pub with_slot-p-requires : goal.with_slot-p-requires
with_slot-p-requires g c = search slot_fits

pub loop-slot-preserved : goal.loop-slot-preserved
loop-slot-preserved g c = search summing_again

pub returns : goal.returns
returns g c = let b = c in let all : b.loop-slot.slot ≡ 8 = omega arith in summing_done _ _ _ (rw all at b.loop-slot.invariant)
