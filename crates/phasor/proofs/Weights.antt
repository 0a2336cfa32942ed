-- The slots of a sum of sample times weight: each sum over a sound window is small, so that one slot more fits in 32 bits, and one slot more is one
-- term more: the steps of the loop of `sums`, for any order. Rests on Samples.
use Prim.Native.Nat.{ℕ, zero, suc, ◌+◌, ◌*◌, ◌%◌, ◌<◌, ◌≤◌, ◌^◌}
use native.Mathlib.Nat.{mul-le-mul}
use native.Mathlib.Omega.{arith}
use native.Mathlib.Numerals.{add-one}
use mathlib.Core.Path.{◌≡◌, refl, ap, ◌∙◌, sym}
use mathlib.Core.Bool.{true}
use mathlib.Core.List.{List}
use lib.Dec.{lit≤}
use lib.ListN.{get_or}
use lib.IntN.{ℤ, pos, nat_abs, ◌*ℤ◌}
use lib.Signed.{mag}
use mir.Syntax.{w16}
use mir.Val.{of_z, to_z}
use Rattle.integers.proofs.Holds.{small_at}
use Rattle.integers.proofs.Size.{abs_add, abs_mul}
use Rattle.phasor.specs.declared.Point.{Point}
use Rattle.phasor.specs.Window.{sample_at, window_sound}
use Rattle.phasor.specs.Fourier.{cosines, sines, weight_at, sum_over, re, im}
use Rattle.phasor.specs.Internal.{sums_to, sums_of, with_slot, SlotFits}
use Rattle.phasor.proofs.Samples.{sample_at_lem, sound_size, back}

-- each weight is at most 2^14 in size
pub cosines_small : (i : ℕ) → nat_abs (get_or cosines i (pos 0)) ≤ 2 ^ 14
unfolding cosines
cosines_small = small_at (2 ^ 14) cosines tt

pub sines_small : (i : ℕ) → nat_abs (get_or sines i (pos 0)) ≤ 2 ^ 14
unfolding sines
sines_small = small_at (2 ^ 14) sines tt

-- a sum over k slots is at most k · 2^23 in size
module _ (t : List ℤ) (light : (i : ℕ) → nat_abs (get_or t i (pos 0)) ≤ 2 ^ 14) (p : ℕ) (w : List ℤ) (sound : window_sound w ≡ true) where
  sum_size : (k : ℕ) → k ≤ 8 → nat_abs (sum_over t p w k) ≤ k * 2 ^ 23
  unfolding sum_over
  sum_size zero l = lit≤ tt
  sum_size (suc k) l =
      let s : ℤ = sample_at w k in
      let v : ℤ = weight_at t p k in
      let term : nat_abs (s *ℤ v) ≤ 512 * 2 ^ 14 =
      rw (abs_mul s v) (mul-le-mul (sound_size s (sample_at_lem w sound k (omega arith))) (light (p * k % 8))) in
      omega (arith, sum_size k (omega arith), abs_add (sum_over t p w k) (s *ℤ v), term)

-- ---- the loop: after k turns the two sums are those over the slots before k

pub record Summing (p : ℕ) (w : List ℤ) (k : ℕ) (q : Point) : Type 0 where
  pub at_most : k ≤ 8
  pub is : q ≡ sums_to p w k

pub summing_begin : (p : ℕ) (w : List ℤ) → Summing p w 0 (record { x = pos 0; y = pos 0 })
unfolding sums_to sum_over
summing_begin p w = record { at_most = omega arith; is = refl }

module _ (p : ℕ) (w : List ℤ) (k : ℕ) (q : Point) where
  pub slot_fits : window_sound w ≡ true → p ≤ 3 → Summing p w k q → k < 8 → mag (sample_at w k) < 2 ^ 15
      → SlotFits q (to_z w16 (of_z w16 (sample_at w k))) k p
  unfolding sums_to
  slot_fits sound u inv l h =
      record {
        sample = rw (back (sample_at w k) h) (sound_size (sample_at w k) (sample_at_lem w sound k l));
        slot = l;
        order = u;
        x = rw inv.is (omega (arith, sum_size cosines cosines_small p w sound k inv.at_most));
        y = rw inv.is (omega (arith, sum_size sines sines_small p w sound k inv.at_most));
      }

  pub summing_again : (r : Point) → Summing p w k q → k < 8 → mag (sample_at w k) < 2 ^ 15
      → r ≡ with_slot q (to_z w16 (of_z w16 (sample_at w k))) k p → Summing p w (k + 1) r
  unfolding sums_to sum_over
  summing_again r inv l h e =
      record {
        at_most = omega arith;
        is = e ∙ ap (λ (s : ℤ). with_slot q s k p) (back (sample_at w k) h) ∙ ap (λ (u : Point). with_slot u (sample_at w k) k p) inv.is
            ∙ ap (sums_to p w) (sym (add-one k));
      }

pub summing_done : (p : ℕ) (w : List ℤ) (q : Point) → Summing p w 8 q → q ≡ sums_of p w
unfolding sums_to sums_of re im
summing_done p w q inv = inv.is
