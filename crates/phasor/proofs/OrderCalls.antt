-- Calls of the definitions by order of harmonic, computed (document 02, Paper 8): the weights and amplitudes of orders 2 and 3, their exact
-- amplitudes, the estimate with its refusal, and the second harmonic of the currents. The numbers were worked out from the papers' words, apart
-- from the definitions. Rests on the definitions, and takes windows from Calls and Figures.
use Prim.Native.Nat.{ℕ}
use mathlib.Core.Path.{◌≡◌, refl}
use mathlib.Core.List.{List, [], ◌∷◌, ◌++◌, map}
use lib.ListN.{replicate, set}
use lib.IntN.{ℤ, pos, neg_ℤ}
use lib.Signed.{le_z_yes, lt_z_yes}
use Rattle.std.specs.Prelude.{Ok, Err}
use Rattle.refusals.specs.declared.Refusal.TheVariants.{BadEstimate}
use Rattle.phasor.specs.declared.Window.{Window}
use Rattle.phasor.specs.declared.EstimateAnswer.{EstimateAnswer}
use Rattle.lists.specs.Each.{table}
use Rattle.phasor.specs.Fourier.{re, im}
use Rattle.phasor.specs.Cordic.{start_of, last_x, amplitude_of, most_amplitude}
use Rattle.phasor.specs.Exact.{both, larger_r, larger_q, turned, even, odd, exact_p, exact_q, AtLeast, AtMost, Below, Within}
use Rattle.phasor.specs.Estimate.{estimate_of, estimate_answer_of}
use Rattle.phasor.specs.Lanes.{current_window, amplitudes_of, seconds_of}
use Rattle.phasor.proofs.Computed.{computed}
use Rattle.phasor.proofs.Figures.{zeros, in_slot0}
use Rattle.phasor.proofs.Calls.{only, uneven, negative, largest, point, fails}

-- eight samples of which no two are equal; with a weight one slot on, each of the amplitudes of orders 2 and 3 is another
abbrev pub apart : List ℤ
apart = neg_ℤ (pos 264) ∷ pos 441 ∷ pos 434 ∷ pos 29 ∷ pos 44 ∷ neg_ℤ (pos 434) ∷ pos 139 ∷ neg_ℤ (pos 85) ∷ []

-- a window of the largest second harmonic, m = 11,573: found by trying all sums, not proved
abbrev pub largest_second : List ℤ
largest_second = pos 511 ∷ pos 511 ∷ neg_ℤ (pos 512) ∷ neg_ℤ (pos 512) ∷ pos 511 ∷ pos 511 ∷ neg_ℤ (pos 512) ∷ neg_ℤ (pos 512) ∷ []

-- m is 100 and the second harmonic's 37: 100 · 37 is 37 · 100, and a restraint level of 37 just restrains
abbrev pub equal_harmonic : List ℤ
equal_harmonic = pos 4 ∷ pos 18 ∷ neg_ℤ (pos 10) ∷ pos 12 ∷ neg_ℤ (pos 3) ∷ neg_ℤ (pos 14) ∷ pos 8 ∷ pos 1 ∷ []

-- m is 173 and the second harmonic's 64: 100 · 64 is one less than 37 · 173
abbrev pub below_harmonic : List ℤ
below_harmonic = neg_ℤ (pos 7) ∷ neg_ℤ (pos 14) ∷ neg_ℤ (pos 1) ∷ pos 10 ∷ pos 9 ∷ pos 13 ∷ pos 3 ∷ pos 5 ∷ []

abbrev orders : List ℕ
orders = 1 ∷ 2 ∷ 3 ∷ []

-- ---- weights and amplitudes

pub record OrderCalls : Type 0 where
  -- "weights at slot p times k mod 8 of the tables": each alone, and all together
  pub re_units_2 : table 8 (λ k. re 2 (only k (pos 1)))
      ≡ pos 16384 ∷ pos 0 ∷ neg_ℤ (pos 16384) ∷ pos 0 ∷ pos 16384 ∷ pos 0 ∷ neg_ℤ (pos 16384) ∷ pos 0 ∷ []
  pub im_units_2 : table 8 (λ k. im 2 (only k (pos 1)))
      ≡ pos 0 ∷ pos 16384 ∷ pos 0 ∷ neg_ℤ (pos 16384) ∷ pos 0 ∷ pos 16384 ∷ pos 0 ∷ neg_ℤ (pos 16384) ∷ []
  pub re_units_3 : table 8 (λ k. re 3 (only k (pos 1)))
      ≡ pos 16384 ∷ neg_ℤ (pos 11585) ∷ pos 0 ∷ pos 11585 ∷ neg_ℤ (pos 16384) ∷ pos 11585 ∷ pos 0 ∷ neg_ℤ (pos 11585) ∷ []
  pub im_units_3 : table 8 (λ k. im 3 (only k (pos 1)))
      ≡ pos 0 ∷ pos 11585 ∷ neg_ℤ (pos 16384) ∷ pos 11585 ∷ pos 0 ∷ neg_ℤ (pos 11585) ∷ pos 16384 ∷ neg_ℤ (pos 11585) ∷ []
  pub re_uneven : map (λ p. re p uneven) orders ≡ pos 12249352 ∷ neg_ℤ (pos 3588096) ∷ pos 17995512 ∷ []
  pub im_uneven : map (λ p. im p uneven) orders ≡ neg_ℤ (pos 5116736) ∷ neg_ℤ (pos 7864320) ∷ neg_ℤ (pos 14160704) ∷ []
  pub re_negative : map (λ p. re p negative) orders ≡ neg_ℤ (pos 15259152) ∷ pos 1196032 ∷ neg_ℤ (pos 3025392) ∷ []
  pub im_negative : map (λ p. im p negative) orders ≡ neg_ℤ (pos 21170848) ∷ neg_ℤ (pos 2129920) ∷ pos 5600608 ∷ []
  -- eight slots, and no sample past them
  pub re_longer : map (λ p. re p (uneven ++ negative)) orders ≡ pos 12249352 ∷ neg_ℤ (pos 3588096) ∷ pos 17995512 ∷ []
  pub im_longer : map (λ p. im p (uneven ++ negative)) orders ≡ neg_ℤ (pos 5116736) ∷ neg_ℤ (pos 7864320) ∷ neg_ℤ (pos 14160704) ∷ []
  -- CORDIC starts from the order's own sums, each in its place
  pub start_2 : start_of 2 uneven ≡ point (pos 3588096) (pos 7864320)
  pub start_3 : start_of 3 uneven ≡ point (pos 17995512) (pos 14160704)
  -- x as it ends, and m: weights of another slot, or none past slot 7, would show
  pub x_uneven : map (λ p. last_x p uneven) orders ≡ map pos (21860871 ∷ 14234904 ∷ 37709153 ∷ [])
  pub x_negative : map (λ p. last_x p negative) orders ≡ map pos (42975287 ∷ 4022631 ∷ 10482481 ∷ [])
  pub x_apart : map (λ p. last_x p apart) orders ≡ map pos (27536074 ∷ 21462968 ∷ 25300632 ∷ [])
  pub m_uneven : map (λ p. amplitude_of p uneven) orders ≡ 3240 ∷ 2110 ∷ 5590 ∷ []
  pub m_negative : map (λ p. amplitude_of p negative) orders ≡ 6371 ∷ 596 ∷ 1554 ∷ []
  pub m_apart : map (λ p. amplitude_of p apart) orders ≡ 4082 ∷ 3182 ∷ 3750 ∷ []
  -- a sample in slot 0 alone is as large in every order; "For p = 2 the largest amplitude is below 11,600"
  pub m_slot0 : map (λ p. amplitude_of p in_slot0) orders ≡ 400 ∷ 400 ∷ 400 ∷ []
  pub m_largest_2 : map (λ p. amplitude_of p largest_second) orders ≡ 0 ∷ 11573 ∷ 0 ∷ []
  pub m_largest_3 : map (λ p. amplitude_of p (turned largest)) orders ≡ 4429 ∷ 0 ∷ 10692 ∷ []
  pub most : map most_amplitude orders ≡ 10700 ∷ 11599 ∷ 10700 ∷ []
  -- the pairs next to a restraint level of 37
  pub m_equal : map (λ p. amplitude_of p equal_harmonic) orders ≡ 100 ∷ 37 ∷ 196 ∷ []
  pub m_below : map (λ p. amplitude_of p below_harmonic) orders ≡ 173 ∷ 64 ∷ 53 ∷ []

pub order_calls : OrderCalls
unfolding computed
order_calls =
    record {
      re_units_2 = refl;
      im_units_2 = refl;
      re_units_3 = refl;
      im_units_3 = refl;
      re_uneven = refl;
      im_uneven = refl;
      re_negative = refl;
      im_negative = refl;
      re_longer = refl;
      im_longer = refl;
      start_2 = refl;
      start_3 = refl;
      x_uneven = refl;
      x_negative = refl;
      x_apart = refl;
      m_uneven = refl;
      m_negative = refl;
      m_apart = refl;
      m_slot0 = refl;
      m_largest_2 = refl;
      m_largest_3 = refl;
      most = refl;
      m_equal = refl;
      m_below = refl;
    }

-- ---- the exact amplitude

pub record ExactOrderCalls : Type 0 where
  -- "sample k replaced by sample 3k mod 8"
  pub turned_is : turned apart ≡ neg_ℤ (pos 264) ∷ pos 29 ∷ pos 139 ∷ pos 441 ∷ pos 44 ∷ neg_ℤ (pos 85) ∷ pos 434 ∷ neg_ℤ (pos 434) ∷ []
  pub parts_uneven : even uneven ∷ odd uneven ∷ [] ≡ neg_ℤ (pos 219) ∷ neg_ℤ (pos 480) ∷ []
  pub parts_apart : even apart ∷ odd apart ∷ [] ≡ neg_ℤ (pos 793) ∷ pos 63 ∷ []
  -- P and Q by order; that P is alike in orders 1 and 3, and Q of the other sign, is so in every window
  pub p_uneven : map (λ p. exact_p p uneven) orders ≡ map pos (20879504 ∷ 4453776 ∷ 20879504 ∷ [])
  pub q_uneven : map (λ p. exact_q p uneven) orders ≡ neg_ℤ (pos 7336576) ∷ pos 0 ∷ pos 7336576 ∷ []
  pub p_apart : map (λ p. exact_p p apart) orders ≡ map pos (15368160 ∷ 10125088 ∷ 15368160 ∷ [])
  pub q_apart : map (λ p. exact_q p apart) orders ≡ pos 917872 ∷ pos 0 ∷ neg_ℤ (pos 917872) ∷ []
  -- order 2, Z = 2110.4: next to it on both sides
  pub least_2110 : AtLeast 2 uneven (pos 2110)
  pub below_2111 : Below 2 uneven (pos 2111)
  pub most_2111 : AtMost 2 uneven (pos 2111)
  pub not_most_2110 : ¬ AtMost 2 uneven (pos 2110)
  -- order 2, Z = 64: at equality, and "Within 2" at its ends
  pub least_64 : AtLeast 2 below_harmonic (pos 64)
  pub below_65 : Below 2 below_harmonic (pos 65)
  pub most_64 : AtMost 2 below_harmonic (pos 64)
  pub not_most_63 : ¬ AtMost 2 below_harmonic (pos 63)
  pub within_62 : Within 2 below_harmonic 62
  pub within_66 : Within 2 below_harmonic 66
  pub not_within_61 : ¬ Within 2 below_harmonic 61
  pub not_within_67 : ¬ Within 2 below_harmonic 67
  -- order 3, Z = 5590.6 with Q > 0, and Z = 1554.03 with Q < 0
  pub least_5590 : AtLeast 3 uneven (pos 5590)
  pub below_5591 : Below 3 uneven (pos 5591)
  pub most_5591 : AtMost 3 uneven (pos 5591)
  pub not_most_5590 : ¬ AtMost 3 uneven (pos 5590)
  pub within_5589 : Within 3 uneven 5589
  pub within_5592 : Within 3 uneven 5592
  pub not_within_5588 : ¬ Within 3 uneven 5588
  pub not_within_5593 : ¬ Within 3 uneven 5593
  pub least_1554 : AtLeast 3 negative (pos 1554)
  pub below_1555 : Below 3 negative (pos 1555)
  pub most_1555 : AtMost 3 negative (pos 1555)
  pub not_most_1554 : ¬ AtMost 3 negative (pos 1554)

pub exact_orders : ExactOrderCalls
unfolding computed
exact_orders =
    record {
      turned_is = refl;
      parts_uneven = refl;
      parts_apart = refl;
      p_uneven = refl;
      q_uneven = refl;
      p_apart = refl;
      q_apart = refl;
      least_2110 = both (le_z_yes tt) (le_z_yes tt);
      below_2111 = fails (λ h k. h) (λ h k l. h) (λ h k l. k);
      most_2111 = both (le_z_yes tt) (le_z_yes tt);
      not_most_2110 = fails (λ h k. h) (λ h k l. h) (λ h k l. k);
      least_64 = both (le_z_yes tt) (le_z_yes tt);
      below_65 = fails (λ h k. h) (λ h k l. h) (λ h k l. k);
      most_64 = both (le_z_yes tt) (le_z_yes tt);
      not_most_63 = fails (λ h k. h) (λ h k l. h) (λ h k l. k);
      within_62 = record { low = both (le_z_yes tt) (le_z_yes tt); high = both (le_z_yes tt) (le_z_yes tt) };
      within_66 = record { low = both (le_z_yes tt) (le_z_yes tt); high = both (le_z_yes tt) (le_z_yes tt) };
      not_within_61 = λ w. fails (λ h k. h) (λ h k l. h) (λ h k l. k) w.high;
      not_within_67 = λ w. fails (λ h k. h) (λ h k l. h) (λ h k l. k) w.low;
      least_5590 = larger_q (lt_z_yes tt) (lt_z_yes tt) (le_z_yes tt);
      below_5591 = fails (λ h k. h) (λ h k l. h) (λ h k l. l);
      most_5591 = larger_r (le_z_yes tt) (lt_z_yes tt) (le_z_yes tt);
      not_most_5590 = fails (λ h k. k) (λ h k l. l) (λ h k l. h);
      within_5589 =
          record {
            low = larger_q (lt_z_yes tt) (lt_z_yes tt) (le_z_yes tt);
            high = larger_r (le_z_yes tt) (lt_z_yes tt) (le_z_yes tt);
          };
      within_5592 =
          record {
            low = larger_q (lt_z_yes tt) (lt_z_yes tt) (le_z_yes tt);
            high = larger_r (le_z_yes tt) (lt_z_yes tt) (le_z_yes tt);
          };
      not_within_5588 = λ w. fails (λ h k. k) (λ h k l. l) (λ h k l. h) w.high;
      not_within_5593 = λ w. fails (λ h k. h) (λ h k l. h) (λ h k l. l) w.low;
      least_1554 = larger_r (le_z_yes tt) (lt_z_yes tt) (le_z_yes tt);
      below_1555 = fails (λ h k. k) (λ h k l. l) (λ h k l. h);
      most_1555 = larger_q (lt_z_yes tt) (lt_z_yes tt) (le_z_yes tt);
      not_most_1554 = fails (λ h k. h) (λ h k l. h) (λ h k l. l);
    }

-- ---- the estimate

abbrev answer : ℕ → ℕ → EstimateAnswer
answer refusal m = record { refusal = refusal; amplitude = m }

-- the estimates of eight windows: `uneven` with this sample in each slot in turn
abbrev in_each_slot : ℕ → ℤ → List EstimateAnswer
in_each_slot p s = table 8 (λ k. estimate_of (set uneven k s) p)

pub record EstimateCalls : Type 0 where
  -- "19 for an order outside 1 to 3": each of the 256 orders, and the amplitude is the order's own or 0
  pub every_order : table 256 (estimate_of uneven) ≡ answer 19 0 ∷ answer 0 3240 ∷ answer 0 2110 ∷ answer 0 5590 ∷ replicate 252 (answer 19 0)
  -- "or a window sample outside −512 to 511, amplitude 0": both limits in each slot, for each order
  pub most_1 : in_each_slot 1 (pos 511) ≡ map (answer 0) (3609 ∷ 5409 ∷ 2990 ∷ 1706 ∷ 1662 ∷ 3000 ∷ 4684 ∷ 3848 ∷ [])
  pub most_2 : in_each_slot 2 (pos 511) ≡ map (answer 0) (1979 ∷ 1610 ∷ 2866 ∷ 3837 ∷ 3742 ∷ 1191 ∷ 3759 ∷ 2713 ∷ [])
  pub most_3 : in_each_slot 3 (pos 511) ≡ map (answer 0) (5906 ∷ 2373 ∷ 6440 ∷ 6079 ∷ 3470 ∷ 6696 ∷ 4529 ∷ 5551 ∷ [])
  pub least_1 : in_each_slot 1 (neg_ℤ (pos 512)) ≡ map (answer 0) (1434 ∷ 3026 ∷ 5066 ∷ 5415 ∷ 3244 ∷ 5169 ∷ 3029 ∷ 1309 ∷ [])
  pub least_2 : in_each_slot 2 (neg_ℤ (pos 512)) ≡ map (answer 0) (4958 ∷ 2876 ∷ 2746 ∷ 945 ∷ 2112 ∷ 4977 ∷ 2103 ∷ 1757 ∷ [])
  pub least_3 : in_each_slot 3 (neg_ℤ (pos 512)) ≡ map (answer 0) (3526 ∷ 6405 ∷ 4436 ∷ 5781 ∷ 5593 ∷ 2655 ∷ 6802 ∷ 6904 ∷ [])
  pub above : map (λ p. in_each_slot p (pos 512)) orders ≡ replicate 3 (replicate 8 (answer 19 0))
  pub below : map (λ p. in_each_slot p (neg_ℤ (pos 513))) orders ≡ replicate 3 (replicate 8 (answer 19 0))
  -- far outside; every sample at a limit, and every one past it
  pub far : map (λ s. estimate_of (only 3 s) 2) (pos 32767 ∷ neg_ℤ (pos 32768) ∷ []) ≡ replicate 2 (answer 19 0)
  pub limits : map (λ s. estimate_of (replicate 8 s) 2) (pos 511 ∷ pos 512 ∷ neg_ℤ (pos 512) ∷ neg_ℤ (pos 513) ∷ [])
      ≡ answer 0 0 ∷ answer 19 0 ∷ answer 0 0 ∷ answer 19 0 ∷ []
  -- no amplitude at all is accepted, and the second harmonic may exceed 10,700
  pub quiet : map (estimate_of zeros) orders ≡ replicate 3 (answer 0 0)
  pub loud : map (estimate_of largest_second) orders ≡ map (answer 0) (0 ∷ 11573 ∷ 0 ∷ [])
  -- an order and a sample out of range: 19 too
  pub both_wrong : map (λ p. in_each_slot p (pos 512)) (0 ∷ 4 ∷ 255 ∷ []) ≡ replicate 3 (replicate 8 (answer 19 0))

pub estimates : EstimateCalls
unfolding computed
estimates =
    record {
      every_order = refl;
      most_1 = refl;
      most_2 = refl;
      most_3 = refl;
      least_1 = refl;
      least_2 = refl;
      least_3 = refl;
      above = refl;
      below = refl;
      far = refl;
      limits = refl;
      quiet = refl;
      loud = refl;
      both_wrong = refl;
    }

-- ---- what C is answered

pub record AnswerCalls : Type 0 where
  -- the amplitude, and of a refusal its number and no amplitude
  pub taken : map (λ m. estimate_answer_of (Ok m)) (0 ∷ 3240 ∷ 11573 ∷ []) ≡ map (answer 0) (0 ∷ 3240 ∷ 11573 ∷ [])
  pub refused : estimate_answer_of (Err BadEstimate) ≡ answer 19 0

pub answer_calls : AnswerCalls
answer_calls = record { taken = refl; refused = refl }

-- ---- the currents' second harmonic

-- six windows of different amplitudes and second harmonics
abbrev pub six_windows : List Window
six_windows = map (λ w. record { samples = w }) (equal_harmonic ∷ uneven ∷ largest ∷ below_harmonic ∷ negative ∷ apart ∷ [])

pub record SecondCalls : Type 0 where
  -- "Channels 3, 4, 5 are currents": their own windows, and not the voltages', whose second harmonics are 37, 2110 and 0
  pub currents : table 3 (current_window six_windows) ≡ below_harmonic ∷ negative ∷ apart ∷ []
  pub seconds : seconds_of six_windows ≡ 64 ∷ 596 ∷ 3182 ∷ []
  pub loud_seconds : seconds_of (replicate 6 (record { samples = largest_second })) ≡ replicate 3 11573
  pub firsts : amplitudes_of six_windows ≡ 100 ∷ 3240 ∷ 10692 ∷ 173 ∷ 6371 ∷ 4082 ∷ []

pub second_calls : SecondCalls
unfolding computed
second_calls = record { currents = refl; seconds = refl; loud_seconds = refl; firsts = refl }
