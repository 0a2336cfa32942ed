-- Calls of the definitions, computed: each rule of specs/ at the places where a slip would show, beside the starred figures (Figures).
-- A definition and its code that are changed alike are judged by them. Harmonics and the estimate are in OrderCalls. Rests on the definitions, and
-- takes windows from Figures.
use Prim.Native.Nat.{ℕ}
use mathlib.Core.Path.{◌≡◌, refl, sym, subst}
use mathlib.Core.Bool.{true, false}
use mathlib.Core.List.{List, [], ◌∷◌, ◌++◌, map}
use native.Mathlib.Omega.{arith}
use borrow.Author.Tests.{leb-true}
use lib.Dec.{T, leb, lit<}
use lib.ListN.{get_or, replicate, set}
use lib.IntN.{ℤ, pos, neg_ℤ, ◌*ℤ◌}
use lib.Signed.{le_z, lt_z, le_z_yes, lt_z_yes}
use Rattle.phasor.specs.declared.Point.{Point}
use Rattle.phasor.specs.declared.Window.{Window}
use Rattle.lists.specs.Each.{every, table}
use Rattle.frames.specs.Codes.{sample_of}
use Rattle.phasor.specs.Window.{sample_at, window_sound}
use Rattle.phasor.specs.Fourier.{re, im}
use Rattle.phasor.specs.Cordic.{step_at, steps, start_of, last_x, scaled_of, amplitude_of}
use Rattle.phasor.specs.Exact.{A, B, C, D, P, Q, Rule, both, larger_r, larger_q, AtLeast, AtMost, Below, Within}
use Rattle.phasor.specs.Lanes.{channel_window, WindowsSound, NeverAbove}
use Rattle.lists.proofs.Each.{every_at}
use Rattle.phasor.proofs.Computed.{computed}
use Rattle.phasor.proofs.Figures.{zeros, in_slot0}

-- a window of zeros but for slot k
abbrev pub only : ℕ → ℤ → List ℤ
only k s = set zeros k s

-- two windows in which each slot counts, and each digit of each weight: Re > 0, Im < 0 and |Re| > |Im|; Re < 0, Im < 0 and |Re| < |Im|
abbrev pub uneven : List ℤ
uneven = pos 412 ∷ neg_ℤ (pos 307) ∷ pos 198 ∷ pos 57 ∷ neg_ℤ (pos 511) ∷ pos 233 ∷ neg_ℤ (pos 78) ∷ pos 349 ∷ []

abbrev pub negative : List ℤ
negative = neg_ℤ (pos 301) ∷ neg_ℤ (pos 389) ∷ neg_ℤ (pos 467) ∷ neg_ℤ (pos 60) ∷ pos 257 ∷ pos 211 ∷ pos 350 ∷ pos 12 ∷ []

-- a window of the largest amplitude
abbrev pub largest : List ℤ
largest = pos 511 ∷ pos 511 ∷ pos 511 ∷ neg_ℤ (pos 512) ∷ neg_ℤ (pos 512) ∷ neg_ℤ (pos 512) ∷ neg_ℤ (pos 512) ∷ pos 511 ∷ []

abbrev pub point : ℤ → ℤ → Point
point x y = record { x = x; y = y }

-- ---- from codes to amplitude

pub record AmplitudeCalls : Type 0 where
  pub samples : map (λ code. sample_of code) (0 ∷ 512 ∷ 1023 ∷ []) ≡ neg_ℤ (pos 512) ∷ pos 0 ∷ pos 511 ∷ []
  -- "samples −512 to 511", in the first slot and in the last; what is not there reads 0, and a ninth is not read
  pub sound : map window_sound (only 0 (neg_ℤ (pos 512)) ∷ only 7 (neg_ℤ (pos 512)) ∷ only 0 (pos 511) ∷ only 7 (pos 511) ∷ []) ≡ replicate 4 true
  pub unsound : map window_sound (only 0 (neg_ℤ (pos 513)) ∷ only 7 (neg_ℤ (pos 513)) ∷ only 0 (pos 512) ∷ only 7 (pos 512) ∷ []) ≡ replicate 4 false
  pub missing : sample_at (pos 3 ∷ []) 1 ≡ pos 0
  pub ninth : window_sound (zeros ++ (pos 512 ∷ [])) ≡ true
  -- each weight alone, and all together
  pub re_units : table 8 (λ k. re 1 (only k (pos 1)))
      ≡ pos 16384 ∷ pos 11585 ∷ pos 0 ∷ neg_ℤ (pos 11585) ∷ neg_ℤ (pos 16384) ∷ neg_ℤ (pos 11585) ∷ pos 0 ∷ pos 11585 ∷ []
  pub im_units : table 8 (λ k. im 1 (only k (pos 1)))
      ≡ pos 0 ∷ pos 11585 ∷ pos 16384 ∷ pos 11585 ∷ pos 0 ∷ neg_ℤ (pos 11585) ∷ neg_ℤ (pos 16384) ∷ neg_ℤ (pos 11585) ∷ []
  pub re_uneven : re 1 uneven ≡ pos 12249352
  pub im_uneven : im 1 uneven ≡ neg_ℤ (pos 5116736)
  -- |Re| and |Im|, each in its place
  pub start_uneven : start_of 1 uneven ≡ point (pos 12249352) (pos 5116736)
  pub start_negative : start_of 1 negative ≡ point (pos 15259152) (pos 21170848)
  -- y > 0, y = 0 and y < 0, with odd numbers: the shift rounds down, and "Both new values use the old ones"
  pub step_above : step_at 1 (point (pos 7) (pos 5)) ≡ point (pos 9) (pos 2)
  pub step_level : step_at 0 (point (pos 5) (pos 0)) ≡ point (pos 5) (neg_ℤ (pos 5))
  pub step_below : step_at 1 (point (pos 7) (neg_ℤ (pos 5))) ≡ point (pos 10) (neg_ℤ (pos 2))
  -- "shifting −1 right to 0 (it stays −1)"
  pub step_least : step_at 15 (point (pos 7) (neg_ℤ (pos 1))) ≡ point (pos 8) (neg_ℤ (pos 1))
  -- each of the sixteen shifts, of numbers that rounding to the nearest would move: y > 0 and y < 0
  pub shifts_above_x : table 16 (λ i. (step_at i (point (pos 12386303) (pos 7667711))).x)
      ≡ map pos (20054014 ∷ 16220158 ∷ 14303230 ∷ 13344766 ∷ 12865534 ∷ 12625918 ∷ 12506110 ∷ 12446206
      ∷ 12416254 ∷ 12401278 ∷ 12393790 ∷ 12390046 ∷ 12388174 ∷ 12387238 ∷ 12386770 ∷ 12386536 ∷ [])
  pub shifts_above_y : table 16 (λ i. (step_at i (point (pos 12386303) (pos 7667711))).y)
      ≡ neg_ℤ (pos 4718592) ∷ map pos (1474560 ∷ 4571136 ∷ 6119424 ∷ 6893568 ∷ 7280640 ∷ 7474176 ∷ 7570944 ∷ 7619328
      ∷ 7643520 ∷ 7655616 ∷ 7661664 ∷ 7664688 ∷ 7666200 ∷ 7666956 ∷ 7667334 ∷ [])
  pub shifts_below_x : table 16 (λ i. (step_at i (point (pos 12386303) (neg_ℤ (pos 7602177)))).x)
      ≡ map pos (19988480 ∷ 16187392 ∷ 14286848 ∷ 13336576 ∷ 12861440 ∷ 12623872 ∷ 12505088 ∷ 12445696
      ∷ 12416000 ∷ 12401152 ∷ 12393728 ∷ 12390016 ∷ 12388160 ∷ 12387232 ∷ 12386768 ∷ 12386536 ∷ [])
  pub shifts_below_y : table 16 (λ i. (step_at i (point (pos 12386303) (neg_ℤ (pos 7602177)))).y)
      ≡ pos 4784126 ∷ map (λ n. neg_ℤ (pos n)) (1409026 ∷ 4505602 ∷ 6053890 ∷ 6828034 ∷ 7215106 ∷ 7408642 ∷ 7505410 ∷ 7553794
      ∷ 7577986 ∷ 7590082 ∷ 7596130 ∷ 7599154 ∷ 7600666 ∷ 7601422 ∷ 7601800 ∷ [])
  -- steps 0, 1, 2 in this order; all sixteen
  pub three_steps : steps 3 (point (pos 101) (pos 37)) ≡ point (pos 171) (neg_ℤ (pos 37))
  pub x_uneven : last_x 1 uneven ≡ pos 21860871
  pub x_negative : last_x 1 negative ≡ pos 42975287
  -- rounded down: 0.99998, 1.0001 and 11727.0004, which a gain one more or one less would miss; 3240.99, 6371.3 and 10692.8
  pub scaled : map scaled_of (pos 6745 ∷ pos 6746 ∷ pos 79100000 ∷ []) ≡ 0 ∷ 1 ∷ 11727 ∷ []
  pub m_uneven : amplitude_of 1 uneven ≡ 3240
  pub m_negative : amplitude_of 1 negative ≡ 6371
  pub m_largest : amplitude_of 1 largest ≡ 10692

pub calls : AmplitudeCalls
unfolding computed
calls =
    record {
      samples = refl;
      sound = refl;
      unsound = refl;
      missing = refl;
      ninth = refl;
      re_units = refl;
      im_units = refl;
      re_uneven = refl;
      im_uneven = refl;
      start_uneven = refl;
      start_negative = refl;
      step_above = refl;
      step_level = refl;
      step_below = refl;
      step_least = refl;
      shifts_above_x = refl;
      shifts_above_y = refl;
      shifts_below_x = refl;
      shifts_below_y = refl;
      three_steps = refl;
      x_uneven = refl;
      x_negative = refl;
      scaled = refl;
      m_uneven = refl;
      m_negative = refl;
      m_largest = refl;
    }

-- ---- the exact amplitude

pub record ExactCalls : Type 0 where
  pub parts : A uneven ∷ B uneven ∷ C uneven ∷ D uneven ∷ [] ≡ pos 923 ∷ neg_ℤ (pos 248) ∷ pos 276 ∷ neg_ℤ (pos 832) ∷ []
  pub parts_negative : A negative ∷ B negative ∷ C negative ∷ D negative ∷ [] ≡ neg_ℤ (pos 558) ∷ neg_ℤ (pos 528) ∷ neg_ℤ (pos 817) ∷ neg_ℤ (pos 672) ∷ []
  pub p_is : P (pos 1) (pos 2) (pos 3) (neg_ℤ (pos 5)) ≡ pos 392
  pub q_is : Q (pos 1) (pos 2) (pos 3) (neg_ℤ (pos 5)) ≡ neg_ℤ (pos 208)
  -- "R ≥ 0 and Q ≥ 0"; "R ≥ 0, Q < 0 and R² ≥ 2Q²": 289 and 288, 49 and 50; "R < 0, Q > 0 and 2Q² ≥ R²"; else it fails
  pub q_alone : Rule (pos 0) (pos 1)
  pub larger_r_least : Rule (pos 2) (neg_ℤ (pos 1))
  pub larger_r_yes : Rule (pos 17) (neg_ℤ (pos 12))
  pub larger_r_no : ¬ Rule (pos 7) (neg_ℤ (pos 5))
  pub larger_q_least : Rule (neg_ℤ (pos 1)) (pos 1)
  pub larger_q_yes : Rule (neg_ℤ (pos 7)) (pos 5)
  pub larger_q_no : ¬ Rule (neg_ℤ (pos 17)) (pos 12)
  pub q_negative : ¬ Rule (pos 0) (neg_ℤ (pos 1))
  pub both_negative : ¬ Rule (neg_ℤ (pos 5)) (neg_ℤ (pos 1))
  pub both_negative' : ¬ Rule (neg_ℤ (pos 1)) (neg_ℤ (pos 5))
  -- Z = 400: at equality and next to it, and "Within 2" at its ends
  pub least_400 : AtLeast 1 in_slot0 (pos 400)
  pub below_401 : Below 1 in_slot0 (pos 401)
  pub most_400 : AtMost 1 in_slot0 (pos 400)
  pub not_most_399 : ¬ AtMost 1 in_slot0 (pos 399)
  pub within_398 : Within 1 in_slot0 398
  pub within_402 : Within 1 in_slot0 402
  pub not_within_397 : ¬ Within 1 in_slot0 397
  pub not_within_403 : ¬ Within 1 in_slot0 403
  -- Z = 3240.99 with Q < 0, and Z = 6371.4 with Q > 0: each of A, B, C and D counts
  pub least_3240 : AtLeast 1 uneven (pos 3240)
  pub below_3241 : Below 1 uneven (pos 3241)
  pub most_3241 : AtMost 1 uneven (pos 3241)
  pub not_most_3240 : ¬ AtMost 1 uneven (pos 3240)
  pub least_6371 : AtLeast 1 negative (pos 6371)
  pub below_6372 : Below 1 negative (pos 6372)
  -- t = 0 and 1, and t < 0: "Z ≥ t always holds and Z ≤ t never does"
  pub least_0 : AtLeast 1 zeros (pos 0)
  pub below_1 : Below 1 zeros (pos 1)
  pub most_0 : AtMost 1 zeros (pos 0)
  pub least_minus : AtLeast 1 zeros (neg_ℤ (pos 1))
  pub not_most_minus : ¬ AtMost 1 zeros (neg_ℤ (pos 1))
  pub within_0 : Within 1 zeros 0

-- the rule fails where each of its three lines does
pub fails : {r q : ℤ} → (T (le_z (pos 0) r) → ¬ T (le_z (pos 0) q))
    → (T (le_z (pos 0) r) → T (lt_z q (pos 0)) → ¬ T (le_z (pos 2 *ℤ (q *ℤ q)) (r *ℤ r)))
    → (T (lt_z r (pos 0)) → T (lt_z (pos 0) q) → ¬ T (le_z (r *ℤ r) (pos 2 *ℤ (q *ℤ q)))) → ¬ Rule r q
fails a b c (both h k) = a h.le k.le
fails a b c (larger_r h k l) = b h.le k.lt l.le
fails a b c (larger_q h k l) = c h.lt k.lt l.le

pub exact : ExactCalls
unfolding computed
exact =
    record {
      parts = refl;
      parts_negative = refl;
      p_is = refl;
      q_is = refl;
      q_alone = both (le_z_yes tt) (le_z_yes tt);
      larger_r_least = larger_r (le_z_yes tt) (lt_z_yes tt) (le_z_yes tt);
      larger_r_yes = larger_r (le_z_yes tt) (lt_z_yes tt) (le_z_yes tt);
      larger_r_no = fails (λ h k. k) (λ h k l. l) (λ h k l. h);
      larger_q_least = larger_q (lt_z_yes tt) (lt_z_yes tt) (le_z_yes tt);
      larger_q_yes = larger_q (lt_z_yes tt) (lt_z_yes tt) (le_z_yes tt);
      larger_q_no = fails (λ h k. h) (λ h k l. h) (λ h k l. l);
      q_negative = fails (λ h k. k) (λ h k l. l) (λ h k l. h);
      both_negative = fails (λ h k. h) (λ h k l. h) (λ h k l. k);
      both_negative' = fails (λ h k. h) (λ h k l. h) (λ h k l. k);
      least_400 = both (le_z_yes tt) (le_z_yes tt);
      below_401 = fails (λ h k. h) (λ h k l. h) (λ h k l. k);
      most_400 = both (le_z_yes tt) (le_z_yes tt);
      not_most_399 = fails (λ h k. h) (λ h k l. h) (λ h k l. k);
      within_398 = record { low = both (le_z_yes tt) (le_z_yes tt); high = both (le_z_yes tt) (le_z_yes tt) };
      within_402 = record { low = both (le_z_yes tt) (le_z_yes tt); high = both (le_z_yes tt) (le_z_yes tt) };
      not_within_397 = λ w. fails (λ h k. h) (λ h k l. h) (λ h k l. k) w.high;
      not_within_403 = λ w. fails (λ h k. h) (λ h k l. h) (λ h k l. k) w.low;
      least_3240 = larger_r (le_z_yes tt) (lt_z_yes tt) (le_z_yes tt);
      below_3241 = fails (λ h k. k) (λ h k l. l) (λ h k l. h);
      most_3241 = larger_q (lt_z_yes tt) (lt_z_yes tt) (le_z_yes tt);
      not_most_3240 = fails (λ h k. h) (λ h k l. h) (λ h k l. l);
      least_6371 = larger_q (lt_z_yes tt) (lt_z_yes tt) (le_z_yes tt);
      below_6372 = fails (λ h k. h) (λ h k l. h) (λ h k l. l);
      least_0 = both (le_z_yes tt) (le_z_yes tt);
      below_1 = fails (λ h k. h) (λ h k l. h) (λ h k l. k);
      most_0 = both (le_z_yes tt) (le_z_yes tt);
      least_minus = tt;
      not_most_minus = λ h. h;
      within_0 = record { low = tt; high = both (le_z_yes tt) (le_z_yes tt) };
    }

-- ---- six channels

-- five windows of zeros, and one more that ends in this sample
abbrev sixth : ℤ → List Window
sixth s = replicate 5 (record { samples = zeros }) ++ (record { samples = only 7 s } ∷ [])

pub record ChannelCalls : Type 0 where
  -- a channel's own window; each of the six counts, and no seventh
  pub its_own : channel_window (sixth (pos 9)) 5 ≡ only 7 (pos 9)
  pub six_sound : WindowsSound (sixth (pos 511) ++ (record { samples = only 7 (pos 512) } ∷ []))
  pub sixth_unsound : ¬ WindowsSound (sixth (pos 512))
  -- "never above 10,700"
  pub at_most : NeverAbove (replicate 6 10700 ++ (10701 ∷ []))
  pub above : ¬ NeverAbove (replicate 5 10700 ++ (10701 ∷ []))

pub channels : ChannelCalls
unfolding every window_sound
channels =
    record {
      its_own = refl;
      six_sound = every_at 6 (λ c. window_sound (channel_window (sixth (pos 511) ++ (record { samples = only 7 (pos 512) } ∷ [])) c)) refl;
      sixth_unsound = λ h. subst T (sym (h 5 (lit< tt))) tt;
      at_most = λ c l. leb-true _ _ (every_at 6 (λ c. leb (get_or (replicate 6 10700 ++ (10701 ∷ [])) c 0) 10700) refl c l);
      above = λ h. omega (arith, h 5 (lit< tt));
    }
