-- What is promised of the amplitude, on the definitions that the contracts of `amplitudes`, `seconds` and `estimate` cite. Each statement holds for
-- every window, or for every sound one; nothing else is assumed. Rests on Trace, Accuracy and Order.
use mathlib.Core.Path.{◌≡◌, refl, ◌∙◌}
use mathlib.Core.Bool.{true}
use mathlib.Core.List.{List}
use Prim.Native.Nat.{ℕ, ◌≤◌, ◌<◌, ◌^◌}
use native.Mathlib.Omega.{arith}
use lib.Dec.{T, le→leb, lit≤}
use lib.IntN.{ℤ, pos, negsuc, nat_abs, +ℤ_idr, ◌+ℤ◌, ◌-ℤ◌, ◌*ℤ◌}
use lib.Signed.{shr_z, non_neg, ◌≤ℤ◌}
use Rattle.phasor.specs.Window.{sample_at, window_sound}
use Rattle.phasor.specs.Fourier.{re, im}
use Rattle.phasor.specs.Cordic.{last_x, start_of, scaled_of, amplitude_of, most_amplitude}
use Rattle.phasor.specs.Exact.{A, B, C, D, turned, even, odd, exact_p, exact_q, AtLeast, AtMost, Below, Within}
use Rattle.phasor.proofs.Trace as trace
use Rattle.phasor.proofs.Accuracy as accuracy
use Rattle.phasor.proofs.Order as order

-- ---- no absolute value hides a sign

-- x never ends below zero
pub not_negative : (p : ℕ) (w : List ℤ) → T (non_neg (last_x p w))
unfolding last_x start_of
not_negative p w = trace.not_negative (start_of p w) tt 16

-- m is x times 39797, divided by 2^28, rounded down
pub amplitude_is : (p : ℕ) (w : List ℤ) → pos (amplitude_of p w) ≡ shr_z (last_x p w *ℤ pos 39797) (2 ^ 28)
unfolding amplitude_of scaled_of
amplitude_is p w = go (last_x p w) (not_negative p w)
  where
    go : (x : ℤ) → T (non_neg x) → pos (nat_abs (shr_z (x *ℤ pos 39797) (2 ^ 28))) ≡ shr_z (x *ℤ pos 39797) (2 ^ 28)
    go (pos n) t = refl
    go (negsuc n) t = absurd t

-- ---- the weights, by order. For every window

-- Re = 16384 A + 11585 B and Im = 16384 C + 11585 D: sixteen weights are these two numbers, each sample under its own sign
pub re_is : (w : List ℤ) → re 1 w ≡ pos 16384 *ℤ A w +ℤ pos 11585 *ℤ B w
re_is = accuracy.re_is

pub im_is : (w : List ℤ) → im 1 w ≡ pos 16384 *ℤ C w +ℤ pos 11585 *ℤ D w
im_is = accuracy.im_is

-- the second harmonic: Re = 16384 (s0 − s2 + s4 − s6) and Im = 16384 (s1 − s3 + s5 − s7)
pub re_second : (w : List ℤ) → re 2 w ≡ pos 16384 *ℤ (sample_at w 0 -ℤ sample_at w 2 +ℤ sample_at w 4 -ℤ sample_at w 6)
re_second w = accuracy.re_2 w ∙ +ℤ_idr (pos 16384 *ℤ even w)

pub im_second : (w : List ℤ) → im 2 w ≡ pos 16384 *ℤ (sample_at w 1 -ℤ sample_at w 3 +ℤ sample_at w 5 -ℤ sample_at w 7)
im_second w = accuracy.im_2 w ∙ +ℤ_idr (pos 16384 *ℤ odd w)

-- the third: the fundamental's of the window whose sample k is sample 3k mod 8
pub re_third : (w : List ℤ) → re 3 w ≡ re 1 (turned w)
re_third = accuracy.re_3

pub im_third : (w : List ℤ) → im 3 w ≡ im 1 (turned w)
im_third = accuracy.im_3

-- ---- accuracy

-- the accuracy theorem, for the order as a variable: the amplitude is never above 10,700 (for order 2, below 11,600), and is within 2 of the exact
-- amplitude
pub accurate : (p : ℕ) → 1 ≤ p → p ≤ 3 → (w : List ℤ) → window_sound w ≡ true → (amplitude_of p w ≤ most_amplitude p) × Within p w (amplitude_of p w)
accurate p l u w sound = (accuracy.largest p l u w sound, accuracy.near_exact p l u w sound)

-- the bound by its numbers
pub never_above : (w : List ℤ) → window_sound w ≡ true → amplitude_of 1 w ≤ 10700
never_above w sound = (accurate 1 (lit≤ tt) (lit≤ tt) w sound).0

pub second_below : (w : List ℤ) → window_sound w ≡ true → amplitude_of 2 w < 11600
second_below w sound = omega (arith, (accurate 2 (lit≤ tt) (lit≤ tt) w sound).0)

pub third_never_above : (w : List ℤ) → window_sound w ≡ true → amplitude_of 3 w ≤ 10700
third_never_above w sound = (accurate 3 (lit≤ tt) (lit≤ tt) w sound).0

-- ---- order

-- Z ≥ a and Z ≤ b give a ≤ b
pub between : (p : ℕ) (w : List ℤ) (a b : ℤ) → AtLeast p w a → AtMost p w b → a ≤ℤ b
unfolding AtLeast AtMost
between p w (pos a) (pos b) h k = record { le = le→leb a b (order.between (exact_p p w) (exact_q p w) a b h k) }
between p w (negsuc a) (pos b) h k = record { le = tt }
between p w a (negsuc b) h k = absurd k

module _ (p : ℕ) (l : 1 ≤ p) (u : p ≤ 3) (w : List ℤ) (sound : window_sound w ≡ true) where
  -- Z ≥ k + 2 gives m ≥ k
  pub over_clear : (k : ℕ) → AtLeast p w (pos k +ℤ pos 2) → k ≤ amplitude_of p w
  unfolding AtLeast AtMost
  over_clear = order.over_clear (exact_p p w) (exact_q p w) (amplitude_of p w) (accurate p l u w sound).1.high

  -- m ≥ k gives Z ≥ k − 2
  pub over_near : (k : ℕ) → k ≤ amplitude_of p w → AtLeast p w (pos k -ℤ pos 2)
  unfolding AtLeast AtMost
  over_near = order.over_near (exact_p p w) (exact_q p w) (amplitude_of p w) (accurate p l u w sound).1.low

  -- Z < k − 2 gives m < k
  pub loss_clear : (k : ℕ) → Below p w (pos k -ℤ pos 2) → amplitude_of p w < k
  unfolding AtLeast AtMost
  loss_clear = order.loss_clear (exact_p p w) (exact_q p w) (amplitude_of p w) (accurate p l u w sound).1.low

  -- m < k gives Z < k + 2
  pub loss_near : (k : ℕ) → amplitude_of p w < k → Below p w (pos k +ℤ pos 2)
  unfolding AtLeast AtMost
  loss_near = order.loss_near (exact_p p w) (exact_q p w) (amplitude_of p w) (accurate p l u w sound).1.high
