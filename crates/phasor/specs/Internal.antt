-- What the contracts of this crate's own functions cite; no other crate reads it: the lanes in which CORDIC runs.
-- Rests on Fourier, Cordic and Lanes.
use Rattle.std.specs.Prelude.{ℕ, ◌+◌, ◌*◌, ◌^◌, ◌<◌, ◌≤◌, ◌≡◌, true, List, T, get_or, ℤ, pos, nat_abs, ◌+ℤ◌, ◌*ℤ◌}
use Rattle.std.specs.Int.Signed.{non_neg}
use Rattle.lists.specs.Each.{table}
use Rattle.phasor.specs.declared.Point.{Point}
use Rattle.phasor.specs.declared.Window.{Window}
use Rattle.phasor.specs.Window.{window_sound}
use Rattle.phasor.specs.Cordic.{start_at, start_of, end_of, amplitude_of}
use Rattle.phasor.specs.Lanes.{channel_window}
use Rattle.phasor.specs.Fourier.{cosines, sines, weight_at, sum_over, re, im}

-- a point from which sixteen steps stay inside 32 bits: x is not negative, and x² + y² is at most 48,000,000²
pub record StepsFit (p : Point) : Type 0 where
  pub right : T (non_neg p.x)
  pub near : nat_abs p.x * nat_abs p.x + nat_abs p.y * nat_abs p.y ≤ 48000000 * 48000000

-- a window's two sums for an order, over the slots before k
unfoldable pub sums_to : ℕ → List ℤ → ℕ → Point
sums_to p w k = record { x = sum_over cosines p w k; y = sum_over sines p w k }

unfoldable pub sums_of : ℕ → List ℤ → Point
sums_of p w = record { x = re p w; y = im p w }

-- two sums with the term of one slot more
abbrev pub with_slot : Point → ℤ → ℕ → ℕ → Point
with_slot q s k p = record { x = q.x +ℤ s *ℤ weight_at cosines p k; y = q.y +ℤ s *ℤ weight_at sines p k }

-- it fits in 32 bits: a sample of some code, sums of seven terms at most
pub record SlotFits (q : Point) (s : ℤ) (k p : ℕ) : Type 0 where
  pub sample : nat_abs s ≤ 512
  pub slot : k < 8
  pub order : p ≤ 3
  pub x : nat_abs q.x ≤ 7 * 2 ^ 23
  pub y : nat_abs q.y ≤ 7 * 2 ^ 23

-- where CORDIC starts in lane c, from the two sums there
abbrev pub no_sums : Point
no_sums = record { x = pos 0; y = pos 0 }

abbrev pub point_at : List Point → ℕ → Point
point_at sums c = start_at (get_or sums c no_sums).x (get_or sums c no_sums).y

-- the steps fit in each lane, a spare one too
abbrev pub AllStepsFit : List Point → Type 0
AllStepsFit sums = (c : ℕ) → StepsFit (point_at sums c)

-- the first n lanes hold the sums of n windows for an order, and the steps fit in each lane
pub record StartsOf (p : ℕ) (window : ℕ → List ℤ) (n : ℕ) (sums : List Point) : Type 0 where
  pub starts : (c : ℕ) → c < n → point_at sums c ≡ start_of p (window c)
  pub fit : AllStepsFit sums

-- the first n numbers are where x ends in the lanes
abbrev pub EndsOf : List Point → ℕ → List ℤ → Type 0
EndsOf sums n e = (c : ℕ) → c < n → get_or e c (pos 0) ≡ end_of (point_at sums c)

-- each of n windows is sound
abbrev pub AllSound : ℕ → List Window → Type 0
AllSound n ws = (c : ℕ) → c < n → window_sound (channel_window ws c) ≡ true

-- the amplitudes of n windows for an order
abbrev pub all_amplitudes : ℕ → ℕ → List Window → List ℕ
all_amplitudes p n ws = table n (λ c. amplitude_of p (channel_window ws c))
