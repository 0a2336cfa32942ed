-- Lanes that a loop fills one after the other, for any order, any number of windows and of lanes: the invariants of the loops that start, end and
-- scale them, and how each begins, goes on and is done.
-- Rests on Accuracy (the steps fit from a window's start) and Magnitude (where they fit, each point is in range).
use Prim.Native.Nat.{ℕ, ◌+◌, ◌<◌, ◌≤◌}
use mathlib.Core.Path.{◌≡◌, sym, ap, ◌∙◌, subst⁻¹}
use mathlib.Core.Bool.{true}
use mathlib.Core.List.{List}
use native.Mathlib.Omega.{arith}
use lib.Dec.{T, lit<, lit≤}
use lib.IntN.{ℤ, pos, nat_abs}
use lib.Signed.{non_neg}
use lib.ListN.{length, get_or, set}
use lib.Seq.{ext_get_or}
use mir.Syntax.{w32}
use mir.Val.{of_z, to_z}
use Rattle.integers.proofs.Holds.{held}
use Rattle.std.proofs.lemmas.Grind.{common_steps}
use Rattle.phasor.specs.declared.Point.{Point}
use Rattle.phasor.specs.declared.Window.{Window}
use Rattle.lists.specs.Each.{table}
use Rattle.phasor.specs.Window.{window_sound}
use Rattle.phasor.specs.Cordic.{start_at, start_of, last_x, end_of, scaled_of, amplitude_of}
use Rattle.phasor.specs.Lanes.{channel_window, WindowsSound, NeverAbove}
use Rattle.phasor.specs.Internal.{sums_of, point_at, StepsFit, StartsOf, EndsOf}
use Rattle.lists.proofs.Each.{length_table, get_d_table}
use Rattle.phasor.proofs.Trace.{not_negative}
use Rattle.phasor.proofs.Magnitude.{ranged}
use Rattle.phasor.proofs.Accuracy.{start_fits, largest}

-- ---- a number in range is read back from its bits

abbrev pub back : ℤ → ℤ
back z = to_z w32 (of_z w32 z)

back_is : (z : ℤ) → nat_abs z ≤ 79100000 → back z ≡ z
back_is z h = (held {w = w32} h (lit< tt)).reads

-- ---- the starts: for an order, n windows in so many lanes

-- lanes 0 to c - 1 are filled
pub record Starting (p : ℕ) (window : ℕ → List ℤ) (n lanes c : ℕ) (sums : List Point) : Type 0 where
  pub at_most : c ≤ n
  pub long : length sums ≡ lanes
  pub filled : StartsOf p window c sums

module _ (p : ℕ) (l : 1 ≤ p) (u : p ≤ 3) (window : ℕ → List ℤ) (n lanes : ℕ) (room : n ≤ lanes) where
  pub starts_again : (c : ℕ) (sums : List Point) (s : Point) → window_sound (window c) ≡ true → Starting p window n lanes c sums → c < n
      → s ≡ sums_of p (window c) → Starting p window n lanes (c + 1) (set sums c s)
  unfolding sums_of start_of
  starts_again c sums s sound inv h e =
      let is : start_at s.x s.y ≡ start_of p (window c) = ap (λ (u : Point). start_at u.x u.y) e in
      let fits : StepsFit (start_at s.x s.y) = rw is (start_fits p l u (window c) sound) in
      grind (arith, common_steps, is, fits, inv.filled.starts, inv.filled.fit)

-- ---- the ends

pub record Ending (lanes : ℕ) (sums : List Point) (c : ℕ) (e : List ℤ) : Type 0 where
  pub at_most : c ≤ lanes
  pub long : length e ≡ lanes
  pub filled : EndsOf sums c e

-- ---- the amplitudes

module _ (p : ℕ) (window : ℕ → List ℤ) (n lanes : ℕ) (room : n ≤ lanes) (sums : List Point) (e : List ℤ)
    (starts : StartsOf p window n sums) (ends : EndsOf sums lanes e) where
  -- each lane's x ended where its window's does
  end_is : (k : ℕ) → k < n → get_or e k (pos 0) ≡ last_x p (window k)
  unfolding last_x
  end_is k l = ends k (omega arith) ∙ ap end_of (starts.starts k l)

  end_size : (k : ℕ) → k < n → nat_abs (get_or e k (pos 0)) ≤ 79100000
  end_size k l = rw (ends k (omega arith)) (ranged (point_at sums k) (starts.fit k) 16 (lit≤ tt)).x

  end_back : (k : ℕ) → k < n → back (get_or e k (pos 0)) ≡ get_or e k (pos 0)
  end_back k l = back_is (get_or e k (pos 0)) (end_size k l)

  -- what scaling it asks
  pub end_fits : (k : ℕ) → k < n → T (non_neg (back (get_or e k (pos 0)))) × (nat_abs (back (get_or e k (pos 0))) ≤ 79100000)
  end_fits k l =
      rw (end_back k l)
      (subst⁻¹ (λ (z : ℤ). T (non_neg z)) (ends k (omega arith)) (not_negative (point_at sums k) (starts.fit k).right 16), end_size k l)

  -- the amplitude of one of them
  pub end_scaled : (k r : ℕ) → k < n → r ≡ scaled_of (back (get_or e k (pos 0))) → r ≡ amplitude_of p (window k)
  unfolding amplitude_of
  end_scaled k r l h = h ∙ ap scaled_of (end_back k l ∙ end_is k l)

-- the first c of n numbers are the amplitudes of those windows
pub record Scaling (p : ℕ) (window : ℕ → List ℤ) (n c : ℕ) (m : List ℕ) : Type 0 where
  pub at_most : c ≤ n
  pub long : length m ≡ n
  pub filled : (k : ℕ) → k < c → get_or m k 0 ≡ amplitude_of p (window k)

pub scaling_done : (p : ℕ) (window : ℕ → List ℤ) (n : ℕ) (m : List ℕ) → Scaling p window n n m → m ≡ table n (λ k. amplitude_of p (window k))
scaling_done p window n m inv =
    let f : ℕ → ℕ = λ k. amplitude_of p (window k) in
    let long : length m ≡ n = inv.long in
    ext_get_or 0 m (table n f) (long ∙ sym (length_table n f)) (λ k l. inv.filled k (omega arith) ∙ sym (get_d_table n f 0 k (omega arith)))

pub never_above : (ws : List Window) (m : List ℕ) → WindowsSound ws → m ≡ table 6 (λ k. amplitude_of 1 (channel_window ws k)) → NeverAbove m
never_above ws m sound value k l =
    rw (value, get_d_table 6 (λ j. amplitude_of 1 (channel_window ws j)) 0 k l) (largest 1 (lit≤ tt) (lit≤ tt) (channel_window ws k) (sound k l))
