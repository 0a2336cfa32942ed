-- The sixteen steps on natural numbers: x never goes below zero, so the sizes of x and y tell all that lengths need (`not_negative`, `trace`).
-- Rests on Lengths.
use mathlib.Core.Path.{◌≡◌, ap}
use mathlib.Core.Bool.{cond}
use mathlib.Core.Logic.{◌⊎◌, inl, inr, ⊎_elim}
use Prim.Native.Nat.{ℕ, zero, suc, ◌+◌, ◌*◌, ◌/◌, ◌^◌, ◌≤◌, ◌<◌, zero-le}
use native.Mathlib.Omega.{arith}
use borrow.Author.Tests.{le-leb}
use lib.Dec.{T}
use lib.IntN.{ℤ, pos, negsuc, nat_abs, ◌+ℤ◌, ◌-ℤ◌}
use lib.Signed.{shr_z, le_z, non_neg}
use Rattle.std.proofs.lemmas.Nat.{pow_pos}
use Rattle.integers.proofs.Diff.{of_pos, sub, add, size, of}
use Rattle.integers.proofs.Squares.{distance}
use Rattle.phasor.specs.declared.Point.{Point}
use Rattle.phasor.specs.Cordic.{step_at, steps}
use Rattle.phasor.proofs.Lengths.{Step}

-- a quotient rounded down
parted : (y k : ℕ) → 0 < k → (k * (y / k) ≤ y) × (y < k * (y / k) + k)
parted y k p = (omega arith, omega arith)

-- x grows by q, which is y / k rounded down or up, and the next y is d, by which y and x / k differ
module _ (k x y : ℕ) (pos-k : 0 < k) where
  whole : (q d : ℕ) → k * q < y + k → y < k * q + k → (y ≡ x / k + d) ⊎ (x / k ≡ y + d) → Step k x y (x + q) d
  whole q d a b g = record {
    z = gap.0;
    gap = gap.1;
    x_below = omega arith;
    x_above = omega arith;
    y_below = close.0;
    y_above = close.1;
    grows = omega arith;
    small = small scaled;
  }
    where
      x_parts : (k * (x / k) ≤ x) × (x < k * (x / k) + k)
      x_parts = parted x k pos-k

      scaled : (k * y ≡ k * (x / k) + k * d) ⊎ (k * (x / k) ≡ k * y + k * d)
      scaled = ⊎_elim (λ e. inl (omega (arith, ap (λ (t : ℕ). k * t) e))) (λ e. inr (omega (arith, ap (λ (t : ℕ). k * t) e))) g

      small : (k * y ≡ k * (x / k) + k * d) ⊎ (k * (x / k) ≡ k * y + k * d) → (k * d ≤ x) ⊎ (k * d + x < k * y + k)
      small h = ⊎_elim (λ e. inr (omega (arith, x_parts))) (λ e. inl (omega (arith, x_parts))) h

      gap : (z : ℕ) × ((k * y ≡ x + z) ⊎ (x ≡ k * y + z))
      gap = distance (k * y) x

      close : (k * d < gap.0 + k) × (gap.0 < k * d + k)
      close = ⊎_elim
          (λ e. ⊎_elim (λ f. (omega (arith, x_parts), omega (arith, x_parts))) (λ f. (omega (arith, x_parts), omega (arith, x_parts))) gap.1)
          (λ e. ⊎_elim (λ f. (omega (arith, x_parts), omega (arith, x_parts))) (λ f. (omega (arith, x_parts), omega (arith, x_parts))) gap.1)
          scaled

-- a step of the definition, with k = 2 ^ i
abbrev turn : ℕ → ℤ → ℤ → Point
turn k x y = cond (le_z (pos 0) y) (record { x = x +ℤ shr_z y k; y = y -ℤ shr_z x k }) (record { x = x -ℤ shr_z y k; y = y +ℤ shr_z x k })

-- what it leaves: x not negative, and sizes that are one step on
record Next (k x y : ℕ) (q : Point) : Type 0 where
  right : T (non_neg q.x)
  sizes : Step k x y (nat_abs q.x) (nat_abs q.y)

stepped : (k : ℕ) (x y : ℤ) → 0 < k → T (non_neg x) → Next k (nat_abs x) (nat_abs y) (turn k x y)
stepped k (negsuc x) y p t = absurd t
stepped k (pos x) (pos y) p t =
    let d = parted y k p in
    let gap = size (sub (of_pos y) (of_pos (x / k))) in
    rw (le-leb 0 y zero-le) (record { right = tt; sizes = whole k x y p (y / k) _ (omega arith) (omega arith) (apart _ gap) })
  where
    apart : (d : ℕ) → (y + 0 ≡ 0 + x / k + d) ⊎ (0 + x / k ≡ y + 0 + d) → (y ≡ x / k + d) ⊎ (x / k ≡ y + d)
    apart d h = ⊎_elim (λ e. inl (omega arith)) (λ e. inr (omega arith)) h
stepped k (pos x) (negsuc y) p t =
    let d = parted y k p in
    let gap = size (add (of (negsuc y)) (of_pos (x / k))) in
    record { right = tt; sizes = whole k x (suc y) p (suc (y / k)) _ (omega arith) (omega arith) (apart _ gap) }
  where
    apart : (d : ℕ) → (0 + x / k ≡ suc y + 0 + d) ⊎ (suc y + 0 ≡ 0 + x / k + d) → (suc y ≡ x / k + d) ⊎ (x / k ≡ suc y + d)
    apart d h = ⊎_elim (λ e. inr (omega arith)) (λ e. inl (omega arith)) h

-- the sizes of x and y after i steps from p
unfoldable pub xs : Point → ℕ → ℕ
xs p i = nat_abs (steps i p).x

unfoldable pub ys : Point → ℕ → ℕ
ys p i = nat_abs (steps i p).y

module _ (p : Point) (right : T (non_neg p.x)) where
  pub not_negative : (i : ℕ) → T (non_neg (steps i p).x)
  unfolding steps step_at
  not_negative zero = right
  not_negative (suc i) = (stepped (2 ^ i) (steps i p).x (steps i p).y (pow_pos i) (not_negative i)).right

  pub trace : (i : ℕ) → Step (2 ^ i) (xs p i) (ys p i) (xs p (suc i)) (ys p (suc i))
  unfolding steps step_at xs ys
  trace i = (stepped (2 ^ i) (steps i p).x (steps i p).y (pow_pos i) (not_negative i)).sizes
