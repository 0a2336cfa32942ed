-- The amplitude of X = 16384 A + 11585 B and Y = 16384 C + 11585 D is within 2 of Z, for any integers A, B, C, D with B² + D² ≤ 2046² and
-- X² + Y² ≤ 48,000,000² (`within`), and is bounded by the length (`ceiling`). It knows no window: other weights on a window can cite it.
-- Rests on Magnitude (from X, Y to m) and Bounds (from X, Y to Z).
use mathlib.Core.Path.{◌≡◌}
use Prim.Native.Nat.{ℕ, ◌+◌, ◌*◌, ◌≤◌}
use native.Mathlib.Nat.{le_trans}
use native.Mathlib.Omega.{arith}
use lib.IntN.{ℤ, pos, nat_abs, ◌+ℤ◌, ◌-ℤ◌, ◌*ℤ◌}
use Rattle.integers.proofs.Squares.{sq_cancel, sq_mono, cauchy, root}
use Rattle.integers.proofs.Diff.{plus, minus, of, of_pos, add, mul, square}
use Rattle.integers.proofs.Size.{square_abs, abs_mul, abs_add}
use Rattle.phasor.specs.Exact.{P, Q, RootAtLeast, RootAtMost}
use Rattle.phasor.specs.Cordic.{start_at, end_of, scaled_of}
use Rattle.phasor.proofs.Magnitude.{near}
use Rattle.phasor.proofs.Bounds.{bounds}

-- the amplitude of any two sums
abbrev pub amplitude_at : ℤ → ℤ → ℕ
amplitude_at re im = scaled_of (end_of (start_at re im))

-- the square of one coordinate
coordinate : (a b : ℤ) →
    nat_abs (pos 16384 *ℤ a +ℤ pos 11585 *ℤ b) * nat_abs (pos 16384 *ℤ a +ℤ pos 11585 *ℤ b) + 379617280 * (plus a * minus b + minus a * plus b)
    ≡ 268435456 * (nat_abs a * nat_abs a) + 134212225 * (nat_abs b * nat_abs b) + 379617280 * (plus a * plus b + minus a * minus b)
coordinate a b = omega (arith, square (add (mul (of_pos 16384) (of a)) (mul (of_pos 11585) (of b))), square (of a), square (of b))

module _ (a b c d : ℤ) where
  abbrev pub X : ℤ
  X = pos 16384 *ℤ a +ℤ pos 11585 *ℤ b

  abbrev pub Y : ℤ
  Y = pos 16384 *ℤ c +ℤ pos 11585 *ℤ d

  abbrev pub length² : ℕ
  length² = nat_abs X * nat_abs X + nat_abs Y * nat_abs Y

  abbrev pub along : ℤ
  along = a *ℤ b +ℤ c *ℤ d

  pub squared : length² + 379617280 * minus along
      ≡ 268435456 * (nat_abs a * nat_abs a + nat_abs c * nat_abs c) + 134212225 * (nat_abs b * nat_abs b + nat_abs d * nat_abs d) + 379617280 * plus along
  squared = omega (arith, coordinate a b, coordinate c d, add (mul (of a) (of b)) (mul (of c) (of d)))

  short : nat_abs along * nat_abs along ≤ (nat_abs a * nat_abs a + nat_abs c * nat_abs c) * (nat_abs b * nat_abs b + nat_abs d * nat_abs d)
  short = le_trans (sq_mono (rw (abs_mul a b, abs_mul c d) at (abs_add (a *ℤ b) (c *ℤ d)))) (cauchy (nat_abs a) (nat_abs c) (nat_abs b) (nat_abs d))

  P_is : P a b c d ≡ pos (16 * (nat_abs a * nat_abs a + nat_abs c * nat_abs c) + 8 * (nat_abs b * nat_abs b + nat_abs d * nat_abs d))
  P_is = rw (square_abs a, square_abs b, square_abs c, square_abs d)

  pub within : nat_abs b * nat_abs b + nat_abs d * nat_abs d ≤ 4186116 → length² ≤ 48000000 * 48000000 →
      RootAtLeast (P a b c d) (Q a b c d) (pos (amplitude_at X Y) -ℤ pos 2) × RootAtMost (P a b c d) (Q a b c d) (pos (amplitude_at X Y) +ℤ pos 2)
  within few bound =
      let r = root length² in
      let n : ℕ = r.0 in
      let l : n ≤ 48000000 = sq_cancel (le_trans r.1 bound) in
      let k = near (start_at X Y) tt n r.1 r.2 l in
      rw P_is
      (bounds (nat_abs a * nat_abs a + nat_abs c * nat_abs c) (nat_abs b * nat_abs b + nat_abs d * nat_abs d) (amplitude_at X Y) n length²
      few k.0 k.1 r.1 r.2 along short squared)

  -- the amplitude of a vector no longer than k
  pub ceiling : (k : ℕ) → length² ≤ k * k → k ≤ 48000000 → 4096 * amplitude_at X Y ≤ k + 128
  ceiling k bound l =
      let r = root length² in
      let n : ℕ = r.0 in
      let e : n ≤ k = sq_cancel (le_trans r.1 bound) in
      let f = near (start_at X Y) tt n r.1 r.2 (le_trans e l) in
      join f.0 e
    where
      join : {p n k : ℕ} → p ≤ n + 128 → n ≤ k → p ≤ k + 128
      join h e = omega arith
