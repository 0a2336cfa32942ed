-- From the length of (Re, Im) to Z: the four comparisons of t² with P + Q√2, each through a fraction near √2, joined to "within 2" (`bounds`).
-- Rests on Rule, and on nothing of CORDIC.
use mathlib.Core.Path.{◌≡◌, refl, ap, subst}
use mathlib.Core.Logic.{◌⊎◌, ⊎_elim}
use Prim.Native.Nat.{ℕ, zero, suc, ◌+◌, ◌*◌, ◌≤◌, ◌<◌}
use native.Mathlib.Nat.{mul-le-mul, mul-le-mul_left, mul-le-mul_right, le_of_mul-le-mul_left}
use native.Mathlib.Omega.{arith}
use lib.Dec.{lit≤, lit<}
use lib.IntN.{ℤ, pos, negsuc, neg_ℤ, nat_abs, neg_ℤ-neg_ℤ, ◌+ℤ◌, ◌-ℤ◌, ◌*ℤ◌}
use Rattle.integers.proofs.Squares.{sq_mono, sq_cancel_lt, distance}
use Rattle.integers.proofs.Diff.{Diff, plus, minus, of_pos, sub, neg, same, up_by, down_by}
use Rattle.phasor.specs.Exact.{Rule, RootAtLeast, RootAtMost}
use Rattle.phasor.proofs.Rule.{gives_rule}

-- ---- R + Q√2 ≥ 0, by a fraction d / c near √2

-- c r ≤ d q, squared
squares : (c d r q : ℕ) → c * r ≤ d * q → (c * c) * (r * r) ≤ (d * d) * (q * q)
squares c d r q h = omega (arith, mul-le-mul h h)

by_less : (c d r q : ℕ) → 0 < c → d * d ≤ 2 * (c * c) → c * r ≤ d * q → r * r ≤ 2 * (q * q)
by_less c d r q p e h =
    le_of_mul-le-mul_left {k = c * c} (omega (arith, squares c d r q h, mul-le-mul_right (q * q) e)) (omega (arith, mul-le-mul p p))

by_more : (c d r q : ℕ) → 0 < c → 2 * (c * c) ≤ d * d → d * q ≤ c * r → 2 * (q * q) ≤ r * r
by_more c d r q p e h =
    le_of_mul-le-mul_left {k = c * c} (omega (arith, squares d c q r h, mul-le-mul_right (q * q) e)) (omega (arith, mul-le-mul p p))

-- a fraction not above √2, for Q = q not negative: R + q d/c ≥ 0 is enough
weak : (c d : ℕ) {r : ℤ} {u v : ℕ} (q : ℕ) → 0 < c → d * d ≤ 2 * (c * c) → Diff r u v → c * v ≤ c * u + d * q → Rule r (pos q)
weak c d {r = pos r} q p e f h = gives_rule (pos r) (pos q) tt
weak c d {r = negsuc r} {u} {v} q p e f h =
    gives_rule (negsuc r) (pos q) (by_less c d (suc r) q p e (omega (arith, ap (λ (t : ℕ). c * t) (down_by f))))

-- a fraction not below √2, for Q = −q: R − q d/c ≥ 0 is enough
strong : (c d : ℕ) {r : ℤ} {u v : ℕ} (q : ℕ) → 0 < c → 2 * (c * c) ≤ d * d → Diff r u v → c * v + d * q ≤ c * u → Rule r (neg_ℤ (pos q))
strong c d {r = pos r} zero p e f h = gives_rule (pos r) (pos 0) tt
strong c d {r = pos r} {u} {v} (suc q) p e f h =
    gives_rule (pos r) (negsuc q) (by_more c d r (suc q) p e (omega (arith, ap (λ (t : ℕ). c * t) (up_by f))))
strong c d {r = negsuc r} {u} {v} q p e f h = absurd (never (down_by f))
  where
    never : v ≡ u + suc r → ⊥
    never g = omega (arith, ap (λ (t : ℕ). c * t) g, mul-le-mul p p, p)

-- ---- the four comparisons of t² with P + Q s, for E = A² + C², F = B² + D² and h the size of AB + CD
-- n is the whole part of the length N of (Re, Im), and m the amplitude
module _ (E F h n m : ℕ) (cs : h * h ≤ E * F) (few : F ≤ 4186116) (lo : 4096 * m ≤ n + 128) (hi : n ≤ 4096 * m + 5596) where
  -- AB + CD ≥ 0
  module _ (below : n * n ≤ 268435456 * E + 134212225 * F + 379617280 * h)
      (above : 268435456 * E + 134212225 * F + 379617280 * h < suc n * suc n) where
    plus_low : (t : ℕ) → m ≡ t + 2 → 8192 * (t * t) ≤ 8192 * (16 * E + 8 * F) + 11585 * (16 * h)
    plus_low t e = omega (arith, sq_mono {a = 4096 * t} {b = n} (omega arith))

    -- the product of (Re, Im) with (B, D), by Cauchy's inequality
    plus_along : 16384 * h + 11585 * F < 2046 * suc n
    plus_along = sq_cancel_lt (omega (arith, cs, mul-le-mul_left (268435456 * E + 134212225 * F + 379617280 * h) few, above))

    plus_high : 189808640 * (16 * E + 8 * F) + 268429953 * (16 * h) ≤ 189808640 * ((m + 2) * (m + 2))
    plus_high = omega (arith, plus_along, sq_mono {a = n + 2596} {b = 4096 * (m + 2)} (omega arith))

  -- AB + CD < 0
  module _ (N : ℕ) (is : N + 379617280 * h ≡ 268435456 * E + 134212225 * F) (below : n * n ≤ N) (above : N < suc n * suc n) where
    -- w is the size of 11585F − 16384h
    apart : (w : ℕ) → (11585 * F ≡ 16384 * h + w) ⊎ (16384 * h ≡ 11585 * F + w) →
        w * w + 379617280 * (F * h) ≡ 134212225 * (F * F) + 268435456 * (h * h)
    apart w g = ⊎_elim
        (λ e. omega (arith, ap (λ (x : ℕ). x * x) e, ap (λ (x : ℕ). x * h) e))
        (λ e. omega (arith, ap (λ (x : ℕ). x * x) e, ap (λ (x : ℕ). x * F) e)) g

    minus_along : (w : ℕ) → (11585 * F ≡ 16384 * h + w) ⊎ (16384 * h ≡ 11585 * F + w) → w < 2046 * suc n
    minus_along w g = sq_cancel_lt
        (omega (arith, apart w g, ap (λ (x : ℕ). x * F) is, mul-le-mul_left N few, cs, above))

    side : (w : ℕ) × ((11585 * F ≡ 16384 * h + w) ⊎ (16384 * h ≡ 11585 * F + w))
    side = distance (11585 * F) (16384 * h)

    minus_low : (t : ℕ) → m ≡ t + 2 → 189808640 * (t * t) + 268429953 * (16 * h) ≤ 189808640 * (16 * E + 8 * F)
    minus_low t e = go side.0 side.1 (minus_along side.0 side.1)
      where
        far : 4096 * t + 8064 ≤ n
        far = omega arith

        go : (w : ℕ) → (11585 * F ≡ 16384 * h + w) ⊎ (16384 * h ≡ 11585 * F + w) → w < 2046 * suc n →
            189808640 * (t * t) + 268429953 * (16 * h) ≤ 189808640 * (16 * E + 8 * F)
        go w g l = ⊎_elim
            (λ k. omega (arith, is, k, l, below, far, mul-le-mul_left n far, mul-le-mul_left t far))
            (λ k. omega (arith, is, k, l, below, far, mul-le-mul_left n far, mul-le-mul_left t far)) g

    minus_high : 655360 * (16 * E + 8 * F) ≤ 655360 * ((m + 2) * (m + 2)) + 926819 * (16 * h)
    minus_high = go side.0 side.1 (minus_along side.0 side.1)
      where
        far : (n + 2596) * (n + 2596) ≤ (4096 * (m + 2)) * (4096 * (m + 2))
        far = sq_mono (omega arith)

        go : (w : ℕ) → (11585 * F ≡ 16384 * h + w) ⊎ (16384 * h ≡ 11585 * F + w) → w < 2046 * suc n →
            655360 * (16 * E + 8 * F) ≤ 655360 * ((m + 2) * (m + 2)) + 926819 * (16 * h)
        go w g l = ⊎_elim (λ k. omega (arith, is, k, l, above, far, few)) (λ k. omega (arith, is, k, l, above, far, few)) g

-- ---- both bounds, for integers
-- a fact about t needs a proof only where t is not negative
from_zero : (p q t : ℤ) → ((k : ℕ) → t ≡ pos k → RootAtLeast p q (pos k)) → RootAtLeast p q t
from_zero p q (pos k) f = f k refl
from_zero p q (negsuc k) f = tt

two_less : (m k : ℕ) → pos m -ℤ pos 2 ≡ pos k → m ≡ k + 2
two_less m k e = omega (arith, same (subst (λ (z : ℤ). Diff z (m + 0) (0 + 2)) e (sub (of_pos m) (of_pos 2))) (of_pos k))

module _ (E F m n N : ℕ) (few : F ≤ 4186116) (lo : 4096 * m ≤ n + 128) (hi : n ≤ 4096 * m + 5596)
    (below : n * n ≤ N) (above : N < suc n * suc n) where
  pub bounds : (g : ℤ) → nat_abs g * nat_abs g ≤ E * F → N + 379617280 * minus g ≡ 268435456 * E + 134212225 * F + 379617280 * plus g →
      RootAtLeast (pos (16 * E + 8 * F)) (pos 16 *ℤ g) (pos m -ℤ pos 2) × RootAtMost (pos (16 * E + 8 * F)) (pos 16 *ℤ g) (pos m +ℤ pos 2)
  bounds (pos h) cs is = (
    from_zero (pos p) (pos (16 * h)) (pos m -ℤ pos 2) (λ k e.
        weak 8192 11585 (16 * h) (lit< tt) (lit≤ tt) (sub (of_pos p) (of_pos (k * k)))
        (omega (arith, plus_low E F h n m cs few lo hi b a k (two_less m k e)))),
    strong 189808640 268429953 (16 * h) (lit< tt) (lit≤ tt) (neg (sub (of_pos p) (of_pos ((m + 2) * (m + 2)))))
        (omega (arith, plus_high E F h n m cs few lo hi b a)),
  )
    where
      p : ℕ
      p = 16 * E + 8 * F

      b : n * n ≤ 268435456 * E + 134212225 * F + 379617280 * h
      b = omega arith

      a : 268435456 * E + 134212225 * F + 379617280 * h < suc n * suc n
      a = omega arith
  bounds (negsuc h) cs is = (
    from_zero (pos p) (neg_ℤ (pos (16 * suc h))) (pos m -ℤ pos 2) (λ k e.
        strong 189808640 268429953 (16 * suc h) (lit< tt) (lit≤ tt) (sub (of_pos p) (of_pos (k * k)))
        (omega (arith, minus_low E F (suc h) n m cs few lo hi N i below above k (two_less m k e)))),
    rw (neg_ℤ-neg_ℤ (pos (16 * suc h)))
        (weak 655360 926819 (16 * suc h) (lit< tt) (lit≤ tt) (neg (sub (of_pos p) (of_pos ((m + 2) * (m + 2)))))
        (omega (arith, minus_high E F (suc h) n m cs few lo hi N i below above))),
  )
    where
      p : ℕ
      p = 16 * E + 8 * F

      i : N + 379617280 * suc h ≡ 268435456 * E + 134212225 * F
      i = omega arith
