-- Squares and lengths of vectors of natural numbers: monotony both ways, Cauchy's inequality, the triangle inequality, the whole part of a square
-- root.
-- `omega` multiplies products out but never multiplies facts, so these hand it the products. Rests on nothing of the project.
use mathlib.Core.Path.{◌≡◌}
use mathlib.Core.Logic.{◌⊎◌, inl, inr, ⊎_elim}
use Prim.Native.Nat.{ℕ, zero, suc, ◌+◌, ◌*◌, ◌-◌, ◌≤◌, ◌<◌}
use native.Mathlib.Nat.{mul-le-mul}
use native.Mathlib.Omega.{arith}
use native.Mathlib.Decide.{dec_le}

pub le_or_lt : (a b : ℕ) → (a ≤ b) ⊎ (b < a)
le_or_lt a b = go (dec_le a b)
  where
    go : Dec (a ≤ b) → (a ≤ b) ⊎ (b < a)
    go (yes h) = inl h
    go (no h) = inr (omega arith)

-- the larger as the smaller and a rest
pub split : {a b : ℕ} → a ≤ b → (d : ℕ) × (b ≡ a + d)
split {a} {b} h = (b - a, omega arith)

-- how far two numbers are apart
pub distance : (a b : ℕ) → (z : ℕ) × ((a ≡ b + z) ⊎ (b ≡ a + z))
distance a b = ⊎_elim (λ h. (b - a, inr (omega arith))) (λ h. (a - b, inl (omega arith))) (le_or_lt a b)

pub sq_mono : {a b : ℕ} → a ≤ b → a * a ≤ b * b
sq_mono h = mul-le-mul h h

pub sq_lt : {a b : ℕ} → a < b → a * a < b * b
sq_lt {a} {b} h = omega (arith, mul-le-mul {n₁ = suc a} {m₁ = suc a} {n₂ = b} {m₂ = b} h h)

pub sq_cancel : {a b : ℕ} → a * a ≤ b * b → a ≤ b
sq_cancel {a} {b} h = ⊎_elim (λ k. k) (λ k. absurd (never (sq_lt k))) (le_or_lt a b)
  where
    never : b * b < a * a → ⊥
    never k = omega arith

pub sq_cancel_lt : {a b : ℕ} → a * a < b * b → a < b
sq_cancel_lt {a} {b} h = ⊎_elim (λ k. absurd (never (sq_mono k))) (λ k. k) (le_or_lt b a)
  where
    never : b * b ≤ a * a → ⊥
    never k = omega arith

-- 2pq ≤ p² + q²
amgm : (p q : ℕ) → 2 * (p * q) ≤ p * p + q * q
amgm p q = ⊎_elim (λ h. up p q h) (λ h. omega (arith, up q p (omega arith))) (le_or_lt p q)
  where
    up : (p q : ℕ) → p ≤ q → 2 * (p * q) ≤ p * p + q * q
    up p q h = let s = split h in rw s.1 (omega arith)

-- (q − p)(s − r) is not negative
pub rearrange : {p q r s : ℕ} → p ≤ q → r ≤ s → p * s + q * r ≤ p * r + q * s
rearrange {p} {q} {r} {s} h k = let u = split h in let v = split k in rw (u.1, v.1) (omega arith)

-- Cauchy's inequality
pub cauchy : (a b c d : ℕ) → (a * c + b * d) * (a * c + b * d) ≤ (a * a + b * b) * (c * c + d * d)
cauchy a b c d = omega (arith, amgm (a * d) (b * c))

-- the triangle inequality: two vectors no longer than s and t have a sum no longer than s + t
pub triangle : (a b c d s t : ℕ) → a * a + b * b ≤ s * s → c * c + d * d ≤ t * t →
    (a + c) * (a + c) + (b + d) * (b + d) ≤ (s + t) * (s + t)
triangle a b c d s t h k =
    let e : a * c + b * d ≤ s * t = sq_cancel (omega (arith, cauchy a b c d, mul-le-mul h k)) in
    omega arith

-- the whole part of a square root
pub root : (N : ℕ) → (n : ℕ) × (n * n ≤ N) × (N < suc n * suc n)
root zero = (0, omega arith, omega arith)
root (suc N) = let r = root N in
    ⊎_elim (λ h. next r.0 r.2 h) (λ h. (r.0, omega (arith, r.1), h)) (le_or_lt (suc r.0 * suc r.0) (suc N))
  where
    next : (n : ℕ) → N < suc n * suc n → suc n * suc n ≤ suc N → (n : ℕ) × (n * n ≤ suc N) × (suc N < suc n * suc n)
    next n k h = (suc n, h, omega arith)
