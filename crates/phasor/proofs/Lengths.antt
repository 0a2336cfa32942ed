-- One CORDIC step on lengths. k is the step's power of two; (x, y) goes to (x', y'), each within k of the turned vector (kx + y, ky − x) after
-- division by k. All numbers are natural: y is the size of the signed y. `up` and `down` carry a bound of the length over the step, forth and back.
-- Rests on nothing of CORDIC, so that a step is here what its record `Step` says.
use mathlib.Core.Path.{◌≡◌, ap}
use mathlib.Core.Logic.{◌⊎◌, ⊎_elim}
use Prim.Native.Nat.{ℕ, ◌+◌, ◌*◌, ◌≤◌, ◌<◌}
use native.Mathlib.Nat.{mul-le-mul, mul-le-mul_left, mul-le-mul_right, le_of_mul-le-mul_left, le_of_lt, le_trans}
use native.Mathlib.Omega.{arith}
use Rattle.integers.proofs.Squares.{triangle, sq_mono}

pub record Step (k x y x' y' : ℕ) : Type 0 where
  pub z : ℕ  -- the size of ky − x
  pub gap : (k * y ≡ x + z) ⊎ (x ≡ k * y + z)
  pub x_below : k * x' < k * x + y + k
  pub x_above : k * x + y < k * x' + k
  pub y_below : k * y' < z + k
  pub y_above : z < k * y' + k
  pub grows : x ≤ x'
  pub small : (k * y' ≤ x) ⊎ (k * y' + x < k * y + k)

-- the turned vector is longer by the factor √(k² + 1)
turned : (k x y z : ℕ) → (k * y ≡ x + z) ⊎ (x ≡ k * y + z) →
    (k * x + y) * (k * x + y) + z * z ≡ (k * k + 1) * (x * x + y * y)
turned k x y z g = ⊎_elim one two g
  where
    one : k * y ≡ x + z → (k * x + y) * (k * x + y) + z * z ≡ (k * k + 1) * (x * x + y * y)
    one e = omega (arith, ap (λ (t : ℕ). t * t) e, ap (λ (t : ℕ). x * t) e)

    two : x ≡ k * y + z → (k * x + y) * (k * x + y) + z * z ≡ (k * k + 1) * (x * x + y * y)
    two e = omega (arith, ap (λ (t : ℕ). t * t) e, ap (λ (t : ℕ). (k * y) * t) e)

-- (αn + β)² against (α'n + γ)², coefficient by coefficient
pub linear : (c d α β α' γ n : ℕ) → c * (α * α) ≤ d * (α' * α') → c * (α * β) ≤ d * (α' * γ) → c * (β * β) ≤ d * (γ * γ) →
    c * ((α * n + β) * (α * n + β)) ≤ d * ((α' * n + γ) * (α' * n + γ))
linear c d α β α' γ n h k l = omega (arith, mul-le-mul_right (n * n) h, mul-le-mul_right n k)

-- a chain of three
through : {a b c d e : ℕ} → a ≤ b → c ≤ d → b + d ≤ e → a + c ≤ e
through h k l = omega arith

-- the factor k² taken out
out : (k u x y f g : ℕ) → (u * (k * x)) * (u * (k * x)) + (u * (k * y)) * (u * (k * y)) ≤ (k * f + k * g) * (k * f + k * g) →
    (k * k) * ((u * u) * (x * x + y * y)) ≤ (k * k) * ((f + g) * (f + g))
out k u x y f g h = omega arith

over : (k u x y z f g h : ℕ) → (u * (k * x + y)) * (u * (k * x + y)) + (u * z) * (u * z) ≤ (k * f + k * g) * (k * f + k * g) →
    (k * x + y) * (k * x + y) + z * z ≡ (k * k + 1) * (x * x + y * y) → (k * k) * ((f + g) * (f + g)) ≤ (k * k + 1) * (h * h) →
    (k * k + 1) * ((u * u) * (x * x + y * y)) ≤ (k * k + 1) * (h * h)
over k u x y z f g h p q r = le_trans (same (ap (λ (v : ℕ). (u * u) * v) q)) (le_trans (widen p) r)
  where
    same : (u * u) * ((k * x + y) * (k * x + y) + z * z) ≡ (u * u) * ((k * k + 1) * (x * x + y * y)) →
        (k * k + 1) * ((u * u) * (x * x + y * y)) ≤ (u * (k * x + y)) * (u * (k * x + y)) + (u * z) * (u * z)
    same e = omega (arith, e)

    widen : (u * (k * x + y)) * (u * (k * x + y)) + (u * z) * (u * z) ≤ (k * f + k * g) * (k * f + k * g) →
        (u * (k * x + y)) * (u * (k * x + y)) + (u * z) * (u * z) ≤ (k * k) * ((f + g) * (f + g))
    widen p = le_trans p (omega arith)

module _ (u g k x y x' y' : ℕ) (s : Step k x y x' y') (pos : 0 < k) (two : 2 * (u * u) ≤ g * g) where
  -- an error of k in either coordinate has at most the length kg, in units of 1/u
  error : (u * k) * (u * k) + (u * k) * (u * k) ≤ (k * g) * (k * g)
  error = omega (arith, mul-le-mul_left (k * k) two)

  pub up : (t f : ℕ) → (u * u) * (x * x + y * y) ≤ t * t → (k * k + 1) * (t * t) ≤ (k * k) * (f * f) →
      (u * u) * (x' * x' + y' * y') ≤ (f + g) * (f + g)
  up t f h e =
      let z : ℕ = s.z in
      let a : ℕ = u * (k * x + y) in
      let b : ℕ = u * z in
      let long : a * a + b * b ≤ (k * f) * (k * f) =
      omega (arith, ap (λ (v : ℕ). (u * u) * v) (turned k x y z s.gap), mul-le-mul_left (k * k + 1) h, e) in
      let tri : (a + u * k) * (a + u * k) + (b + u * k) * (b + u * k) ≤ (k * f + k * g) * (k * f + k * g) =
      triangle a b (u * k) (u * k) (k * f) (k * g) long error in
      let cx : (u * (k * x')) * (u * (k * x')) ≤ (a + u * k) * (a + u * k) = sq_mono (omega (arith, mul-le-mul_left u (le_of_lt s.x_below))) in
      let cy : (u * (k * y')) * (u * (k * y')) ≤ (b + u * k) * (b + u * k) = sq_mono (omega (arith, mul-le-mul_left u (le_of_lt s.y_below))) in
      le_of_mul-le-mul_left {k = k * k} (out k u x' y' f g (through cx cy tri)) (omega (arith, mul-le-mul pos pos))

  pub down : (t f : ℕ) → (u * u) * (x' * x' + y' * y') ≤ t * t → (k * k) * ((t + g) * (t + g)) ≤ (k * k + 1) * (f * f) →
      (u * u) * (x * x + y * y) ≤ f * f
  down t f h e =
      let z : ℕ = s.z in
      let a : ℕ = u * (k * x') in
      let b : ℕ = u * (k * y') in
      let long : a * a + b * b ≤ (k * t) * (k * t) = omega (arith, mul-le-mul_left (k * k) h) in
      let tri : (a + u * k) * (a + u * k) + (b + u * k) * (b + u * k) ≤ (k * t + k * g) * (k * t + k * g) =
      triangle a b (u * k) (u * k) (k * t) (k * g) long error in
      let cx : (u * (k * x + y)) * (u * (k * x + y)) ≤ (a + u * k) * (a + u * k) =
      sq_mono (omega (arith, mul-le-mul_left u (le_of_lt s.x_above))) in
      let cy : (u * z) * (u * z) ≤ (b + u * k) * (b + u * k) = sq_mono (omega (arith, mul-le-mul_left u (le_of_lt s.y_above))) in
      le_of_mul-le-mul_left {k = k * k + 1}
      (over k u x y z t g f (through cx cy tri) (turned k x y z s.gap) e) (omega arith)
