-- Integers as differences of natural numbers: `Diff z u v` says that z is u − v. It is closed under sum, difference and product, so that a fact
-- about integers becomes one about natural numbers, multiplied out, which `omega` proves. Rests on nothing of the project.
use mathlib.Core.Path.{◌≡◌, ap}
use mathlib.Core.Logic.{◌⊎◌, inl, inr}
use mathlib.Core.Bool.{Bool, true, false, not, cond}
use Prim.Native.Nat.{ℕ, zero, suc, ◌+◌, ◌*◌, ◌-◌, ◌≤◌, ◌<◌}
use native.Mathlib.Omega.{arith}
use lib.Dec.{T, ltb, ltb→lt, nltb→le}
use lib.IntN.{ℤ, pos, negsuc, neg_ℤ, nat_abs, sub_ℕ, ◌+ℤ◌, ◌-ℤ◌, ◌*ℤ◌}

-- the positive part and the negative part
abbrev pub plus : ℤ → ℕ
plus (pos n) = n
plus (negsuc n) = 0

abbrev pub minus : ℤ → ℕ
minus (pos n) = 0
minus (negsuc n) = suc n

pub record Diff (z : ℤ) (u v : ℕ) : Type 0 where
  pub eq : u + minus z ≡ v + plus z

-- ---- ways in

pub of : (z : ℤ) → Diff z (plus z) (minus z)
of z = record { eq = omega arith }

pub of_pos : (n : ℕ) → Diff (pos n) n 0
of_pos n = record { eq = omega arith }

of_sub : (a b : ℕ) → Diff (sub_ℕ a b) a b
of_sub a b = go (ltb a b) (λ t. ltb→lt a b t) (λ t. nltb→le a b t)
  where
    go : (c : Bool) → (T c → a < b) → (T (not c) → b ≤ a) → Diff (cond c (negsuc (b - suc a)) (pos (a - b))) a b
    go true h k = let l = h tt in record { eq = omega arith }
    go false h k = let l = k tt in record { eq = omega arith }

-- the same integer as another difference
pub shift : {z : ℤ} {u v : ℕ} (u' v' : ℕ) → Diff z u v → u + v' ≡ u' + v → Diff z u' v'
shift u' v' d e = record { eq = omega arith }

-- ---- operations

pub add : {x y : ℤ} {u v s t : ℕ} → Diff x u v → Diff y s t → Diff (x +ℤ y) (u + s) (v + t)
add {x = pos a} {y = pos b} d e = record { eq = omega arith }
add {x = pos a} {y = negsuc b} {u} {v} {s} {t} d e = shift (u + s) (v + t) (of_sub a (suc b)) (omega arith)
add {x = negsuc a} {y = pos b} {u} {v} {s} {t} d e = shift (u + s) (v + t) (of_sub b (suc a)) (omega arith)
add {x = negsuc a} {y = negsuc b} d e = record { eq = omega arith }

pub neg : {x : ℤ} {u v : ℕ} → Diff x u v → Diff (neg_ℤ x) v u
neg {x = pos zero} d = record { eq = omega arith }
neg {x = pos (suc n)} d = record { eq = omega arith }
neg {x = negsuc n} d = record { eq = omega arith }

pub sub : {x y : ℤ} {u v s t : ℕ} → Diff x u v → Diff y s t → Diff (x -ℤ y) (u + t) (v + s)
sub d e = add d (neg e)

-- u is a more than v, or v is a more than u
pub up_by : {a u v : ℕ} → Diff (pos a) u v → u ≡ v + a
up_by d = omega arith

pub down_by : {a u v : ℕ} → Diff (negsuc a) u v → v ≡ u + suc a
down_by d = omega arith

pub mul : {x y : ℤ} {u v s t : ℕ} → Diff x u v → Diff y s t → Diff (x *ℤ y) (u * s + v * t) (u * t + v * s)
mul {x = pos a} {y = pos b} {u} {v} {s} {t} d e =
    shift (u * s + v * t) (u * t + v * s) (of_pos (a * b)) (rw (up_by d, up_by e) (omega arith))
mul {x = pos a} {y = negsuc b} {u} {v} {s} {t} d e =
    shift (u * s + v * t) (u * t + v * s) (neg (of_pos (a * suc b))) (rw (up_by d, down_by e) (omega arith))
mul {x = negsuc a} {y = pos b} {u} {v} {s} {t} d e =
    shift (u * s + v * t) (u * t + v * s) (neg (of_pos (suc a * b))) (rw (down_by d, up_by e) (omega arith))
mul {x = negsuc a} {y = negsuc b} {u} {v} {s} {t} d e =
    shift (u * s + v * t) (u * t + v * s) (of_pos (suc a * suc b)) (rw (down_by d, down_by e) (omega arith))

-- ---- ways out

-- the square of the size, and the size
pub square : {z : ℤ} {u v : ℕ} → Diff z u v → nat_abs z * nat_abs z + 2 * (u * v) ≡ u * u + v * v
square {z = pos a} {u} {v} d = rw (up_by d) (omega arith)
square {z = negsuc a} {u} {v} d = rw (down_by d) (omega arith)

pub size : {z : ℤ} {u v : ℕ} → Diff z u v → (u ≡ v + nat_abs z) ⊎ (v ≡ u + nat_abs z)
size {z = pos a} d = inl (up_by d)
size {z = negsuc a} d = inr (down_by d)

-- two readings of one integer
pub same : {x : ℤ} {u v s t : ℕ} → Diff x u v → Diff x s t → u + t ≡ s + v
same {x = pos a} d e = omega arith
same {x = negsuc a} d e = omega arith

-- two integers of one reading
pub agree : {x y : ℤ} {u v s t : ℕ} → Diff x u v → Diff y s t → u + t ≡ s + v → x ≡ y
agree {x} {y} d e h = equal x y (omega arith)
  where
    equal : (x y : ℤ) → plus x + minus y ≡ plus y + minus x → x ≡ y
    equal (pos a) (pos b) e = ap pos (omega arith)
    equal (pos a) (negsuc b) e = absurd (omega arith)
    equal (negsuc a) (pos b) e = absurd (omega arith)
    equal (negsuc a) (negsuc b) e = ap negsuc (omega arith)
