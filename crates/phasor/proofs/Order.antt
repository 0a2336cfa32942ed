-- The order of Z against whole numbers, for any P and Q: `between`, `lower`, and what "within 2" says of a level k (the four clauses on Z).
-- Rests on Rule.
use mathlib.Core.Logic.{⊎_elim}
use Prim.Native.Nat.{ℕ, zero, suc, ◌+◌, ◌*◌, ◌≤◌, ◌<◌}
use native.Mathlib.Nat.{le_trans}
use native.Mathlib.Omega.{arith}
use lib.IntN.{ℤ, pos, negsuc, neg_ℤ, ◌+ℤ◌, ◌-ℤ◌}
use Rattle.integers.proofs.Squares.{sq_mono, sq_lt, le_or_lt}
use Rattle.integers.proofs.Diff.{plus, minus, of, of_pos, sub}
use Rattle.phasor.specs.Exact.{RootAtLeast, RootAtMost}
use Rattle.phasor.proofs.Rule.{NotBelow, rule_gives, gives_rule}

-- r ≤ s, r < s, as natural numbers
abbrev Le : ℤ → ℤ → Type 0
Le r s = plus r + minus s ≤ plus s + minus r

abbrev Lt : ℤ → ℤ → Type 0
Lt r s = plus r + minus s < plus s + minus r

-- r + q√2 ≥ 0 and r ≤ s give s + q√2 ≥ 0
mono : (r s q : ℤ) → Le r s → NotBelow r q → NotBelow s q
mono (pos r) (pos s) (pos q) h k = tt
mono (pos r) (pos s) (negsuc q) h k = le_trans k (sq_mono (omega arith))
mono (pos r) (negsuc s) q h k = absurd (omega arith)
mono (negsuc r) (pos s) (pos q) h k = tt
mono (negsuc r) (pos s) (negsuc q) h k = absurd k
mono (negsuc r) (negsuc s) (pos q) h k = le_trans (sq_mono {a = suc s} {b = suc r} (omega arith)) k
mono (negsuc r) (negsuc s) (negsuc q) h k = absurd k

-- r + q√2 ≥ 0 and r < s exclude s + q√2 ≤ 0
exclude : (r s q : ℤ) → Lt r s → NotBelow r q → NotBelow (neg_ℤ s) (neg_ℤ q) → ⊥
exclude (pos r) (pos zero) q h k l = omega (arith, h)
exclude (pos r) (pos (suc s)) (pos zero) h k l = omega (arith, l)
exclude (pos r) (pos (suc s)) (pos (suc q)) h k l = l
exclude (pos r) (pos (suc s)) (negsuc q) h k l = omega (arith, k, l, sq_lt {a = r} {b = suc s} (omega arith))
exclude (pos r) (negsuc s) q h k l = omega (arith, h)
exclude (negsuc r) (pos zero) (pos zero) h k l = omega (arith, k)
exclude (negsuc r) (pos zero) (pos (suc q)) h k l = omega (arith, l)
exclude (negsuc r) (pos (suc s)) (pos zero) h k l = omega (arith, l)
exclude (negsuc r) (pos (suc s)) (pos (suc q)) h k l = l
exclude (negsuc r) (negsuc s) (pos zero) h k l = omega (arith, k)
exclude (negsuc r) (negsuc s) (pos (suc q)) h k l = omega (arith, k, l, sq_lt {a = suc s} {b = suc r} (omega arith))
exclude (negsuc r) s (negsuc q) h k l = k

-- p − a² against p − b²
falls : (p : ℤ) {a b : ℕ} → a ≤ b → Le (p -ℤ pos (b * b)) (p -ℤ pos (a * a))
falls p {a} {b} h = omega (arith, sq_mono h, sub (of p) (of_pos (b * b)), sub (of p) (of_pos (a * a)))

falls_lt : (p : ℤ) {a b : ℕ} → a < b → Lt (p -ℤ pos (b * b)) (p -ℤ pos (a * a))
falls_lt p {a} {b} h = omega (arith, sq_lt h, sub (of p) (of_pos (b * b)), sub (of p) (of_pos (a * a)))

-- Z ≥ a and Z ≤ b give a ≤ b
pub between : (p q : ℤ) (a b : ℕ) → RootAtLeast p q (pos a) → RootAtMost p q (pos b) → a ≤ b
between p q a b h k =
    ⊎_elim (λ l. l) (λ l. absurd (exclude (p -ℤ pos (a * a)) (p -ℤ pos (b * b)) q (falls_lt p l) (rule_gives h) (rule_gives k))) (le_or_lt a b)

-- Z ≥ b and a ≤ b give Z ≥ a
lower : (p q a b : ℤ) → Le a b → RootAtLeast p q b → RootAtLeast p q a
lower p q (pos a) (pos b) h k =
    gives_rule (p -ℤ pos (a * a)) q (mono (p -ℤ pos (b * b)) (p -ℤ pos (a * a)) q (falls p {a = a} {b = b} (omega arith)) (rule_gives k))
lower p q (pos a) (negsuc b) h k = absurd (omega arith)
lower p q (negsuc a) b h k = tt

-- ---- a level k, and an amplitude m within 2 of Z

-- Z ≥ k + 2 gives m ≥ k
pub over_clear : (p q : ℤ) (m : ℕ) → RootAtMost p q (pos m +ℤ pos 2) → (k : ℕ) → RootAtLeast p q (pos k +ℤ pos 2) → k ≤ m
over_clear p q m high k h = omega (arith, between p q (k + 2) (m + 2) h high)

-- m ≥ k gives Z ≥ k − 2
pub over_near : (p q : ℤ) (m : ℕ) → RootAtLeast p q (pos m -ℤ pos 2) → (k : ℕ) → k ≤ m → RootAtLeast p q (pos k -ℤ pos 2)
over_near p q m low k h = lower p q (pos k -ℤ pos 2) (pos m -ℤ pos 2) (omega (arith, sub (of_pos k) (of_pos 2), sub (of_pos m) (of_pos 2))) low

-- Z < k − 2 gives m < k
pub loss_clear : (p q : ℤ) (m : ℕ) → RootAtLeast p q (pos m -ℤ pos 2) → (k : ℕ) → ¬ (RootAtLeast p q (pos k -ℤ pos 2)) → m < k
loss_clear p q m low k f = ⊎_elim (λ h. absurd (f (over_near p q m low k h))) (λ h. h) (le_or_lt k m)

-- m < k gives Z < k + 2
pub loss_near : (p q : ℤ) (m : ℕ) → RootAtMost p q (pos m +ℤ pos 2) → (k : ℕ) → m < k → ¬ (RootAtLeast p q (pos k +ℤ pos 2))
loss_near p q m high k h z = omega (arith, over_clear p q m high k z)
