-- Signed locals of the machine. A signed local holds bits, and an operation works on what the machine reads back from them, `to_z w bits`.
-- `Holds w n z k` says that the bits n read back as z and that the size of z is at most k: one lemma for each way to come by a value, and for each
-- operation one that gives the result's from the operands' (`sum`) and one that answers its need (`sum_fits`). Rests on Size.
use Prim.Native.Nat.{ℕ, zero, suc, zero-le, ◌+◌, ◌*◌, ◌≤◌, ◌<◌, ◌^◌}
use native.Mathlib.Nat.{le_refl, lt_of_le_of_lt, mul-le-mul}
use native.Mathlib.Omega.{arith}
use mathlib.Core.Path.{◌≡◌, ◌∙◌, subst⁻¹}
use mathlib.Core.Bool.{Bool, true, ◌&&◌}
use mathlib.Core.List.{List, [], ◌∷◌}
use lib.Dec.{T, leb, leb→le}
use lib.ListN.{get_or}
use lib.IntN.{ℤ, pos, negsuc, nat_abs, ◌+ℤ◌, ◌*ℤ◌}
use lib.Signed.{mag, non_neg}
use mir.Syntax.{Width}
use mir.Val.{SFits, Fits, bits, hbits, to_z, of_z}
use mir.Facts.{to_z-of_z, and_yes}
use Rattle.integers.proofs.Size.{abs_add, abs_mul}

mag_abs : (z : ℤ) → mag z ≤ nat_abs z
mag_abs (pos a) = le_refl a
mag_abs (negsuc a) = omega arith

sfits_abs : {w : Width} {z : ℤ} → nat_abs z < 2 ^ hbits w → SFits w z
sfits_abs {z} h = record { sfits = lt_of_le_of_lt (mag_abs z) h }

pub record Holds (w : Width) (n : ℕ) (z : ℤ) (k : ℕ) : Type 0 where
  pub reads : to_z w n ≡ z
  pub size : nat_abs z ≤ k

-- ---- ways in

-- a parameter, a field, a negative literal: the local has the bits of z
pub held : {w : Width} {z : ℤ} {k : ℕ} → nat_abs z ≤ k → k < 2 ^ hbits w → Holds w (of_z w z) z k
held p q = record { reads = to_z-of_z (sfits_abs (lt_of_le_of_lt p q)); size = p }

-- a callee's result a, of which its contract says that it is b
pub held_as : {w : Width} {a b : ℤ} {k : ℕ} → a ≡ b → nat_abs b ≤ k → k < 2 ^ hbits w → Holds w (of_z w a) b k
held_as {w} {b} {k} e p q = subst⁻¹ (λ (z : ℤ). Holds w (of_z w z) b k) e (held p q)

-- ---- operations

-- r is an operation's exact result, which is z, of a size that fits
module _ {w : Width} (r : ℤ) {z : ℤ} {l : ℕ} (e : r ≡ z) (p : nat_abs z ≤ l) (f : l < 2 ^ hbits w) where
  result_fits : SFits w r
  result_fits = rw e (sfits_abs (lt_of_le_of_lt p f))

  result : Holds w (of_z w r) z l
  result = record { reads = to_z-of_z result_fits ∙ e; size = p }

module _ {w : Width} {m n : ℕ} {a b : ℤ} {j k : ℕ} (x : Holds w m a j) (y : Holds w n b k) where
  sum_is : to_z w m +ℤ to_z w n ≡ a +ℤ b
  sum_is = λ i. x.reads i +ℤ y.reads i

  sum_size : nat_abs (a +ℤ b) ≤ j + k
  sum_size = omega (arith, abs_add a b)

  pub sum_fits : j + k < 2 ^ hbits w → SFits w (to_z w m +ℤ to_z w n)
  sum_fits = result_fits (to_z w m +ℤ to_z w n) sum_is sum_size

  pub sum : j + k < 2 ^ hbits w → Holds w (of_z w (to_z w m +ℤ to_z w n)) (a +ℤ b) (j + k)
  sum = result (to_z w m +ℤ to_z w n) sum_is sum_size

  prod_is : to_z w m *ℤ to_z w n ≡ a *ℤ b
  prod_is = λ i. x.reads i *ℤ y.reads i

  prod_size : nat_abs (a *ℤ b) ≤ j * k
  prod_size = rw (abs_mul a b) (mul-le-mul x.size y.size)

  pub prod_fits : j * k < 2 ^ hbits w → SFits w (to_z w m *ℤ to_z w n)
  prod_fits = result_fits (to_z w m *ℤ to_z w n) prod_is prod_size

  pub prod : j * k < 2 ^ hbits w → Holds w (of_z w (to_z w m *ℤ to_z w n)) (a *ℤ b) (j * k)
  prod = result (to_z w m *ℤ to_z w n) prod_is prod_size

-- a cast to an unsigned width
module _ {w w' : Width} {m : ℕ} {a : ℤ} {j : ℕ} (x : Holds w m a j) where
  pub to_unsigned : T (non_neg a) → j < 2 ^ bits w' → T (non_neg (to_z w m)) × Fits w' (nat_abs (to_z w m))
  to_unsigned t f = rw x.reads (t, record { fits = lt_of_le_of_lt x.size f })

-- ---- a table of signed numbers, each of size at most K, by one test that antt computes

abbrev pub small : ℕ → List ℤ → Bool
small K [] = true
small K (z ∷ zs) = leb (nat_abs z) K && small K zs

pub small_at : (K : ℕ) (zs : List ℤ) → T (small K zs) → (i : ℕ) → nat_abs (get_or zs i (pos 0)) ≤ K
small_at K [] t i = zero-le
small_at K (z ∷ zs) t zero = leb→le (nat_abs z) K (and_yes (leb (nat_abs z) K) (small K zs) t).0
small_at K (z ∷ zs) t (suc i) = small_at K zs (and_yes (leb (nat_abs z) K) (small K zs) t).1 i
