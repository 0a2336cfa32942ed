-- Laws of a byte that is made of bits, one bit a turn, from bit 0: it is as the definition says, its bits read back, and
-- it is known by them. Rests on the definitions of the bits alone.
use Prim.Native.Nat.{ℕ, zero, suc, ◌+◌, ◌-◌, ◌*◌, ◌/◌, ◌%◌, ◌^◌, ◌<◌, ◌≤◌}
use mathlib.Core.Path.{◌≡◌, refl, sym, ap, ◌∙◌}
use mathlib.Core.Bool.{Bool, true, false, cond}
use native.Mathlib.Nat.{pow-suc, pow-succ', one-mul, one-le-pow, add-zero, add-suc}
use native.Mathlib.Nat.{add-mul-div_left, add-div_right, div-eq_of_lt, div-div-eq-div-mul, add-mul-mod_self_left}
use native.Mathlib.Decide.{ℕ_discrete}
use native.Mathlib.Numerals.{add-one}
use native.Mathlib.Omega.{arith}
use lib.Dec.{eqb, lit<}
use lib.Pow.{shl_exact}
use borrow.Author.Tests.{eqb-true, eqb-false}
use Rattle.frames.specs.Bits.{bit_of, bits_below}

-- one bit more
pub bits_more : (k : ℕ) (p : ℕ → Bool) (out : ℕ) (v : Bool) → out ≡ bits_below k p → v ≡ p k → out + cond v (2 ^ k) 0 ≡ bits_below (k + 1) p
unfolding bits_below
bits_more k p out v e q = rw (add-one, e, q)

-- bits by equal tests
pub bits_same : (n : ℕ) (p q : ℕ → Bool) → ((k : ℕ) → k < n → p k ≡ q k) → bits_below n p ≡ bits_below n q
unfolding bits_below
bits_same zero p q h = refl
bits_same (suc n) p q h = rw (bits_same n p q (λ k l. h k (omega arith)), h n (omega arith))

cond_le : (b : Bool) (n : ℕ) → cond b n 0 ≤ n
cond_le true n = omega arith
cond_le false n = omega arith

pub bits_lt : (k : ℕ) (p : ℕ → Bool) → bits_below k p < 2 ^ k
unfolding bits_below
bits_lt zero p = lit< tt
bits_lt (suc k) p = omega (arith, bits_lt k p, cond_le (p k) (2 ^ k), pow-suc 2 k)

-- a higher bit does not touch the lower ones, and the highest is read off
below_bit : (x q k : ℕ) (b : Bool) → 0 < q → (x + cond b (q * (2 * k)) 0) / q % 2 ≡ x / q % 2
below_bit x q k true h = rw (add-mul-div_left x (2 * k) h) (add-mul-mod_self_left (x / q) 2 k)
below_bit x q k false h = rw add-zero

top_bit : (x q : ℕ) (b : Bool) → x < q → eqb ((x + cond b q 0) / q % 2) 1 ≡ b
top_bit x q true h = rw (add-div_right x (let p : 0 < q = omega arith in p), div-eq_of_lt h)
top_bit x q false h = rw (add-zero, div-eq_of_lt h)

power_split : (c d : ℕ) → 2 ^ suc (c + d) ≡ 2 ^ c * (2 * 2 ^ d)
power_split c zero = rw (add-zero, pow-succ' 2 c) (omega arith)
power_split c (suc d) = rw (add-suc c d, pow-succ' 2 (suc (c + d)), power_split c d, pow-succ' 2 d) (omega arith)

-- the bits of a byte made of bits are those it was made of
pub bit_bits : (n : ℕ) (p : ℕ → Bool) (c : ℕ) → c < n → bit_of (bits_below n p) c ≡ p c
unfolding bits_below
bit_bits zero p c h = absurd (omega arith)
bit_bits (suc n) p c h = by (ℕ_discrete c n) (bit_bits n p c)
  where
    by : Dec (c ≡ n) → (c < n → bit_of (bits_below n p) c ≡ p c) → bit_of (bits_below n p + cond (p n) (2 ^ n) 0) c ≡ p c
    by (yes e) more = rw e (top_bit (bits_below n p) (2 ^ n) (p n) (bits_lt n p))
    by (no e) more =
        let h : n ≡ suc (c + (n - suc c)) = omega arith in
        let q : 2 ^ n ≡ 2 ^ c * (2 * 2 ^ (n - suc c)) = ap (λ (k : ℕ). 2 ^ k) h ∙ power_split c (n - suc c) in
        rw q (ap (λ (y : ℕ). eqb y 1) (below_bit (bits_below n p) (2 ^ c) (2 ^ (n - suc c)) (p n) (one-le-pow c 2 (omega arith))) ∙ more (omega arith))

-- bit c of half a number is bit c + 1 of it
half_bit : (x c : ℕ) → bit_of (x / 2) c ≡ bit_of x (suc c)
half_bit x c = rw (div-div-eq-div-mul, pow-succ' 2 c)

low_bit : (x y : ℕ) → bit_of x 0 ≡ bit_of y 0 → x % 2 ≡ y % 2
low_bit x y e = by (bit_of x 0) refl
  where
    by : (b : Bool) → bit_of x 0 ≡ b → x % 2 ≡ y % 2
    by true q = omega (arith, eqb-true (x / 1 % 2) 1 q, eqb-true (y / 1 % 2) 1 (sym e ∙ q))
    by false q = omega (arith, eqb-false (x / 1 % 2) 1 q, eqb-false (y / 1 % 2) 1 (sym e ∙ q))

-- numbers of n bits are equal if their bits are
pub same_bits : (n x y : ℕ) → x < 2 ^ n → y < 2 ^ n → ((c : ℕ) → c < n → bit_of x c ≡ bit_of y c) → x ≡ y
same_bits zero x y h k e = omega arith
same_bits (suc n) x y h k e =
    let halves : x / 2 ≡ y / 2 = same_bits n (x / 2) (y / 2) (omega (arith, pow-succ' 2 n)) (omega (arith, pow-succ' 2 n))
    (λ c l. half_bit x c ∙ e (suc c) (omega arith) ∙ sym (half_bit y c)) in
    omega (arith, low_bit x y (e 0 (omega arith)))

-- 1 shifted to a place of a byte
pub shifted : (c : ℕ) → c < 8 → 1 * 2 ^ c % 256 ≡ 2 ^ c
shifted c h = omega (arith, shl_exact {a = 1} 1 c 8 (lit< tt) (omega arith), one-mul (2 ^ c))
