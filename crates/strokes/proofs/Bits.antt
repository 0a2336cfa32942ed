-- The union of two masks, by bits, is `a | b` on the code's bytes, and that of accepted masks is one. Rests on the
-- logic's `bit_or` and on the bits of a byte.
use Prim.Native.Nat.{ℕ, zero, suc, ◌/◌, ◌%◌, ◌^◌, ◌<◌, ◌≤◌}
use mathlib.Core.Path.{◌≡◌, refl, sym, ap, ◌∙◌}
use mathlib.Core.Bool.{◌||◌}
use native.Mathlib.Nat.{mod-lt}
use native.Mathlib.Omega.{arith}
use lib.Dec.{eqb, lit<}
use lib.Bits.{bit_or, or_lt, or_shr, or_mod}
use Rattle.frames.specs.Bits.{bit_of}
use Rattle.frames.proofs.Output.{bits_lt, bit_bits, same_bits}
use Rattle.strokes.specs.Strokes.{union_of}

digit_below : (n : ℕ) → n % 2 < 2
digit_below n = mod-lt n (lit< tt)

-- of two binary digits
digit_or : (x y : ℕ) → x < 2 → y < 2 → eqb (bit_or x y) 1 ≡ eqb x 1 || eqb y 1
digit_or zero zero h l = refl
digit_or zero (suc zero) h l = refl
digit_or (suc zero) zero h l = refl
digit_or (suc zero) (suc zero) h l = refl
digit_or zero (suc (suc y)) h l = absurd (omega arith)
digit_or (suc zero) (suc (suc y)) h l = absurd (omega arith)
digit_or (suc (suc x)) y h l = absurd (omega arith)

-- each bit of `a | b`, of all numbers
pub bit_or_lem : (c a b : ℕ) → bit_of (bit_or a b) c ≡ bit_of a c || bit_of b c
bit_or_lem c a b =
    ap (λ (n : ℕ). eqb (n % 2) 1) (or_shr a b c) ∙ ap (λ (n : ℕ). eqb n 1) (or_mod (a / 2 ^ c) (b / 2 ^ c) 1)
    ∙ digit_or (a / 2 ^ c % 2) (b / 2 ^ c % 2) (digit_below (a / 2 ^ c)) (digit_below (b / 2 ^ c))

-- bit c of a union
pub bit_union : (a b c : ℕ) → c < 8 → bit_of (union_of a b) c ≡ bit_of a c || bit_of b c
unfolding union_of
bit_union a b c h = bit_bits 8 (λ c. bit_of a c || bit_of b c) c h

-- the union by bits is `a | b` on the code's bytes
pub union_is : (a b : ℕ) → a < 256 → b < 256 → union_of a b ≡ bit_or a b
unfolding union_of
union_is a b h l =
    same_bits 8 (union_of a b) (bit_or a b) (bits_lt 8 (λ c. bit_of a c || bit_of b c)) (or_lt 8 a b h l)
    (λ c k. bit_union a b c k ∙ sym (bit_or_lem c a b))

-- the union of accepted masks is an accepted mask
pub union_within : (a b : ℕ) → a ≤ 63 → b ≤ 63 → union_of a b ≤ 63
union_within a b h l = rw (union_is a b (omega arith) (omega arith)) (omega (arith, or_lt 6 a b (omega arith) (omega arith)))
