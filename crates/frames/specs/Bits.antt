-- The bits of a byte: how the enable byte and the reset mask are read, and how the output byte is made.
-- Rests on nothing.
use Rattle.std.specs.Prelude.{ℕ, zero, suc, ◌+◌, ◌/◌, ◌%◌, ◌^◌, Bool, ◌&&◌, cond, eqb}

-- bit c of a byte is 1, bit 0 the lowest
abbrev pub bit_of : ℕ → ℕ → Bool
bit_of byte c = eqb (byte / 2 ^ c % 2) 1

-- the byte whose bit c is 1 where the test holds at c, for the c below n; its other bits are 0
unfoldable pub bits_below : ℕ → (ℕ → Bool) → ℕ
bits_below zero p = 0
bits_below (suc n) p = bits_below n p + cond (p n) (2 ^ n) 0

-- "A channel is enabled in a frame if its bit and bit 6 are both 1."
abbrev pub enabled_in : ℕ → ℕ → Bool
enabled_in enable c = bit_of enable c && bit_of enable 6
