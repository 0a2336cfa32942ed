-- The 55 numbers of 32 bits that 220 bytes stand for: each four bytes with the lowest first, the oldest number first.
-- Rests on lists.
use Rattle.std.specs.Prelude.{ℕ, ◌+◌, ◌*◌, ◌^◌, List, get_or}
use Rattle.lists.specs.Each.{table}

abbrev pub number_of : ℕ → ℕ → ℕ → ℕ → ℕ
number_of a b c d = a + b * 2 ^ 8 + c * 2 ^ 16 + d * 2 ^ 24

abbrev pub number_at : List ℕ → ℕ → ℕ
number_at bytes k =
    number_of (get_or bytes (4 * k) 0) (get_or bytes (4 * k + 1) 0) (get_or bytes (4 * k + 2) 0) (get_or bytes (4 * k + 3) 0)

unfoldable pub numbers_of : List ℕ → List ℕ
numbers_of bytes = table 55 (number_at bytes)
