-- What the own functions of this crate promise each other. No promise of an entry point cites this file.
use Rattle.std.specs.Prelude.{◌≡◌, ℕ, zero, suc, ◌+◌, ◌*◌, ◌%◌, ◌^◌, ◌<◌, ◌≤◌, List, length, slice_index}
use Rattle.std.proofs.lemmas.List.Edits.{sets}
use Rattle.lists.specs.Each.{table}
use Rattle.frames.specs.Cells.{cells_of_frame}
use Rattle.generator.specs.Generator.{top_ten_bits, enable_byte}

-- Of 55 numbers that begin at `from`, the sum of those 24 and 55 places back from the one that comes next.
abbrev pub sum_at : List ℕ → ℕ → ℕ
sum_at numbers from = (slice_index numbers (from + 31) + slice_index numbers from) % 2 ^ 32

-- The next six numbers: each of them is more than six places from those that it is the sum of.
abbrev pub six_at : List ℕ → ℕ → ℕ → ℕ
six_at numbers from k = sum_at numbers (from + k)

unfoldable pub six_sums : List ℕ → ℕ → List ℕ
six_sums numbers from = table 6 (six_at numbers from)

abbrev pub code_of_six : List ℕ → ℕ → ℕ
code_of_six six c = top_ten_bits (slice_index six c)

unfoldable pub codes_of_six : List ℕ → List ℕ
codes_of_six six = table 6 (code_of_six six)

-- The 55 numbers that began at `from` begin at `place` now, and those of seven frames have room behind them.
pub record Moved (old : List ℕ) (from : ℕ) (new : List ℕ) (place : ℕ) : Type 0 where
  pub kept : length new ≡ length old
  pub room : place + 97 ≤ length new
  pub same : (k : ℕ) → k < 55 → slice_index new (place + k) ≡ slice_index old (from + k)

-- Numbers and cells after one more frame: the six numbers after the 55 that begin at `from` stand behind these, and
-- their codes in the cells of frame f.
abbrev pub numbers_with_next : List ℕ → ℕ → List ℕ
numbers_with_next numbers from = sets numbers (from + 55) (six_sums numbers from)

abbrev pub cells_with_next : List ℕ → ℕ → List ℕ → ℕ → List ℕ
cells_with_next numbers from cells f = sets cells (7 * f) (cells_of_frame (codes_of_six (six_sums numbers from)) enable_byte)

pub record NextPut (numbers : List ℕ) (from : ℕ) (cells : List ℕ) (f : ℕ) (new_numbers new_cells : List ℕ) : Type 0 where
  pub numbers_are : new_numbers ≡ numbers_with_next numbers from
  pub cells_are : new_cells ≡ cells_with_next numbers from cells f

-- The same after m more frames.
unfoldable pub numbers_after : List ℕ → ℕ → ℕ → List ℕ
numbers_after numbers from zero = numbers
numbers_after numbers from (suc m) = numbers_with_next (numbers_after numbers from m) (from + 6 * m)

unfoldable pub cells_after : List ℕ → ℕ → List ℕ → ℕ → ℕ → List ℕ
cells_after numbers from cells f zero = cells
cells_after numbers from cells f (suc m) =
    cells_with_next (numbers_after numbers from m) (from + 6 * m) (cells_after numbers from cells f m) (f + m)

pub record SomePut (numbers : List ℕ) (from : ℕ) (cells : List ℕ) (f m : ℕ) (new_numbers new_cells : List ℕ) : Type 0
  where
    pub numbers_are : new_numbers ≡ numbers_after numbers from m
    pub cells_are : new_cells ≡ cells_after numbers from cells f m
