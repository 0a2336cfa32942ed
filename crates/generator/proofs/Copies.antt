-- The numbers that a loop copies to the front of the same row, and arrays made number by number. Rests on `table`.
use Rattle.std.proofs.Common.{◌≡◌, ℕ, ◌+◌, ◌<◌, ◌≤◌, List, length, get_or, set, sym, ◌∙◌, arith}
use Rattle.std.proofs.Common.{⊎_elim, eq-or-lt_of_le, length-set, get_or-set_other, get_or-set_same}
use lib.Seq.{ext_get_or}
use Rattle.lists.specs.Each.{table}
use Rattle.lists.proofs.Each.{length_table, get_d_table}

-- An array with the entries of a table.
pub table_of : (n : ℕ) (f : ℕ → ℕ) (made : List ℕ) → length made ≡ n → ((k : ℕ) → k < n → get_or made k 0 ≡ f k) → made ≡ table n f
table_of n f made h each =
    ext_get_or 0 made (table n f) (h ∙ sym (length_table n f)) (λ k l. each k (omega arith) ∙ sym (get_d_table n f 0 k (omega arith)))

-- ---- to the front of the same list

-- The first k of the numbers from `from` on are copied, and those behind them are as they were.
pub record Copied (old : List ℕ) (from : ℕ) (new : List ℕ) (k : ℕ) : Type 0 where
  pub within : k ≤ 55
  pub room : (97 ≤ length old) × (from + 55 ≤ length old)
  pub kept : length new ≡ length old
  pub copied : (j : ℕ) → j < k → get_or new j 0 ≡ get_or old (from + j) 0
  pub rest : (j : ℕ) → k ≤ j → get_or new j 0 ≡ get_or old j 0

-- One number more: it is read before its place is written.
pub copied_more : (old : List ℕ) (from : ℕ) (new : List ℕ) (k : ℕ) → Copied old from new k → k < 55
    → Copied old from (set new k (get_or new (from + k) 0)) (k + 1)
copied_more old from new k C h =
    record {
      within = omega arith;
      room = C.room;
      kept = length-set new k (get_or new (from + k) 0) ∙ C.kept;
      copied = λ j l. ⊎_elim
          (λ e. rw e (get_or-set_same new k (get_or new (from + k) 0) 0 write ∙ C.rest (from + k) (omega arith)))
          (λ m. get_or-set_other new k j (get_or new (from + k) 0) 0 (λ z. omega arith) ∙ C.copied j m)
          (eq-or-lt_of_le (omega arith));
      rest = λ j l. get_or-set_other new k j (get_or new (from + k) 0) 0 (λ z. omega arith) ∙ C.rest j (omega arith);
    }
  where
    write : k < length new
    write = omega (arith, C.kept, C.room.0)
