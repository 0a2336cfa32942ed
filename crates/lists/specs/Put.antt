-- Items, bytes or cells, that a function puts into a lent buffer. Rests on nothing of the project.
use Rattle.std.specs.Prelude.{ℕ, ◌+◌, ◌≤◌, ◌≡◌, List, length}
use Rattle.std.proofs.lemmas.List.Edits.{sets}

-- `items` were put whole into the buffer `old` from index `at`, which gave `new`, and `next` is the index past them
pub record Put (old : List ℕ) (at : ℕ) (items new : List ℕ) (next : ℕ) : Type 0 where
  pub fits : at + length items ≤ length old
  pub new_is : new ≡ sets old at items
  pub next_is : next ≡ at + length items
  pub kept : length new ≡ length old

-- the same of items that are at most so many
pub record PutWithin (most : ℕ) (old : List ℕ) (at : ℕ) (items new : List ℕ) (next : ℕ) : Type 0 where
  pub put : Put old at items new next
  pub within : next ≤ at + most
