-- An array that a loop fills from the front: below c it holds what a table gives.
-- Rests on the laws of `table`.
use Prim.Native.Nat.{ℕ, ◌+◌, ◌<◌, ◌≤◌}
use mathlib.Core.Path.{◌≡◌, sym, ◌∙◌}
use mathlib.Core.List.{List, map}
use native.Mathlib.Omega.{arith}
use lib.ListN.{length, take, set, length-set, length-map}
use Rattle.lists.specs.Each.{table}
use Rattle.lists.proofs.Each.{table_none, table_more, table_whole}

pub record Filled {A : Type 0} (n : ℕ) (f : ℕ → A) (l : List A) (c : ℕ) : Type 0 where
  pub within : c ≤ n
  pub size : length l ≡ n
  pub made : take c l ≡ table c f

pub filled_none : {A : Type 0} (n : ℕ) (f : ℕ → A) (l : List A) → length l ≡ n → Filled n f l 0
filled_none n f l h = record { within = omega arith; size = h; made = table_none l f }

pub filled_more : {A : Type 0} (n : ℕ) (f : ℕ → A) (l : List A) (c : ℕ) (a : A) → Filled n f l c → c < n → a ≡ f c → Filled n f (set l c a) (c + 1)
filled_more n f l c a p h e =
    let s = p.size in
    record { within = omega arith; size = simp length-set s; made = table_more l c f a (omega arith) p.made e }

pub filled_all : {A : Type 0} (n : ℕ) (f : ℕ → A) (l : List A) (c : ℕ) → Filled n f l c → n ≤ c → l ≡ table n f
filled_all n f l c p h =
    let w = p.within in
    let end : c ≡ n = omega arith in
    table_whole l n f p.size (rw end at p.made)

-- an array of structs in a struct has its length by way of a map
pub length_mapped : {X Y : Type 0} (f : X → Y) (l : List X) (n : ℕ) → length (map f l) ≡ n → length l ≡ n
length_mapped f l n p = sym (length-map l f) ∙ p
