-- The numbers place by place, those given and those made: each stays as more are made behind it, and from place 55 on each is the sum of two before
-- it. Rests on specs/Generator.
use Rattle.std.proofs.Common.{◌≡◌, ℕ, zero, suc, ◌+◌, ◌-◌, ◌%◌, ◌^◌, ◌<◌, List, [], ◌∷◌, length, get_or, sym, ap, ◌∙◌, add-zero, add-suc, add_comm, arith, length-append}
use lib.ListN.{get_or-append}
use lib.Seq.{get_or_at}
use Rattle.generator.specs.Generator.{places_back, next_number, given_and_made, made_number}

-- The number at place k, the oldest of those given being at place 0.
abbrev pub number_at : List ℕ → ℕ → ℕ
number_at given k = get_or (given_and_made given k) k 0

module _ (given : List ℕ) (full : length given ≡ 55) where
  pub numbers_length : (n : ℕ) → length (given_and_made given n) ≡ 55 + n
  unfolding given_and_made
  numbers_length zero = omega arith
  numbers_length (suc n) =
      omega (arith, numbers_length n, length-append (given_and_made given n) (next_number (given_and_made given n) ∷ []))

  -- What stands there stays.
  numbers_grow : (n d i : ℕ) → i < 55 + n → get_or (given_and_made given (n + d)) i 0 ≡ get_or (given_and_made given n) i 0
  unfolding given_and_made
  numbers_grow n zero i h = rw (add-zero n)
  numbers_grow n (suc d) i h =
      rw (add-suc n d)
      (get_or-append (given_and_made given (n + d)) (next_number (given_and_made given (n + d)) ∷ []) 0 i (omega (arith, numbers_length (n + d)))
      ∙ numbers_grow n d i h)

  pub number_stays : (n i : ℕ) → i < 55 + n → get_or (given_and_made given n) i 0 ≡ number_at given i
  number_stays n i h =
      sym (numbers_grow n i i h) ∙ ap (λ (k : ℕ). get_or (given_and_made given k) i 0) (add_comm n i) ∙ numbers_grow i n i (omega arith)

  pub number_given : (k : ℕ) → k < 55 → number_at given k ≡ get_or given k 0
  unfolding given_and_made
  number_given k h = sym (number_stays 0 k (omega arith))

  pub number_made : (k : ℕ) → number_at given (55 + k) ≡ made_number given k
  unfolding given_and_made
  number_made k =
      sym (number_stays (suc k) (55 + k) (omega arith))
      ∙ get_or_at (given_and_made given k) (next_number (given_and_made given k)) [] 0 (55 + k) (numbers_length k)

  -- "each next number is the sum modulo 2^32 of the numbers 24 and 55 places back"
  pub number_sum : (k : ℕ) → number_at given (55 + k) ≡ (number_at given (31 + k) + number_at given k) % 2 ^ 32
  unfolding next_number places_back
  number_sum k =
      let a : length (given_and_made given k) - 24 ≡ 31 + k = omega (arith, numbers_length k) in
      let b : length (given_and_made given k) - 55 ≡ k = omega (arith, numbers_length k) in
      number_made k ∙ rw (a, b, number_stays k (31 + k) (omega arith))
