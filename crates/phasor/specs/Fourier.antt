-- Document 01, "From codes to amplitude": the weights of the eight slots, and the sums Re and Im of sample times
-- weight, for an order of harmonic (document 02, Paper 8). Rests on Window.
use Rattle.std.specs.Prelude.{ℕ, zero, suc, ◌*◌, ◌%◌, List, [], ◌∷◌, get_or, ℤ, pos, neg_ℤ, ◌+ℤ◌, ◌*ℤ◌}
use Rattle.phasor.specs.Window.{sample_at}

-- "cosine: 16384, 11585, 0, −11585, −16384, −11585, 0, 11585"
unfoldable pub cosines : List ℤ
cosines =
    pos 16384 ∷ pos 11585 ∷ pos 0 ∷ neg_ℤ (pos 11585) ∷ neg_ℤ (pos 16384) ∷ neg_ℤ (pos 11585) ∷ pos 0 ∷ pos 11585 ∷ []

-- "sine: 0, 11585, 16384, 11585, 0, −11585, −16384, −11585"
unfoldable pub sines : List ℤ
sines = pos 0 ∷ pos 11585 ∷ pos 16384 ∷ pos 11585 ∷ pos 0 ∷ neg_ℤ (pos 11585) ∷ neg_ℤ (pos 16384) ∷ neg_ℤ (pos 11585) ∷ []

-- "weights at slot p times k mod 8 of the tables" (document 02, Paper 8): the weight of the sample in slot k for the
-- order p, a term of that request; order 1 is document 01's estimate
abbrev pub weight_at : List ℤ → ℕ → ℕ → ℤ
weight_at weights p k = get_or weights (p * k % 8) (pos 0)

-- the sum of sample times weight over slots 0 to k - 1
unfoldable pub sum_over : List ℤ → ℕ → List ℤ → ℕ → ℤ
sum_over weights p w zero = pos 0
sum_over weights p w (suc k) = sum_over weights p w k +ℤ sample_at w k *ℤ weight_at weights p k

-- "Re and Im are the sums of sample times weight"
unfoldable pub re : ℕ → List ℤ → ℤ
re p w = sum_over cosines p w 8

unfoldable pub im : ℕ → List ℤ → ℤ
im p w = sum_over sines p w 8
