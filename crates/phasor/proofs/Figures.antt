-- The starred amplitude figures of document 01, "Bench figures", computed on the definitions. They pin what the distance to Z leaves open: the
-- steps, the shift, the factor and the weights of slots 0 and 1, to the last digit. The other weights could move a little under them: Calls has
-- each weight, and Theorems the law for all. Rests on the definitions alone.
use mathlib.Core.Path.{◌≡◌, refl}
use mathlib.Core.List.{List, [], ◌∷◌}
use lib.ListN.{replicate}
use lib.IntN.{ℤ, pos, neg_ℤ}
use Rattle.phasor.specs.Cordic.{last_x, amplitude_of}
use Rattle.phasor.proofs.Computed.{computed}

-- "eight zero samples", "eight samples 100"
abbrev pub zeros : List ℤ
zeros = replicate 8 (pos 0)

abbrev pub hundreds : List ℤ
hundreds = replicate 8 (pos 100)

-- "100, 71, 0, −71, −100, −71, 0, 71 from slot 0"
abbrev pub wave : List ℤ
wave = pos 100 ∷ pos 71 ∷ pos 0 ∷ neg_ℤ (pos 71) ∷ neg_ℤ (pos 100) ∷ neg_ℤ (pos 71) ∷ pos 0 ∷ pos 71 ∷ []

-- "100 in slot 0, else zero", "100 in slot 1"
abbrev pub in_slot0 : List ℤ
in_slot0 = pos 100 ∷ replicate 7 (pos 0)

abbrev pub in_slot1 : List ℤ
in_slot1 = pos 0 ∷ pos 100 ∷ replicate 6 (pos 0)

pub record Figures : Type 0 where
  pub x_slot1 : last_x 1 in_slot1 ≡ pos 2697998
  pub x_slot0 : last_x 1 in_slot0 ≡ pos 2698056
  pub m_slot0 : amplitude_of 1 in_slot0 ≡ 400
  pub m_slot1 : amplitude_of 1 in_slot1 ≡ 399
  pub m_zeros : amplitude_of 1 zeros ≡ 0
  pub m_hundreds : amplitude_of 1 hundreds ≡ 0
  pub m_wave : amplitude_of 1 wave ≡ 1603

pub figures : Figures
unfolding computed
figures = record { x_slot1 = refl; x_slot0 = refl; m_slot0 = refl; m_slot1 = refl; m_zeros = refl; m_hundreds = refl; m_wave = refl }
