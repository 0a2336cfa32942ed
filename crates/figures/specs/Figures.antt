-- Document 01, "Bench figures": every figure marked *, in its order and gathered into one list, on the definitions that
-- the contracts cite. They speak of document 01's estimate, which is that of order 1.
-- `figures` in proofs/Figures is its proof.
use Rattle.std.specs.Prelude.{◌≡◌, [], ◌∷◌, pos, neg_ℤ, replicate}
use Rattle.phasor.specs.Cordic.{last_x, amplitude_of}
use Rattle.capture.specs.Numbers.{refused, seven_bit_bytes, seven_bit, sent}

pub record StarredFigures : Type 0 where
  -- "eight zero samples: m = 0"
  pub zeros_m : amplitude_of 1 (replicate 8 (pos 0)) ≡ 0
  -- "eight samples 100: m = 0"
  pub hundreds_m : amplitude_of 1 (replicate 8 (pos 100)) ≡ 0
  -- "100, 71, 0, −71, −100, −71, 0, 71 from slot 0: m = 1603"
  pub wave_m : amplitude_of 1
      (pos 100 ∷ pos 71 ∷ pos 0 ∷ neg_ℤ (pos 71) ∷ neg_ℤ (pos 100) ∷ neg_ℤ (pos 71) ∷ pos 0 ∷ pos 71 ∷ [])
      ≡ 1603
  -- "100 in slot 0, else zero: x ends at 2698056, m = 400"
  pub slot_0 : (last_x 1 (pos 100 ∷ replicate 7 (pos 0)) ≡ pos 2698056)
      × (amplitude_of 1 (pos 100 ∷ replicate 7 (pos 0)) ≡ 400)
  -- "100 in slot 1: x ends at 2697998, m = 399"
  pub slot_1 : (last_x 1 (pos 0 ∷ pos 100 ∷ replicate 6 (pos 0)) ≡ pos 2697998)
      × (amplitude_of 1 (pos 0 ∷ pos 100 ∷ replicate 6 (pos 0)) ≡ 399)
  -- "127 is 7F"
  pub one_byte : seven_bit_bytes 127 ≡ 0x7F ∷ []
  -- "128 is 80 01"
  pub two_bytes : seven_bit_bytes 128 ≡ 0x80 ∷ 0x01 ∷ []
  -- "80 00 is refused by 7"
  pub not_shortest : seven_bit (0x80 ∷ 0x00 ∷ []) ≡ refused 7
  -- "+1023 is sent as 2046, FE 0F"
  pub up : (sent (pos 1023) ≡ 2046) × (seven_bit_bytes 2046 ≡ 0xFE ∷ 0x0F ∷ [])
  -- "−1 is sent as 1"
  pub down : sent (neg_ℤ (pos 1)) ≡ 1
