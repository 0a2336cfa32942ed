-- Document 01, "From codes to amplitude": CORDIC's sixteen steps from |Re| and |Im|, and the amplitude m.
-- A point is CORDIC's pair of integers x, y; `shr_z z (2 ^ i)` is z shifted right by i, rounded towards minus infinity.
-- Rests on Fourier.
use Rattle.std.specs.Prelude.{ℕ, zero, suc, ◌^◌, cond, List, ℤ, pos, nat_abs, ◌+ℤ◌, ◌-ℤ◌, ◌*ℤ◌, eqb}
use Rattle.std.specs.Int.Signed.{shr_z, le_z}
use Rattle.phasor.specs.declared.Point.{Point}
use Rattle.phasor.specs.Fourier.{re, im}

-- "CORDIC starts with x = |Re|, y = |Im|"
abbrev pub start_at : ℤ → ℤ → Point
start_at re im = record { x = pos (nat_abs re); y = pos (nat_abs im) }

-- step i; "Both new values use the old ones; every shift rounds towards minus infinity, for negative values too":
--   y ≥ 0: x becomes x + (y shifted right by i), y becomes y − (x shifted right by i);
--   y < 0: x becomes x − (y shifted right by i), y becomes y + (x shifted right by i)
unfoldable pub step_at : ℕ → Point → Point
step_at i p = cond (le_z (pos 0) p.y)
    (record { x = p.x +ℤ shr_z p.y (2 ^ i); y = p.y -ℤ shr_z p.x (2 ^ i) })
    (record { x = p.x -ℤ shr_z p.y (2 ^ i); y = p.y +ℤ shr_z p.x (2 ^ i) })

-- the steps 0 to k - 1
unfoldable pub steps : ℕ → Point → Point
steps zero p = p
steps (suc k) p = step_at k (steps k p)

-- x after "16 steps, i = 0 to 15"
abbrev pub end_of : Point → ℤ
end_of p = (steps 16 p).x

-- a window's point of start for an order, and its x as it ends
unfoldable pub start_of : ℕ → List ℤ → Point
start_of p w = start_at (re p w) (im p w)

unfoldable pub last_x : ℕ → List ℤ → ℤ
last_x p w = end_of (start_of p w)

-- "x times 39797, divided by 2^28, rounded down"; x is never negative (a law: proofs/Theorems), so the natural number
-- is the quotient itself
unfoldable pub scaled_of : ℤ → ℕ
scaled_of x = nat_abs (shr_z (x *ℤ pos 39797) (2 ^ 28))

-- "The amplitude m", in sixteenths of a code, peak; "The estimate takes an order p of 1, 2 or 3" (document 02, Paper 8)
unfoldable pub amplitude_of : ℕ → List ℤ → ℕ
amplitude_of p w = scaled_of (last_x p w)

-- "It is never above 10,700"; "For p = 2 the largest amplitude is below 11,600": laws (proofs/Theorems)
abbrev pub most_amplitude : ℕ → ℕ
most_amplitude p = cond (eqb p 2) 11599 10700
