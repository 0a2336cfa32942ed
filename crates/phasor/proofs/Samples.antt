-- The samples of a window: each of a sound window's is a code less 512, and they stay sound where a sound one is stored.
-- Rests on the laws of `every`.
use Prim.Native.Nat.{ℕ, ◌+◌, ◌-◌, ◌<◌, ◌≤◌, ◌^◌}
use mathlib.Core.Path.{◌≡◌}
use mathlib.Core.Bool.{true}
use mathlib.Core.List.{List}
use native.Mathlib.Omega.{arith}
use borrow.Author.Tests.{leb-true}
use lib.Dec.{leb}
use lib.ListN.{set}
use lib.IntN.{ℤ, pos, negsuc, nat_abs}
use lib.Signed.{mag}
use mir.Syntax.{w16}
use mir.Val.{to_z, of_z}
use mir.Facts.{to_z-of_z}
use Rattle.std.proofs.lemmas.Grind.{common_steps}
use Rattle.integers.proofs.Diff.{Diff}
use Rattle.lists.proofs.Each.{every_at, every_true, and_left}
use Rattle.frames.specs.Codes.{sample_sound}
use Rattle.phasor.specs.Window.{sample_at, window_sound}

-- an element of a window is handed on as its bits, which are read back as the sample
pub back : (z : ℤ) → mag z < 2 ^ 15 → to_z w16 (of_z w16 z) ≡ z
back z h = to_z-of_z {w = w16} {z = z} (record { sfits = h })

pub sample_at_lem : (w : List ℤ) → window_sound w ≡ true → (k : ℕ) → k < 8 → sample_sound (sample_at w k) ≡ true
unfolding window_sound
sample_at_lem w h k l = every_at 8 (λ j. sample_sound (sample_at w j)) h k l

-- a sound sample as a code less 512, and its size
pub code_of : (s : ℤ) → sample_sound s ≡ true → (c : ℕ) × (c ≤ 1023) × Diff s c 512
code_of (pos n) h = let l = leb-true n 511 h in (n + 512, omega arith, record { eq = omega arith })
code_of (negsuc n) h = let l = leb-true n 511 (and_left (leb n 511) true h) in (511 - n, omega arith, record { eq = omega arith })

pub sound_size : (s : ℤ) → sample_sound s ≡ true → nat_abs s ≤ 512
sound_size (pos n) h = omega (arith, leb-true n 511 h)
sound_size (negsuc n) h = omega (arith, leb-true n 511 (and_left (leb n 511) true h))

-- a sound sample may be stored in any slot
pub window_set : (w : List ℤ) (i : ℕ) (s : ℤ) → window_sound w ≡ true → sample_sound s ≡ true → window_sound (set w i s) ≡ true
unfolding window_sound
window_set w i s h g =
    every_true 8 (λ k. sample_sound (sample_at (set w i s) k)) (λ k l. grind (arith, common_steps, g, sample_at_lem w h k l))
