-- The sample of a code fits 16 bits and is sound. Rests on the definitions alone.
use Prim.Native.Nat.{ℕ, suc, ◌-◌, ◌<◌}
use mathlib.Core.Path.{◌≡◌, refl}
use mathlib.Core.Bool.{Bool, true, false, cond}
use native.Mathlib.Omega.{arith}
use borrow.Author.Tests.{ltb-false, le-leb}
use lib.Dec.{ltb}
use lib.IntN.{pos, negsuc}
use Rattle.frames.specs.Codes.{code_limit, sample_of, sample_sound}

by_sound : (c : ℕ) (b : Bool) → ltb c 512 ≡ b → c < code_limit → sample_sound (cond b (negsuc (512 - suc c)) (pos (c - 512))) ≡ true
by_sound c true e h = rw (le-leb (512 - suc c) 511 (omega arith))
by_sound c false e h = le-leb (c - 512) 511 (omega (arith, ltb-false c 512 e))

pub sample_is_sound : (c : ℕ) → c < code_limit → sample_sound (sample_of c) ≡ true
sample_is_sound c h = by_sound c (ltb c 512) refl h
