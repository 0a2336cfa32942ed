-- The sample in 32 bits, and its square.
use Prim.Native.Nat.{ℕ, ◌*◌, ◌<◌}
use mathlib.Core.Path.{◌≡◌, ◌∙◌, ap}
use native.Mathlib.Nat.{mul-le-mul}
use native.Mathlib.Omega.{arith}
use lib.Dec.{lit<}
use lib.IntN.{ℤ, nat_abs, ◌*ℤ◌}
use mir.Syntax.{w16, w32}
use mir.Val.{of_z, to_z}
use Rattle.frames.specs.Codes.{code_limit, sample_of}
use Rattle.integers.proofs.Holds.{Holds, held_as, prod}
use Rattle.integers.proofs.Size.{abs_mul}
use Rattle.cells.specs.Strongest.{squared}
use Rattle.cells.proofs.Windows.{SquareOf, sample_size}
use Rattle.cells.proofs.square_of.Goals as goal

-- the bits of the square, from those of the sample
abbrev square_bits : ℤ → ℕ
square_bits s = of_z w32 (to_z w32 (of_z w32 s) *ℤ to_z w32 (of_z w32 s))

-- From the sample that the call answers, and the same in 32 bits.
module _ (code : ℕ) (sample wide : ℤ) (h : code < code_limit) (a : sample ≡ sample_of code) (b : wide ≡ to_z w16 (of_z w16 sample)) where
  narrow : Holds w16 (of_z w16 sample) (sample_of code) 512
  narrow = held_as a (sample_size code h) (lit< tt)

  held : Holds w32 (of_z w32 wide) (sample_of code) 512
  held = held_as (b ∙ narrow.reads) (sample_size code h) (lit< tt)

  square : Holds w32 (square_bits wide) (sample_of code *ℤ sample_of code) (512 * 512)
  square = prod held held (lit< tt)

  square_is : SquareOf code (nat_abs (to_z w32 (square_bits wide)))
  unfolding squared
  square_is =
      let q = ap nat_abs square.reads ∙ abs_mul (sample_of code) (sample_of code) in
      (q, omega (arith, q, mul-le-mul (sample_size code h) (sample_size code h)))

pub returns : goal.returns
returns c = square_is _ _ _ c.requires c.sample.ensures c.from-sample.ensures
