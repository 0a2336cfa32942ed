-- A number's bytes are those that it was made of, the lowest first. Rests on the definition alone.
use Prim.Native.Nat.{ℕ, ◌/◌, ◌%◌, ◌^◌, ◌<◌}
use mathlib.Core.Path.{◌≡◌}
use native.Mathlib.Omega.{arith}
use Rattle.make_capture.specs.Numbers.{number_of}

module _ (a b c d : ℕ) (ha : a < 256) (hb : b < 256) (hc : c < 256) where
  pub low_first : number_of a b c d % 2 ^ 8 ≡ a
  low_first = omega arith

  pub second : number_of a b c d / 2 ^ 8 % 2 ^ 8 ≡ b
  second = omega arith

  pub third : number_of a b c d / 2 ^ 16 % 2 ^ 8 ≡ c
  third = omega arith

  pub high_last : number_of a b c d / 2 ^ 24 ≡ d
  high_last = omega arith
