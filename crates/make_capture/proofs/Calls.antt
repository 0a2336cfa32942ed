-- Computed: the numbers of 220 bytes. Rests on the definition alone.
use Prim.Native.Nat.{◌+◌, ◌*◌}
use mathlib.Core.Path.{◌≡◌, refl}
use mathlib.Core.List.{map}
use Rattle.lists.specs.Each.{table}
use Rattle.lists.proofs.Lists.{up_from}
use Rattle.make_capture.specs.Numbers.{number_of, numbers_of}

pub record NumbersCalls : Type 0 where
  -- each byte at its place, none and all
  pub bytes : number_of 0x01 0x02 0x03 0x04 ≡ 0x04030201
  pub least : number_of 0 0 0 0 ≡ 0
  pub most : number_of 0xFF 0xFF 0xFF 0xFF ≡ 0xFFFFFFFF
  -- of the bytes 0, 1, .., 219 and one more that is no part of them: each number is four places on from the one before
  pub all : numbers_of (up_from 0 221) ≡ map (λ k. 0x03020100 + k * 0x04040404) (up_from 0 55)

pub calls : NumbersCalls
unfolding numbers_of table
calls = record { bytes = refl; least = refl; most = refl; all = refl }
