-- Levels that are alike on all channels, and the bench's run lengths.
use Rattle.std.specs.Prelude.{ℕ, List, replicate, if◌then◌else◌}
use Rattle.lists.specs.Each.{table}
use Rattle.frames.specs.Bits.{bit_of}
use Rattle.relay.specs.declared.Levels.{Levels}
use Rattle.relay.specs.declared.Settings.{Settings}

abbrev pub alike_levels : ℕ → ℕ → ℕ → Levels
alike_levels drop pickup restraint =
    record { drop = replicate 6 drop; pickup = replicate 3 pickup; restraint = replicate 3 restraint }

abbrev pub bench_settings : Levels → Settings
bench_settings levels = record { levels = levels; lengths = record { loss = 16; over = 4 } }

-- the first for each channel whose bit is 1 in the mask, the second for each other
abbrev pub by_channel : ℕ → ℕ → ℕ → List ℕ
by_channel mask named other = table 6 (λ c. (if bit_of mask c then named else other))
