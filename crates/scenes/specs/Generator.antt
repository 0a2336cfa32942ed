-- The generator's rule: the next state, modulo 2^32, and the number that is drawn from a state, its upper half.
use Rattle.std.specs.Prelude.{ℕ, ◌+◌, ◌*◌, ◌/◌, ◌%◌}

abbrev pub next_of : ℕ → ℕ → ℕ → ℕ
next_of factor step state = (state * factor + step) % 4294967296

abbrev pub drawn_of : ℕ → ℕ
drawn_of state = state / 65536
