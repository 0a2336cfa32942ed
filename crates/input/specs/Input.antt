-- How many bytes came in, also where a read failed behind them.
use Rattle.std.specs.Prelude.{ℕ, Result, Ok, Err}
use Rattle.input.specs.declared.Cut.{Cut}

abbrev pub count_of : Result ℕ Cut → ℕ
count_of (Ok n) = n
count_of (Err cut) = cut.count
