-- The count of bytes that came in, computed, also where a read failed behind them. Rests on specs/Input.
use mathlib.Core.Path.{◌≡◌, refl}
use Rattle.std.specs.Prelude.{Ok, Err}
use Rattle.input.specs.Input.{count_of}

pub record CountCalls : Type 0 where
  pub read : count_of (Ok 5) ≡ 5
  pub cut : count_of (Err (record { count = 3 })) ≡ 3

pub count_calls : CountCalls
count_calls =
    record {
      read = refl;
      cut = refl;
    }
