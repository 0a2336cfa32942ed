-- What a call that was lent a buffer answers and leaves in it (document 01, "Refusals" and "What a promise says here").
-- Rests on Refusals.
use Rattle.std.specs.Prelude.{ℕ, ◌≡◌, cond, List, ◌++◌, length, drop, eqb, Result, Ok, Err}
use Rattle.refusals.specs.declared.Refusal.{Refusal}
use Rattle.refusals.specs.declared.Answer.{Answer}
use Rattle.refusals.specs.Refusals.{accepted, number_of}

-- The refusal and the count that a call answers, and what the buffer that it was lent then holds.
pub record Outcome : Type 0 where
  pub refusal : ℕ
  pub count : ℕ
  pub buffer : List ℕ

-- The outcome of a call that makes `items`: accepted, they stand at the front of the buffer and what is past them is
-- untouched; refused, the count is 0 and the buffer is as it was lent.
abbrev pub outcome_of : ℕ → ℕ → List ℕ → List ℕ → Outcome
outcome_of refusal count items buffer =
    record {
      refusal = refusal;
      count = cond (eqb refusal accepted) count 0;
      buffer = cond (eqb refusal accepted) (items ++ drop (length items) buffer) buffer;
    }

-- A call answered `refusal` and `count` and left `buffer`, as the outcome says.
pub record Answered (outcome : Outcome) (refusal count : ℕ) (buffer : List ℕ) : Type 0 where
  pub refusal_is : refusal ≡ outcome.refusal
  pub count_is : count ≡ outcome.count
  pub buffer_is : buffer ≡ outcome.buffer

-- The number that a call answers: 0 where it is accepted, else that of its refusal.
abbrev pub refusal_in : {A : Type 0} → Result A Refusal → ℕ
refusal_in (Ok made) = accepted
refusal_in (Err refusal) = number_of refusal

-- The count that a call answers: 0 where it is refused.
abbrev pub count_in : Result ℕ Refusal → ℕ
count_in (Ok count) = count
count_in (Err refusal) = 0

-- What C is answered.
abbrev pub answer_of : Result ℕ Refusal → Answer
answer_of result = record { refusal = refusal_in result; count = count_in result }
