-- The estimate of one window for an order (document 02, Paper 8): "The estimate takes an order p of 1, 2 or 3", and
-- "Refused: 19 for an order outside 1 to 3 or a window sample outside −512 to 511, amplitude 0". Rests on Cordic, on
-- Window and on the refusals.
use Rattle.std.specs.Prelude.{ℕ, Bool, ◌&&◌, cond, List, [], ◌∷◌, ℤ, leb, eqb, Result, Ok, Err}
use Rattle.refusals.specs.declared.Refusal.{Refusal}
use Rattle.refusals.specs.Refusals.{Check, ◌or_else◌, first_fault, accepted, bad_estimate, number_of}
use Rattle.phasor.specs.declared.EstimateAnswer.{EstimateAnswer}
use Rattle.phasor.specs.Window.{window_sound}
use Rattle.phasor.specs.Cordic.{amplitude_of}

abbrev pub order_in_range : ℕ → Bool
order_in_range p = leb 1 p && leb p 3

-- the document names no order of the two checks; their number is the same
abbrev pub estimate_checks : List ℤ → ℕ → List Check
estimate_checks w p = (order_in_range p or_else bad_estimate) ∷ (window_sound w or_else bad_estimate) ∷ []

unfoldable pub estimate_refusal : List ℤ → ℕ → ℕ
estimate_refusal w p = first_fault (estimate_checks w p)

unfoldable pub estimate_of : List ℤ → ℕ → EstimateAnswer
estimate_of w p =
    record {
      refusal = estimate_refusal w p;
      amplitude = cond (eqb (estimate_refusal w p) accepted) (amplitude_of p w) 0;
    }

-- the refusal's number, 0 where the estimate is accepted, and the amplitude
abbrev pub estimate_answer_of : Result ℕ Refusal → EstimateAnswer
estimate_answer_of (Ok amplitude) = record { refusal = accepted; amplitude = amplitude }
estimate_answer_of (Err refusal) = record { refusal = number_of refusal; amplitude = 0 }
