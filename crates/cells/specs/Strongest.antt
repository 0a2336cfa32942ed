-- Document 01, "The capture": the strongest window of a channel. Rests on the refusals and on frames.
use Rattle.std.specs.Prelude.{ℕ, zero, suc, ◌+◌, ◌-◌, ◌*◌, cond, List, [], ◌∷◌, ◌++◌, get_or, take, drop, ltb, leb, eqb, ℤ, nat_abs}
use Rattle.std.specs.Prelude.{Result, Ok, Err}
use Rattle.cells.specs.declared.StrongestWindow.{StrongestWindow}
use Rattle.cells.specs.declared.Window.{Window}
use Rattle.refusals.specs.declared.Refusal.{Refusal}
use Rattle.refusals.specs.Refusals.{Check, ◌or_else◌, first_fault, accepted, wrong_shape, few_frames, number_of}
use Rattle.frames.specs.Codes.{sample_of}
use Rattle.frames.specs.Cells.{frames_in, cell_checks}

unfoldable pub squared : ℤ → ℕ
squared s = nat_abs s * nat_abs s

-- The codes of a channel, frame by frame, of the n frames at the front of the cells; those of all frames.
unfoldable pub channel_codes : ℕ → ℕ → List ℕ → List ℕ
channel_codes channel zero cells = []
channel_codes channel (suc n) cells = get_or cells channel 0 ∷ channel_codes channel n (drop 7 cells)

abbrev pub codes_of : List ℕ → ℕ → List ℕ
codes_of cells channel = channel_codes channel (frames_in cells) cells

-- The sum of the squared samples of some codes.
unfoldable pub squares : List ℕ → ℕ
squares [] = 0
squares (c ∷ codes) = squared (sample_of c) + squares codes

-- "the .. sum of eight squared samples of successive frames", the first of them frame f
unfoldable pub window_sum : List ℕ → ℕ → ℕ
window_sum codes f = squares (take 8 (drop f codes))

abbrev pub window_found : ℕ → ℕ → ℕ → StrongestWindow
window_found refusal sum frame = record { refusal = refusal; sum = sum; frame = frame }

-- A window as it is answered where the call is accepted.
abbrev pub found : Window → StrongestWindow
found window = window_found accepted window.sum window.frame

-- The window at frame f in place of the strongest before it, if its sum is larger: of equal ones the first stays.
abbrev pub stronger_of : StrongestWindow → ℕ → ℕ → StrongestWindow
stronger_of before sum f = cond (ltb before.sum sum) (window_found accepted sum f) before

-- "the largest sum .., and the first frame where it occurs", of the windows that start at frames 0 to f
unfoldable pub strongest_up_to : List ℕ → ℕ → StrongestWindow
strongest_up_to codes zero = window_found accepted (window_sum codes 0) 0
strongest_up_to codes (suc f) = stronger_of (strongest_up_to codes f) (window_sum codes (suc f)) (suc f)

-- "over a channel's cells, the largest sum ..": the last window of n frames starts at frame n − 8.
abbrev pub strongest_in : List ℕ → ℕ → StrongestWindow
strongest_in cells channel = strongest_up_to (codes_of cells channel) (frames_in cells - 8)

-- "Checks: 12, 9, 13." A channel above 5 is 12, as are cells that are no whole frames.
abbrev pub strongest_checks : List ℕ → ℕ → List Check
strongest_checks cells channel =
    (leb channel 5 or_else wrong_shape) ∷ cell_checks cells ++ ((leb 8 (frames_in cells) or_else few_frames) ∷ [])

abbrev pub strongest_refusal : List ℕ → ℕ → ℕ
strongest_refusal cells channel = first_fault (strongest_checks cells channel)

-- The whole answer: refused, "sum and frame 0".
unfoldable pub strongest_of : List ℕ → ℕ → StrongestWindow
strongest_of cells channel =
    cond (eqb (strongest_refusal cells channel) accepted) (strongest_in cells channel)
    (window_found (strongest_refusal cells channel) 0 0)

-- The refusal's number and the window that a call answers: 0 where it is accepted, "sum and frame 0" where it is refused.
abbrev pub strongest_answer : Result Window Refusal → StrongestWindow
strongest_answer (Ok window) = found window
strongest_answer (Err refusal) = window_found (number_of refusal) 0 0
