-- Document 02, Paper 12, "The same test waveform on every bench": the numbers that are made from those given, the
-- frames that they are, and the whole outcome of a call of `generate`. Rests on the refusals and on frames.
use Rattle.std.specs.Prelude.{ℕ, zero, suc, ◌+◌, ◌-◌, ◌*◌, ◌/◌, ◌%◌, ◌^◌, Bool, not, List, [], ◌∷◌, ◌++◌, length, ◌==◌, nat_le, slice_index}
use Rattle.lists.specs.Each.{every, table}
use Rattle.refusals.specs.Refusals.{Check, ◌or_else◌, first_fault, out_of_range, does_not_fit, all_even}
use Rattle.refusals.specs.Outcomes.{Outcome, outcome_of}
use Rattle.frames.specs.Cells.{most_frames, cells_of_frame}

-- The number so many places back from the one that comes next; the list has the oldest first.
unfoldable pub places_back : ℕ → List ℕ → ℕ
places_back places numbers = slice_index numbers (length numbers - places)

-- "each next number is the sum modulo 2^32 of the numbers 24 and 55 places back"
unfoldable pub next_number : List ℕ → ℕ
next_number numbers = (places_back 24 numbers + places_back 55 numbers) % 2 ^ 32

-- "Start from 55 numbers of 32 bits that the user gives": these, and behind them the first n that are made.
unfoldable pub given_and_made : List ℕ → ℕ → List ℕ
given_and_made given zero = given
given_and_made given (suc n) = given_and_made given n ++ (next_number (given_and_made given n) ∷ [])

-- The made number after the first k: "the given 55 not among them".
abbrev pub made_number : List ℕ → ℕ → ℕ
made_number given k = next_number (given_and_made given k)

-- "The top ten bits" of 32.
abbrev pub top_ten_bits : ℕ → ℕ
top_ten_bits number = number / 2 ^ 22

-- "The top ten bits of six successive made numbers .. are the codes of a frame": frame f has the six after those of the
-- frames before it.
abbrev pub code_made : List ℕ → ℕ → ℕ → ℕ
code_made given f c = top_ten_bits (made_number given (6 * f + c))

unfoldable pub codes_made : List ℕ → ℕ → List ℕ
codes_made given f = table 6 (code_made given f)

-- "enable byte 7F hexadecimal"
abbrev pub enable_byte : ℕ
enable_byte = 0x7F

-- The first n frames, as cells.
unfoldable pub frames_made : List ℕ → ℕ → List ℕ
frames_made given zero = []
frames_made given (suc n) = frames_made given n ++ cells_of_frame (codes_made given n) enable_byte

-- "all 55 are even"
abbrev pub is_even : ℕ → Bool
is_even number = number % 2 == 0

abbrev pub even_at : List ℕ → ℕ → Bool
even_at given k = is_even (slice_index given k)

unfoldable pub all_are_even : List ℕ → Bool
all_are_even given = every 55 (even_at given)

-- "Refused: 24 if all 55 are even, before 9 and 11". "Produce up to 4,096 frames." A frame is seven cells.
abbrev pub generate_checks : List ℕ → ℕ → List ℕ → List Check
generate_checks given n cells =
    (not (all_are_even given) or_else all_even)
    ∷ (nat_le n most_frames or_else out_of_range)
    ∷ (nat_le (7 * n) (length cells) or_else does_not_fit)
    ∷ []

-- The whole outcome: it makes the first n frames and counts frames; refused, "count 0 and buffer old".
unfoldable pub generate_of : List ℕ → ℕ → List ℕ → Outcome
generate_of given n cells = outcome_of (first_fault (generate_checks given n cells)) n (frames_made given n) cells
