-- The lines that the check programs print beside a frame's line: a frame's runs, a reset, new levels. Rests on the
-- text's definitions.
use Rattle.std.specs.Prelude.{ℕ, List, [], ◌∷◌, ◌++◌, map, drop, nat_lt, codes, if◌then◌else◌}
use Rattle.text.specs.Text.{space, newline, decimal, spaced, hex_two, word_line}
use Rattle.relay.specs.declared.Channel.{Channel}
use Rattle.relay.specs.declared.FrameAnswer.{FrameAnswer}

-- the loss runs of all six channels, then the over runs of the three currents: a voltage has none
abbrev pub runs_of : List Channel → List ℕ
runs_of channels = map (λ c. c.loss_run) channels ++ map (λ c. c.over_run) (drop 3 channels)

-- the runs that frame n left, each after a space, between its number and its output byte; a frame that is not counted,
-- one before frame 72, has no line
unfoldable pub runs_line : ℕ → FrameAnswer → List ℕ
runs_line n answer =
    if nat_lt n 72
    then []
    else (decimal n ++ (spaced (runs_of answer.relay.channels) ++ ((space ∷ hex_two answer.output) ++ (newline ∷ []))))

-- a reset: the mask, and the refusal that it meets
unfoldable pub reset_line : ℕ → ℕ → List ℕ
reset_line mask refusal = decimal mask ++ (codes " answers " ++ (decimal refusal ++ (newline ∷ [])))

-- new levels: the refusal that they meet
abbrev pub change_line : ℕ → List ℕ
change_line refusal = word_line (codes "change") refusal
