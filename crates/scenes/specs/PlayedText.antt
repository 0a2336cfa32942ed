-- What a scene prints, as its relay meets its steps. Rests on the lines and on the relay as the steps leave it.
use Rattle.std.specs.Prelude.{ℕ, zero, suc, ◌+◌, ◌-◌, ◌%◌, List, [], ◌∷◌, ◌++◌, replicate, get_or}
use Rattle.text.specs.Text.{newline}
use Rattle.relay.specs.declared.Relay.{Relay}
use Rattle.relay.specs.Relay.{frame_of, change_of}
use Rattle.scenes.specs.declared.scene.Step.{Step}
use Rattle.scenes.specs.declared.scene.Step.TheVariants.{Feed, Change}
use Rattle.scenes.specs.Lines.{runs_line, change_line}
use Rattle.scenes.specs.Played.{fed}

-- the line of frame n, which has the wave's code n modulo 8 on all channels
abbrev pub fed_line : Relay → List ℕ → ℕ → List ℕ
fed_line r wave n = runs_line n (frame_of r (replicate 6 (get_or wave (n % 8) 0)) 127)

-- the lines of so many frames from frame `first` on
unfoldable pub fed_text : Relay → List ℕ → ℕ → ℕ → List ℕ
fed_text r wave first zero = []
fed_text r wave first (suc k) = fed_text r wave first k ++ fed_line (fed r wave first k) wave (first + k)

-- the lines of a list of steps, of which the first frame has the number `first`
unfoldable pub steps_text : Relay → ℕ → List Step → List ℕ
steps_text r first [] = []
steps_text r first (Feed wave end ∷ steps) =
    fed_text r wave first (end - first) ++ steps_text (fed r wave first (end - first)) end steps
steps_text r first (Change levels ∷ steps) =
    change_line (change_of r levels).refusal ++ steps_text (change_of r levels).relay first steps

-- a scene's name on a line of its own, then the lines of its steps
unfoldable pub played_text : List ℕ → Relay → List Step → List ℕ
played_text name r steps = name ++ (newline ∷ steps_text r 0 steps)
