-- The relay as the steps of a scene leave it. Rests on the relay's frames and changes of levels.
use Rattle.std.specs.Prelude.{ℕ, zero, suc, ◌+◌, ◌-◌, ◌%◌, List, [], ◌∷◌, replicate, get_or}
use Rattle.relay.specs.declared.Relay.{Relay}
use Rattle.relay.specs.Relay.{frame_of, change_of}
use Rattle.scenes.specs.declared.scene.Step.{Step}
use Rattle.scenes.specs.declared.scene.Step.TheVariants.{Feed, Change}

-- after so many frames from frame `first` on: frame n has the wave's code n modulo 8 on all channels, and bits 0 to 6
-- of its enable byte are 1
unfoldable pub fed : Relay → List ℕ → ℕ → ℕ → Relay
fed r wave first zero = r
fed r wave first (suc k) = (frame_of (fed r wave first k) (replicate 6 (get_or wave ((first + k) % 8) 0)) 127).relay

-- after a list of steps, of which the first frame has the number `first`: the frames after a wave go on with the number
-- at which it ends
unfoldable pub played : Relay → ℕ → List Step → Relay
played r first [] = r
played r first (Feed wave end ∷ steps) = played (fed r wave first (end - first)) end steps
played r first (Change levels ∷ steps) = played (change_of r levels).relay first steps
