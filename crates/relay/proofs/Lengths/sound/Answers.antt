-- `Lengths::sound` meets its contract: its two tests.
use Rattle.relay.specs.Settings.{length_in_range, lengths_sound}
use Rattle.relay.specs.declared.Lengths.{Lengths}
use mathlib.Core.Bool.{Bool, ◌&&◌}
use mathlib.Core.Path.{◌≡◌}
use Rattle.relay.proofs.Lengths.sound.Goals as goal

both : (l : Lengths) (a b : Bool) → a ≡ length_in_range l.loss → b ≡ length_in_range l.over → a && b ≡ lengths_sound l
unfolding lengths_sound
both l a b e f = rw (e, f)

pub returns : goal.returns
returns c = search both
