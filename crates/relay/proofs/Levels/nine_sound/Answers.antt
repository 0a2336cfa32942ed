-- `Levels::nine_sound` meets its contract: six drop levels and three pickup levels are in range.
use Rattle.lists.proofs.Filled.{length_mapped}
use Rattle.relay.specs.Settings.{levels_in_range, drops_sound, pickups_sound, nine_sound}
use Rattle.relay.specs.declared.Levels.{Levels}
use lib.ListN.{length}
use mathlib.Core.Bool.{Bool, ◌&&◌}
use mathlib.Core.Path.{◌≡◌}
use Rattle.relay.proofs.Levels.nine_sound.Goals as goal

nine_levels : (l : Levels) (d p : Bool) → length l.drop ≡ 6 → length l.pickup ≡ 3
    → d ≡ levels_in_range (length l.drop) l.drop → p ≡ levels_in_range (length l.pickup) l.pickup → d && p ≡ nine_sound l
unfolding drops_sound pickups_sound
nine_levels l d p six three e f = rw (e, f, six, three)

pub returns : goal.returns
returns c = search (nine_levels, length_mapped)
