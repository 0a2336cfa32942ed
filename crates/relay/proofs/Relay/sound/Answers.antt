-- `Relay::sound` meets its contract: the rest, and the channels in two passes.
use Prim.Native.Nat.{ℕ, zero, suc}
use Rattle.lists.specs.Each.{every}
use Rattle.relay.specs.Channel.{no_channel}
use Rattle.relay.specs.Internal.{window_sound_at, state_sound_at, windows_sound, states_sound, rest_sound}
use Rattle.relay.specs.Settings.{is_current}
use Rattle.relay.specs.Sound.{channel_sound, channels_sound, sound_of}
use Rattle.relay.specs.declared.Channel.{Channel}
use Rattle.relay.specs.declared.Lengths.{Lengths}
use Rattle.relay.specs.declared.Relay.{Relay}
use lib.ListN.{get_or}
use mathlib.Core.Bool.{Bool, true, false, ◌&&◌}
use mathlib.Core.List.{List}
use mathlib.Core.Path.{◌≡◌, refl}
use Rattle.relay.proofs.Relay.sound.Goals as goal

-- samples and the rest, channel by channel or one after the other
apart : (a b x y z : Bool) → (a && x) && (b && (y && z)) ≡ (a && b) && ((x && y) && z)
apart true true true y z = refl
apart true true false y z = refl
apart true false true y z = refl
apart true false false y z = refl
apart false b x y z = refl

both : (lengths : Lengths) (n : ℕ) (channels : List Channel)
    → every n (window_sound_at channels) && every n (state_sound_at lengths channels)
    ≡ every n (λ c. channel_sound lengths (is_current c) (get_or channels c no_channel))
unfolding every channel_sound
both lengths zero channels = refl
both lengths (suc n) channels = rw (apart (every n (window_sound_at channels)) (every n (state_sound_at lengths channels)), both lengths n channels)

whole : (r : Relay) (s t u : Bool) → s ≡ rest_sound r.settings r.age r.slot → t ≡ windows_sound r.channels
    → u ≡ states_sound r.settings.lengths r.channels → s && (t && u) ≡ sound_of r
unfolding sound_of windows_sound states_sound channels_sound
whole r s t u e f g = rw (e, f, g, both r.settings.lengths 6 r.channels)

pub returns : goal.returns
returns c = search whole
