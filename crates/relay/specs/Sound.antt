-- A sound relay, a term of document 01: "settings are in range, age is 0 to 72, slot 0 to 7, samples −512 to 511, loss
-- runs 0 to 16, over runs 0 to 4. A voltage has no over run and no over latch; a place kept for one must hold 0 or
-- off." For 16 and 4: "A sound relay has runs up to its own lengths" (document 02, Paper 9).
-- "Settings are in range" where neither refusal 1 nor 20 nor 21 would refuse them: an r above 100 is unsound too, and a
-- length outside 1 to 24. No other relation between fields is asked for. Rests on the settings and on a window's
-- samples.
use Rattle.std.specs.Prelude.{ℕ, ◌≡◌, Bool, true, ◌&&◌, not, cond, List, leb, eqb, length, get_or}
use Rattle.lists.specs.Each.{every}
use Rattle.phasor.specs.Window.{window_sound}
use Rattle.relay.specs.declared.Channel.{Channel}
use Rattle.relay.specs.declared.Lengths.{Lengths}
use Rattle.relay.specs.declared.Relay.{Relay}
use Rattle.relay.specs.Settings.{is_current, settings_sound, settled}
use Rattle.relay.specs.Channel.{no_channel}

abbrev pub over_sound : ℕ → Bool → Channel → Bool
over_sound len current ch =
    cond current (leb ch.over_run len) (eqb ch.over_run 0 && not ch.over_latch)

unfoldable pub channel_sound : Lengths → Bool → Channel → Bool
channel_sound lengths current ch =
    window_sound ch.samples && leb ch.loss_run lengths.loss && over_sound lengths.over current ch

unfoldable pub channels_sound : Lengths → List Channel → Bool
channels_sound lengths channels = every 6 (λ c. channel_sound lengths (is_current c) (get_or channels c no_channel))

unfoldable pub sound_of : Relay → Bool
sound_of r =
    settings_sound r.settings && leb r.age settled && leb r.slot 7
    && channels_sound r.settings.lengths r.channels

-- a sound relay of six channels, as laws take it: the code's array has six, a list of the logic any number
pub record SoundRelay : Type 0 where
  pub relay : Relay
  pub sound : sound_of relay ≡ true
  pub six : length relay.channels ≡ 6
