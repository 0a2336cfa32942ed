-- What the contracts of this crate's own functions cite, and no entry point's: lists of six made by the rules for
-- channel c, and soundness by its parts. Rests on these rules.
use Rattle.std.specs.Prelude.{ℕ, Bool, ◌&&◌, List, leb, eqb, get_or}
use Rattle.lists.specs.Each.{every, table}
use Rattle.phasor.specs.Lanes.{channel_window}
use Rattle.phasor.specs.Window.{window_sound}
use Rattle.phasor.specs.declared.Window.{Window}
use Rattle.relay.specs.declared.Channel.{Channel}
use Rattle.relay.specs.declared.Lengths.{Lengths}
use Rattle.relay.specs.declared.Levels.{Levels}
use Rattle.relay.specs.declared.Settings.{Settings}
use Rattle.relay.specs.declared.ChannelsAndOutput.{ChannelsAndOutput}
use Rattle.frames.specs.Bits.{bits_below, enabled_in}
use Rattle.relay.specs.Channel.{no_channel, window_after, channel_with, latch_on}
use Rattle.relay.specs.Settings.{is_current, levels_of, unrestrained_by, settings_sound, settled}
use Rattle.relay.specs.Sound.{over_sound}
use Rattle.relay.specs.Relay.{window_in, reset_channel, changed_channel}

-- ---- six channels

-- a window as the amplitude takes it: that of one channel, and that of channel c
abbrev pub stored_window : ℕ → ℕ → Channel → Window
stored_window slot code ch = record { samples = window_after slot code ch }

abbrev pub stored_at : ℕ → List ℕ → List Channel → ℕ → Window
stored_at slot codes channels c = record { samples = window_in slot codes channels c }

unfoldable pub windows_of : ℕ → List ℕ → List Channel → List Window
windows_of slot codes channels = table 6 (stored_at slot codes channels)

-- channel c after steps 1 to 4, its bit of the output, and all of both, from the windows that step 1 leaves
abbrev pub channel_of : Settings → Bool → ℕ → List Window → ℕ → Channel → Channel
channel_of settings counted enable windows c channel =
    channel_with settings.lengths (levels_of settings.levels c) counted (enabled_in enable c)
    (channel_window windows c) channel

unfoldable pub channel_in : Settings → Bool → ℕ → List Window → List Channel → ℕ → Channel
channel_in settings counted enable windows channels c =
    channel_of settings counted enable windows c (get_or channels c no_channel)

unfoldable pub on_in : Settings → Bool → ℕ → List Window → List Channel → ℕ → Bool
on_in settings counted enable windows channels c =
    latch_on (channel_in settings counted enable windows channels c) && enabled_in enable c

unfoldable pub channels_and_output : Settings → Bool → ℕ → List Window → List Channel → ChannelsAndOutput
channels_and_output settings counted enable windows channels =
    record {
      channels = table 6 (channel_in settings counted enable windows channels);
      output = bits_below 6 (on_in settings counted enable windows channels);
    }

-- which channels are unrestrained; a voltage has no restraint
unfoldable pub unrestrained_at : Settings → List Window → ℕ → Bool
unrestrained_at settings windows c = unrestrained_by (levels_of settings.levels c).restraint (channel_window windows c)

unfoldable pub unrestrained_in : Settings → List Window → List Bool
unrestrained_in settings windows = table 6 (unrestrained_at settings windows)

-- each of the first n numbers is 0
abbrev pub all_zero : ℕ → List ℕ → Bool
all_zero n xs = every n (λ k. eqb (get_or xs k 0) 0)

-- the six channels after a reset, and under new levels
unfoldable pub resets_of : ℕ → List Channel → List Channel
resets_of mask channels = table 6 (reset_channel mask channels)

unfoldable pub changes_of : Levels → Levels → List Channel → List Channel
changes_of old new channels = table 6 (changed_channel old new channels)

-- ---- soundness by its parts

-- the two parts of a sound channel, and of six: the samples, and the runs and latches
abbrev pub window_sound_at : List Channel → ℕ → Bool
window_sound_at channels c = window_sound (get_or channels c no_channel).samples

abbrev pub state_sound : Lengths → Bool → Channel → Bool
state_sound lengths current ch = leb ch.loss_run lengths.loss && over_sound lengths.over current ch

abbrev pub state_sound_at : Lengths → List Channel → ℕ → Bool
state_sound_at lengths channels c = state_sound lengths (is_current c) (get_or channels c no_channel)

unfoldable pub windows_sound : List Channel → Bool
windows_sound channels = every 6 (window_sound_at channels)

unfoldable pub states_sound : Lengths → List Channel → Bool
states_sound lengths channels = every 6 (state_sound_at lengths channels)

-- what a relay has besides its channels
abbrev pub rest_sound : Settings → ℕ → ℕ → Bool
rest_sound settings age slot = settings_sound settings && leb age settled && leb slot 7
