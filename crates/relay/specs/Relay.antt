-- The relay's four calls, refusals included (document 01, "Frames, runs, latches, resets", rows 1 to 5 of "Refusals",
-- and 20 and 21 of document 02), with the settling of document 02, Paper 5, the new levels of Paper 6 and the lengths
-- of Paper 9. Rests on one channel's rules and on what a sound relay is.
use Rattle.std.specs.Prelude.{ℕ, ◌+◌, Bool, true, false, ◌&&◌, ◌||◌, not, cond, List, [], ◌∷◌, ◌++◌, ℤ, ltb, leb, eqb, get_or, replicate}
use Rattle.lists.specs.Each.{table}
use Rattle.refusals.specs.Refusals.{Check, ◌or_else◌, first_fault, accepted}
use Rattle.refusals.specs.Refusals.{bad_setting, unsound_relay, bad_code, bad_enable, bad_mask, bad_restraint, bad_length}
use Rattle.frames.specs.Codes.{codes_in_range}
use Rattle.frames.specs.Bits.{bit_of, bits_below, enabled_in}
use Rattle.phasor.specs.Cordic.{amplitude_of}
use Rattle.relay.specs.declared.Channel.{Channel}
use Rattle.relay.specs.declared.Levels.{Levels}
use Rattle.relay.specs.declared.Settings.{Settings}
use Rattle.relay.specs.declared.Relay.{Relay}
use Rattle.relay.specs.declared.RelayAnswer.{RelayAnswer}
use Rattle.relay.specs.declared.FrameAnswer.{FrameAnswer}
use Rattle.relay.specs.Settings.{nine_sound, restraints_sound, lengths_sound, zero_settings, levels_of, settled}
use Rattle.relay.specs.Channel.{no_channel, fresh_channel, cleared_of, window_after, channel_after, latch_on}
use Rattle.relay.specs.Channel.{carried_over}
use Rattle.relay.specs.Sound.{sound_of}

abbrev pub channel_at : Relay → ℕ → Channel
channel_at r c = get_or r.channels c no_channel

-- ---- a fresh relay

-- a relay that no frame has met, with what it remembers of bit 6
unfoldable pub unused_relay : Bool → Settings → Relay
unused_relay on s = record { channels = replicate 6 fresh_channel; age = 0; slot = 0; device_on = on; settings = s }

-- "A fresh relay has age 0, slot 0, all runs 0, all latches off." "a fresh relay remembers on" (Paper 5)
abbrev pub fresh_relay : Settings → Relay
fresh_relay s = unused_relay true s

-- what a fresh relay that is refused by 1, 20 or 21 returns: "all-zero", so that it remembers off
abbrev pub zero_relay : Relay
zero_relay = unused_relay false zero_settings

-- "20 for r above 100, after 1": of levels that are handed in, here and to `change`
abbrev pub level_checks : Levels → List Check
level_checks l = (nine_sound l or_else bad_setting) ∷ (restraints_sound l.restraint or_else bad_restraint) ∷ []

unfoldable pub level_refusal : Levels → ℕ
level_refusal l = first_fault (level_checks l)

-- "21, and not 1, for a length outside 1 to 24, after 20" (Paper 9)
abbrev pub fresh_checks : Settings → List Check
fresh_checks s = level_checks s.levels ++ ((lengths_sound s.lengths or_else bad_length) ∷ [])

unfoldable pub fresh_refusal : Settings → ℕ
fresh_refusal s = first_fault (fresh_checks s)

unfoldable pub fresh_of : Settings → RelayAnswer
fresh_of s =
    cond (eqb (fresh_refusal s) accepted)
    (record { relay = fresh_relay s; refusal = accepted })
    (record { relay = zero_relay; refusal = fresh_refusal s })

-- ---- a frame

-- Paper 5, before the five steps: "A frame with bit 6 on after one with it off sets age to 0 before anything else."
-- What the frame then finds, from what the relay remembers of bit 6, the frame's own, and the age.
abbrev pub found_by : Bool → Bool → ℕ → ℕ
found_by was on age = cond (on && not was) 0 age

abbrev pub age_found : Relay → ℕ → ℕ
age_found r enable = found_by r.device_on (bit_of enable 6) r.age

-- a counted frame, a term of document 01, "is one that found age 72"; a sound relay's age is at most 72
abbrev pub counted : Relay → ℕ → Bool
counted r enable = leb settled (age_found r enable)

-- step 2: "if age is below 72, adds 1 to age"
abbrev pub age_after : ℕ → ℕ
age_after age = cond (ltb age settled) (age + 1) age

-- step 5: "advances the slot, 7 back to 0"
abbrev pub slot_after : ℕ → ℕ
slot_after slot = cond (ltb slot 7) (slot + 1) 0

-- What a frame makes of channel c is said of the parts of the relay that it goes by: the settings, the slot, whether
-- the frame is counted, and the channels. The code's functions are handed these, and not the whole relay.

-- step 1: the window with the frame's sample in its slot, and its amplitude
abbrev pub window_in : ℕ → List ℕ → List Channel → ℕ → List ℤ
window_in slot codes channels c = window_after slot (get_or codes c 0) (get_or channels c no_channel)

unfoldable pub amplitude_in : ℕ → List ℕ → List Channel → ℕ → ℕ
amplitude_in slot codes channels c = amplitude_of 1 (window_in slot codes channels c)

-- channel c after steps 1 to 4
unfoldable pub next_channel : Settings → ℕ → Bool → List ℕ → ℕ → List Channel → ℕ → Channel
next_channel settings slot is_counted codes enable channels c =
    channel_after settings.lengths (levels_of settings.levels c) slot is_counted (enabled_in enable c)
    (get_or codes c 0) (get_or channels c no_channel)

-- step 5: "bit c is 1 if channel c has a latch on and is enabled in this frame"
unfoldable pub output_in : Settings → ℕ → Bool → List ℕ → ℕ → List Channel → ℕ → Bool
output_in settings slot is_counted codes enable channels c =
    latch_on (next_channel settings slot is_counted codes enable channels c) && enabled_in enable c

-- "An accepted frame, in order": its five steps
unfoldable pub accepted_frame : Relay → List ℕ → ℕ → FrameAnswer
accepted_frame r codes enable =
    record {
      relay = record {
        -- 1 stores the samples, 2 and 3 count the runs, 4 turns latches on
        channels = table 6 (next_channel r.settings r.slot (counted r enable) codes enable r.channels);
        age = age_after (age_found r enable);  -- 2
        slot = slot_after r.slot;  -- 5
        -- "The relay remembers whether bit 6 was on in the latest accepted frame" (Paper 5)
        device_on = bit_of enable 6;
        settings = r.settings;
      };
      refusal = accepted;
      -- 1 finds the six amplitudes, 5 answers them with the output
      amplitudes = table 6 (amplitude_in r.slot codes r.channels);
      output = bits_below 6 (output_in r.settings r.slot (counted r enable) codes enable r.channels);
    }

-- what refusals 2, 3 and 4 return: "relay as given, amplitudes and output 0"
unfoldable pub refused_frame : Relay → ℕ → FrameAnswer
refused_frame r refusal = record { relay = r; refusal = refusal; amplitudes = replicate 6 0; output = 0 }

-- "A frame checks 2, 3, 4": on a sound relay "codes, enable byte .. alone decide"
abbrev pub input_checks : List ℕ → ℕ → List Check
input_checks codes enable = (codes_in_range codes or_else bad_code) ∷ (not (bit_of enable 7) or_else bad_enable) ∷ []

unfoldable pub input_refusal : List ℕ → ℕ → ℕ
input_refusal codes enable = first_fault (input_checks codes enable)

abbrev pub frame_checks : Relay → List ℕ → ℕ → List Check
frame_checks r codes enable = (sound_of r or_else unsound_relay) ∷ input_checks codes enable

unfoldable pub frame_refusal : Relay → List ℕ → ℕ → ℕ
frame_refusal r codes enable = first_fault (frame_checks r codes enable)

unfoldable pub frame_of : Relay → List ℕ → ℕ → FrameAnswer
frame_of r codes enable =
    cond (eqb (frame_refusal r codes enable) accepted)
    (accepted_frame r codes enable)
    (refused_frame r (frame_refusal r codes enable))

-- ---- a reset

-- channel c after a reset
unfoldable pub reset_channel : ℕ → List Channel → ℕ → Channel
reset_channel mask channels c = cond (bit_of mask c) (cleared_of (get_or channels c no_channel)) (get_or channels c no_channel)

-- "it clears runs and latches of the named channels and nothing else"
unfoldable pub accepted_reset : Relay → ℕ → RelayAnswer
accepted_reset r mask =
    record {
      relay = record {
        channels = table 6 (reset_channel mask r.channels);
        age = r.age;
        slot = r.slot;
        device_on = r.device_on;
        settings = r.settings;
      };
      refusal = accepted;
    }

-- what refusals 2 and 5 return: "relay as given"
unfoldable pub refused_reset : Relay → ℕ → RelayAnswer
refused_reset r refusal = record { relay = r; refusal = refusal }

-- "a reset 2, 5": on a sound relay the "mask alone" decides
abbrev pub mask_checks : ℕ → List Check
mask_checks mask = (not (bit_of mask 6 || bit_of mask 7) or_else bad_mask) ∷ []

unfoldable pub mask_refusal : ℕ → ℕ
mask_refusal mask = first_fault (mask_checks mask)

abbrev pub reset_checks : Relay → ℕ → List Check
reset_checks r mask = (sound_of r or_else unsound_relay) ∷ mask_checks mask

unfoldable pub reset_refusal : Relay → ℕ → ℕ
reset_refusal r mask = first_fault (reset_checks r mask)

unfoldable pub reset_of : Relay → ℕ → RelayAnswer
reset_of r mask =
    cond (eqb (reset_refusal r mask) accepted)
    (accepted_reset r mask)
    (refused_reset r (reset_refusal r mask))

-- ---- new levels: document 02, Paper 6, "Add a call that takes all nine new levels", and r with them (Paper 8)

-- channel c under its old levels, then its new ones
unfoldable pub changed_channel : Levels → Levels → List Channel → ℕ → Channel
changed_channel old new channels c = carried_over (levels_of old c) (levels_of new c) (get_or channels c no_channel)

-- "Windows, slot, age, latches and the remembered bit 6 carry over."
unfoldable pub accepted_change : Relay → Levels → RelayAnswer
accepted_change r new =
    record {
      relay = record {
        channels = table 6 (changed_channel r.settings.levels new r.channels);
        age = r.age;
        slot = r.slot;
        device_on = r.device_on;
        settings = record { levels = new; lengths = r.settings.lengths };  -- lengths are "fixed when it is made"
      };
      refusal = accepted;
    }

-- what refusals 2, 1 and 20 return: "relay as given"
unfoldable pub refused_change : Relay → ℕ → RelayAnswer
refused_change r refusal = record { relay = r; refusal = refusal }

-- "Refused: 2 and then 1", then 20: on a sound relay the levels alone decide
abbrev pub change_checks : Relay → Levels → List Check
change_checks r new = (sound_of r or_else unsound_relay) ∷ level_checks new

unfoldable pub change_refusal : Relay → Levels → ℕ
change_refusal r new = first_fault (change_checks r new)

unfoldable pub change_of : Relay → Levels → RelayAnswer
change_of r new =
    cond (eqb (change_refusal r new) accepted)
    (accepted_change r new)
    (refused_change r (change_refusal r new))
