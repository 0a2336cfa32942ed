-- Which settings and which relays are accepted, computed: each level and each field of a relay out of its range alone, at each end that its type
-- has, in each channel. They pin each condition of a sound relay, a term of document 01, by itself; that no other is asked, Examples shows. Rests on
-- the definitions alone.
use Prim.Native.Nat.{ℕ}
use mathlib.Core.Path.{◌≡◌, refl}
use mathlib.Core.Bool.{true, false}
use mathlib.Core.List.{List, [], ◌∷◌, ◌++◌}
use lib.IntN.{ℤ, pos, neg_ℤ}
use lib.ListN.{set, replicate}
use Rattle.relay.specs.declared.Channel.{Channel}
use Rattle.relay.specs.declared.Settings.{Settings}
use Rattle.relay.specs.declared.Relay.{Relay}
use Rattle.relay.specs.declared.FrameAnswer.{FrameAnswer}
use Rattle.lists.specs.Each.{table}
use Rattle.relay.specs.Sound.{channel_sound, sound_of}
use Rattle.relay.specs.Relay.{fresh_of, frame_of, reset_of}
use Rattle.relay.proofs.Computed.{computed}
use Rattle.relay.proofs.Examples.{quiet, bench, settings_of, equal_levels, channel, still}

-- ---- the refusals that two calls on a relay answer, a frame and a reset

abbrev pub refusals : Relay → List ℕ
refusals r = (frame_of r quiet 127).refusal ∷ (reset_of r 63).refusal ∷ []

abbrev both_accepted : List ℕ
both_accepted = 0 ∷ 0 ∷ []

abbrev both_refused : List ℕ
both_refused = 2 ∷ 2 ∷ []

abbrev aging : ℕ → ℕ → Relay
aging age slot = record { channels = still; age = age; slot = slot; device_on = true; settings = equal_levels 819 3413 }

abbrev aged : ℕ → ℕ → List ℕ
aged age slot = refusals (aging age slot)

abbrev under : Settings → List ℕ
under settings = refusals (record { channels = still; age = 72; slot = 0; device_on = true; settings = settings })

-- channel c is as given, and the others have seen nothing
abbrev holding : Channel → ℕ → List ℕ
holding ch c = refusals (record { channels = set still c ch; age = 72; slot = 0; device_on = true; settings = equal_levels 819 3413 })

-- the same for each channel: in all six alike, or otherwise in voltages and currents
abbrev in_each : Channel → List (List ℕ)
in_each ch = table 6 (holding ch)

abbrev each_accepted : List (List ℕ)
each_accepted = replicate 6 both_accepted

abbrev each_refused : List (List ℕ)
each_refused = replicate 6 both_refused

abbrev currents_alone : List (List ℕ)
currents_alone = replicate 3 both_refused ++ replicate 3 both_accepted

-- a channel with one sample in slot k, else zeros; each slot of each channel in turn
abbrev sampled : ℤ → ℕ → Channel
sampled s k = record { samples = set (replicate 8 (pos 0)) k s; loss_run = 0; over_run = 0; loss_latch = false; over_latch = false }

abbrev in_each_slot : ℤ → List (List (List ℕ))
in_each_slot s = table 8 (λ k. in_each (sampled s k))

-- what each byte gives as the enable byte of a frame
abbrev by_enable : Relay → List ℕ
by_enable r = table 256 (λ enable. (frame_of r quiet enable).refusal)

-- ---- one level apart from the others, in each place: what making a relay answers, and what the two calls on a relay that has it answer

abbrev dropped : ℕ → ℕ → Settings
dropped level c = settings_of (record { drop = set (replicate 6 819) c level; pickup = replicate 3 3413; restraint = replicate 3 0 })

abbrev picked : ℕ → ℕ → Settings
picked level k = settings_of (record { drop = replicate 6 819; pickup = set (replicate 3 3413) k level; restraint = replicate 3 0 })

abbrev restrained : ℕ → ℕ → Settings
restrained r k = settings_of (record { drop = replicate 6 819; pickup = replicate 3 3413; restraint = set (replicate 3 0) k r })

abbrev with_level : Settings → List ℕ
with_level s = (fresh_of s).refusal ∷ under s

abbrev each_drop : ℕ → List (List ℕ)
each_drop level = table 6 (λ c. with_level (dropped level c))

abbrev each_pickup : ℕ → List (List ℕ)
each_pickup level = table 3 (λ k. with_level (picked level k))

abbrev each_restraint : ℕ → List (List ℕ)
each_restraint r = table 3 (λ k. with_level (restrained r k))

-- a settled relay with such a restraint
abbrev restraining : ℕ → ℕ → Relay
restraining r k = record { channels = still; age = 72; slot = 7; device_on = true; settings = restrained r k }

-- one of any age
abbrev restraining_at : ℕ → ℕ → Relay
restraining_at age r = record { channels = still; age = age; slot = 0; device_on = true; settings = restrained r 2 }

abbrev not_run : Relay → FrameAnswer
not_run r = record { relay = r; refusal = 2; amplitudes = replicate 6 0; output = 0 }

pub record SoundCalls : Type 0 where
  -- "enable bit 7 is 1", of every byte; a relay that is not sound comes first. For every mask that is in Resets and `reset_unsound`
  pub bytes : by_enable (aging 72 7) ≡ replicate 128 0 ++ replicate 128 4
  pub bytes_unsound : by_enable (aging 72 8) ≡ replicate 256 2
  -- "settings are in range", 1 to 10,700: each drop level and each pickup level
  pub lowest : (each_drop 1 ≡ replicate 6 (0 ∷ both_accepted)) × (each_pickup 1 ≡ replicate 3 (0 ∷ both_accepted))
  pub highest : (each_drop 10700 ≡ replicate 6 (0 ∷ both_accepted)) × (each_pickup 10700 ≡ replicate 3 (0 ∷ both_accepted))
  pub none : (each_drop 0 ≡ replicate 6 (1 ∷ both_refused)) × (each_pickup 0 ≡ replicate 3 (1 ∷ both_refused))
  pub above : (each_drop 10701 ≡ replicate 6 (1 ∷ both_refused)) × (each_pickup 10701 ≡ replicate 3 (1 ∷ both_refused))
  pub far_above : (each_drop 20000 ≡ replicate 6 (1 ∷ both_refused)) × (each_pickup 20000 ≡ replicate 3 (1 ∷ both_refused))
  pub highest_number : (each_drop 65535 ≡ replicate 6 (1 ∷ both_refused)) × (each_pickup 65535 ≡ replicate 3 (1 ∷ both_refused))
  -- "a restraint level r, 1 to 100 or 0 for off" (document 02, Paper 8), of each current; 101 is refused by 20, and a relay that has it is not sound
  pub restraints : (each_restraint 0 ≡ replicate 3 (0 ∷ both_accepted)) × (each_restraint 1 ≡ replicate 3 (0 ∷ both_accepted))
  pub highest_restraints : (each_restraint 99 ≡ replicate 3 (0 ∷ both_accepted)) × (each_restraint 100 ≡ replicate 3 (0 ∷ both_accepted))
  pub high_restraints : (each_restraint 101 ≡ replicate 3 (20 ∷ both_refused)) × (each_restraint 255 ≡ replicate 3 (20 ∷ both_refused))
  pub each_restraint_lem : table 3 (λ k. table 256 (λ r. sound_of (restraining r k))) ≡ replicate 3 (replicate 101 true ++ replicate 155 false)
  pub restraint_ages : (table 73 (λ age. sound_of (restraining_at age 101)) ≡ replicate 73 false)
      × (table 73 (λ age. sound_of (restraining_at age 100)) ≡ replicate 73 true)
  -- such a relay is handed back as it was given, its restraints too; a bad code, enable byte or mask comes after it
  pub unsound_frame : (table 3 (λ k. frame_of (restraining 101 k) (replicate 6 1024) 128) ≡ table 3 (λ k. not_run (restraining 101 k)))
      × (table 3 (λ k. frame_of (restraining 255 k) quiet 127) ≡ table 3 (λ k. not_run (restraining 255 k)))
  pub unsound_reset : (table 3 (λ k. reset_of (restraining 101 k) 63) ≡ table 3 (λ k. record { relay = restraining 101 k; refusal = 2 }))
      × (table 3 (λ k. reset_of (restraining 255 k) 192) ≡ table 3 (λ k. record { relay = restraining 255 k; refusal = 2 }))
  pub restraint_first : by_enable (restraining 101 2) ≡ replicate 256 2
  -- "age is 0 to 72, slot 0 to 7"
  pub ages : (aged 0 0 ≡ both_accepted) × (aged 72 0 ≡ both_accepted) × (aged 73 0 ≡ both_refused) × (aged 255 0 ≡ both_refused)
  pub each_age : table 256 (λ age. sound_of (aging age 0)) ≡ replicate 73 true ++ replicate 183 false
  pub each_slot : table 256 (λ slot. sound_of (aging 72 slot)) ≡ replicate 8 true ++ replicate 248 false
  pub no_tie : table 73 (λ age. table 8 (λ slot. sound_of (aging age slot))) ≡ replicate 73 (replicate 8 true)
  pub slots : (aged 72 7 ≡ both_accepted) × (aged 72 8 ≡ both_refused) × (aged 72 255 ≡ both_refused)
  -- "samples −512 to 511", in each slot
  pub samples : (in_each_slot (neg_ℤ (pos 512)) ≡ replicate 8 each_accepted) × (in_each_slot (pos 511) ≡ replicate 8 each_accepted)
  pub low_samples : (in_each_slot (neg_ℤ (pos 513)) ≡ replicate 8 each_refused) × (in_each_slot (neg_ℤ (pos 32768)) ≡ replicate 8 each_refused)
  pub high_samples : (in_each_slot (pos 512) ≡ replicate 8 each_refused) × (in_each_slot (pos 32767) ≡ replicate 8 each_refused)
  -- "loss runs 0 to 16", with the latch on or off
  pub loss_runs : (in_each (channel 16 0 false false) ≡ each_accepted) × (in_each (channel 16 0 true false) ≡ each_accepted)
  pub long_losses : (in_each (channel 17 0 true false) ≡ each_refused) × (in_each (channel 255 0 false false) ≡ each_refused)
  pub each_loss : (table 256 (λ run. channel_sound bench false (channel run 0 false false)) ≡ replicate 17 true ++ replicate 239 false)
      × (table 256 (λ run. channel_sound bench true (channel run 0 true false)) ≡ replicate 17 true ++ replicate 239 false)
  -- "over runs 0 to 4. A voltage has no over run and no over latch; a place kept for one must hold 0 or off."
  pub over_runs : (in_each (channel 0 1 false false) ≡ currents_alone) × (in_each (channel 0 4 false false) ≡ currents_alone)
  pub long_overs : (in_each (channel 0 5 false true) ≡ each_refused) × (in_each (channel 0 255 false false) ≡ each_refused)
  pub each_over : (table 256 (λ run. channel_sound bench true (channel 0 run false false)) ≡ replicate 5 true ++ replicate 251 false)
      × (table 256 (λ run. channel_sound bench true (channel 0 run false true)) ≡ replicate 5 true ++ replicate 251 false)
      × (table 256 (λ run. channel_sound bench false (channel 0 run false false)) ≡ true ∷ replicate 255 false)
  pub over_latches_lem : (in_each (channel 0 0 false true) ≡ currents_alone) × (in_each (channel 0 0 true false) ≡ each_accepted)

pub calls : SoundCalls
unfolding computed
calls =
    record {
      bytes = refl;
      bytes_unsound = refl;
      lowest = (refl, refl);
      highest = (refl, refl);
      none = (refl, refl);
      above = (refl, refl);
      far_above = (refl, refl);
      highest_number = (refl, refl);
      restraints = (refl, refl);
      highest_restraints = (refl, refl);
      high_restraints = (refl, refl);
      each_restraint_lem = refl;
      restraint_ages = (refl, refl);
      unsound_frame = (refl, refl);
      unsound_reset = (refl, refl);
      restraint_first = refl;
      ages = (refl, refl, refl, refl);
      each_age = refl;
      each_slot = refl;
      no_tie = refl;
      slots = (refl, refl, refl);
      samples = (refl, refl);
      low_samples = (refl, refl);
      high_samples = (refl, refl);
      loss_runs = (refl, refl);
      long_losses = (refl, refl);
      over_runs = (refl, refl);
      long_overs = (refl, refl);
      each_loss = (refl, refl);
      each_over = (refl, refl, refl);
      over_latches_lem = (refl, refl);
    }
