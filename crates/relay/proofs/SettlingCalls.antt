-- Settling after the device switch (document 02, Paper 5), computed: what a frame makes of the age, the runs, the latches and the remembered bit 6 in
-- each of the four cases, at each age and for each enable byte; lists of frames around a rise; refused calls and resets. Rise (our word): a frame
-- with bit 6 on after one with it off. Rests on the definitions alone.
use Prim.Native.Nat.{ℕ, ◌+◌, ◌%◌}
use mathlib.Core.Path.{◌≡◌, refl}
use mathlib.Core.Bool.{Bool, true, false, cond}
use mathlib.Core.List.{List, [], ◌∷◌, ◌++◌, map}
use lib.IntN.{pos, neg_ℤ}
use lib.Dec.{eqb}
use lib.ListN.{get_or, set, replicate}
use Rattle.lists.specs.Each.{table}
use Rattle.relay.specs.declared.Channel.{Channel}
use Rattle.relay.specs.declared.Settings.{Settings}
use Rattle.relay.specs.declared.Relay.{Relay}
use Rattle.relay.specs.declared.FrameAnswer.{FrameAnswer}
use Rattle.relay.specs.Sound.{sound_of}
use Rattle.relay.specs.Relay.{fresh_of, frame_of, reset_of}
use Rattle.relay.proofs.Computed.{computed}
use Rattle.relay.proofs.Examples.{quiet, settings_of, equal_levels, channel, still, all_zero, struck, marked, mixed, mixed_after, each_run}
use Rattle.relay.proofs.Examples.{refused_answer, reset_answer, answer400}
use Rattle.relay.proofs.SoundCalls.{refusals}

-- ---- one call on a relay that is handed in

-- levels for amplitudes of 400: loss is met on channels 0, 1, 3 and 5, over on 4 and 5
abbrev levels : Settings
levels = settings_of (record { drop = 401 ∷ 402 ∷ 400 ∷ 403 ∷ 399 ∷ 404 ∷ []; pickup = 401 ∷ 400 ∷ 399 ∷ []; restraint = 7 ∷ 0 ∷ 0 ∷ [] })

-- whether it remembers bit 6 as on, its age, its slot and its channels
abbrev given : Bool → ℕ → ℕ → List Channel → Relay
given on age slot channels = record { channels = channels; age = age; slot = slot; device_on = on; settings = levels }

-- a frame with channels 0, 2, 3 and 4 enabled by their own bits, and bit 6 on or off. It leaves each amplitude at 400
abbrev on_frame : Relay → FrameAnswer
on_frame r = frame_of r quiet 0x5D

abbrev off_frame : Relay → FrameAnswer
off_frame r = frame_of r quiet 0x1D

-- an answer but for its amplitudes, which take long to compute; `whole` has them too
abbrev bare : FrameAnswer → FrameAnswer
bare a = record { relay = a.relay; refusal = a.refusal; amplitudes = []; output = a.output }

abbrev bare_answer : Relay → ℕ → FrameAnswer
bare_answer r output = record { relay = r; refusal = 0; amplitudes = []; output = output }

-- what such frames make of the six states `mixed` where they are counted: bit 6 on, and off
abbrev mixed_counted : List Channel
mixed_counted =
    struck 8 0 false false
    ∷ struck 0 0 false false
    ∷ struck 0 0 false false
    ∷ struck 8 0 true false
    ∷ struck 0 3 true true
    ∷ struck 0 0 false false ∷ []

abbrev mixed_off : List Channel
mixed_off = replicate 3 (struck 0 0 false false) ++ (struck 0 0 true false ∷ struck 0 0 true true ∷ struck 0 0 false false ∷ [])

-- six channels with the same runs and latches, but for what a voltage has not
abbrev six : (ℕ → ℕ → Bool → Bool → Channel) → ℕ → ℕ → Bool → Bool → List Channel
six f loss_count over_count loss_latch_of over_latch_of = replicate 3 (f loss_count 0 loss_latch_of false) ++ replicate 3 (f loss_count over_count loss_latch_of over_latch_of)

-- a rise from age 72 that finds these runs, and what it leaves: the runs as they were, and latches by step 4. The output byte where the loss latches
-- are on, and where the over latches alone are
abbrev rise_of : ℕ → ℕ → ℕ → FrameAnswer
rise_of enable loss_count over_count = bare (frame_of (given false 72 3 (six marked loss_count over_count false false)) quiet enable)

abbrev risen : ℕ → ℕ → ℕ → ℕ → FrameAnswer
risen loss_output over_output loss_count over_count =
    bare_answer (given true 1 4 (six struck loss_count over_count (eqb loss_count 16) (eqb over_count 4)))
    (cond (eqb loss_count 16) loss_output (cond (eqb over_count 4) over_output 0))

-- the remembered bit and the age that a frame leaves
pub record Memory : Type 0 where
  pub on : Bool
  pub age : ℕ

abbrev remembering : Bool → ℕ → Memory
remembering on age = record { on = on; age = age }

abbrev memory : FrameAnswer → Memory
memory a = remembering a.relay.device_on a.relay.age

-- all latches on, with runs of 5 and 2, or 0
abbrev latched : List Channel
latched = six channel 5 2 true true

abbrev latched_off : List Channel
latched_off = six channel 0 0 true true

-- codes that 3 refuses; enable bytes that 4 refuses, with bit 6 off and on
abbrev bad_codes : List ℕ
bad_codes = replicate 5 512 ++ (1024 ∷ [])

abbrev bad_enables : List ℕ
bad_enables = 0x80 ∷ 0xBF ∷ 0xC0 ∷ 0xFF ∷ []

-- ---- lists of frames

-- the wave 100, 71, 0, −71, −100, −71, 0, 71 on each channel: m is 1603 once the window is full, which both levels take
abbrev wave_levels : Settings
wave_levels = equal_levels 1604 1603

abbrev wave : List ℕ
wave = 612 ∷ 583 ∷ 512 ∷ 441 ∷ 412 ∷ 441 ∷ 512 ∷ 583 ∷ []

abbrev waving : ℕ → ℕ → Channel
waving loss_count over_count =
    record {
      samples = pos 100 ∷ pos 71 ∷ pos 0 ∷ neg_ℤ (pos 71) ∷ neg_ℤ (pos 100) ∷ neg_ℤ (pos 71) ∷ pos 0 ∷ pos 71 ∷ [];
      loss_run = loss_count;
      over_run = over_count;
      loss_latch = false;
      over_latch = false;
    }

abbrev settled_with : Bool → List Channel → Relay
settled_with on channels = record { channels = channels; age = 72; slot = 0; device_on = on; settings = wave_levels }

-- the output byte and the age after each frame of the wave, by its enable byte
pub record Seen : Type 0 where
  pub output : ℕ
  pub age : ℕ

abbrev seen : ℕ → ℕ → Seen
seen output age = record { output = output; age = age }

pub walk : Relay → List ℕ → List Seen
walk r [] = []
walk r (enable ∷ more) =
    let a : FrameAnswer = frame_of r (replicate 6 (get_or wave r.slot 0)) enable in
    seen a.output a.relay.age ∷ walk a.relay more

-- the 72 frames from a rise on, with no latch on
abbrev settling : List Seen
settling = table 72 (λ n. seen 0 (n + 1))

pub record SettlingCalls : Type 0 where
  -- "a fresh relay remembers on"; one that is refused, by 1 or by 20, is all zero and remembers off, and every later call on it is refused by 2
  pub fresh_on : fresh_of levels ≡ record { relay = given true 0 0 still; refusal = 0 }
  pub refused_off : (fresh_of (equal_levels 0 0) ≡ record { relay = all_zero; refusal = 1 })
      × (fresh_of (settings_of (record { drop = replicate 6 1; pickup = replicate 3 1; restraint = replicate 3 101 })) ≡ record { relay = all_zero; refusal = 20 })
  pub zero_relay_lem : (map (frame_of all_zero quiet) (127 ∷ 63 ∷ []) ≡ replicate 2 (refused_answer all_zero 2))
      × (reset_of all_zero 63 ≡ reset_answer all_zero 2)
  -- "A frame with bit 6 on after one with it off sets age to 0 before anything else": step 2 then makes it 1, and the frame is not counted, whatever
  -- the age was. Step 4 turns on the latch of a full run, latches show in the output, the sample is stored, the slot advances
  pub rise : table 73 (λ age. bare (on_frame (given false age 3 mixed))) ≡ replicate 73 (bare_answer (given true 1 4 mixed_after) 28)
  -- the three other cases go on from the age that the relay has, and are counted at 72
  pub stays_on : table 73 (λ age. bare (on_frame (given true age 3 mixed)))
      ≡ table 72 (λ age. bare_answer (given true (age + 1) 4 mixed_after) 28) ++ (bare_answer (given true 72 4 mixed_counted) 24 ∷ [])
  pub goes_off : table 73 (λ age. bare (off_frame (given true age 3 mixed)))
      ≡ table 72 (λ age. bare_answer (given false (age + 1) 4 mixed_after) 0) ++ (bare_answer (given false 72 4 mixed_off) 0 ∷ [])
  pub stays_off : table 73 (λ age. bare (off_frame (given false age 3 mixed)))
      ≡ table 72 (λ age. bare_answer (given false (age + 1) 4 mixed_after) 0) ++ (bare_answer (given false 72 4 mixed_off) 0 ∷ [])
  -- the four cases at age 72, and a rise below it
  pub whole : (on_frame (given false 72 3 mixed) ≡ answer400 (given true 1 4 mixed_after) 28)
      × (on_frame (given false 5 3 mixed) ≡ answer400 (given true 1 4 mixed_after) 28)
      × (on_frame (given true 72 3 mixed) ≡ answer400 (given true 72 4 mixed_counted) 24)
      × (off_frame (given true 72 3 mixed) ≡ answer400 (given false 72 4 mixed_off) 0)
      × (off_frame (given false 72 3 mixed) ≡ answer400 (given false 72 4 mixed_off) 0)
  -- "The relay remembers whether bit 6 was on in the latest accepted frame": each enable byte, after on and after off
  pub enables_on : table 128 (λ enable. memory (frame_of (given true 40 3 latched) quiet enable))
      ≡ replicate 64 (remembering false 41) ++ replicate 64 (remembering true 41)
  pub enables_off : table 128 (λ enable. bare (frame_of (given false 72 3 latched) quiet enable))
      ≡ replicate 64 (bare_answer (given false 72 4 latched_off) 0) ++ table 64 (bare_answer (given true 1 4 latched))
  -- "counts no run; all runs stay as they were": each loss run beside each over run, levels met or not; channels 0, 2, 3 and 4
  -- are enabled, then 1 and 5
  pub runs_kept : each_run (rise_of 0x5D) ≡ each_run (risen 29 24)
  pub runs_kept_rest : table 17 (λ run. rise_of 0x62 run (run % 5)) ≡ table 17 (λ run. risen 34 32 run (run % 5))
  -- A rise in frame T, both levels met throughout: frames T to T + 71 are not counted and T + 72 is. An over run from 0 has its latch in T + 75, one
  -- from 1 (channel 4) in T + 74; a loss run from 0 in T + 87, one from 5 (channel 1) in T + 82
  pub settles : walk (settled_with false (waving 0 0 ∷ waving 5 0 ∷ waving 0 0 ∷ waving 0 0 ∷ waving 0 1 ∷ waving 0 0 ∷ [])) (replicate 88 127)
      ≡ settling ++ replicate 2 (seen 0 72) ++ (seen 16 72 ∷ []) ++ replicate 7 (seen 56 72) ++ replicate 5 (seen 58 72) ++ (seen 63 72 ∷ [])
  -- from a fresh relay: bit 6 on from frame 0 is no rise, and frame 72 is counted (Examples' `figures`); off in frame 0 and on from frame 1 is one,
  -- and frame 73 is
  pub fresh_off : walk (fresh_of wave_levels).relay (63 ∷ replicate 88 127)
      ≡ seen 0 1 ∷ settling ++ replicate 3 (seen 0 72) ++ replicate 12 (seen 56 72) ++ (seen 63 72 ∷ [])
  -- rises in T and T + 10: counted from T + 82 on
  pub two_rises : walk (settled_with false (replicate 6 (waving 0 0))) (replicate 9 127 ++ (63 ∷ replicate 76 127))
      ≡ table 10 (λ n. seen 0 (n + 1)) ++ settling ++ replicate 3 (seen 0 72) ++ (seen 56 72 ∷ [])
  -- one frame with bit 6 off ends an over run of 3: after the rise in T it begins anew, and its latch is on in T + 75 and not in T + 72
  pub off_between : walk (settled_with true (replicate 6 (waving 0 0))) (127 ∷ 127 ∷ 127 ∷ 63 ∷ replicate 76 127)
      ≡ replicate 4 (seen 0 72) ++ settling ++ replicate 3 (seen 0 72) ++ (seen 56 72 ∷ [])
  -- a refused frame "changes nothing" and is not remembered: off between on and on makes no rise, on after off hides none
  pub refused_between :
      (walk (settled_with true (replicate 6 (waving 0 0))) (127 ∷ 127 ∷ 127 ∷ 0xBF ∷ 127 ∷ []) ≡ replicate 4 (seen 0 72) ++ (seen 56 72 ∷ []))
      × (walk (settled_with false (replicate 6 (waving 0 0))) (0xFF ∷ 127 ∷ 0xBF ∷ 127 ∷ []) ≡ seen 0 72 ∷ seen 0 1 ∷ seen 0 1 ∷ seen 0 2 ∷ [])
  -- refused by 3 and by 4, bit 6 on and off: "relay as given", the memory too
  pub refused_3 : (map (frame_of (given true 72 3 mixed) bad_codes) (63 ∷ 127 ∷ 255 ∷ []) ≡ replicate 3 (refused_answer (given true 72 3 mixed) 3))
      × (map (frame_of (given false 72 3 mixed) bad_codes) (63 ∷ 127 ∷ 255 ∷ []) ≡ replicate 3 (refused_answer (given false 72 3 mixed) 3))
  pub refused_4 : (map (frame_of (given true 72 3 mixed) quiet) bad_enables ≡ replicate 4 (refused_answer (given true 72 3 mixed) 4))
      × (map (frame_of (given false 72 3 mixed) quiet) bad_enables ≡ replicate 4 (refused_answer (given false 72 3 mixed) 4))
  -- a relay that is not sound is not healed by a rise, and remembers no frame: that check comes first
  pub unsound_rise : map (λ age. frame_of (given false age 3 mixed) quiet 127) (73 ∷ 74 ∷ 128 ∷ 255 ∷ [])
      ≡ map (λ age. refused_answer (given false age 3 mixed) 2) (73 ∷ 74 ∷ 128 ∷ 255 ∷ [])
  pub unsound_off : frame_of (given true 73 3 mixed) quiet 63 ≡ refused_answer (given true 73 3 mixed) 2
  pub unsound_slot : (frame_of (given false 72 8 mixed) quiet 127 ≡ refused_answer (given false 72 8 mixed) 2)
      × (reset_of (given false 72 8 mixed) 63 ≡ reset_answer (given false 72 8 mixed) 2)
  -- what it remembers is no condition of a sound relay, with any age and slot
  pub both_sound : (table 256 (λ age. sound_of (given false age 3 mixed)) ≡ replicate 73 true ++ replicate 183 false)
      × (table 256 (λ slot. sound_of (given false 72 slot mixed)) ≡ replicate 8 true ++ replicate 248 false)
  -- and each channel and the settings are judged with either: a loss run of 17, and a drop level of 0
  pub judged : table 6 (λ c. refusals (given false 72 3 (set still c (channel 17 0 false false)))) ≡ replicate 6 (2 ∷ 2 ∷ [])
  pub judged_settings : refusals (record { channels = still; age = 72; slot = 3; device_on = false; settings = equal_levels 0 1 }) ≡ 2 ∷ 2 ∷ []
  -- a reset "clears runs and latches of the named channels and nothing else": the memory and the age stay, refused or not; for every relay and
  -- every mask that is in Resets
  pub reset_keeps : (reset_of (given true 40 3 latched) 63 ≡ reset_answer (given true 40 3 still) 0)
      × (reset_of (given false 72 3 latched) 63 ≡ reset_answer (given false 72 3 still) 0)
      × (reset_of (given false 0 3 latched) 191 ≡ reset_answer (given false 0 3 latched) 5)

pub calls : SettlingCalls
unfolding walk computed
calls =
    record {
      fresh_on = refl;
      refused_off = (refl, refl);
      zero_relay_lem = (refl, refl);
      rise = refl;
      stays_on = refl;
      goes_off = refl;
      stays_off = refl;
      whole = (refl, refl, refl, refl, refl);
      enables_on = refl;
      enables_off = refl;
      runs_kept = refl;
      runs_kept_rest = refl;
      settles = refl;
      fresh_off = refl;
      two_rises = refl;
      off_between = refl;
      refused_between = (refl, refl);
      refused_3 = (refl, refl);
      refused_4 = (refl, refl);
      unsound_rise = refl;
      unsound_off = refl;
      unsound_slot = (refl, refl);
      both_sound = (refl, refl);
      judged = refl;
      judged_settings = refl;
      reset_keeps = (refl, refl, refl);
    }
