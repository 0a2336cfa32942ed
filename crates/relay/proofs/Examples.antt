-- Calls of the definitions, computed: the bench figures 75, 87 and 86, the worked example of the bench program, and one call for each rule and
-- refusal. They show each rule and refusal at one place; they do not make a wrong definition impossible. Rests on the definitions alone.
use Prim.Native.Nat.{ℕ, zero, suc, ◌+◌, ◌-◌, min}
use mathlib.Core.Path.{◌≡◌, refl}
use mathlib.Core.Bool.{Bool, true, false}
use mathlib.Core.List.{List, [], ◌∷◌, ◌++◌, map}
use lib.IntN.{pos}
use lib.Dec.{leb, eqb}
use lib.ListN.{replicate}
use Rattle.relay.specs.declared.Channel.{Channel}
use Rattle.relay.specs.declared.ChannelLevels.{ChannelLevels}
use Rattle.relay.specs.declared.Lengths.{Lengths}
use Rattle.relay.specs.declared.Levels.{Levels}
use Rattle.relay.specs.declared.Settings.{Settings}
use Rattle.relay.specs.declared.Relay.{Relay}
use Rattle.relay.specs.declared.FrameAnswer.{FrameAnswer}
use Rattle.relay.specs.declared.RelayAnswer.{RelayAnswer}
use Rattle.lists.specs.Each.{table}
use Rattle.frames.specs.Bits.{bits_below}
use Rattle.relay.specs.Settings.{levels_of}
use Rattle.relay.specs.Relay.{channel_at, fresh_of, frame_of, reset_of}
use Rattle.relay.proofs.Computed.{computed}

-- ---- calls from a fresh relay

-- code 512 on each channel
abbrev pub quiet : List ℕ
quiet = replicate 6 512

-- the wave 100, 71, 0, −71, −100, −71, 0, 71 on channels 3 and 4, code 512 on the others, cycle after cycle
waves : ℕ → List (List ℕ)
waves zero = []
waves (suc n) = map (λ code. 512 ∷ 512 ∷ 512 ∷ code ∷ code ∷ 512 ∷ []) (612 ∷ 583 ∷ 512 ∷ 441 ∷ 412 ∷ 441 ∷ 512 ∷ 583 ∷ []) ++ waves n

-- the output bytes of frames with enable bits 0 to 6 on
outputs : Relay → List (List ℕ) → List ℕ
outputs r [] = []
outputs r (codes ∷ more) =
    let a : FrameAnswer = frame_of r codes 127 in
    a.output ∷ outputs a.relay more

-- ---- one call on a relay that is handed in

-- "the bench program and the bench figures keep 16 and 4" (document 02, Paper 9); other lengths are in LengthCalls
abbrev pub bench : Lengths
bench = record { loss = 16; over = 4 }

abbrev pub settings_of : Levels → Settings
settings_of l = record { levels = l; lengths = bench }

-- equal drop levels and equal pickup levels
abbrev pub equal_levels : ℕ → ℕ → Settings
equal_levels drop pickup = settings_of (record { drop = replicate 6 drop; pickup = replicate 3 pickup; restraint = replicate 3 0 })

-- nine levels and three restraints, no two of them equal
abbrev nine : Settings
nine = settings_of (record { drop = 1 ∷ 2 ∷ 3 ∷ 4 ∷ 5 ∷ 6 ∷ []; pickup = 7 ∷ 8 ∷ 9 ∷ []; restraint = 10 ∷ 11 ∷ 12 ∷ [] })

-- the levels of one channel
abbrev own : ℕ → ℕ → ℕ → Bool → ChannelLevels
own drop pickup restraint current = record { drop = drop; pickup = pickup; restraint = restraint; current = current }

-- a channel with a window of zeros
abbrev pub channel : ℕ → ℕ → Bool → Bool → Channel
channel loss_count over_count loss_latch_of over_latch_of =
    record { samples = replicate 8 (pos 0); loss_run = loss_count; over_run = over_count; loss_latch = loss_latch_of; over_latch = over_latch_of }

-- six channels that have seen nothing
abbrev pub still : List Channel
still = replicate 6 (channel 0 0 false false)

abbrev relay : ℕ → ℕ → List Channel → Relay
relay age slot channels = record { channels = channels; age = age; slot = slot; device_on = true; settings = equal_levels 819 3413 }

-- the same relay after a frame with bit 6 off
abbrev pub device_off : Relay → Relay
device_off r = record { channels = r.channels; age = r.age; slot = r.slot; device_on = false; settings = r.settings }

-- "all-zero": it remembers bit 6 as off
abbrev pub all_zero : Relay
all_zero =
    record {
      channels = still;
      age = 0;
      slot = 0;
      device_on = false;
      settings = record { levels = (equal_levels 0 0).levels; lengths = record { loss = 0; over = 0 } };
    }

-- a frame of codes 512 that is accepted: the amplitudes are 0
abbrev accepted_answer : Relay → ℕ → FrameAnswer
accepted_answer r output = record { relay = r; refusal = 0; amplitudes = replicate 6 0; output = output }

abbrev pub refused_answer : Relay → ℕ → FrameAnswer
refused_answer r refusal = record { relay = r; refusal = refusal; amplitudes = replicate 6 0; output = 0 }

abbrev pub reset_answer : Relay → ℕ → RelayAnswer
reset_answer r refusal = record { relay = r; refusal = refusal }

-- a settled relay with a loss run on each channel and an over run on each current, all latches on or all off
abbrev running : ℕ → ℕ → ℕ → ℕ → Bool → Relay
running drop pickup loss_count over_count latch =
    record {
      channels = replicate 3 (channel loss_count 0 latch false) ++ replicate 3 (channel loss_count over_count latch latch);
      age = 72;
      slot = 0;
      device_on = true;
      settings = equal_levels drop pickup;
    }

-- a channel after a first sample of 100
abbrev pub struck : ℕ → ℕ → Bool → Bool → Channel
struck loss_count over_count loss_latch_of over_latch_of =
    record { samples = pos 100 ∷ replicate 7 (pos 0); loss_run = loss_count; over_run = over_count; loss_latch = loss_latch_of; over_latch = over_latch_of }

-- such a relay after a frame of code 612 on each channel, whose amplitude is 400
abbrev struck_all : ℕ → ℕ → ℕ → ℕ → Bool → Bool → ℕ → FrameAnswer
struck_all drop pickup loss_count over_count loss_latch_of over_latch_of output =
    record {
      relay = record {
        channels = replicate 3 (struck loss_count 0 loss_latch_of false) ++ replicate 3 (struck loss_count over_count loss_latch_of over_latch_of);
        age = 72;
        slot = 1;
        device_on = true;
        settings = equal_levels drop pickup;
      };
      refusal = 0;
      amplitudes = replicate 6 400;
      output = output;
    }

-- six channels with a full loss run and its latch on, in a settled relay
abbrev tripped : Relay
tripped = relay 72 7 (replicate 6 (channel 16 0 true false))

-- runs above 0 and latches on, as no list of calls leaves them at an age below 72; the last channel is given
abbrev early : Channel → List Channel
early last = replicate 3 (channel 7 0 true false) ++ (channel 0 2 true true ∷ channel 7 2 false true ∷ last ∷ [])

-- a channel that a frame of code 512 in slot 3 leaves as `struck`: 7 stands in that slot
abbrev pub marked : ℕ → ℕ → Bool → Bool → Channel
marked loss_count over_count loss_latch_of over_latch_of =
    record {
      samples = pos 100 ∷ pos 0 ∷ pos 0 ∷ pos 7 ∷ replicate 4 (pos 0);
      loss_run = loss_count;
      over_run = over_count;
      loss_latch = loss_latch_of;
      over_latch = over_latch_of;
    }

abbrev handed : ℕ → ℕ → ℕ → ℕ → List Channel → Relay
handed age slot drop pickup channels = record { channels = channels; age = age; slot = slot; device_on = true; settings = equal_levels drop pickup }

-- such a frame's answer: each amplitude is 400
abbrev pub answer400 : Relay → ℕ → FrameAnswer
answer400 r output = record { relay = r; refusal = 0; amplitudes = replicate 6 400; output = output }

-- six channels that are all in other states, and what a frame that is not counted makes of them
abbrev pub mixed : List Channel
mixed =
    marked 7 0 false false
    ∷ marked 16 0 false false
    ∷ marked 16 0 false false
    ∷ marked 7 2 true false
    ∷ marked 3 2 true true
    ∷ marked 0 4 false false ∷ []

abbrev pub mixed_after : List Channel
mixed_after =
    struck 7 0 false false
    ∷ struck 16 0 true false
    ∷ struck 16 0 true false
    ∷ struck 7 2 true false
    ∷ struck 3 2 true true
    ∷ struck 0 4 false true ∷ []

-- six more, for frames that are counted
abbrev full : List Channel
full =
    marked 16 0 false false
    ∷ marked 16 0 false false
    ∷ marked 9 0 true false
    ∷ marked 9 2 true true
    ∷ marked 0 4 false false
    ∷ marked 9 4 true true ∷ []

-- six channels alike, but for what a voltage has not
abbrev alike : ℕ → ℕ → Bool → Bool → List Channel
alike loss_count over_count loss_latch_of over_latch_of =
    replicate 3 (channel loss_count 0 loss_latch_of false) ++ replicate 3 (channel loss_count over_count loss_latch_of over_latch_of)

-- one thing for each loss run and each over run
abbrev pub each_run : {A : Type 0} → (ℕ → ℕ → A) → List (List A)
each_run f = table 17 (λ loss_count. table 5 (f loss_count))

-- a relay of which no channel and no level is in range
abbrev broken_channel : Channel
broken_channel = record { samples = replicate 8 (pos 600); loss_run = 17; over_run = 5; loss_latch = true; over_latch = true }

abbrev broken : Relay
broken = handed 5 3 0 10701 (replicate 6 broken_channel)

-- the channels whose loss latch is on, as bits
abbrev latched : Relay → ℕ
latched r = bits_below 6 (λ c. (channel_at r c).loss_latch)

pub record Examples : Type 0 where
  -- "That wave steady on channel 3 from frame 0, pickup 1603: over latch in frame 75. Pickup 1604: never."
  -- "Code 512 throughout, drop 1: loss latches in frame 87; in frame 86 none." Channel 4 has the wave and pickup 1604; 0, 1, 2 and 5 have code 512.
  figures : outputs (fresh_of (settings_of (record { drop = replicate 6 1; pickup = 1603 ∷ 1604 ∷ 1604 ∷ []; restraint = replicate 3 0 }))).relay (waves 11)
      ≡ replicate 75 0 ++ replicate 12 8 ++ (47 ∷ [])
  -- a fresh relay, at the ends of "1 to 10,700"; refusal 1 with the all-zero relay
  fresh : fresh_of (equal_levels 1 10700)
      ≡ record { relay = record { channels = still; age = 0; slot = 0; device_on = true; settings = equal_levels 1 10700 }; refusal = 0 }
  highest_drops : fresh_of (equal_levels 10700 1)
      ≡ record { relay = record { channels = still; age = 0; slot = 0; device_on = true; settings = equal_levels 10700 1 }; refusal = 0 }
  -- each level is kept in its place
  nine_levels : fresh_of nine ≡ record {
    relay = record {
      channels = still;
      age = 0;
      slot = 0;
      device_on = true;
      settings = settings_of (record { drop = 1 ∷ 2 ∷ 3 ∷ 4 ∷ 5 ∷ 6 ∷ []; pickup = 7 ∷ 8 ∷ 9 ∷ []; restraint = 10 ∷ 11 ∷ 12 ∷ [] });
    };
    refusal = 0;
  }
  -- whichever level is out of range, and however
  drop_low : fresh_of (settings_of (record { drop = 0 ∷ replicate 5 1; pickup = replicate 3 1; restraint = replicate 3 0 }))
      ≡ record { relay = all_zero; refusal = 1 }
  drop_high : fresh_of (settings_of (record { drop = 10701 ∷ replicate 5 1; pickup = replicate 3 1; restraint = replicate 3 0 }))
      ≡ record { relay = all_zero; refusal = 1 }
  pickup_low : fresh_of (settings_of (record { drop = replicate 6 819; pickup = 3413 ∷ 3413 ∷ 0 ∷ []; restraint = replicate 3 0 }))
      ≡ record { relay = all_zero; refusal = 1 }
  -- "a drop level for each channel and a pickup level for each current": each channel has its own
  own_levels_lem : table 6 (levels_of nine.levels)
      ≡ own 1 0 0 false ∷ own 2 0 0 false ∷ own 3 0 0 false ∷ own 4 7 10 true ∷ own 5 8 11 true ∷ own 6 9 12 true ∷ []
  -- the bench program's example, amplitudes 400 0 0 0 0 0: the sample goes to slot 0, the slot advances and age is 1
  first : frame_of (relay 0 0 still) (612 ∷ replicate 5 512) 127 ≡ record {
    relay = relay 1 1 (struck 0 0 false false ∷ replicate 5 (channel 0 0 false false));
    refusal = 0;
    amplitudes = 400 ∷ replicate 5 0;
    output = 0;
  }
  -- each age, and each slot
  ages : table 73 (λ age. (frame_of (relay age 3 still) quiet 127).relay.age) ≡ table 72 (λ n. n + 1) ++ (72 ∷ [])
  slots : table 8 (λ slot. (frame_of (relay 5 slot still) quiet 127).relay.slot) ≡ 1 ∷ 2 ∷ 3 ∷ 4 ∷ 5 ∷ 6 ∷ 7 ∷ 0 ∷ []
  -- the frame that takes age from 71 to 72 is not counted and leaves all runs as they were, enabled or not; a full run that was handed in turns its
  -- latch on all the same (step 4 is in every accepted frame)
  not_counted : frame_of (relay 71 7 (channel 16 0 false false ∷ replicate 5 (channel 3 0 false false))) quiet 65
      ≡ accepted_answer (relay 72 0 (channel 16 0 true false ∷ replicate 5 (channel 3 0 false false))) 1
  -- a counted frame: a run grows by 1, turns its latch on at 16, and grows no more
  grows : frame_of (relay 72 7 (channel 14 0 false false ∷ channel 15 0 false false ∷ replicate 4 (channel 16 0 true false))) quiet 127
      ≡ accepted_answer (relay 72 0 (channel 15 0 false false ∷ channel 16 0 true false ∷ replicate 4 (channel 16 0 true false))) 62
  -- so does a full over run in a frame that is not counted
  not_counted_over : frame_of (relay 71 7 (replicate 3 (channel 0 0 false false) ++ replicate 3 (channel 0 4 false false))) quiet 127
      ≡ accepted_answer (relay 72 0 (replicate 3 (channel 0 0 false false) ++ replicate 3 (channel 0 4 false true))) 56
  -- at m = 400: a drop level of 400 is not met and one of 401 is; a pickup level of 400 is met and one of 401 is not. An over run at 3 becomes 4 and
  -- turns its latch on, and a voltage has none
  at_levels : frame_of (running 400 400 9 3 false) (replicate 6 612) 127 ≡ struck_all 400 400 0 4 false true 56
  above_levels : frame_of (running 401 401 9 3 false) (replicate 6 612) 127 ≡ struck_all 401 401 10 0 false false 0
  -- a level that is not met makes a full run 0: a latch that was off stays off, and one that was on stays on
  not_met : frame_of (running 400 401 16 4 false) (replicate 6 612) 127 ≡ struck_all 400 401 0 0 false false 0
  not_met_latched : frame_of (running 400 401 16 4 true) (replicate 6 612) 127 ≡ struck_all 400 401 0 0 true true 63
  -- an over run grows no more at 4
  over_grows : frame_of (running 400 400 0 4 true) (replicate 6 612) 127 ≡ struck_all 400 400 0 4 true true 63
  -- six channels in six states, some enabled (0, 2 and 3) or none for want of bit 6: a frame that is not counted leaves every run, turns on the latch
  -- of each full one, and answers each amplitude
  mixed_not_counted : frame_of (handed 0 3 400 400 mixed) quiet 0x4D ≡ answer400 (handed 1 4 400 400 mixed_after) 12
  mixed_device_off : frame_of (handed 0 3 400 400 mixed) quiet 0x3F ≡ answer400 (device_off (handed 1 4 400 400 mixed_after)) 0
  -- a counted frame, of which channels 1 and 5 are not enabled, and one of which none is: a full run is gone before step 4
  mixed_counted_lem : frame_of (handed 72 3 401 400 full) quiet 0x5D ≡ answer400
      (handed 72 4 401 400
      (struck 16 0 true false
      ∷ struck 0 0 false false
      ∷ struck 10 0 true false
      ∷ struck 10 3 true true
      ∷ struck 1 4 false true
      ∷ struck 0 0 true true ∷ []))
      29
  mixed_all_off : frame_of (handed 72 3 401 400 full) quiet 0x40 ≡ answer400
      (handed 72 4 401 400
      (struck 0 0 false false
      ∷ struck 0 0 false false
      ∷ struck 0 0 true false
      ∷ struck 0 0 true true
      ∷ struck 0 0 false false
      ∷ struck 0 0 true true ∷ []))
      0
  -- "sound" asks no tie between fields: any slot with any age, runs and latches at any age, a latch on with run 0
  no_tie : frame_of (relay 5 3 (early (channel 16 4 false false))) quiet 127 ≡ accepted_answer (relay 6 4 (early (channel 16 4 true true))) 63
  no_tie_reset : reset_of (relay 5 3 (early (channel 16 4 false false))) 32 ≡ reset_answer (relay 5 3 (early (channel 0 0 false false))) 0
  -- each loss run beside each over run: kept in a frame that is not counted, latches off before it or on; and m = 0 in one that is
  runs_kept : each_run (λ loss over. (frame_of (relay 5 3 (alike loss over false false)) quiet 127).relay)
      ≡ each_run (λ loss over. relay 6 4 (alike loss over (eqb loss 16) (eqb over 4)))
  runs_kept_latched : each_run (λ loss over. (frame_of (relay 5 3 (alike loss over true true)) quiet 127).relay)
      ≡ each_run (λ loss over. relay 6 4 (alike loss over true true))
  runs_counted : each_run (λ loss over. (frame_of (relay 72 3 (alike loss over false false)) quiet 127).relay)
      ≡ each_run (λ loss over. relay 72 4 (alike (min 16 (loss + 1)) 0 (leb 15 loss) false))
  runs_cleared : each_run (λ loss over. reset_of (relay 5 3 (replicate 3 (marked loss 0 true false) ++ replicate 3 (marked loss over true true))) 63)
      ≡ each_run (λ loss over. reset_answer (relay 5 3 (replicate 6 (marked 0 0 false false))) 0)
  -- the same at each age below 72 and in each slot; a frame refused by 4 at each age
  each_early : table 72 (λ age. frame_of (relay age 3 (early (channel 16 4 false false))) quiet 127)
      ≡ table 72 (λ age. accepted_answer (relay (age + 1) 4 (early (channel 16 4 true true))) 63)
  each_early_slot : table 7 (λ slot. frame_of (relay 5 slot (early (channel 16 4 false false))) quiet 127)
      ≡ table 7 (λ slot. accepted_answer (relay 6 (slot + 1) (early (channel 16 4 true true))) 63)
  each_age_refused : table 73 (λ age. frame_of (relay age 3 (early (channel 16 4 false false))) quiet 128)
      ≡ table 73 (λ age. refused_answer (relay age 3 (early (channel 16 4 false false))) 4)
  -- a channel that is not enabled: its runs become 0, its latch stays, its output bit is 0; bit 6 off disables all
  disabled : frame_of tripped quiet 66
      ≡ accepted_answer (relay 72 0 (channel 0 0 true false ∷ channel 16 0 true false ∷ replicate 4 (channel 0 0 true false))) 2
  -- each enable byte: six latches are on, and the output shows those that are enabled
  each_enable : table 128 (λ enable. (frame_of tripped quiet enable).output) ≡ replicate 64 0 ++ table 64 (λ n. n)
  device_off_lem : frame_of tripped quiet 63 ≡ accepted_answer (device_off (relay 72 0 (replicate 6 (channel 0 0 true false)))) 0
  -- a reset clears the channels that it names and nothing else, and age stays 72; masks 0 to 63 are accepted; bits 6 and 7 are refused
  resets : reset_of tripped 5
      ≡ reset_answer
      (relay 72 7 (channel 0 0 false false ∷ channel 16 0 true false ∷ channel 0 0 false false ∷ replicate 3 (channel 16 0 true false))) 0
  resets_over : reset_of (relay 72 7 (replicate 3 (channel 0 0 false false) ++ replicate 3 (channel 16 4 true true))) 16
      ≡ reset_answer
      (relay 72 7 (replicate 3 (channel 0 0 false false) ++ (channel 16 4 true true ∷ channel 0 0 false false ∷ channel 16 4 true true ∷ []))) 0
  -- windows, slot, age and settings stay, also of a channel that is named
  resets_mixed : reset_of (handed 72 3 400 401 full) 0x29 ≡ reset_answer
      (handed 72 3 400 401
      (marked 0 0 false false
      ∷ marked 16 0 false false
      ∷ marked 9 0 true false
      ∷ marked 0 0 false false
      ∷ marked 0 4 false false
      ∷ marked 0 0 false false ∷ []))
      0
  resets_none : reset_of tripped 0 ≡ reset_answer tripped 0
  -- each mask: six latches are on, and the reset leaves those that it does not name
  each_mask : table 64 (λ mask. latched (reset_of tripped mask).relay) ≡ table 64 (λ mask. 63 - mask)
  resets_last : reset_of tripped 32 ≡ reset_answer (relay 72 7 (replicate 5 (channel 16 0 true false) ++ (channel 0 0 false false ∷ []))) 0
  resets_all : reset_of tripped 63 ≡ reset_answer (relay 72 7 still) 0
  bad_mask_lem : reset_of tripped 64 ≡ reset_answer tripped 5
  bad_mask_7 : reset_of tripped 129 ≡ reset_answer tripped 5
  -- "Code 1023 is accepted, 1024 refused."
  highest : (frame_of tripped (1023 ∷ replicate 5 512) 127).refusal ≡ 0
  bad_code_lem : frame_of tripped (replicate 5 512 ++ (1024 ∷ [])) 255 ≡ refused_answer tripped 3
  bad_enable_lem : frame_of tripped (replicate 6 612) 128 ≡ refused_answer tripped 4
  -- channel c is read as the c-th
  each_channel : table 6 (channel_at (relay 5 3 (early (channel 16 4 false false)))) ≡ early (channel 16 4 false false)
  -- a relay that is not sound is handed back as it was given, and that check comes first
  unsound : frame_of (relay 73 0 still) (replicate 6 1024) 128 ≡ refused_answer (relay 73 0 still) 2
  unsound_reset : reset_of (relay 72 8 still) 128 ≡ reset_answer (relay 72 8 still) 2
  broken_frame : frame_of broken (replicate 6 612) 127 ≡ refused_answer broken 2
  broken_reset : reset_of broken 63 ≡ reset_answer broken 2
  zero_relay_lem : (frame_of (fresh_of (equal_levels 0 0)).relay quiet 127).refusal ≡ 2

pub examples : Examples
unfolding outputs waves computed
examples = record {
  figures = refl;
  fresh = refl;
  highest_drops = refl;
  nine_levels = refl;
  drop_low = refl;
  drop_high = refl;
  pickup_low = refl;
  own_levels_lem = refl;
  first = refl;
  ages = refl;
  slots = refl;
  not_counted = refl;
  not_counted_over = refl;
  grows = refl;
  at_levels = refl;
  above_levels = refl;
  not_met = refl;
  not_met_latched = refl;
  over_grows = refl;
  mixed_not_counted = refl;
  mixed_device_off = refl;
  mixed_counted_lem = refl;
  mixed_all_off = refl;
  no_tie = refl;
  no_tie_reset = refl;
  runs_kept = refl;
  runs_kept_latched = refl;
  runs_counted = refl;
  runs_cleared = refl;
  each_early = refl;
  each_early_slot = refl;
  each_age_refused = refl;
  disabled = refl;
  each_enable = refl;
  device_off_lem = refl;
  resets = refl;
  resets_over = refl;
  resets_mixed = refl;
  resets_none = refl;
  each_mask = refl;
  resets_last = refl;
  resets_all = refl;
  bad_mask_lem = refl;
  bad_mask_7 = refl;
  highest = refl;
  bad_code_lem = refl;
  bad_enable_lem = refl;
  each_channel = refl;
  unsound = refl;
  unsound_reset = refl;
  broken_frame = refl;
  broken_reset = refl;
  zero_relay_lem = refl;
}
