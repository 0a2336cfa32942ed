-- Run lengths from the settings (document 02, Paper 9), computed: which lengths make a relay, and the order 1, 20, 21; which lengths and runs a sound
-- relay has; what a frame makes of each run under each length; in which frame of a list a latch goes on; that no later call moves a length. The two
-- lengths are unequal nearly everywhere, so that exchanged ones show. Rests on the definitions alone.
use Prim.Native.Nat.{ℕ, zero, suc, ◌+◌, ◌-◌, ◌*◌, ◌%◌, min}
use mathlib.Core.Path.{◌≡◌, refl}
use mathlib.Core.Bool.{Bool, true, false, ◌&&◌, cond}
use mathlib.Core.List.{List, [], ◌∷◌, ◌++◌, map}
use lib.IntN.{pos, ◌-ℤ◌}
use lib.Dec.{leb, eqb}
use lib.ListN.{get_or, set, replicate}
use Rattle.lists.specs.Each.{table}
use Rattle.relay.specs.declared.Channel.{Channel}
use Rattle.relay.specs.declared.Lengths.{Lengths}
use Rattle.relay.specs.declared.Levels.{Levels}
use Rattle.relay.specs.declared.Settings.{Settings}
use Rattle.relay.specs.declared.Relay.{Relay}
use Rattle.relay.specs.declared.RelayAnswer.{RelayAnswer}
use Rattle.relay.specs.declared.FrameAnswer.{FrameAnswer}
use Rattle.relay.specs.Sound.{channel_sound, sound_of}
use Rattle.relay.specs.Relay.{fresh_of, frame_of, reset_of, change_of}
use Rattle.relay.proofs.Computed.{computed}
use Rattle.relay.proofs.Examples.{quiet, equal_levels, channel, still, all_zero, struck, refused_answer, reset_answer}
use Rattle.relay.proofs.ChangeCalls.{with_drop, with_pickup, with_restraint}

-- ---- settings

abbrev lengths : ℕ → ℕ → Lengths
lengths loss_length over_length = record { loss = loss_length; over = over_length }

abbrev equal : ℕ → ℕ → Levels
equal drop pickup = (equal_levels drop pickup).levels

abbrev good : Levels
good = equal 819 3413

abbrev with : Levels → Lengths → Settings
with levels l = record { levels = levels; lengths = l }

-- at the ends, either the greater, equal, and as document 01 has them
abbrev pairs : List Lengths
pairs = lengths 1 1 ∷ lengths 24 24 ∷ lengths 16 4 ∷ lengths 4 16 ∷ lengths 2 3 ∷ lengths 24 1 ∷ lengths 1 24 ∷ []

-- one or both out of range
abbrev bad_pairs : List Lengths
bad_pairs =
    lengths 0 4 ∷ lengths 25 4 ∷ lengths 255 4 ∷ lengths 16 0 ∷ lengths 16 25 ∷ lengths 16 255 ∷ lengths 0 0 ∷ lengths 25 25 ∷ lengths 0 25 ∷ []

-- a level out of range in each of nine places, a restraint in each of three, and both
abbrev bad_levels : List Levels
bad_levels = table 6 (with_drop good 0) ++ table 6 (with_drop good 10701) ++ table 3 (with_pickup good 0) ++ table 3 (with_pickup good 10701)

abbrev bad_restraints : List Levels
bad_restraints = table 3 (with_restraint good 101) ++ table 3 (with_restraint good 255)

abbrev bad_both : List Levels
bad_both = table 6 (λ c. with_restraint (with_drop good 0 c) 101 (c % 3)) ++ table 3 (λ k. with_restraint (with_pickup good 10701 k) 255 (2 - k))

-- ---- making a relay

abbrev refused_fresh : ℕ → RelayAnswer
refused_fresh refusal = record { relay = all_zero; refusal = refusal }

-- what each number gives as one length, the other as given
abbrev by_loss : {A : Type 0} → (Lengths → A) → ℕ → List A
by_loss f over_length = table 256 (λ n. f (lengths n over_length))

abbrev by_over : {A : Type 0} → (Lengths → A) → ℕ → List A
by_over f loss_length = table 256 (λ n. f (lengths loss_length n))

abbrev fresh_refusal : Lengths → ℕ
fresh_refusal l = (fresh_of (with good l)).refusal

-- 0, then 1 to 24, then 25 to 255
abbrev to24 : {A : Type 0} → A → A → List A
to24 inside outside = outside ∷ replicate 24 inside ++ replicate 231 outside

-- each of some levels beside each of the lengths that are out of range
abbrev beside_bad : List Levels → List (List RelayAnswer)
beside_bad levels = map (λ l. map (λ x. fresh_of (with x l)) levels) bad_pairs

-- ---- relays that are handed in

abbrev relay : Settings → Bool → ℕ → ℕ → List Channel → Relay
relay settings on age slot channels = record { channels = channels; age = age; slot = slot; device_on = on; settings = settings }

-- settled, all runs 0
abbrev idle : Lengths → Relay
idle l = relay (with good l) true 72 7 still

-- channel c is as given
abbrev holding : Lengths → Channel → ℕ → Relay
holding l ch c = relay (with good l) true 72 7 (set still c ch)

abbrev changed : ℕ → Relay → RelayAnswer
changed refusal r = record { relay = r; refusal = refusal }

-- what a frame, a reset and a change answer, in each channel or in each current
abbrev refusals : Relay → List ℕ
refusals r = (frame_of r quiet 127).refusal ∷ (reset_of r 63).refusal ∷ (change_of r good).refusal ∷ []

abbrev in_each : Lengths → Channel → List (List ℕ)
in_each l ch = table 6 (λ c. refusals (holding l ch c))

abbrev accepted : ℕ → List (List ℕ)
accepted n = replicate n (replicate 3 0)

abbrev refused : ℕ → List (List ℕ)
refused n = replicate n (replicate 3 2)

-- whether a voltage, or a current, with such a run is sound, for the first runs
abbrev loss_sound : Bool → ℕ → Lengths → List Bool
loss_sound current runs l = table runs (λ run. channel_sound l current (channel run 0 false false))

abbrev over_sound : Bool → ℕ → Lengths → List Bool
over_sound current runs l = table runs (λ run. channel_sound l current (channel 0 run false false))

-- runs up to the length, of so many
abbrev up_to : ℕ → ℕ → List Bool
up_to runs len = replicate (len + 1) true ++ replicate (runs - 1 - len) false

-- ---- a frame on runs of each length: code 612 in the first slot, amplitudes 400

-- six channels by their runs, latches off, or on where the run is at its length; a voltage has no over run
abbrev six : (ℕ → ℕ → Bool → Bool → Channel) → (ℕ → Bool) → (ℕ → Bool) → (ℕ → ℕ) → (ℕ → ℕ) → List Channel
six f loss_on over_on losses overs =
    table 6 (λ c. f (losses c) (cond (leb 3 c) (overs c) 0) (loss_on (losses c)) (leb 3 c && over_on (overs c)))

abbrev off : ℕ → Bool
off run = false

-- Frame n of nine: loss runs, of three voltages and three currents alike, that go up from 0 to their length; over runs that go down from theirs to 0.
abbrev rising : ℕ → ℕ → ℕ → ℕ
rising len n c = min len (3 * n + c % 3)

abbrev falling : ℕ → ℕ → ℕ → ℕ
falling len n c = len - rising len n c

-- the relay that a frame leaves where the runs were such, by what it remembers of bit 6, its age, its levels and its lengths
abbrev after : ℕ → Bool → ℕ → Levels → ℕ → ℕ → ℕ → Relay
after enable on age levels l o n =
    (frame_of (relay (with levels (lengths l o)) on age 0 (six channel off off (rising l n) (falling o n))) (replicate 6 612) enable).relay

-- what it is to be, by its runs
abbrev left : Bool → ℕ → Levels → ℕ → ℕ → (ℕ → ℕ) → (ℕ → ℕ) → Relay
left on age levels l o losses overs = relay (with levels (lengths l o)) on age 1 (six struck (λ run. eqb run l) (λ run. eqb run o) losses overs)

-- grown by 1 up to its length
abbrev grown : ℕ → (ℕ → ℕ) → ℕ → ℕ
grown len runs c = min len (runs c + 1)

abbrev gone : ℕ → ℕ
gone c = 0

-- loss lengths, the over length being what is left of 25, and nine frames of each
abbrev some : List ℕ
some = 1 ∷ 2 ∷ 16 ∷ 17 ∷ 24 ∷ []

abbrev nine : {A : Type 0} → (ℕ → ℕ → ℕ → A) → List ℕ → List (List A)
nine f = map (λ l. table 9 (f l (25 - l)))

-- Every length in one frame: loss runs one below their length, at it, and at 0; over runs at 0, one below, and at it.
abbrev near : ℕ → ℕ → ℕ
near len c = get_or ((len - 1) ∷ len ∷ 0 ∷ 0 ∷ (len - 1) ∷ len ∷ []) c 0

abbrev near_after : ℕ → ℕ → ℕ → Relay
near_after age l o =
    (frame_of (relay (with (equal 401 400) (lengths l o)) true age 0 (six channel off off (near l) (near o))) (replicate 6 612) 127).relay

abbrev each_length : {A : Type 0} → (ℕ → ℕ → A) → List A
each_length f = table 24 (λ l. f (l + 1) (24 - l))

-- ---- lists of frames

-- the output bytes of n frames, the first of which finds age 71: code 512, but for the wave 100, 71, 0, −71, −100, −71, 0, 71 on channels 3 and 5,
-- which is in their windows already
abbrev wave : List ℕ
wave = 612 ∷ 583 ∷ 512 ∷ 441 ∷ 412 ∷ 441 ∷ 512 ∷ 583 ∷ []

pub outputs : ℕ → Relay → List ℕ
outputs zero r = []
outputs (suc n) r =
    let code : ℕ = get_or wave r.slot 0 in
    let a : FrameAnswer = frame_of r (512 ∷ 512 ∷ 512 ∷ code ∷ 512 ∷ code ∷ []) 127 in
    a.output ∷ outputs n a.relay

abbrev waving : Channel
waving =
    record {
      samples = map (λ code. pos code -ℤ pos 512) wave;
      loss_run = 0;
      over_run = 0;
      loss_latch = false;
      over_latch = false;
    }

abbrev waved : Lengths → ℕ → List ℕ
waved l n = outputs n (relay (with (equal 1 1603) l) true 71 0 (set (set still 3 waving) 5 waving))

-- ---- resets and changes: runs above 16 and above 4

abbrev long : List Channel
long =
    channel 24 0 true false
    ∷ channel 17 0 false false
    ∷ channel 24 0 false false
    ∷ channel 23 9 true false
    ∷ channel 5 9 false true
    ∷ channel 24 5 true true ∷ []

abbrev long_under : Levels → List Channel → Relay
long_under levels = relay (with levels (lengths 24 9)) true 72 7

pub record LengthCalls : Type 0 where
  -- "1 to 24": of every number as either length, beside others, 21 and not 1 refuses those outside
  pub losses : map (by_loss fresh_refusal) (1 ∷ 4 ∷ 24 ∷ []) ≡ replicate 3 (to24 0 21)
  pub overs : map (by_over fresh_refusal) (1 ∷ 16 ∷ 24 ∷ []) ≡ replicate 3 (to24 0 21)
  -- each is kept in its place; a refused one gives the "all-zero relay", lengths 0 in it
  pub fresh : map (λ l. fresh_of (with good l)) pairs ≡ map (λ l. record { relay = relay (with good l) true 0 0 still; refusal = 0 }) pairs
  pub bad_fresh : beside_bad (good ∷ []) ≡ replicate 9 (refused_fresh 21 ∷ [])
  -- "after 20", which is after 1
  pub after_1 : beside_bad bad_levels ≡ replicate 9 (replicate 18 (refused_fresh 1))
  pub after_20 : beside_bad bad_restraints ≡ replicate 9 (replicate 6 (refused_fresh 20))
  pub all_bad : beside_bad bad_both ≡ replicate 9 (replicate 9 (refused_fresh 1))
  -- a relay with such a length is not sound, though all its runs are 0; every other pair is
  pub losses_sound : by_loss (λ l. sound_of (idle l)) 4 ≡ to24 true false
  pub overs_sound : by_over (λ l. sound_of (idle l)) 16 ≡ to24 true false
  -- 2 comes first in each call, and hands back the lengths as they were
  pub bad_frame : (map (λ l. frame_of (idle l) quiet 127) bad_pairs ≡ map (λ l. refused_answer (idle l) 2) bad_pairs)
      × (map (λ l. frame_of (idle l) (replicate 6 1024) 128) bad_pairs ≡ map (λ l. refused_answer (idle l) 2) bad_pairs)
  pub bad_reset : (map (λ l. reset_of (idle l) 63) bad_pairs ≡ map (λ l. reset_answer (idle l) 2) bad_pairs)
      × (map (λ l. reset_of (idle l) 192) bad_pairs ≡ map (λ l. reset_answer (idle l) 2) bad_pairs)
  pub bad_change : map (λ x. map (λ l. change_of (idle l) x) bad_pairs) (good ∷ with_drop good 0 3 ∷ with_restraint good 101 2 ∷ [])
      ≡ replicate 3 (map (λ l. changed 2 (idle l)) bad_pairs)
  -- "A sound relay has runs up to its own lengths", and not up to 16, 4 or 24; a voltage has no over run, whatever the lengths
  pub loss_runs : (map (loss_sound false 32) pairs ≡ map (up_to 32) (1 ∷ 24 ∷ 16 ∷ 4 ∷ 2 ∷ 24 ∷ 1 ∷ []))
      × (map (loss_sound true 32) pairs ≡ map (up_to 32) (1 ∷ 24 ∷ 16 ∷ 4 ∷ 2 ∷ 24 ∷ 1 ∷ []))
  pub over_runs : (map (over_sound true 32) pairs ≡ map (up_to 32) (1 ∷ 24 ∷ 4 ∷ 16 ∷ 3 ∷ 1 ∷ 24 ∷ []))
      × (map (over_sound false 32) pairs ≡ replicate 7 (up_to 32 0))
  pub all_runs : (loss_sound true 256 (lengths 23 2) ≡ up_to 256 23) × (over_sound true 256 (lengths 2 23) ≡ up_to 256 23)
  pub voltage_latches : map (λ l. channel_sound l false (channel 0 0 false true)) pairs ≡ replicate 7 false
  -- the same of the three calls, in each channel
  pub full : (map (λ l. in_each l (channel l.loss 0 false false)) pairs ≡ replicate 7 (accepted 6))
      × (map (λ l. in_each l (channel 0 l.over false false)) pairs ≡ replicate 7 (refused 3 ++ accepted 3))
  pub too_long : (map (λ l. in_each l (channel (l.loss + 1) 0 true false)) pairs ≡ replicate 7 (refused 6))
      × (map (λ l. in_each l (channel 0 (l.over + 1) false true)) pairs ≡ replicate 7 (refused 6))
  -- "its loss run grows by 1 up to" its length, and at it turns its latch on; an over run likewise. Each run under five lengths of each kind, both
  -- levels met
  pub met : nine (after 127 true 72 (equal 401 400)) some
      ≡ nine (λ l o n. left true 72 (equal 401 400) l o (grown l (rising l n)) (grown o (falling o n))) some
  -- one level is met and the other not, which makes that run 0 and turns no latch on
  pub loss_met : nine (after 127 true 72 (equal 401 401)) (4 ∷ 24 ∷ [])
      ≡ nine (λ l o n. left true 72 (equal 401 401) l o (grown l (rising l n)) gone) (4 ∷ 24 ∷ [])
  pub over_met : nine (after 127 true 72 (equal 400 400)) (1 ∷ 21 ∷ [])
      ≡ nine (λ l o n. left true 72 (equal 400 400) l o gone (grown o (falling o n))) (1 ∷ 21 ∷ [])
  -- no channel is enabled
  pub disabled : nine (after 0x40 true 72 (equal 401 400)) some ≡ nine (λ l o n. left true 72 (equal 401 400) l o gone gone) some
  -- A frame that is not counted keeps each run, enabled or not. A run at its own length turns its latch on, one at 16 or 4 under another does not. A
  -- frame with bit 6 on after off (Paper 5) is one of them.
  pub not_counted : nine (after 127 true 71 (equal 401 400)) some ≡ nine (λ l o n. left true 72 (equal 401 400) l o (rising l n) (falling o n)) some
  pub not_enabled : nine (after 0 true 5 (equal 400 401)) (16 ∷ 24 ∷ [])
      ≡ nine (λ l o n. left false 6 (equal 400 401) l o (rising l n) (falling o n)) (16 ∷ 24 ∷ [])
  pub rise : nine (after 127 false 72 (equal 401 400)) (1 ∷ 21 ∷ [])
      ≡ nine (λ l o n. left true 1 (equal 401 400) l o (rising l n) (falling o n)) (1 ∷ 21 ∷ [])
  -- every length, in a frame that is counted and in one that is not
  pub each_counted : each_length (near_after 72) ≡ each_length (λ l o. left true 72 (equal 401 400) l o (grown l (near l)) (grown o (near o)))
  pub each_not_counted : each_length (near_after 71) ≡ each_length (λ l o. left true 72 (equal 401 400) l o (near l) (near o))
  -- The second frame is the first that is counted, so a latch goes on in the frame that comes its length after the first: loss lengths 24, 1 and 2 on
  -- channels 0, 1, 2 and 4, beside over lengths 1, 24 and 16 on 3 and 5. Examples' `figures` has 16 and 4 from a fresh relay.
  pub loss_24 : waved (lengths 24 1) 26 ≡ 0 ∷ replicate 23 40 ++ replicate 2 63
  pub over_24 : waved (lengths 1 24) 26 ≡ 0 ∷ replicate 23 23 ++ replicate 2 63
  pub over_16 : waved (lengths 2 16) 18 ≡ 0 ∷ 0 ∷ replicate 14 23 ++ replicate 2 63
  -- lengths are "fixed when it is made": a reset and a change leave them
  pub reset_none : reset_of (long_under good long) 0 ≡ reset_answer (long_under good long) 0
  pub reset_some : reset_of (long_under good long) 0x2D
      ≡ reset_answer (long_under good (set (set still 1 (channel 17 0 false false)) 4 (channel 5 9 false true))) 0
  -- a run above 16 or 4 carries over where its own level is equal
  pub change_none : change_of (long_under good long) good ≡ changed 0 (long_under good long)
  pub change_some : change_of (long_under good long) (with_pickup (with_drop good 820 0) 3414 0)
      ≡ changed 0 (long_under (with_pickup (with_drop good 820 0) 3414 0) (set (set long 0 (channel 0 0 true false)) 3 (channel 23 0 true false)))

pub calls : LengthCalls
unfolding outputs computed
calls =
    record {
      losses = refl;
      overs = refl;
      fresh = refl;
      bad_fresh = refl;
      after_1 = refl;
      after_20 = refl;
      all_bad = refl;
      losses_sound = refl;
      overs_sound = refl;
      bad_frame = (refl, refl);
      bad_reset = (refl, refl);
      bad_change = refl;
      loss_runs = (refl, refl);
      over_runs = (refl, refl);
      all_runs = (refl, refl);
      voltage_latches = refl;
      full = (refl, refl);
      too_long = (refl, refl);
      met = refl;
      loss_met = refl;
      over_met = refl;
      disabled = refl;
      not_counted = refl;
      not_enabled = refl;
      rise = refl;
      each_counted = refl;
      each_not_counted = refl;
      loss_24 = refl;
      over_24 = refl;
      over_16 = refl;
      reset_none = refl;
      reset_some = refl;
      change_none = refl;
      change_some = refl;
    }
