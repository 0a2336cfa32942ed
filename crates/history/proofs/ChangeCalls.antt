-- New levels in the history (document 02, Paper 6), computed from outside the relay: which changes are accepted, what a
-- channel meets, the levels that it ran under, which changes break which run, and the level from which a margin is
-- measured; each limit with the frame beside it. Then in which frame our relay's latch goes on around a change. Rests on
-- the definitions of the history; that a frame is counted is taken from Settling, one exact amplitude from phasor's
-- calls.
use Prim.Native.Nat.{ℕ, zero, suc, ◌+◌, ◌-◌, ◌%◌, ◌<◌}
use native.Mathlib.Omega.{arith}
use mathlib.Core.Path.{◌≡◌, refl, sym, ◌∙◌, subst}
use mathlib.Core.Bool.{Bool, true, false, cond, false≢true}
use mathlib.Core.List.{List, [], ◌∷◌, ◌++◌}
use lib.IntN.{ℤ, pos, neg_ℤ}
use lib.Dec.{T, eqb}
use lib.ListN.{get_or, set, replicate}
use borrow.Author.Tests.{eq-eqb}
use Rattle.lists.specs.Each.{table}
use Rattle.phasor.proofs.Calls.{exact}
use Rattle.relay.specs.declared.ChannelLevels.{ChannelLevels}
use Rattle.relay.specs.declared.Levels.{Levels}
use Rattle.relay.specs.declared.Settings.{Settings}
use Rattle.relay.specs.declared.Relay.{Relay}
use Rattle.relay.specs.Relay.{change_of}
use Rattle.relay.proofs.ChangeCalls.{levels, with_drop, with_pickup, with_restraint}
use Rattle.relay.proofs.Examples.{bench, settings_of, equal_levels}
use Rattle.history.specs.Calls.{Call, frame, reset, change, change_refused_by, refusal_of, is_accepted, accepted_frames}
use Rattle.history.specs.Calls.{device_bits, in_force, the_relay, handed_back, after}
use Rattle.history.specs.History.{Event, sampled, cleared, changed, own_levels, channel_history, frames, resets, resets_before}
use Rattle.history.specs.History.{levels_at, changes_before, window_at, InEach, FullRun, FullRunMeeting, LatchOn}
use Rattle.history.specs.Demand.{loss_of, over_of, PossiblyOver, OverMargins, relay_after, loss_after, over_after}
use Rattle.history.specs.WrongRelays.{no_change, run_of_windows, Latch, the_loss_latch, the_over_latch, latch_in, length_of, kind_of, Differ}
use Rattle.history.specs.WrongRelays.{GoesOn, number_of, calls_of, full_length, ChangedLately, Unmet, Changing, given, changed_to, ClearsRun}
use Rattle.history.proofs.Computed.{computed}
use Rattle.history.proofs.FullRuns.{meets_in, in_each_lem, full_run, full_meeting}
use Rattle.history.proofs.HistoryCalls.{own, ones, still}
use Rattle.history.proofs.SettlingCalls.{first_of}

-- ---- levels

abbrev drops : List ℕ
drops = 401 ∷ 402 ∷ 403 ∷ 404 ∷ 405 ∷ 400 ∷ []

abbrev pickups : List ℕ
pickups = 399 ∷ 398 ∷ 401 ∷ []

abbrev restraints : List ℕ
restraints = 100 ∷ 0 ∷ 7 ∷ []

abbrev nine : Levels
nine = levels drops pickups restraints

abbrev drop_at : ℕ → ℕ → Levels
drop_at = with_drop nine

abbrev pickup_at : ℕ → ℕ → Levels
pickup_at = with_pickup nine

abbrev restraint_at : ℕ → ℕ → Levels
restraint_at = with_restraint nine

-- ---- a tale of changes to channel 4, refused ones among them

-- frame n: a code of its own in each current
abbrev frame_no : ℕ → ℕ → Call
frame_no n enable =
    frame (record { list = 512 ∷ 512 ∷ 512 ∷ (513 + n) ∷ (523 + n) ∷ (533 + n) ∷ []; six = refl }) enable

-- its drop at 410; its pickup; its r; and the two that are refused would move its drop too
abbrev raised : Levels
raised = drop_at 410 4

abbrev picked : Levels
picked = pickup_at 300 1

abbrev held : Levels
held = restraint_at 9 1

abbrev refused1 : Levels
refused1 = levels (set drops 4 410) (set pickups 2 10701) restraints

abbrev refused20 : Levels
refused20 = levels (set drops 4 410) pickups (set restraints 0 101)

abbrev tale : List Call
tale =
    change raised
    ∷ frame_no 0 0x7F
    ∷ change picked
    ∷ change nine
    ∷ frame_no 1 0x7F
    ∷ change refused1
    ∷ change refused20
    ∷ frame_no 2 0x3F
    ∷ reset 16
    ∷ change held
    ∷ frame_no 3 0x7F
    ∷ change nine ∷ []

abbrev met : ℕ → Bool → Event
met sample bit6 = sampled (record { sample = pos sample; channel_bit = true; bit6 = bit6 })

-- ---- long lists

-- frames k to k + n − 1 of a cycle of codes, 512 where it gives none, the same on each channel and all enabled; then the rest
abbrev cycled : List ℕ → ℕ → ℕ → List Call → List Call
cycled codes k zero rest = rest
cycled codes k (suc n) rest = frame (still (get_or codes (k % 8) 512)) 127 ∷ cycled codes (suc k) n rest

abbrev stills : ℕ → List Call → List Call
stills n rest = cycled [] 0 n rest

-- 100, 71, 0, −71, −100, −71, 0, 71: m = 1603 in each window from frame 7 on
abbrev waves : ℕ → ℕ → List Call → List Call
waves k n rest = cycled (612 ∷ 583 ∷ 512 ∷ 441 ∷ 412 ∷ 441 ∷ 512 ∷ 583 ∷ []) k n rest

-- 100 in slot 0 alone: Z = 400 exactly, in each window
abbrev strikes : ℕ → ℕ → List Call → List Call
strikes k n rest = cycled (612 ∷ []) k n rest

-- of levels 1: channel 0's drop at 2; all as made; all pickups at 2; all drops at a level
abbrev two : Call
two = change (levels (2 ∷ replicate 5 1) (replicate 3 1) (replicate 3 0))

abbrev one : Call
one = change ones.levels

abbrev picked_up : Call
picked_up = change (equal_levels 1 2).levels

abbrev of_drop : ℕ → Call
of_drop drop = change (equal_levels drop 1).levels

-- ---- in which frame our latch goes on

-- the number of the first frame after which channel c's latch is on, n of them before these calls; that of the next frame,
-- if it stays off
abbrev first_on : Latch → ℕ → ℕ → Relay → List Call → ℕ
first_on latch c n r [] = cond (latch_in latch r c) (n - 1) n
first_on latch c n r (call ∷ calls) =
    cond (latch_in latch r c) (n - 1)
    (first_on latch c (n + accepted_frames (call ∷ [])) (handed_back the_relay r call) calls)

-- a settled relay with all runs 0 and no latch on: the next frame is number 72, the first that is counted
abbrev settled_in : List ℤ → Settings → Relay
settled_in samples settings =
    record {
      channels = replicate 6 (record { samples = samples; loss_run = 0; over_run = 0; loss_latch = false; over_latch = false });
      age = 72;
      slot = 0;
      device_on = true;
      settings = settings;
    }

abbrev resting : Relay
resting = settled_in (replicate 8 (pos 0)) ones

abbrev loss_from72 : List Call → ℕ
loss_from72 calls = first_on the_loss_latch 0 72 resting calls

abbrev wave : Settings
wave = equal_levels 1 1603

-- m1 = 1603, m2 = 0
abbrev wave_window : List ℤ
wave_window = pos 100 ∷ pos 71 ∷ pos 0 ∷ neg_ℤ (pos 71) ∷ neg_ℤ (pos 100) ∷ neg_ℤ (pos 71) ∷ pos 0 ∷ pos 71 ∷ []

abbrev in_wave : Relay
in_wave = settled_in wave_window wave

-- three frames of a wave, some calls, and five frames more
abbrev over_from72 : List Call → ℕ
over_from72 calls = first_on the_over_latch 3 72 in_wave (waves 72 3 (calls ++ waves 75 5 []))

-- levels of the wave: drop, pickup and r of channel 3
abbrev of_wave : ℕ → ℕ → ℕ → Call
of_wave drop pickup r = change (levels (set (replicate 6 1) 3 drop) (pickup ∷ 1603 ∷ 1603 ∷ []) (r ∷ 0 ∷ 0 ∷ []))

-- the loss latch and the over latch of channel 3, and the over latch of channel 2
abbrev latches_of : Relay → List Bool
latches_of r = latch_in the_loss_latch r 3 ∷ latch_in the_over_latch r 3 ∷ latch_in the_over_latch r 2 ∷ []

-- ---- full runs and margins

unlike : (a b : ℕ) → eqb a b ≡ false → ¬ (a ≡ b)
unlike a b e q = false≢true (sym e ∙ eq-eqb a b q)

-- four frames, one by one
four : (P : ℕ → Type 0) (j : ℕ) → P j → P (j + 1) → P (j + 2) → P (j + 3) → InEach j 4 P
four P j a b c d = in_each_lem P j 4 each
  where
    each : (k : ℕ) → k < 4 → P (j + k)
    each zero h = subst P (let q : j ≡ j + 0 = omega arith in q) a
    each (suc zero) h = b
    each (suc (suc zero)) h = c
    each (suc (suc (suc zero))) h = d
    each (suc (suc (suc (suc k)))) h = absurd (omega arith)

-- channel 0 of still frames, and channel 3 of the other two, with what it was made with
abbrev still0 : List Call → List Event
still0 calls = channel_history 0 calls

abbrev made0 : ChannelLevels
made0 = own 1 0 0 false

abbrev of_pickup : ℕ → Call
of_pickup pickup = change (equal_levels 1 pickup).levels

-- a pickup in force in frames 72 to 75 of the wave, and another after them
abbrev lent : ℕ → ℕ → List Event
lent pickup other = channel_history 3 (waves 0 72 (of_pickup pickup ∷ waves 72 4 (of_pickup other ∷ [])))

abbrev made3 : ℕ → ChannelLevels
made3 pickup = own 1 pickup 0 true

-- 72 frames of a cycle, then a pickup is put in force, then four frames with 100 in slot 0 and 0 in slots 1, 2 and 3
abbrev struck_to : List ℕ → ℕ → List Call
struck_to codes pickup = cycled codes 0 72 (of_pickup pickup ∷ strikes 72 4 [])

-- with 511 in slot 3 until frame 75, which has Z = 400 exactly
abbrev falling : List Call
falling = struck_to (612 ∷ 512 ∷ 512 ∷ 1023 ∷ []) 403

-- a frame with 100 in slot 0; new levels; a frame with 0 in slot 1: the same window, m = 400
abbrev judged : List Event
judged = channel_history 3 (strikes 0 1 (change (equal_levels 401 401).levels ∷ strikes 1 1 []))

pub record ChangeCalls : Type 0 where
  -- "a setting outside 1 to 10,700" is 1, in each place; both ends are taken
  pub drops_out : (table 6 (λ c. change_refused_by (drop_at 0 c)) ≡ replicate 6 1)
      × (table 6 (λ c. change_refused_by (drop_at 10701 c)) ≡ replicate 6 1)
  pub drops_in : (table 6 (λ c. change_refused_by (drop_at 1 c)) ≡ replicate 6 0)
      × (table 6 (λ c. change_refused_by (drop_at 10700 c)) ≡ replicate 6 0)
  pub pickups_out : (table 3 (λ k. change_refused_by (pickup_at 0 k)) ≡ replicate 3 1)
      × (table 3 (λ k. change_refused_by (pickup_at 10701 k)) ≡ replicate 3 1)
  pub pickups_in : (table 3 (λ k. change_refused_by (pickup_at 1 k)) ≡ replicate 3 0)
      × (table 3 (λ k. change_refused_by (pickup_at 10700 k)) ≡ replicate 3 0)
  -- "20 for r above 100"
  pub restraints_out : (table 3 (λ k. change_refused_by (restraint_at 101 k)) ≡ replicate 3 20)
      × (table 3 (λ k. change_refused_by (restraint_at 255 k)) ≡ replicate 3 20)
  pub restraints_in : (table 3 (λ k. change_refused_by (restraint_at 100 k)) ≡ replicate 3 0)
      × (table 3 (λ k. change_refused_by (restraint_at 0 k)) ≡ replicate 3 0)
  -- "after 1": a drop and a pickup in the last place, beside an r in the first
  pub drop_first : change_refused_by (levels (set drops 5 0) pickups (replicate 3 101)) ≡ 1
  pub pickup_first : change_refused_by (levels drops (set pickups 2 10701) (set restraints 0 101)) ≡ 1
  -- the refusal is the call's own
  pub as_calls : (refusal_of (change nine) ≡ 0) × (refusal_of (change refused1) ≡ 1) × (refusal_of (change refused20) ≡ 20)
  pub taken : (is_accepted (change nine) ≡ true) × (is_accepted (change refused1) ≡ false) × (is_accepted (change refused20) ≡ false)
  -- "The history then includes changes of levels"; a refused one "has no frame number and separates nothing"
  pub refusals : table 12 (λ k. refusal_of (get_or tale k (reset 64))) ≡ 0 ∷ 0 ∷ 0 ∷ 0 ∷ 0 ∷ 1 ∷ 20 ∷ 0 ∷ 0 ∷ 0 ∷ 0 ∷ 0 ∷ []
  pub four_frames : accepted_frames tale ≡ 4
  pub bits : device_bits tale ≡ true ∷ true ∷ false ∷ true ∷ []
  -- each channel meets each accepted change, with its own levels
  pub channel_4 : channel_history 4 tale
      ≡ changed (own 410 398 0 true)
      ∷ met 11 true
      ∷ changed (own 405 300 0 true)
      ∷ changed (own 405 398 0 true)
      ∷ met 12 true
      ∷ met 13 false
      ∷ cleared
      ∷ changed (own 405 398 9 true)
      ∷ met 14 true
      ∷ changed (own 405 398 0 true) ∷ []
  pub channel_3 : channel_history 3 tale
      ≡ changed (own 404 399 100 true)
      ∷ met 1 true
      ∷ changed (own 404 399 100 true)
      ∷ changed (own 404 399 100 true)
      ∷ met 2 true
      ∷ met 3 false
      ∷ changed (own 404 399 100 true)
      ∷ met 4 true
      ∷ changed (own 404 399 100 true) ∷ []
  pub channel_5 : channel_history 5 tale
      ≡ changed (own 400 401 7 true)
      ∷ met 21 true
      ∷ changed (own 400 401 7 true)
      ∷ changed (own 400 401 7 true)
      ∷ met 22 true
      ∷ met 23 false
      ∷ changed (own 400 401 7 true)
      ∷ met 24 true
      ∷ changed (own 400 401 7 true) ∷ []
  -- "the one it ran under": of the latest accepted change before frame n; and after the last
  pub ran_under : table 5 (levels_at (own_levels nine 4) (channel_history 4 tale))
      ≡ own 410 398 0 true ∷ own 405 398 0 true ∷ own 405 398 0 true ∷ own 405 398 9 true ∷ own 405 398 0 true ∷ []
  pub unmoved : table 5 (levels_at (own_levels nine 3) (channel_history 3 tale)) ≡ replicate 5 (own 404 399 100 true)
  -- "gave its own level another value": the drop; the pickup, and "r too, as part of the over run's own level"
  pub loss_changes : table 5 (changes_before (loss_of bench) (own_levels nine 4) (channel_history 4 tale)) ≡ 1 ∷ 2 ∷ 2 ∷ 2 ∷ 2 ∷ []
  pub over_changes : table 5 (changes_before (over_of bench) (own_levels nine 4) (channel_history 4 tale)) ≡ 0 ∷ 2 ∷ 2 ∷ 3 ∷ 4 ∷ []
  pub no_changes : (table 5 (changes_before (loss_of bench) (own_levels nine 3) (channel_history 3 tale)) ≡ replicate 5 0)
      × (table 5 (changes_before (over_of bench) (own_levels nine 3) (channel_history 3 tale)) ≡ replicate 5 0)
  -- a change is no reset, and a frame's number goes on over it
  pub separated : (resets (channel_history 4 tale) ≡ 1) × (table 5 (resets_before (channel_history 4 tale)) ≡ 0 ∷ 0 ∷ 0 ∷ 1 ∷ 1 ∷ [])
  pub not_separated_lem : (resets (channel_history 3 tale) ≡ 0) × (table 5 (resets_before (channel_history 3 tale)) ≡ replicate 5 0)
  pub numbered : frames (channel_history 4 tale) ≡ 4
  -- the levels in force after each part of it
  pub in_force_lem : table 13 (λ n. in_force nine (first_of n tale))
      ≡ nine ∷ raised ∷ raised ∷ picked ∷ nine ∷ nine ∷ nine ∷ nine ∷ nine ∷ nine ∷ held ∷ held ∷ nine ∷ []
  -- which our relay holds
  pub ours_holds : table 13 (λ n. (relay_after the_relay (settings_of nine) (first_of n tale)).settings.levels)
      ≡ nine ∷ raised ∷ raised ∷ picked ∷ nine ∷ nine ∷ nine ∷ nine ∷ nine ∷ nine ∷ held ∷ held ∷ nine ∷ []
  -- a run's own level: no place moved; the drop, the pickup, the restraint
  pub loss_own_lem : ((loss_of bench).same (own 2 3 4 true) (own 2 3 4 true) ≡ true) × ((loss_of bench).same (own 2 3 4 true) (own 1 3 4 true) ≡ false)
      × ((loss_of bench).same (own 2 3 4 true) (own 2 1 4 true) ≡ true) × ((loss_of bench).same (own 2 3 4 true) (own 2 3 1 true) ≡ true)
  pub over_own_lem : ((over_of bench).same (own 2 3 4 true) (own 2 3 4 true) ≡ true) × ((over_of bench).same (own 2 3 4 true) (own 1 3 4 true) ≡ true)
      × ((over_of bench).same (own 2 3 4 true) (own 2 1 4 true) ≡ false) × ((over_of bench).same (own 2 3 4 true) (own 2 3 1 true) ≡ false)
  -- "m < drop", of the fundamental
  pub below : table 2 (λ k. (loss_of bench).meets (own (1603 + k) 1 0 true) wave_window) ≡ false ∷ true ∷ []
  -- one window, judged by the levels of each frame: from 400 to 401, m = 400 comes below the drop and is no more over the pickup
  pub one_window : window_at judged 0 ≡ window_at judged 1
  pub each_frame : (table 2 (meets_in (loss_of bench) (own 400 400 0 true) judged) ≡ false ∷ true ∷ [])
      × (table 2 (meets_in (over_of bench) (own 400 400 0 true) judged) ≡ true ∷ false ∷ [])
  -- "between the first and last frame": a change right before the first, frame 72, is not; right before the second it is; after the last it is not
  pub before_first : FullRun (loss_of bench) made0 (still0 (stills 72 (two ∷ stills 16 []))) 16 72
  pub before_second : ¬ FullRun (loss_of bench) made0 (still0 (stills 73 (two ∷ stills 16 []))) 16 72
      × FullRun (loss_of bench) made0 (still0 (stills 73 (two ∷ stills 16 []))) 16 73
  pub before_last : ¬ FullRun (loss_of bench) made0 (still0 (stills 87 (two ∷ stills 1 []))) 16 72
  pub after_last : FullRun (loss_of bench) made0 (still0 (stills 88 (two ∷ []))) 16 72
  -- changed and changed back is two changes; a pickup's is none to the loss run, and is one to the over run
  pub back_again : ¬ FullRun (loss_of bench) made0 (still0 (stills 80 (two ∷ one ∷ stills 8 []))) 16 72
  pub only_pickup : FullRun (loss_of bench) (own 1 1 0 true) (channel_history 3 (stills 80 (picked_up ∷ stills 8 []))) 16 72
      × ¬ FullRun (over_of bench) (own 1 1 0 true) (channel_history 3 (stills 80 (picked_up ∷ stills 8 []))) 16 72
  -- "the level it meets .. is the one it ran under": not the one made with, and not the one in force at the end, which is 1 above m
  pub meets_lent : LatchOn (over_of bench) (made3 1604) (lent 1603 1604)
  pub not_lent : FullRun (over_of bench) (made3 1603) (lent 1604 1603) 4 72 × ¬ FullRunMeeting (over_of bench) (made3 1603) (lent 1604 1603) 72
  -- "from which the margin of 2 is measured too": after Z = 400 in each frame under 398 the latch is on; it does not go on under 403
  pub clear_margin_lem : (was now : Bool) → OverMargins (equal_levels 1 10700) 3 (struck_to [] 398) was now → T now
  pub near_margin_lem : ¬ OverMargins (equal_levels 1 398) 3 falling false true
  -- our relay after 72 frames: what is said from there on is said of the whole list
  pub at_rest : (calls : List Call) (c : ℕ) → loss_after the_relay ones (stills 72 calls) c ≡ latch_in the_loss_latch (after the_relay resting calls) c
  pub in_wave_lem : (calls : List Call) (c : ℕ) → over_after the_relay wave (waves 0 72 calls) c ≡ latch_in the_over_latch (after the_relay in_wave calls) c
  -- "loss latches in frame 87": also with changes right before frames 0 and 10, and before frame 72
  pub early : first_on the_loss_latch 0 0 (relay_after the_relay ones []) (two ∷ stills 10 (one ∷ stills 78 [])) ≡ 87
  pub at_72 : loss_from72 (two ∷ stills 16 []) ≡ 87
  -- before frame 73 the run begins anew, and before frame 87
  pub at_73 : loss_from72 (stills 1 (two ∷ stills 16 [])) ≡ 88
  pub at_87 : loss_from72 (stills 15 (two ∷ stills 16 [])) ≡ 102
  -- there and back between frames 79 and 80; back one frame later
  pub there_and_back : loss_from72 (stills 8 (two ∷ one ∷ stills 16 [])) ≡ 95
  pub back_later : loss_from72 (stills 8 (two ∷ stills 1 (one ∷ stills 16 []))) ≡ 96
  -- only a pickup moved before frame 80, and all drops after frame 87
  pub kept_run : table 6 (latch_in the_loss_latch (after the_relay resting (stills 8 (picked_up ∷ stills 8 (of_drop 2 ∷ []))))) ≡ replicate 6 true
  -- over latches in frame 75; with a change right before it, above m: in no frame up to 79; below m, there and back, of r: in 78; of the drop: in 75
  pub over_none : over_from72 [] ≡ 75
  pub over_above : over_from72 (of_wave 1 1604 0 ∷ []) ≡ 80
  pub over_below : over_from72 (of_wave 1 1602 0 ∷ []) ≡ 78
  pub over_back : over_from72 (of_wave 1 1602 0 ∷ of_wave 1 1603 0 ∷ []) ≡ 78
  pub over_r : over_from72 (of_wave 1 1603 1 ∷ []) ≡ 78
  pub over_drop : over_from72 (of_wave 2 1603 0 ∷ []) ≡ 75
  -- refused by 1 and by 20
  pub over_refused : (over_from72 (of_wave 1 10701 0 ∷ []) ≡ 75) × (over_from72 (of_wave 1 1603 101 ∷ []) ≡ 75)
  -- "latches .. carry over", where the new level would not have tripped
  pub over_stays : latch_in the_over_latch (after the_relay in_wave (waves 72 4 (of_wave 1 1604 0 ∷ waves 76 1 []))) 3 ≡ true
  -- the words of WrongRelays: a change stands in the list, accepted or refused, last or not
  pub unchanged : (no_change [] ≡ true) × (no_change (stills 2 (reset 1 ∷ stills 1 [])) ≡ true)
  pub changes_seen : (no_change tale ≡ false) × (no_change (stills 1 (reset 1 ∷ two ∷ [])) ≡ false)
      × (no_change (change refused1 ∷ stills 1 []) ≡ false)
  -- so many windows that have the test, whatever the levels are
  pub of_windows : ((run_of_windows 7 (λ w. false)).len ≡ 7)
      × ((test : List ℤ → Bool) (l : ChannelLevels) (w : List ℤ) → (run_of_windows 7 test).meets l w ≡ test w)
      × ((old new : ChannelLevels) → (run_of_windows 7 (λ w. false)).same old new ≡ true)
  -- each latch with its own run, length and own level
  pub kinds : (kind_of the_loss_latch ≡ loss_of) × (kind_of the_over_latch ≡ over_of) × (length_of the_loss_latch bench ≡ 16) × (length_of the_over_latch bench ≡ 4)
  pub latches : latches_of (after the_relay in_wave (waves 72 4 [])) ≡ false ∷ true ∷ false ∷ []
  pub loss_differs : Differ the_loss_latch (own 2 3 4 true) (own 1 3 4 true) × ¬ Differ the_loss_latch (own 2 3 4 true) (own 2 1 5 false)
  pub over_differs : Differ the_over_latch (own 2 3 4 true) (own 2 1 4 true) × Differ the_over_latch (own 2 3 4 true) (own 2 3 1 true)
      × ¬ Differ the_over_latch (own 2 3 4 true) (own 1 3 4 false)
  -- the relay that a change is given, and the one that it hands back
  pub changing : (g : Changing the_relay) → (given g ≡ relay_after the_relay g.settings g.past)
      × (changed_to g ≡ (change_of (given g) g.new).relay)
  -- a change between two frames of the run: not right before its first
  pub between_two : (latch : Latch) (w : ClearsRun the_relay latch)
      → (w.first < accepted_frames w.before) × (accepted_frames w.before < w.first + length_of latch w.settings.lengths)
  -- one frame fewer since the change, that in which the latch goes on among them, than its full run has is too few
  pub one_too_few : (g : GoesOn the_relay) (before : List Call) (new : Levels) (between : List Call)
      → g.past ≡ before ++ (change new ∷ between) → refusal_of (change new) ≡ 0
      → Differ g.latch (own_levels (in_force g.settings.levels before) g.channel) (own_levels new g.channel)
      → accepted_frames between + 2 ≡ full_length g → ChangedLately g
  -- the frame in which the latch goes on can be the one that did not meet its level
  pub unmet_there : (g : GoesOn the_relay) → g.latch ≡ the_over_latch
      → (let es : List Event = channel_history g.channel (calls_of g) in
      ¬ T (meets_in (kind_of g.latch g.settings.lengths) (own_levels g.settings.levels g.channel) es (number_of g)) → Unmet g (number_of g))

pub change_calls : ChangeCalls
unfolding computed
change_calls =
    record {
      drops_out = (refl, refl);
      drops_in = (refl, refl);
      pickups_out = (refl, refl);
      pickups_in = (refl, refl);
      restraints_out = (refl, refl);
      restraints_in = (refl, refl);
      drop_first = refl;
      pickup_first = refl;
      as_calls = (refl, refl, refl);
      taken = (refl, refl, refl);
      refusals = refl;
      four_frames = refl;
      bits = refl;
      channel_4 = refl;
      channel_3 = refl;
      channel_5 = refl;
      ran_under = refl;
      unmoved = refl;
      loss_changes = refl;
      over_changes = refl;
      no_changes = (refl, refl);
      separated = (refl, refl);
      not_separated_lem = (refl, refl);
      numbered = refl;
      in_force_lem = refl;
      ours_holds = refl;
      loss_own_lem = (refl, refl, refl, refl);
      over_own_lem = (refl, refl, refl, refl);
      below = refl;
      one_window = refl;
      each_frame = (refl, refl);
      before_first = full_run (loss_of bench) made0 (still0 (stills 72 (two ∷ stills 16 []))) 16 72 refl;
      before_second = (
        λ r. unlike 1 0 refl (r.each 73 (omega arith) (omega arith)).not_changed,
        full_run (loss_of bench) made0 (still0 (stills 73 (two ∷ stills 16 []))) 16 73 refl,
      );
      before_last = λ r. unlike 1 0 refl (r.each 87 (omega arith) (omega arith)).not_changed;
      after_last = full_run (loss_of bench) made0 (still0 (stills 88 (two ∷ []))) 16 72 refl;
      back_again = λ r. unlike 2 0 refl (r.each 80 (omega arith) (omega arith)).not_changed;
      only_pickup = (
        full_run (loss_of bench) (own 1 1 0 true) (channel_history 3 (stills 80 (picked_up ∷ stills 8 []))) 16 72 refl,
        λ r. unlike 1 0 refl (r.each 80 (omega arith) (omega arith)).not_changed,
      );
      meets_lent = (72, full_meeting (over_of bench) (made3 1604) (lent 1603 1604) 72 refl refl refl);
      not_lent = (
        full_run (over_of bench) (made3 1603) (lent 1604 1603) 4 72 refl,
        λ m. m.meets 75 (omega arith) (omega arith),
      );
      clear_margin_lem = λ was now m. m.clear_margin 72 refl (full_run (over_of bench) (made3 10700) (channel_history 3 (struck_to [] 398)) 4 72 refl)
          (four _ 72 (exact.least_400, tt) (exact.least_400, tt) (exact.least_400, tt) (exact.least_400, tt));
      near_margin_lem = λ m. near (m.near_margin (λ t. t) tt);
      at_rest = λ calls c. refl;
      in_wave_lem = λ calls c. refl;
      early = refl;
      at_72 = refl;
      at_73 = refl;
      at_87 = refl;
      there_and_back = refl;
      back_later = refl;
      kept_run = refl;
      over_none = refl;
      over_above = refl;
      over_below = refl;
      over_back = refl;
      over_r = refl;
      over_drop = refl;
      over_refused = (refl, refl);
      over_stays = refl;
      unchanged = (refl, refl);
      changes_seen = (refl, refl, refl);
      of_windows = (refl, λ test l w. refl, λ old new. refl);
      kinds = (refl, refl, refl, refl);
      latches = refl;
      loss_differs = (unlike 2 1 refl, λ d. d refl);
      over_differs = (
        λ e. unlike 3 1 refl e.0,
        λ e. unlike 4 1 refl e.1,
        λ d. d (refl, refl),
      );
      changing = λ g. (refl, refl);
      between_two = λ latch w. (w.begun, w.not_ended);
      one_too_few = λ g before new between p a d n. record {
        before = before;
        new = new;
        between = between;
        is_past = p;
        accepted = a;
        another = d;
        few = omega (arith, n);
      };
      unmet_there = λ g e no_level. record { up_to = omega arith; in_run = rw e (omega (arith, g.accepted.over_length)); fails = no_level };
    }
  where
    es : List Event
    es = channel_history 3 falling

    all : frames es ≡ 76
    all = refl

    -- the run that ends in frame 75 begins in frame 72
    near : ¬ ((j : ℕ) × (j + 4 ≡ frames es) × FullRun (over_of bench) (made3 398) es 4 j
        × InEach j 4 (λ n. PossiblyOver (levels_at (made3 398) es n).pickup (levels_at (made3 398) es n).restraint (window_at es n)))
    near (j, e, r, p) = exact.below_401 (p 75 (omega (arith, e, all)) (omega (arith, e, all))).0
