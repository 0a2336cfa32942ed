-- New levels (document 02, Paper 6), computed: what a change makes of each run, and that it moves nothing else; each
-- limit of each level, the order of the refusals, relays that are not sound, and lists of calls around a change. Moved
-- (our word): a level whose new value is another. Rests on the definitions alone.
use Prim.Native.Nat.{ℕ, ◌+◌, ◌-◌, ◌*◌, ◌%◌}
use mathlib.Core.Path.{◌≡◌, refl}
use mathlib.Core.Bool.{Bool, true, false}
use mathlib.Core.List.{List, [], ◌∷◌, ◌++◌, map}
use lib.IntN.{ℤ, pos, neg_ℤ}
use lib.Dec.{eqb}
use lib.ListN.{get_or, set, replicate}
use Rattle.relay.specs.declared.Channel.{Channel}
use Rattle.relay.specs.declared.ChannelLevels.{ChannelLevels}
use Rattle.relay.specs.declared.Levels.{Levels}
use Rattle.relay.specs.declared.Relay.{Relay}
use Rattle.relay.specs.declared.RelayAnswer.{RelayAnswer}
use Rattle.lists.specs.Each.{table}
use Rattle.relay.specs.Settings.{levels_of, loss, over}
use Rattle.relay.specs.Relay.{channel_at, fresh_of, frame_of, reset_of, change_of}
use Rattle.relay.proofs.Computed.{computed}
use Rattle.relay.proofs.Examples.{bench, settings_of, all_zero}

-- ---- levels

abbrev pub levels : List ℕ → List ℕ → List ℕ → Levels
levels drop pickup restraint = record { drop = drop; pickup = pickup; restraint = restraint }

-- one level at another value: drop c, pickup k, restraint k
abbrev pub with_drop : Levels → ℕ → ℕ → Levels
with_drop l level c = levels (set l.drop c level) l.pickup l.restraint

abbrev pub with_pickup : Levels → ℕ → ℕ → Levels
with_pickup l level k = levels l.drop (set l.pickup k level) l.restraint

abbrev pub with_restraint : Levels → ℕ → ℕ → Levels
with_restraint l r k = levels l.drop l.pickup (set l.restraint k r)

-- six, and three, no two of them equal, each with room on both sides
abbrev drops : List ℕ
drops = 1302 ∷ 2417 ∷ 5190 ∷ 7633 ∷ 864 ∷ 9948 ∷ []

abbrev pickups : List ℕ
pickups = 3071 ∷ 6259 ∷ 8586 ∷ []

abbrev restraints : List ℕ
restraints = 46 ∷ 5 ∷ 92 ∷ []

abbrev old : Levels
old = levels drops pickups restraints

-- all moved, each to a value that stood in another place, so that a level compared or kept in the wrong place shows
abbrev new : Levels
new = levels (2417 ∷ 5190 ∷ 7633 ∷ 864 ∷ 9948 ∷ 1302 ∷ []) (6259 ∷ 8586 ∷ 3071 ∷ []) (92 ∷ 46 ∷ 5 ∷ [])

abbrev drop_at : ℕ → ℕ → Levels
drop_at = with_drop old

abbrev pickup_at : ℕ → ℕ → Levels
pickup_at = with_pickup old

abbrev restraint_at : ℕ → ℕ → Levels
restraint_at = with_restraint old

-- number k of a list
abbrev nth : List ℕ → ℕ → ℕ
nth xs k = get_or xs k 0

-- ---- relays

-- the window of channel c: all samples of all channels unequal, one of them below zero
abbrev window : ℕ → List ℤ
window c = set (table 8 (λ k. pos (60 * c + 7 * k + 1))) c (neg_ℤ (pos (512 - c)))

abbrev channel_of : List ℤ → ℕ → ℕ → Bool → Bool → Channel
channel_of samples loss_count over_count loss_latch_of over_latch_of =
    record {
      samples = samples;
      loss_run = loss_count;
      over_run = over_count;
      loss_latch = loss_latch_of;
      over_latch = over_latch_of;
    }

-- loss runs and latches of six, over runs and latches of three; a voltage has no over run and no over latch
abbrev channels : List ℕ → List Bool → List ℕ → List Bool → List Channel
channels losses loss_latches overs over_latches =
    table 6 (λ c. channel_of (window c) (nth losses c) (nth (replicate 3 0 ++ overs) c) (get_or loss_latches c false)
    (get_or (replicate 3 false ++ over_latches) c false))

abbrev relay : Bool → ℕ → ℕ → List Channel → Levels → Relay
relay on age slot channels levels =
    record { channels = channels; age = age; slot = slot; device_on = on; settings = settings_of levels }

abbrev answer : ℕ → Relay → RelayAnswer
answer refusal r = record { relay = r; refusal = refusal }

-- Two relays, by their runs and levels. Runs are full or not with a latch on or off, all above 0 in the first; in the
-- second some are 0 with a latch on. The first is settled, the second not, after a frame with bit 6 off.
abbrev one : List ℕ → List ℕ → Levels → Relay
one losses overs levels =
    relay true 72 3
    (channels losses (false ∷ false ∷ true ∷ true ∷ false ∷ true ∷ []) overs (false ∷ true ∷ false ∷ [])) levels

abbrev two : List ℕ → List ℕ → Levels → Relay
two losses overs levels =
    relay false 5 6
    (channels losses (true ∷ false ∷ true ∷ false ∷ true ∷ false ∷ []) overs (true ∷ false ∷ true ∷ [])) levels

abbrev losses1 : List ℕ
losses1 = 1 ∷ 16 ∷ 16 ∷ 5 ∷ 9 ∷ 12 ∷ []

abbrev overs1 : List ℕ
overs1 = 4 ∷ 3 ∷ 2 ∷ []

abbrev losses2 : List ℕ
losses2 = 0 ∷ 15 ∷ 3 ∷ 16 ∷ 16 ∷ 7 ∷ []

abbrev overs2 : List ℕ
overs2 = 4 ∷ 1 ∷ 0 ∷ []

abbrev first : Relay
first = one losses1 overs1 old

abbrev second : Relay
second = two losses2 overs2 old

-- what each is under new levels: loss run c is 0, over run k is 0, neither is, and all are
abbrev loss_gone : Levels → ℕ → List RelayAnswer
loss_gone l c = answer 0 (one (set losses1 c 0) overs1 l) ∷ answer 0 (two (set losses2 c 0) overs2 l) ∷ []

abbrev over_gone : Levels → ℕ → List RelayAnswer
over_gone l k = answer 0 (one losses1 (set overs1 k 0) l) ∷ answer 0 (two losses2 (set overs2 k 0) l) ∷ []

abbrev kept : Levels → List RelayAnswer
kept l = answer 0 (one losses1 overs1 l) ∷ answer 0 (two losses2 overs2 l) ∷ []

abbrev all_gone : Levels → List RelayAnswer
all_gone l = answer 0 (one (replicate 6 0) (replicate 3 0) l) ∷ answer 0 (two (replicate 6 0) (replicate 3 0) l) ∷ []

-- both as given
abbrev refused : ℕ → List RelayAnswer
refused refusal = answer refusal first ∷ answer refusal second ∷ []

abbrev both : Levels → List RelayAnswer
both l = change_of first l ∷ change_of second l ∷ []

-- one level at a value, in each place
abbrev each_drop : ℕ → List (List RelayAnswer)
each_drop level = table 6 (λ c. both (drop_at level c))

abbrev each_pickup : ℕ → List (List RelayAnswer)
each_pickup level = table 3 (λ k. both (pickup_at level k))

abbrev each_restraint : ℕ → List (List RelayAnswer)
each_restraint r = table 3 (λ k. both (restraint_at r k))

-- each binary digit of a level, and of a restraint
abbrev small_digits : List ℕ
small_digits = 1 ∷ 2 ∷ 4 ∷ 8 ∷ 16 ∷ 32 ∷ 64 ∷ []

abbrev digits : List ℕ
digits = small_digits ++ (128 ∷ 256 ∷ 512 ∷ 1024 ∷ 2048 ∷ 4096 ∷ 8192 ∷ [])

-- six drops, three pickups or three restraints moved from the first value to the second
abbrev drops_from : ℕ → ℕ → RelayAnswer
drops_from a b =
    change_of (one losses1 overs1 (levels (replicate 6 a) pickups restraints))
    (levels (replicate 6 b) pickups restraints)

abbrev pickups_from : ℕ → ℕ → RelayAnswer
pickups_from a b =
    change_of (one losses1 overs1 (levels drops (replicate 3 a) restraints)) (levels drops (replicate 3 b) restraints)

abbrev restraints_from : ℕ → ℕ → RelayAnswer
restraints_from a b =
    change_of (one losses1 overs1 (levels drops pickups (replicate 3 a))) (levels drops pickups (replicate 3 b))

-- what they leave
abbrev drops_moved : ℕ → RelayAnswer
drops_moved b = answer 0 (one (replicate 6 0) overs1 (levels (replicate 6 b) pickups restraints))

abbrev pickups_moved : ℕ → RelayAnswer
pickups_moved b = answer 0 (one losses1 (replicate 3 0) (levels drops (replicate 3 b) restraints))

abbrev restraints_moved : ℕ → RelayAnswer
restraints_moved b = answer 0 (one losses1 (replicate 3 0) (levels drops pickups (replicate 3 b)))

-- six channels with the same runs and latches, settled
abbrev alike : ℕ → ℕ → Bool → Levels → Relay
alike loss_count over_count latch l =
    relay true 72 3 (channels (replicate 6 loss_count) (replicate 6 latch) (replicate 3 over_count) (replicate 3 latch)) l

-- ---- own levels

abbrev own : ℕ → ℕ → ℕ → ChannelLevels
own drop pickup restraint = record { drop = drop; pickup = pickup; restraint = restraint; current = true }

-- ---- relays that are not sound, by each condition

abbrev holding : Channel → ℕ → Relay
holding ch c = relay true 72 3 (set first.channels c ch) old

abbrev under : Levels → Relay
under l = one losses1 overs1 l

abbrev unsound : List Relay
unsound =
    relay true 73 3 first.channels old
    ∷ relay false 72 8 first.channels old
    ∷ table 6 (holding (channel_of (window 0) 17 0 false false))
    ++ table 6 (holding (channel_of (window 0) 0 5 false false))
    ++ table 3 (holding (channel_of (window 0) 0 0 false true))
    ++ table 3 (holding (channel_of (window 0) 0 1 false false))
    ++ table 6 (holding (channel_of (set (window 0) 7 (pos 512)) 0 0 false false))
    ++ table 6 (holding (channel_of (set (window 0) 0 (neg_ℤ (pos 513))) 0 0 false false))
    ++ table 6 (λ c. under (drop_at 0 c))
    ++ table 6 (λ c. under (drop_at 10701 c))
    ++ table 3 (λ k. under (pickup_at 0 k))
    ++ table 3 (λ k. under (pickup_at 10701 k))
    ++ table 3 (λ k. under (restraint_at 101 k))
    ++ (all_zero ∷ [])

-- a level and a restraint out of range, each in each place
abbrev bad_both : List Levels
bad_both =
    table 6 (λ c. levels (set drops c 0) pickups (set restraints (c % 3) 101))
    ++ table 6 (λ c. levels (set drops c 10701) pickups (set restraints (c % 3) 255))
    ++ table 3 (λ k. levels drops (set pickups k 10701) (set restraints (2 - k) 101))
    ++ (levels (replicate 6 0) (replicate 3 0) (replicate 3 255) ∷ [])

-- ---- lists of calls

-- the wave 100, 71, 0, −71, −100, −71, 0, 71 in a window that has it already: each amplitude is 1603
abbrev wave : List ℕ
wave = 612 ∷ 583 ∷ 512 ∷ 441 ∷ 412 ∷ 441 ∷ 512 ∷ 583 ∷ []

abbrev waving : ℕ → ℕ → Channel
waving loss_count over_count =
    channel_of
    (pos 100 ∷ pos 71 ∷ pos 0 ∷ neg_ℤ (pos 71) ∷ neg_ℤ (pos 100) ∷ neg_ℤ (pos 71) ∷ pos 0 ∷ pos 71 ∷ [])
    loss_count over_count false false

abbrev frame : Relay → Relay
frame r = (frame_of r (replicate 6 (nth wave r.slot)) 127).relay

abbrev change : Levels → Relay → Relay
change l r = (change_of r l).relay

abbrev reset : ℕ → Relay → Relay
reset mask r = (reset_of r mask).relay

-- after each call: loss runs, over runs of the currents, and which latches are on
pub record Seen : Type 0 where
  pub losses : List ℕ
  pub overs : List ℕ
  pub latches : List Bool

abbrev seen : List ℕ → List ℕ → List Bool → Seen
seen losses overs latches = record { losses = losses; overs = overs; latches = latches }

abbrev look : Relay → Seen
look r =
    seen (table 6 (λ c. (channel_at r c).loss_run)) (table 3 (λ k. (channel_at r (k + 3)).over_run))
    (table 3 (λ k. (channel_at r (k + 3)).over_latch))

pub walk : Relay → List (Relay → Relay) → List Seen
walk r [] = []
walk r (call ∷ more) =
    let next : Relay = call r in
    look next ∷ walk next more

abbrev settled_with : Levels → List Channel → Relay
settled_with l channels = relay true 72 0 channels l

-- Drops and pickups around m = 1603: a drop of 1603 is not met and one of 1604 is, a pickup of 1603 is met and one of
-- 1604 is not.
abbrev start : Levels
start = levels (1604 ∷ 1604 ∷ 1603 ∷ 1604 ∷ 1604 ∷ 1604 ∷ []) (1603 ∷ 1603 ∷ 1603 ∷ []) (0 ∷ 0 ∷ 0 ∷ [])

-- drops 0, 2 and 5 and pickups 3 and 4 moved: 0 and 3 are no longer met, 2 now is, 4 and 5 still are
abbrev moved : Levels
moved = levels (1603 ∷ 1604 ∷ 1604 ∷ 1604 ∷ 1604 ∷ 1605 ∷ []) (1604 ∷ 1602 ∷ 1603 ∷ []) (0 ∷ 0 ∷ 0 ∷ [])

-- then pickup 3 as it was at first, and a restraint on current 4 that lets its wave pass
abbrev again : Levels
again = levels (1603 ∷ 1604 ∷ 1604 ∷ 1604 ∷ 1604 ∷ 1605 ∷ []) (1603 ∷ 1602 ∷ 1603 ∷ []) (0 ∷ 1 ∷ 0 ∷ [])

-- that wave with a loss run alone, its latch on where it is full
abbrev loss_alone : ℕ → Channel
loss_alone n = channel_of (waving 0 0).samples n 0 (eqb n 16) false

-- a window with m1 = 100 and m2 = 37, and a frame that stores what stands in its slot 4
abbrev even : Channel
even =
    channel_of
    (pos 4 ∷ pos 18 ∷ neg_ℤ (pos 10) ∷ pos 12 ∷ neg_ℤ (pos 3) ∷ neg_ℤ (pos 14) ∷ pos 8 ∷ pos 1 ∷ []) 0 0 false false

abbrev even_levels : ℕ → ℕ → ℕ → Levels
even_levels a b c = levels (replicate 6 100) (replicate 3 100) (a ∷ b ∷ c ∷ [])

abbrev even_frame : Relay → Relay
even_frame r = (frame_of r (replicate 6 509) 127).relay

pub record ChangeCalls : Type 0 where
  -- "A run carries over where its own level is equal": the same levels again change nothing
  pub same : both old ≡ kept old
  -- "otherwise it becomes 0": a drop moved by one, up or down, clears that channel's loss run; no other run, no latch,
  -- on or off, of a full run or of one at 0. The levels are then those handed in.
  pub drop_up : table 6 (λ c. both (drop_at (nth drops c + 1) c))
      ≡ table 6 (λ c. loss_gone (drop_at (nth drops c + 1) c) c)
  pub drop_down : table 6 (λ c. both (drop_at (nth drops c - 1) c))
      ≡ table 6 (λ c. loss_gone (drop_at (nth drops c - 1) c) c)
  -- a pickup clears that current's over run
  pub pickup_up : table 3 (λ k. both (pickup_at (nth pickups k + 1) k))
      ≡ table 3 (λ k. over_gone (pickup_at (nth pickups k + 1) k) k)
  pub pickup_down : table 3 (λ k. both (pickup_at (nth pickups k - 1) k))
      ≡ table 3 (λ k. over_gone (pickup_at (nth pickups k - 1) k) k)
  -- "Changed levels carry r too, as part of the over run's own level" (Paper 8)
  pub restraint_up : table 3 (λ k. both (restraint_at (nth restraints k + 1) k))
      ≡ table 3 (λ k. over_gone (restraint_at (nth restraints k + 1) k) k)
  pub restraint_down : table 3 (λ k. both (restraint_at (nth restraints k - 1) k))
      ≡ table 3 (λ k. over_gone (restraint_at (nth restraints k - 1) k) k)
  -- all moved, each to a value of another place: "latches .. carry over" all the same; each level is kept in its place
  pub all_moved : both new ≡ all_gone new
  pub all_in_place : (change_of first new).relay.settings.levels
      ≡ record {
        drop = 2417 ∷ 5190 ∷ 7633 ∷ 864 ∷ 9948 ∷ 1302 ∷ [];
        pickup = 6259 ∷ 8586 ∷ 3071 ∷ [];
        restraint = 92 ∷ 46 ∷ 5 ∷ [];
      }
  -- all drops moved but drop 2; all levels moved but channel 4's
  pub but_one : change_of first (levels (2417 ∷ 5190 ∷ 5190 ∷ 864 ∷ 9948 ∷ 1302 ∷ []) pickups restraints)
      ≡ answer 0
      (one (0 ∷ 0 ∷ 16 ∷ 0 ∷ 0 ∷ 0 ∷ []) overs1
      (levels (2417 ∷ 5190 ∷ 5190 ∷ 864 ∷ 9948 ∷ 1302 ∷ []) pickups restraints))
  pub but_channel_4 : change_of first
      (levels (1 ∷ 1 ∷ 1 ∷ 1 ∷ 864 ∷ 1 ∷ []) (1 ∷ 6259 ∷ 1 ∷ []) (0 ∷ 5 ∷ 0 ∷ []))
      ≡ answer 0
      (one (0 ∷ 0 ∷ 0 ∷ 0 ∷ 9 ∷ 0 ∷ []) (0 ∷ 3 ∷ 0 ∷ [])
      (levels (1 ∷ 1 ∷ 1 ∷ 1 ∷ 864 ∷ 1 ∷ []) (1 ∷ 6259 ∷ 1 ∷ []) (0 ∷ 5 ∷ 0 ∷ [])))
  -- "equal" is of the whole number: one binary digit more is another level
  pub drop_digits : map (λ d. drops_from 2001 (2001 + d)) digits ≡ map (λ d. drops_moved (2001 + d)) digits
  pub pickup_digits : map (λ d. pickups_from 2001 (2001 + d)) digits ≡ map (λ d. pickups_moved (2001 + d)) digits
  pub restraint_digits : map (λ d. restraints_from 33 (33 + d)) small_digits
      ≡ map (λ d. restraints_moved (33 + d)) small_digits
  -- from one end to the other; a restraint put on, and off
  pub drop_ends : drops_from 1 10700 ∷ drops_from 10700 1 ∷ [] ≡ drops_moved 10700 ∷ drops_moved 1 ∷ []
  pub pickup_ends : pickups_from 1 10700 ∷ pickups_from 10700 1 ∷ [] ≡ pickups_moved 10700 ∷ pickups_moved 1 ∷ []
  pub restraint_ends : restraints_from 0 1 ∷ restraints_from 1 0 ∷ restraints_from 0 100 ∷ restraints_from 100 0 ∷ []
      ≡ restraints_moved 1 ∷ restraints_moved 0 ∷ restraints_moved 100 ∷ restraints_moved 0 ∷ []
  -- the own level of each kind: drop; pickup and r. A voltage's over run has none that could move.
  pub own_loss : map ((loss bench).same (own 50 60 70)) (own 50 61 71 ∷ own 51 60 70 ∷ own 49 60 70 ∷ own 60 50 70 ∷ [])
      ≡ true ∷ false ∷ false ∷ false ∷ []
  pub own_over : map ((over bench).same (own 50 60 70))
      (own 51 60 70 ∷ own 50 61 70 ∷ own 50 59 70 ∷ own 50 60 71 ∷ own 50 60 69 ∷ own 50 70 60 ∷ own 50 61 71 ∷ [])
      ≡ true ∷ replicate 6 false
  pub own_voltages : table 6 (λ c. (over bench).same (levels_of old c) (levels_of new c))
      ≡ true ∷ true ∷ true ∷ false ∷ false ∷ false ∷ []
  -- each run, latches off and on: kept; the loss run alone cleared; the over run alone; both
  pub each_run_lem : table 17 (λ n. change_of (alike n (n % 5) false old) old)
      ≡ table 17 (λ n. answer 0 (alike n (n % 5) false old))
  pub each_loss : table 17 (λ n. change_of (alike n (n % 5) true old) (levels new.drop pickups restraints))
      ≡ table 17 (λ n. answer 0 (alike 0 (n % 5) true (levels new.drop pickups restraints)))
  pub each_over : table 17 (λ n. change_of (alike n (n % 5) false old) (levels drops new.pickup restraints))
      ≡ table 17 (λ n. answer 0 (alike n 0 false (levels drops new.pickup restraints)))
  pub each_both : table 17 (λ n. change_of (alike n (n % 5) true old) new)
      ≡ table 17 (λ n. answer 0 (alike 0 0 true new))
  -- "slot, age .. and the remembered bit 6 carry over", whatever they are, and decide nothing
  pub ages : table 73 (λ age. change_of (relay true age (age % 8) first.channels old) (drop_at 1 0))
      ≡ table 73 (λ age. answer 0 (relay true age (age % 8) (one (set losses1 0 0) overs1 old).channels (drop_at 1 0)))
  pub ages_off : table 73 (λ age. change_of (relay false age (7 - age % 8) first.channels old) (pickup_at 1 2))
      ≡ table 73 (λ age. answer 0
      (relay false age (7 - age % 8) (one losses1 (set overs1 2 0) old).channels (pickup_at 1 2)))
  -- "a level is 1 to 10,700": each of the nine at and beyond each end, "relay as given"
  pub lowest : (each_drop 1 ≡ table 6 (λ c. loss_gone (drop_at 1 c) c))
      × (each_pickup 1 ≡ table 3 (λ k. over_gone (pickup_at 1 k) k))
  pub highest : (each_drop 10700 ≡ table 6 (λ c. loss_gone (drop_at 10700 c) c))
      × (each_pickup 10700 ≡ table 3 (λ k. over_gone (pickup_at 10700 k) k))
  pub none : (each_drop 0 ≡ replicate 6 (refused 1)) × (each_pickup 0 ≡ replicate 3 (refused 1))
  pub above : (each_drop 10701 ≡ replicate 6 (refused 1)) × (each_pickup 10701 ≡ replicate 3 (refused 1))
  pub highest_number : (each_drop 65535 ≡ replicate 6 (refused 1)) × (each_pickup 65535 ≡ replicate 3 (refused 1))
  -- "1 to 100 or 0 for off"; "20 for r above 100 .. relay as given for changed levels" (Paper 8)
  pub restraint_limits : (each_restraint 0 ≡ table 3 (λ k. over_gone (restraint_at 0 k) k))
      × (each_restraint 100 ≡ table 3 (λ k. over_gone (restraint_at 100 k) k))
  pub high_restraints : (each_restraint 101 ≡ replicate 3 (refused 20)) × (each_restraint 255 ≡ replicate 3 (refused 20))
  -- "Refused: 2 and then 1", then 20 ("after 1")
  pub bad_both_lem : map (change_of first) bad_both ≡ replicate 16 (answer 1 first)
  pub unsound_first : map (change_of (under (restraint_at 101 1))) bad_both
      ≡ replicate 16 (answer 2 (under (restraint_at 101 1)))
  pub unsound_20 : change_of (relay true 73 3 first.channels old) (restraint_at 101 0)
      ≡ answer 2 (relay true 73 3 first.channels old)
  -- a relay that is not sound, by each condition, is not healed by new levels that are
  pub not_healed : map (λ r. change_of r new) unsound ≡ map (answer 2) unsound
  -- and each of them is 2 before 1 and before 20
  pub unsound_before : map (λ l. map (λ r. change_of r l) unsound) (drop_at 0 5 ∷ pickup_at 10701 0 ∷ restraint_at 101 2 ∷ [])
      ≡ replicate 3 (map (answer 2) unsound)
  -- changed and changed back in two calls: runs whose level was moved stay 0
  pub back : map (λ l. change old (change l first)) (new ∷ drop_at 1 2 ∷ restraint_at 0 1 ∷ [])
      ≡ one (replicate 6 0) (replicate 3 0) old
      ∷ one (set losses1 2 0) overs1 old
      ∷ one losses1 (set overs1 1 0) old ∷ []
  -- a fresh relay under new levels is a fresh relay of these
  pub fresh : change_of (fresh_of (settings_of old)).relay new
      ≡ answer 0 (fresh_of (settings_of new)).relay
  -- Over runs of 3, then moved levels. 3: raised above m, the run is 0 and stays so. 4: moved and met, four more frames
  -- to the latch. 5: only its drop moved, so the next frame has 4 and the latch. Then 3 meets m = pickup again, from 1
  -- on; a new r clears a full run of 4 and leaves its latch; a reset names 4 alone.
  pub list : walk (settled_with start (replicate 6 (waving 0 0)))
      (replicate 3 frame ++ (change moved ∷ replicate 4 frame) ++ (change again ∷ frame ∷ reset 16 ∷ frame ∷ []))
      ≡ seen (1 ∷ 1 ∷ 0 ∷ 1 ∷ 1 ∷ 1 ∷ []) (1 ∷ 1 ∷ 1 ∷ []) (false ∷ false ∷ false ∷ [])
      ∷ seen (2 ∷ 2 ∷ 0 ∷ 2 ∷ 2 ∷ 2 ∷ []) (2 ∷ 2 ∷ 2 ∷ []) (false ∷ false ∷ false ∷ [])
      ∷ seen (3 ∷ 3 ∷ 0 ∷ 3 ∷ 3 ∷ 3 ∷ []) (3 ∷ 3 ∷ 3 ∷ []) (false ∷ false ∷ false ∷ [])
      ∷ seen (0 ∷ 3 ∷ 0 ∷ 3 ∷ 3 ∷ 0 ∷ []) (0 ∷ 0 ∷ 3 ∷ []) (false ∷ false ∷ false ∷ [])
      ∷ seen (0 ∷ 4 ∷ 1 ∷ 4 ∷ 4 ∷ 1 ∷ []) (0 ∷ 1 ∷ 4 ∷ []) (false ∷ false ∷ true ∷ [])
      ∷ seen (0 ∷ 5 ∷ 2 ∷ 5 ∷ 5 ∷ 2 ∷ []) (0 ∷ 2 ∷ 4 ∷ []) (false ∷ false ∷ true ∷ [])
      ∷ seen (0 ∷ 6 ∷ 3 ∷ 6 ∷ 6 ∷ 3 ∷ []) (0 ∷ 3 ∷ 4 ∷ []) (false ∷ false ∷ true ∷ [])
      ∷ seen (0 ∷ 7 ∷ 4 ∷ 7 ∷ 7 ∷ 4 ∷ []) (0 ∷ 4 ∷ 4 ∷ []) (false ∷ true ∷ true ∷ [])
      ∷ seen (0 ∷ 7 ∷ 4 ∷ 7 ∷ 7 ∷ 4 ∷ []) (0 ∷ 0 ∷ 4 ∷ []) (false ∷ true ∷ true ∷ [])
      ∷ seen (0 ∷ 8 ∷ 5 ∷ 8 ∷ 8 ∷ 5 ∷ []) (1 ∷ 1 ∷ 4 ∷ []) (false ∷ true ∷ true ∷ [])
      ∷ seen (0 ∷ 8 ∷ 5 ∷ 8 ∷ 0 ∷ 5 ∷ []) (1 ∷ 0 ∷ 4 ∷ []) (false ∷ false ∷ true ∷ [])
      ∷ seen (0 ∷ 9 ∷ 6 ∷ 9 ∷ 1 ∷ 6 ∷ []) (2 ∷ 1 ∷ 4 ∷ []) (false ∷ false ∷ true ∷ []) ∷ []
  -- loss runs of 15: a moved drop that is met begins anew at 1; moved pickups do not keep one from 16 and its latch.
  -- The new levels stay through a frame and a reset.
  pub losses : frame (change (levels (1604 ∷ 1605 ∷ 1604 ∷ 1605 ∷ 1604 ∷ 1603 ∷ []) (replicate 3 1604) (replicate 3 0))
      (settled_with (levels (replicate 6 1604) (replicate 3 1603) (replicate 3 0))
      (replicate 3 (waving 15 0) ++ replicate 3 (waving 15 3))))
      ≡ relay true 72 1
      (map loss_alone (16 ∷ 1 ∷ 16 ∷ 1 ∷ 16 ∷ 0 ∷ []))
      (levels (1604 ∷ 1605 ∷ 1604 ∷ 1605 ∷ 1604 ∷ 1603 ∷ []) (replicate 3 1604) (replicate 3 0))
  pub reset_keeps : reset_of (change new first) 63
      ≡ record {
        relay = relay true 72 3 (channels (replicate 6 0) (replicate 6 false) (replicate 3 0) (replicate 3 false)) new;
        refusal = 0;
      }
  -- a frame goes by the new r: 37 restrains this window and 38 does not
  pub restraint_judged : look (even_frame (change (even_levels 38 37 37)
      (relay true 72 4 (replicate 6 even) (even_levels 37 38 37))))
      ≡ seen (replicate 6 0) (1 ∷ 0 ∷ 0 ∷ []) (replicate 3 false)

pub calls : ChangeCalls
unfolding walk computed
calls =
    record {
      same = refl;
      drop_up = refl;
      drop_down = refl;
      pickup_up = refl;
      pickup_down = refl;
      restraint_up = refl;
      restraint_down = refl;
      all_moved = refl;
      all_in_place = refl;
      but_one = refl;
      but_channel_4 = refl;
      drop_digits = refl;
      pickup_digits = refl;
      restraint_digits = refl;
      drop_ends = refl;
      pickup_ends = refl;
      restraint_ends = refl;
      own_loss = refl;
      own_over = refl;
      own_voltages = refl;
      each_run_lem = refl;
      each_loss = refl;
      each_over = refl;
      each_both = refl;
      ages = refl;
      ages_off = refl;
      lowest = (refl, refl);
      highest = (refl, refl);
      none = (refl, refl);
      above = (refl, refl);
      highest_number = (refl, refl);
      restraint_limits = (refl, refl);
      high_restraints = (refl, refl);
      bad_both_lem = refl;
      unsound_first = refl;
      unsound_20 = refl;
      not_healed = refl;
      unsound_before = refl;
      back = refl;
      fresh = refl;
      list = refl;
      losses = refl;
      reset_keeps = refl;
      restraint_judged = refl;
    }
