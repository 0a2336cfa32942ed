-- Harmonic restraint (document 02, Paper 8), computed: the test at its turning point, what a restrained frame makes of runs, latches and the output,
-- refusal 20, and a list of frames from a fresh relay. Expected numbers were computed from the documents by a separate script. Rests on the
-- definitions alone.
use Prim.Native.Nat.{ℕ, ◌+◌, ◌-◌, ◌*◌}
use mathlib.Core.Path.{◌≡◌, refl}
use mathlib.Core.Bool.{Bool, true, false, cond}
use mathlib.Core.List.{List, [], ◌∷◌, ◌++◌, map}
use lib.IntN.{ℤ, pos, neg_ℤ}
use lib.ListN.{set, replicate}
use Rattle.relay.specs.declared.Channel.{Channel}
use Rattle.relay.specs.declared.Settings.{Settings}
use Rattle.relay.specs.declared.Relay.{Relay}
use Rattle.relay.specs.declared.RelayAnswer.{RelayAnswer}
use Rattle.relay.specs.declared.FrameAnswer.{FrameAnswer}
use Rattle.lists.specs.Each.{table}
use Rattle.phasor.specs.Cordic.{amplitude_of}
use Rattle.relay.specs.Settings.{levels_of, loss, over, unrestrained, unrestrained_by}
use Rattle.relay.specs.Relay.{channel_at, fresh_of, frame_of, reset_of}
use Rattle.relay.proofs.Computed.{computed}
use Rattle.relay.proofs.Examples.{settings_of, still, device_off, all_zero}

-- ---- windows

-- m1 is 100 and m2 37: 37 m1 − 100 m2 = 0. m3 is 196; in the second 31, by which it would not be restrained
abbrev even : List ℤ
even = pos 4 ∷ pos 18 ∷ neg_ℤ (pos 10) ∷ pos 12 ∷ neg_ℤ (pos 3) ∷ neg_ℤ (pos 14) ∷ pos 8 ∷ pos 1 ∷ []

abbrev even' : List ℤ
even' = pos 11 ∷ pos 2 ∷ pos 0 ∷ neg_ℤ (pos 10) ∷ pos 4 ∷ neg_ℤ (pos 4) ∷ pos 6 ∷ pos 5 ∷ []

-- m1 is 173 and m2 64: the difference is 1. m3 is 53; in the second 176, by which it would be restrained
abbrev more : List ℤ
more = neg_ℤ (pos 7) ∷ neg_ℤ (pos 14) ∷ neg_ℤ (pos 1) ∷ pos 10 ∷ pos 9 ∷ pos 13 ∷ pos 3 ∷ pos 5 ∷ []

abbrev more' : List ℤ
more' = pos 12 ∷ neg_ℤ (pos 7) ∷ neg_ℤ (pos 10) ∷ neg_ℤ (pos 2) ∷ neg_ℤ (pos 19) ∷ pos 4 ∷ pos 19 ∷ neg_ℤ (pos 2) ∷ []

-- m1 is 227 and m2 84: the difference is −1. m3 is 40
abbrev less : List ℤ
less = pos 19 ∷ pos 5 ∷ pos 14 ∷ neg_ℤ (pos 14) ∷ neg_ℤ (pos 8) ∷ neg_ℤ (pos 4) ∷ pos 18 ∷ pos 15 ∷ []

-- no second harmonic: m1 is 1603, m2 is 0; nothing else: m1 is 0, m2 is 160
abbrev pure : List ℤ
pure = pos 100 ∷ pos 71 ∷ pos 0 ∷ neg_ℤ (pos 71) ∷ neg_ℤ (pos 100) ∷ neg_ℤ (pos 71) ∷ pos 0 ∷ pos 71 ∷ []

abbrev double : List ℤ
double = pos 10 ∷ pos 0 ∷ neg_ℤ (pos 10) ∷ pos 0 ∷ pos 10 ∷ pos 0 ∷ neg_ℤ (pos 10) ∷ pos 0 ∷ []

-- large ones: m1 − m2 is 0, 1 and −1; m1 − 100 m2 is 0, 1 and −1
abbrev large : List ℤ
large = neg_ℤ (pos 512) ∷ pos 270 ∷ neg_ℤ (pos 512) ∷ neg_ℤ (pos 512) ∷ pos 502 ∷ pos 511 ∷ pos 511 ∷ neg_ℤ (pos 393) ∷ []

abbrev large_more : List ℤ
large_more = pos 511 ∷ pos 511 ∷ neg_ℤ (pos 512) ∷ neg_ℤ (pos 512) ∷ pos 259 ∷ neg_ℤ (pos 512) ∷ neg_ℤ (pos 419) ∷ pos 511 ∷ []

abbrev large_less : List ℤ
large_less = pos 392 ∷ neg_ℤ (pos 512) ∷ neg_ℤ (pos 512) ∷ neg_ℤ (pos 512) ∷ pos 511 ∷ pos 511 ∷ neg_ℤ (pos 274) ∷ pos 511 ∷ []

abbrev hundred : List ℤ
hundred = pos 497 ∷ pos 504 ∷ pos 491 ∷ neg_ℤ (pos 512) ∷ neg_ℤ (pos 453) ∷ neg_ℤ (pos 492) ∷ neg_ℤ (pos 460) ∷ pos 502 ∷ []

abbrev hundred_more : List ℤ
hundred_more = pos 495 ∷ pos 511 ∷ pos 470 ∷ neg_ℤ (pos 486) ∷ neg_ℤ (pos 512) ∷ neg_ℤ (pos 512) ∷ neg_ℤ (pos 492) ∷ pos 511 ∷ []

abbrev hundred_less : List ℤ
hundred_less = pos 488 ∷ pos 511 ∷ pos 488 ∷ neg_ℤ (pos 454) ∷ neg_ℤ (pos 512) ∷ neg_ℤ (pos 512) ∷ neg_ℤ (pos 494) ∷ pos 472 ∷ []

abbrev two : List ℤ → List ℕ
two w = amplitude_of 1 w ∷ amplitude_of 2 w ∷ []

-- whether each restraint, 0 to 100, lets the window through
abbrev by_restraint : List ℤ → List Bool
by_restraint w = table 101 (λ r. unrestrained_by r w)

-- whether each channel's over run, or loss run, is met by the window
abbrev overs_met : Settings → List ℤ → List Bool
overs_met s w = table 6 (λ c. (over s.lengths).meets (levels_of s.levels c) w)

abbrev losses_met : Settings → List ℤ → List Bool
losses_met s w = table 6 (λ c. (loss s.lengths).meets (levels_of s.levels c) w)

-- ---- a frame on a relay that is handed in

-- equal drop levels for voltages and for currents, unequal pickups and restraints
abbrev levels : ℕ → ℕ → List ℕ → List ℕ → Settings
levels voltage_drop drop pickup restraint =
    settings_of (record { drop = replicate 3 voltage_drop ++ replicate 3 drop; pickup = pickup; restraint = restraint })

abbrev three : ℕ → ℕ → ℕ → List ℕ
three a b c = a ∷ b ∷ c ∷ []

abbrev channel_of : List ℤ → ℕ → ℕ → Bool → Bool → Channel
channel_of window loss_count over_count loss_latch_of over_latch_of =
    record { samples = window; loss_run = loss_count; over_run = over_count; loss_latch = loss_latch_of; over_latch = over_latch_of }

abbrev relay_of : ℕ → ℕ → Settings → List Channel → Relay
relay_of age slot settings channels = record { channels = channels; age = age; slot = slot; device_on = true; settings = settings }

abbrev answer : Relay → List ℕ → ℕ → FrameAnswer
answer r amplitudes output = record { relay = r; refusal = 0; amplitudes = amplitudes; output = output }

-- before the frame: loss runs of 5, over runs as given, latches off. The windows have another sample in slot 4, where the frame's goes
abbrev given : List ℤ → List ℤ → List ℕ → List Channel
given v w over_runs = replicate 3 (channel_of v 5 0 false false) ++ map (λ n. channel_of w 5 n false false) over_runs

-- after it, in one that is counted: each loss run is 6 (m < drop); an over run of 3 that is fed is 4, its latch on, and one that is not is 0
abbrev left : List ℤ → List ℤ → List Bool → List Channel
left v w feeds = replicate 3 (channel_of v 6 0 false false) ++ map (λ f. cond f (channel_of w 6 4 false true) (channel_of w 6 0 false false)) feeds

-- voltages without a second harmonic, currents with m1 = 100 and m2 = 37 once code 509 or 516 is stored; as they stand they would not be
-- restrained by 36 to 38
abbrev even_levels : List ℕ → Settings
even_levels restraint = levels 1604 101 (replicate 3 100) restraint

abbrev even_given : List ℤ → List ℕ → List Channel
even_given w over_runs = given (set pure 4 (pos 0)) (set w 4 (neg_ℤ (pos 10))) over_runs

abbrev even_codes : ℕ → List ℕ
even_codes code = replicate 3 412 ++ replicate 3 code

abbrev even_frame : List ℕ → FrameAnswer
even_frame restraint = frame_of (relay_of 72 4 (even_levels restraint) (even_given even (three 3 3 3))) (even_codes 509) 127

abbrev even_frame' : List ℕ → FrameAnswer
even_frame' restraint = frame_of (relay_of 72 4 (even_levels restraint) (even_given even' (three 3 3 3))) (even_codes 516) 127

abbrev even_answer : Relay → ℕ → FrameAnswer
even_answer r output = answer r (replicate 3 1603 ++ replicate 3 100) output

abbrev even_left : List ℤ → List ℕ → Bool → Bool → Bool → ℕ → FrameAnswer
even_left w restraint a b c output = even_answer (relay_of 72 5 (even_levels restraint) (left pure w (a ∷ b ∷ c ∷ []))) output

-- voltages with nothing but a second harmonic, currents with m1 = 173 and m2 = 64 once code 521 or 493 is stored; as they stand they would be
-- restrained by 36 to 38
abbrev more_levels : List ℕ → List ℕ → Settings
more_levels pickup restraint = levels 1 174 pickup restraint

abbrev more_given : List ℤ → List Channel
more_given w = given (set double 4 (pos 0)) (set w 4 (neg_ℤ (pos 40))) (three 3 3 3)

abbrev more_frame : List ℕ → List ℕ → FrameAnswer
more_frame pickup restraint = frame_of (relay_of 72 4 (more_levels pickup restraint) (more_given more)) (replicate 3 522 ++ replicate 3 521) 127

abbrev more_frame' : List ℕ → List ℕ → FrameAnswer
more_frame' pickup restraint = frame_of (relay_of 72 4 (more_levels pickup restraint) (more_given more')) (replicate 3 522 ++ replicate 3 493) 127

abbrev more_left : List ℤ → List ℕ → List ℕ → Bool → Bool → Bool → ℕ → FrameAnswer
more_left w pickup restraint a b c output =
    answer (relay_of 72 5 (more_levels pickup restraint) (left double w (a ∷ b ∷ c ∷ []))) (replicate 3 0 ++ replicate 3 173) output

-- m1 = 227 and m2 = 84 once code 504 is stored
abbrev less_frame : List ℕ → FrameAnswer
less_frame restraint =
    frame_of (relay_of 72 4 (levels 1604 228 (replicate 3 227) restraint) (given (set pure 4 (pos 0)) (set less 4 (pos 0)) (three 3 3 3)))
    (replicate 3 412 ++ replicate 3 504) 127

abbrev less_left : List ℕ → Bool → Bool → Bool → ℕ → FrameAnswer
less_left restraint a b c output =
    answer (relay_of 72 5 (levels 1604 228 (replicate 3 227) restraint) (left pure less (a ∷ b ∷ c ∷ []))) (replicate 3 1603 ++ replicate 3 227) output

-- three currents with windows of their own; drop 1 is not met by them
abbrev waiting : List ℤ → ℤ → Channel
waiting w s = channel_of (set w 4 s) 5 3 false false

abbrev fed : List ℤ → Channel
fed w = channel_of w 0 4 false true

abbrev held : List ℤ → Channel
held w = channel_of w 0 0 false false

abbrev own_frame : List ℕ → List ℕ → List Channel → List ℕ → FrameAnswer
own_frame pickup restraint currents codes =
    frame_of (relay_of 72 4 (levels 1604 1 pickup restraint) (replicate 3 (channel_of (set pure 4 (pos 0)) 5 0 false false) ++ currents))
    (replicate 3 412 ++ codes) 127

-- the pickups are the amplitudes themselves
abbrev own_left : List ℕ → List ℕ → List Channel → ℕ → FrameAnswer
own_left pickup restraint currents output =
    answer (relay_of 72 5 (levels 1604 1 pickup restraint) (replicate 3 (channel_of pure 6 0 false false) ++ currents))
    (replicate 3 1603 ++ pickup) output

abbrev even_waiting : Channel
even_waiting = waiting even' (neg_ℤ (pos 10))

abbrev more_waiting : Channel
more_waiting = waiting more' (neg_ℤ (pos 40))

abbrev less_waiting : Channel
less_waiting = waiting less (pos 0)

-- all six channels with m1 = 100 and m2 = 37, restraint 37 on each current; a drop level of 100 is not met, one of 101 is
abbrev dropping_levels : Settings
dropping_levels = settings_of (record { drop = 100 ∷ 101 ∷ 100 ∷ 101 ∷ 100 ∷ 101 ∷ []; pickup = replicate 3 100; restraint = replicate 3 37 })

abbrev dropping : Relay
dropping =
    relay_of 72 4 dropping_levels
    (replicate 3 (channel_of (set even 4 (neg_ℤ (pos 10))) 15 0 false false) ++ replicate 3 (channel_of (set even 4 (neg_ℤ (pos 10))) 15 3 false false))

-- over runs alike, the currents' latches on or off; restraint 37 on currents 3 and 5, none on 4
abbrev run_frame : Bool → ℕ → FrameAnswer
run_frame latch n =
    frame_of
    (relay_of 72 4 (even_levels (three 37 0 37))
    (replicate 3 (channel_of pure 5 0 false false) ++ replicate 3 (channel_of (set even' 4 (neg_ℤ (pos 10))) 5 n latch latch)))
    (even_codes 516) 127

abbrev run_left : Bool → ℕ → Bool → ℕ → FrameAnswer
run_left latch n latched output =
    even_answer
    (relay_of 72 5 (even_levels (three 37 0 37))
    (replicate 3 (channel_of pure 6 0 false false)
    ++ (channel_of even' 6 0 latch latch ∷ channel_of even' 6 n latch latched ∷ channel_of even' 6 0 latch latch ∷ [])))
    output

-- over runs of 3, 4 and 3 in a frame that finds the age; by restraint 37 two are restrained, by 38 the last is not
abbrev early_frame : ℕ → FrameAnswer
early_frame age = frame_of (relay_of age 4 (even_levels (three 37 37 38)) (even_given even (three 3 4 3))) (even_codes 509) 127

abbrev early_left : ℕ → FrameAnswer
early_left age =
    even_answer
    (relay_of age 5 (even_levels (three 37 37 38))
    (replicate 3 (channel_of pure 5 0 false false)
    ++ (channel_of even 5 3 false false ∷ channel_of even 5 4 false true ∷ channel_of even 5 3 false false ∷ [])))
    16

-- some channels enabled; with 0x57 the currents 3 and 5 are not
abbrev enabled_frame : List ℕ → ℕ → FrameAnswer
enabled_frame restraint enable = frame_of (relay_of 72 4 (even_levels restraint) (even_given even (three 3 3 3))) (even_codes 509) enable

abbrev enabled_left : List ℕ → Channel → ℕ → FrameAnswer
enabled_left restraint middle output =
    even_answer
    (relay_of 72 5 (even_levels restraint) (replicate 3 (channel_of pure 6 0 false false) ++ (held even ∷ middle ∷ held even ∷ []))) output

-- the same window in each slot's turn: 100 stands in the slot before the frame
abbrev slot_frame : ℕ → ℕ → FrameAnswer
slot_frame slot code =
    frame_of
    (relay_of 72 slot (levels 1 1 (replicate 3 100) (three 37 38 0))
    (replicate 3 (channel_of pure 5 0 false false) ++ replicate 3 (channel_of (set even slot (pos 100)) 5 3 false false)))
    (replicate 3 612 ++ replicate 3 code) 127

abbrev over_runs : Relay → List ℕ
over_runs r = table 6 (λ c. (channel_at r c).over_run)

-- ---- making a relay

abbrev with_restraint : List ℕ → Settings
with_restraint restraint = levels 1 10700 (three 1 10700 1) restraint

abbrev restrained_at : ℕ → ℕ → Settings
restrained_at r k = with_restraint (set (replicate 3 0) k r)

abbrev made_with : Settings → RelayAnswer
made_with s = record { relay = relay_of 0 0 s still; refusal = 0 }

abbrev none_made : ℕ → RelayAnswer
none_made refusal = record { relay = all_zero; refusal = refusal }

-- a level out of range in each place, beside a restraint of 101 in each place
abbrev bad_drop : ℕ → ℕ → ℕ → RelayAnswer
bad_drop level c k = fresh_of (settings_of (record { drop = set (replicate 6 1) c level; pickup = replicate 3 1; restraint = set (replicate 3 0) k 101 }))

abbrev bad_pickup : ℕ → ℕ → ℕ → RelayAnswer
bad_pickup level j k = fresh_of (settings_of (record { drop = replicate 6 1; pickup = set (replicate 3 1) j level; restraint = set (replicate 3 0) k 101 }))

-- ---- a list of frames from a fresh relay

-- a fundamental of 200 codes and a second harmonic of 80 on currents 3 and 4; the wave of 100 codes on current 5
abbrev wave : List (List ℕ)
wave = map (λ codes. replicate 3 512 ++ codes)
    (three 792 792 612 ∷ three 653 653 583 ∷ three 432 432 512 ∷ three 371 371 441
    ∷ three 392 392 412 ∷ three 371 371 441 ∷ three 432 432 512 ∷ three 653 653 583 ∷ [])

-- its frames 72 to 79, of which 75 and 76 have other samples on current 5, −139 and −110
abbrev last_wave : List (List ℕ)
last_wave = map (λ codes. replicate 3 512 ++ codes)
    (three 792 792 612 ∷ three 653 653 583 ∷ three 432 432 512 ∷ three 371 371 373
    ∷ three 392 392 402 ∷ three 371 371 441 ∷ three 432 432 512 ∷ three 653 653 583 ∷ [])

-- after each frame: the output byte, and the over runs of the currents
pub record Seen : Type 0 where
  pub output : ℕ
  pub runs : List ℕ

abbrev seen : ℕ → ℕ → ℕ → ℕ → Seen
seen output a b c = record { output = output; runs = 0 ∷ 0 ∷ 0 ∷ a ∷ b ∷ c ∷ [] }

pub walk : Relay → List (List ℕ) → List Seen
walk r [] = []
walk r (codes ∷ rest) =
    let a : FrameAnswer = frame_of r codes 127 in
    record { output = a.output; runs = over_runs a.relay } ∷ walk a.relay rest

abbrev nine_waves : List (List ℕ)
nine_waves = wave ++ wave ++ wave ++ wave ++ wave ++ wave ++ wave ++ wave ++ wave

pub record RestraintCalls : Type 0 where
  -- "100 times the second-harmonic amplitude is less than r times the fundamental": r m1 − 100 m2 is 0, 1 and −1
  pub test_37 : (unrestrained 37 100 37 ≡ false) × (unrestrained 37 173 64 ≡ true) × (unrestrained 37 227 84 ≡ false)
  pub test_1 : (unrestrained 1 100 1 ≡ false) × (unrestrained 1 101 1 ≡ true) × (unrestrained 1 99 1 ≡ false)
  pub test_99 : (unrestrained 99 100 99 ≡ false) × (unrestrained 99 99 98 ≡ true) × (unrestrained 99 1 1 ≡ false)
  -- with r 100 the difference is 0, 100 and −100
  pub test_100 : (unrestrained 100 400 400 ≡ false) × (unrestrained 100 401 400 ≡ true) × (unrestrained 100 400 401 ≡ false)
  -- "or 0 for off"; amplitudes of 0; the largest amplitudes
  pub test_0 : (unrestrained 0 0 0 ≡ true) × (unrestrained 0 1 11599 ≡ true) × (unrestrained 0 10700 0 ≡ true)
  pub test_none : (unrestrained 1 0 0 ≡ false) × (unrestrained 100 0 0 ≡ false) × (unrestrained 1 1 0 ≡ true) × (unrestrained 100 0 1 ≡ false)
  pub test_largest : (unrestrained 100 10700 11599 ≡ false) × (unrestrained 100 10700 10699 ≡ true) × (unrestrained 1 10700 11599 ≡ false)
  -- each r at m1 = 10,700: the difference is 0, and then 100
  pub test_each : (table 101 (λ r. unrestrained r 10700 (107 * r)) ≡ true ∷ replicate 100 false)
      × (table 100 (λ k. unrestrained (k + 1) 10700 (107 * k + 106)) ≡ replicate 100 true)
  -- the windows of these calls
  pub windows : map two (even ∷ even' ∷ more ∷ more' ∷ less ∷ pure ∷ double ∷ [])
      ≡ (100 ∷ 37 ∷ []) ∷ (100 ∷ 37 ∷ []) ∷ (173 ∷ 64 ∷ []) ∷ (173 ∷ 64 ∷ []) ∷ (227 ∷ 84 ∷ []) ∷ (1603 ∷ 0 ∷ []) ∷ (0 ∷ 160 ∷ []) ∷ []
  pub large_windows : map two (large ∷ large_more ∷ large_less ∷ hundred ∷ hundred_more ∷ hundred_less ∷ [])
      ≡ (6744 ∷ 6744 ∷ []) ∷ (6805 ∷ 6804 ∷ []) ∷ (6755 ∷ 6756 ∷ []) ∷ (10200 ∷ 102 ∷ []) ∷ (10501 ∷ 105 ∷ []) ∷ (10399 ∷ 104 ∷ []) ∷ []
  -- each r on each of the small ones
  pub each_even : (by_restraint even ≡ true ∷ replicate 37 false ++ replicate 63 true)
      × (by_restraint even' ≡ true ∷ replicate 37 false ++ replicate 63 true)
  pub each_more : (by_restraint more ≡ true ∷ replicate 36 false ++ replicate 64 true)
      × (by_restraint more' ≡ true ∷ replicate 36 false ++ replicate 64 true)
  pub each_less : by_restraint less ≡ true ∷ replicate 37 false ++ replicate 63 true
  pub each_pure : by_restraint pure ≡ replicate 101 true
  -- each r read as it is, in its place; a voltage has none
  pub each_level : table 101 (λ r. table 6 (λ c. (levels_of (with_restraint (three r 7 (100 - r))).levels c).restraint))
      ≡ table 101 (λ r. 0 ∷ 0 ∷ 0 ∷ r ∷ 7 ∷ (100 - r) ∷ [])
  -- each current by its own r, whatever the pickup that is met; a voltage never; the loss run knows no restraint
  pub own_restraint : (overs_met (levels 101 101 (three 100 1 100) (three 36 37 38)) even ≡ replicate 5 false ++ (true ∷ []))
      × (overs_met (levels 101 101 (three 1 100 1) (three 38 36 37)) even' ≡ replicate 3 false ++ (true ∷ false ∷ false ∷ []))
      × (overs_met (levels 101 101 (three 173 1 173) (three 36 37 38)) more ≡ replicate 4 false ++ (true ∷ true ∷ []))
      × (overs_met (levels 101 101 (three 1 173 1) (three 37 38 36)) more' ≡ replicate 3 false ++ (true ∷ true ∷ false ∷ []))
  pub loss_free : (losses_met (levels 101 101 (three 1 1 1) (three 36 37 38)) even ≡ replicate 6 true)
      × (losses_met (levels 100 100 (three 1 1 1) (three 36 37 38)) even ≡ replicate 6 false)
      × (losses_met (levels 173 173 (three 1 1 1) (three 36 37 38)) more ≡ replicate 6 false)
  -- r 37 on one current alone, 0 or 100 on the others: its frame is restrained, its over run becomes 0 and its loss run goes on
  pub one_held : (even_frame (three 37 0 0) ≡ even_left even (three 37 0 0) false true true 48)
      × (even_frame (three 0 37 0) ≡ even_left even (three 0 37 0) true false true 40)
      × (even_frame (three 0 0 37) ≡ even_left even (three 0 0 37) true true false 24)
  pub one_held_most : (even_frame' (three 37 100 100) ≡ even_left even' (three 37 100 100) false true true 48)
      × (even_frame' (three 100 37 100) ≡ even_left even' (three 100 37 100) true false true 40)
      × (even_frame' (three 100 100 37) ≡ even_left even' (three 100 100 37) true true false 24)
  -- r 0 on one alone
  pub one_off : (even_frame' (three 0 37 37) ≡ even_left even' (three 0 37 37) true false false 8)
      × (even_frame' (three 37 0 37) ≡ even_left even' (three 37 0 37) false true false 16)
      × (even_frame' (three 37 37 0) ≡ even_left even' (three 37 37 0) false false true 32)
  -- three r's, at a difference of 0, of 1 and of −1
  pub unequal_0 : (even_frame (three 36 37 38) ≡ even_left even (three 36 37 38) false false true 32)
      × (even_frame (three 38 36 37) ≡ even_left even (three 38 36 37) true false false 8)
      × (even_frame' (three 37 38 36) ≡ even_left even' (three 37 38 36) false true false 16)
  pub unequal_1 : (more_frame (three 173 173 173) (three 36 37 38) ≡ more_left more (three 173 173 173) (three 36 37 38) false true true 48)
      × (more_frame (three 173 173 173) (three 38 36 37) ≡ more_left more (three 173 173 173) (three 38 36 37) true false true 40)
      × (more_frame' (three 173 173 173) (three 37 38 36) ≡ more_left more' (three 173 173 173) (three 37 38 36) true true false 24)
  pub unequal_minus : (less_frame (three 37 38 37) ≡ less_left (three 37 38 37) false true false 16)
      × (less_frame (three 38 37 38) ≡ less_left (three 38 37 38) true false true 40)
  -- r 37 on one alone is enough for a difference of 1, and 36 on the others is not
  pub one_fed : (more_frame (three 1 1 1) (three 37 36 36) ≡ more_left more (three 1 1 1) (three 37 36 36) true false false 8)
      × (more_frame' (three 1 1 1) (three 36 37 36) ≡ more_left more' (three 1 1 1) (three 36 37 36) false true false 16)
      × (more_frame' (three 1 1 1) (three 36 36 37) ≡ more_left more' (three 1 1 1) (three 36 36 37) false false true 32)
  -- the test comes on top of the pickup: met at m, not at one more
  pub at_pickups : (more_frame (three 173 174 172) (three 37 37 37) ≡ more_left more (three 173 174 172) (three 37 37 37) true false true 40)
      × (more_frame' (three 174 173 174) (three 37 100 100) ≡ more_left more' (three 174 173 174) (three 37 100 100) false true false 16)
  -- each current by its own window, with r 37; and large windows, with r 100 and r 1
  pub own_windows : (own_frame (three 100 173 227) (three 37 37 37) (even_waiting ∷ more_waiting ∷ less_waiting ∷ []) (three 516 493 504)
      ≡ own_left (three 100 173 227) (three 37 37 37) (held even' ∷ fed more' ∷ held less ∷ []) 16)
      × (own_frame (three 227 100 173) (three 37 37 37) (less_waiting ∷ even_waiting ∷ more_waiting ∷ []) (three 504 516 493)
      ≡ own_left (three 227 100 173) (three 37 37 37) (held less ∷ held even' ∷ fed more' ∷ []) 32)
      × (own_frame (three 173 227 100) (three 37 37 37) (more_waiting ∷ less_waiting ∷ even_waiting ∷ []) (three 493 504 516)
      ≡ own_left (three 173 227 100) (three 37 37 37) (fed more' ∷ held less ∷ held even' ∷ []) 8)
  pub large_100 :
      own_frame (three 6744 6805 6755) (three 100 100 100) (map (λ w. waiting w (pos 0)) (large ∷ large_more ∷ large_less ∷ [])) (three 1014 771 1023)
      ≡ own_left (three 6744 6805 6755) (three 100 100 100) (held large ∷ fed large_more ∷ held large_less ∷ []) 16
  pub large_1 :
      own_frame (three 10200 10501 10399) (three 1 1 1) (map (λ w. waiting w (pos 0)) (hundred ∷ hundred_more ∷ hundred_less ∷ [])) (three 59 0 0)
      ≡ own_left (three 10200 10501 10399) (three 1 1 1) (held hundred ∷ fed hundred_more ∷ held hundred_less ∷ []) 16
  -- the loss runs of restrained currents, and of voltages with the same window, reach 16 and turn their latches on, or become 0
  pub loss_counts : frame_of dropping (replicate 6 509) 127 ≡ answer
      (relay_of 72 5 dropping_levels
      (channel_of even 0 0 false false
      ∷ channel_of even 16 0 true false
      ∷ channel_of even 0 0 false false
      ∷ channel_of even 16 0 true false
      ∷ channel_of even 0 0 false false
      ∷ channel_of even 16 0 true false ∷ []))
      (replicate 6 100) 42
  -- each over run, in a restrained frame (currents 3 and 5) and in one that feeds it (4); restrained, a latch that was on stays on, and one that was
  -- off stays off
  pub each_run_lem : table 5 (run_frame false)
      ≡ run_left false 1 false 0 ∷ run_left false 2 false 0 ∷ run_left false 3 false 0 ∷ run_left false 4 true 16 ∷ run_left false 4 true 16 ∷ []
  pub each_run_latched : table 5 (run_frame true)
      ≡ run_left true 1 true 56 ∷ run_left true 2 true 56 ∷ run_left true 3 true 56 ∷ run_left true 4 true 56 ∷ run_left true 4 true 56 ∷ []
  -- "otherwise, if counted, it makes that run 0": below age 72 it leaves the runs as they were, and step 4 turns the latch of a full one on
  pub not_counted : early_frame 71 ≡ early_left 72
  pub each_early : table 72 early_frame ≡ table 72 (λ age. early_left (age + 1))
  -- a channel that is not enabled (3 and 5 by their own bits, then all by bit 6): its runs become 0, restrained or not; 4 goes by its own r
  pub disabled : (enabled_frame (three 37 38 0) 0x57 ≡ enabled_left (three 37 38 0) (channel_of even 6 4 false true) 16)
      × (enabled_frame (three 38 37 37) 0x57 ≡ enabled_left (three 38 37 37) (channel_of even 6 0 false false) 0)
  pub device_off_lem : enabled_frame (three 37 38 0) 0x3F ≡ even_answer
      (device_off (relay_of 72 5 (even_levels (three 37 38 0)) (replicate 3 (channel_of pure 0 0 false false) ++ replicate 3 (held even)))) 0
  -- the same in each slot: 37 restrains, 38 and 0 do not
  pub each_slot : map (λ a. over_runs a.relay)
      (slot_frame 0 516 ∷ slot_frame 1 530 ∷ slot_frame 2 502 ∷ slot_frame 3 524
      ∷ slot_frame 4 509 ∷ slot_frame 5 498 ∷ slot_frame 6 520 ∷ slot_frame 7 513 ∷ [])
      ≡ replicate 8 (0 ∷ 0 ∷ 0 ∷ 0 ∷ 4 ∷ 4 ∷ [])
  -- a reset and a refused call leave the restraints
  pub reset_keeps : reset_of (relay_of 72 4 (even_levels (three 10 11 12)) (even_given even (three 3 3 3))) 0x20
      ≡ record {
        relay = relay_of 72 4 (even_levels (three 10 11 12))
            (replicate 3 (channel_of (set pure 4 (pos 0)) 5 0 false false)
            ++ replicate 2 (waiting even (neg_ℤ (pos 10)))
            ++ (held (set even 4 (neg_ℤ (pos 10))) ∷ []));
        refusal = 0;
      }
  pub refused_keeps : frame_of (relay_of 72 4 (even_levels (three 10 11 12)) (even_given even (three 3 3 3))) (even_codes 1024) 128
      ≡ record {
        relay = relay_of 72 4 (even_levels (three 10 11 12)) (even_given even (three 3 3 3));
        refusal = 3;
        amplitudes = replicate 6 0;
        output = 0;
      }
  -- "a restraint level r, 1 to 100 or 0 for off": each of them in each place; "20 for r above 100"
  pub each_made : table 3 (λ k. table 256 (λ r. (fresh_of (restrained_at r k)).refusal)) ≡ replicate 3 (replicate 101 0 ++ replicate 155 20)
  -- a fresh relay keeps them in their places; one that is refused is all zero
  pub made : (fresh_of (with_restraint (three 0 1 100)) ≡ made_with (with_restraint (three 0 1 100)))
      × (fresh_of (with_restraint (three 100 0 1)) ≡ made_with (with_restraint (three 100 0 1)))
      × (fresh_of (with_restraint (three 1 100 0)) ≡ made_with (with_restraint (three 1 100 0)))
  pub not_made : (table 3 (λ k. fresh_of (restrained_at 101 k)) ≡ replicate 3 (none_made 20))
      × (table 3 (λ k. fresh_of (restrained_at 255 k)) ≡ replicate 3 (none_made 20))
      × (fresh_of (with_restraint (replicate 3 101)) ≡ none_made 20)
  -- "after 1": a level out of range comes first
  pub level_first : (table 6 (λ c. table 3 (bad_drop 0 c)) ≡ replicate 6 (replicate 3 (none_made 1)))
      × (table 3 (λ j. table 3 (bad_pickup 10701 j)) ≡ replicate 3 (replicate 3 (none_made 1)))
  pub all_bad : fresh_of (levels 0 0 (replicate 3 0) (replicate 3 255)) ≡ none_made 1
  -- from a fresh relay: restraint 0 on current 3, which trips in frame 75; 15 on current 4 with the same wave, which never does. On current 5 three
  -- frames feed the run, frame 75 is restrained, three more feed it and do not trip, and the next does
  pub list : walk (fresh_of (levels 1 1 (three 3000 3000 1600) (three 0 15 15))).relay (nine_waves ++ last_wave)
      ≡ replicate 72 (seen 0 0 0 0)
      ++ (seen 0 1 0 1 ∷ seen 0 2 0 2 ∷ seen 0 3 0 3 ∷ seen 8 4 0 0 ∷ seen 8 4 0 1 ∷ seen 8 4 0 2 ∷ seen 8 4 0 3 ∷ seen 40 4 0 4 ∷ [])

pub calls : RestraintCalls
unfolding walk computed
calls =
    record {
      test_37 = (refl, refl, refl);
      test_1 = (refl, refl, refl);
      test_99 = (refl, refl, refl);
      test_100 = (refl, refl, refl);
      test_0 = (refl, refl, refl);
      test_none = (refl, refl, refl, refl);
      test_largest = (refl, refl, refl);
      test_each = (refl, refl);
      windows = refl;
      large_windows = refl;
      each_even = (refl, refl);
      each_more = (refl, refl);
      each_less = refl;
      each_pure = refl;
      each_level = refl;
      own_restraint = (refl, refl, refl, refl);
      loss_free = (refl, refl, refl);
      one_held = (refl, refl, refl);
      one_held_most = (refl, refl, refl);
      one_off = (refl, refl, refl);
      unequal_0 = (refl, refl, refl);
      unequal_1 = (refl, refl, refl);
      unequal_minus = (refl, refl);
      one_fed = (refl, refl, refl);
      at_pickups = (refl, refl);
      own_windows = (refl, refl, refl);
      large_100 = refl;
      large_1 = refl;
      loss_counts = refl;
      each_run_lem = refl;
      each_run_latched = refl;
      not_counted = refl;
      each_early = refl;
      disabled = (refl, refl);
      device_off_lem = refl;
      each_slot = refl;
      reset_keeps = refl;
      refused_keeps = refl;
      each_made = refl;
      made = (refl, refl, refl);
      not_made = (refl, refl, refl);
      level_first = (refl, refl);
      all_bad = refl;
      list = refl;
    }
