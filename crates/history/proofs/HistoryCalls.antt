-- What the demand's own words give on closed lists of calls, computed: which calls and settings are accepted, what a channel meets, its window, its
-- levels and tests, a full run and the margins on Z; and what our relay answers on the lists that Refutations goes by. They pin these words from
-- outside the relay. Rests on the definitions of the history; takes the order of one exact amplitude from phasor's calls, and that a frame is counted
-- from Settling.
use Prim.Native.Nat.{ℕ, zero, suc, ◌+◌, ◌<◌}
use native.Mathlib.Omega.{arith}
use mathlib.Core.Path.{◌≡◌, refl, sym, subst}
use mathlib.Core.Bool.{Bool, true, false, ◌&&◌}
use mathlib.Core.List.{List, [], ◌∷◌, ◌++◌}
use lib.IntN.{ℤ, pos, neg_ℤ}
use lib.Dec.{T, eqb}
use lib.ListN.{get_or, set, replicate, get_or-replicate}
use borrow.Author.Tests.{eqb-true}
use mir.Facts.{and_yes, yes_and}
use Rattle.lists.specs.Each.{table}
use Rattle.lists.proofs.Each.{every_at}
use Rattle.phasor.proofs.Calls.{exact}
use Rattle.relay.specs.declared.ChannelLevels.{ChannelLevels}
use Rattle.relay.specs.declared.Levels.{Levels}
use Rattle.relay.specs.declared.Settings.{Settings}
use Rattle.relay.specs.declared.FrameAnswer.{FrameAnswer}
use Rattle.relay.specs.Settings.{levels_in_range, restraints_sound, lengths_sound}
use Rattle.relay.proofs.Laws.{lengths_say}
use Rattle.relay.specs.Relay.{fresh_of, frame_of, reset_of, change_of}
use Rattle.relay.proofs.Examples.{bench, settings_of, equal_levels}
use Rattle.history.specs.Calls.{Codes, Call, frame, reset, frame_refused_by, reset_refused_by, refusal_of, accepted_frames, the_relay}
use Rattle.history.specs.History.{Event, sampled, cleared, own_levels, channel_history, frames, input_at, resets, resets_before}
use Rattle.history.specs.History.{changes_before, window_at, Counted, Enabled, FullRun}
use Rattle.history.specs.Demand.{harmonic_test, SurelyBelowDrop, PossiblyBelowDrop, SurelyOverPickup, PossiblyOverPickup}
use Rattle.history.specs.Demand.{SurelyOver, PossiblyOver}
use Rattle.history.specs.Demand.{Margins, loss_of, over_of, LossMargins, OverMargins, relay_after, loss_after, over_after, AcceptedSettings}
use Rattle.history.specs.WrongRelays.{BenchLengths, over_pickup, over_by_third}
use Rattle.history.proofs.Accepted.{range_says, restraints_say}
use Rattle.history.proofs.Computed.{computed}
use Rattle.history.proofs.Settling.{always_on, found_counted}
use Rattle.history.proofs.Clock.{bit6_in}

-- ---- a list of calls with refused ones in it

abbrev six : ℕ → ℕ → ℕ → ℕ → ℕ → ℕ → Codes
six a b c d e f = record { list = a ∷ b ∷ c ∷ d ∷ e ∷ f ∷ []; six = refl }

-- frame 0; a frame refused by 3; a reset of channels 0 and 5; a frame refused by 4; a reset refused by 5; frame 1; a reset of channel 1; frame 2
abbrev story : List Call
story =
    frame (six 512 513 514 515 516 517) 0x5F
    ∷ frame (six 0 0 0 0 0 1024) 0x7F
    ∷ reset 0x21
    ∷ frame (six 0 0 0 0 0 0) 0x80
    ∷ reset 0x7F
    ∷ frame (six 0 1 2 3 4 1023) 0x61
    ∷ reset 0x02
    ∷ frame (six 9 8 7 6 5 4) 0x3F ∷ []

abbrev met : ℤ → Bool → Bool → Event
met sample channel_bit bit6 = sampled (record { sample = sample; channel_bit = channel_bit; bit6 = bit6 })

-- twelve frames: channel 2 has the codes 513, 514, .., 524
abbrev rising : ℕ → List Call
rising zero = []
rising (suc n) = rising n ++ (frame (six 512 512 (513 + n) 512 512 512) 0x7F ∷ [])

-- drop levels that are all unlike, and pickup levels, and restraints; and levels of 1 with another in the last place of a kind
abbrev nine : Settings
nine = settings_of (record { drop = 401 ∷ 402 ∷ 403 ∷ 404 ∷ 405 ∷ 400 ∷ []; pickup = 399 ∷ 398 ∷ 401 ∷ []; restraint = 100 ∷ 0 ∷ 7 ∷ [] })

abbrev last_drop : ℕ → Settings
last_drop level = settings_of (record { drop = set (replicate 6 1) 5 level; pickup = replicate 3 1; restraint = replicate 3 0 })

abbrev last_pickup : ℕ → Settings
last_pickup level = settings_of (record { drop = replicate 6 1; pickup = set (replicate 3 1) 2 level; restraint = replicate 3 0 })

-- levels of 1 under these restraints
abbrev pub restrained : List ℕ → Settings
restrained restraint = settings_of (record { drop = replicate 6 1; pickup = replicate 3 1; restraint = restraint })

abbrev pub own : ℕ → ℕ → ℕ → Bool → ChannelLevels
own drop pickup restraint current = record { drop = drop; pickup = pickup; restraint = restraint; current = current }

-- frames of code 512 under levels that are all 1 (document 01, "Bench figures"), "Enable bits 0 to 6 are on throughout"
abbrev pub ones : Settings
ones = equal_levels 1 1

abbrev pub still : ℕ → Codes
still code = record { list = replicate 6 code; six = refl }

abbrev pub frames512 : ℕ → ℕ → List Call
frames512 enable zero = []
frames512 enable (suc n) = frames512 enable n ++ (frame (still 512) enable ∷ [])

abbrev pub quiet : ℕ → List Call
quiet n = frames512 127 n

-- channel 0 over 88 of them, and our relay: what it answers to one frame more, and its age
abbrev long : List Event
long = channel_history 0 (quiet 88)

abbrev pub answer_to : List Call → ℕ → FrameAnswer
answer_to past code = frame_of (relay_after the_relay ones past) (replicate 6 code) 127

abbrev our_age : List Call → ℕ
our_age list = (relay_after the_relay ones list).age

-- m = 400, and Z is 400 exactly: Z ≥ 400, and not Z ≥ 401 (phasor's `exact`)
abbrev window400 : List ℤ
window400 = pos 100 ∷ replicate 7 (pos 0)

-- m1 = 100 and m2 = 37; m1 = 173 and m2 = 64: 37 m1 − 100 m2 is 0 and 1
abbrev window100 : List ℤ
window100 = pos 4 ∷ pos 18 ∷ neg_ℤ (pos 10) ∷ pos 12 ∷ neg_ℤ (pos 3) ∷ neg_ℤ (pos 14) ∷ pos 8 ∷ pos 1 ∷ []

abbrev window173 : List ℤ
window173 = neg_ℤ (pos 7) ∷ neg_ℤ (pos 14) ∷ neg_ℤ (pos 1) ∷ pos 10 ∷ pos 9 ∷ pos 13 ∷ pos 3 ∷ pos 5 ∷ []

pub record HistoryCalls : Type 0 where
  -- the demand is claimed of the functions that the contracts of `fresh`, `frame`, `reset` and `change` name
  pub ours : the_relay ≡ record { fresh = fresh_of; frame = frame_of; reset = reset_of; change = change_of }
  -- "1 to 10,700": both ends, each kind of level apart; and one level outside, the last of its kind
  pub highest_drops : AcceptedSettings (equal_levels 10700 1)
  pub highest_pickups : AcceptedSettings (equal_levels 1 10700)
  pub lowest : AcceptedSettings ones
  pub unlike : AcceptedSettings nine
  -- "1 to 100 or 0 for off": the highest, and one above it in the last place
  pub highest_restraints : AcceptedSettings (restrained (replicate 3 100))
  pub last_restraint : ¬ AcceptedSettings (restrained (0 ∷ 0 ∷ 101 ∷ []))
  pub last_drop_lem : ¬ AcceptedSettings (last_drop 10701) × ¬ AcceptedSettings (last_drop 0)
  pub last_pickup_lem : ¬ AcceptedSettings (last_pickup 10701) × ¬ AcceptedSettings (last_pickup 0)
  -- "a code above 1023", in each channel, before "enable bit 7 is 1"; the highest codes and the lowest are accepted with bits 0 to 6 and with none
  pub codes_high : table 6 (λ c. frame_refused_by (set (replicate 6 512) c 1024) 0xFF) ≡ replicate 6 3
  pub codes_high_off : table 6 (λ c. frame_refused_by (set (replicate 6 512) c 1024) 0x00) ≡ replicate 6 3
  pub codes_taken : (frame_refused_by (replicate 6 1023) 0x7F ≡ 0) × (frame_refused_by (replicate 6 0) 0x00 ≡ 0)
  pub middle_taken : (frame_refused_by (replicate 6 512) 0x7F ≡ 0) × (frame_refused_by (replicate 6 512) 0x00 ≡ 0)
  pub enable_refused : (frame_refused_by (replicate 6 512) 0x80 ≡ 4) × (frame_refused_by (replicate 6 512) 0xFF ≡ 4)
  -- "A reset takes a mask of bits 0 to 5": all 64 are accepted, none and channel 5 alone among them, and no other byte is
  pub masks_taken : table 64 reset_refused_by ≡ replicate 64 0
  pub ends_taken : (reset_refused_by 0 ≡ 0) × (reset_refused_by 32 ≡ 0)
  pub masks_refused : table 192 (λ k. reset_refused_by (64 + k)) ≡ replicate 192 5
  -- "A refused call .. has no frame number and separates nothing"
  pub refusals : table 8 (λ k. refusal_of (get_or story k (reset 0))) ≡ 0 ∷ 3 ∷ 0 ∷ 4 ∷ 5 ∷ 0 ∷ 0 ∷ 0 ∷ []
  pub three : accepted_frames story ≡ 3
  pub first_channel : channel_history 0 story ≡ met (pos 0) true true ∷ cleared ∷ met (neg_ℤ (pos 512)) true true ∷ met (neg_ℤ (pos 503)) true false ∷ []
  pub last_channel : channel_history 5 story ≡ met (pos 5) false true ∷ cleared ∷ met (pos 511) true true ∷ met (neg_ℤ (pos 508)) true false ∷ []
  -- as many resets before a frame as came before it
  pub separated : table 3 (resets_before (channel_history 1 story)) ≡ 0 ∷ 0 ∷ 1 ∷ []
  pub all_resets : (resets (channel_history 0 story) ≡ 1) × (resets (channel_history 1 story) ≡ 1) × (resets (channel_history 2 story) ≡ 0)
  -- "frame n is counted if n is 72 or more and ..": 88 frames with no rise; "enabled in a frame if its bit and bit 6 are both 1"
  pub counted : Counted long 72 × ¬ Counted long 71
  pub enabled : Enabled (channel_history 0 story) 0 × ¬ Enabled (channel_history 5 story) 0 × ¬ Enabled (channel_history 0 story) 2
  -- "in slot k the sample of the latest accepted frame up to n whose number mod 8 is k, 0 if there is none"
  pub filling : window_at (channel_history 2 (rising 12)) 2 ≡ pos 1 ∷ pos 2 ∷ pos 3 ∷ replicate 5 (pos 0)
  pub separated_window : window_at (channel_history 5 story) 2 ≡ pos 5 ∷ pos 511 ∷ neg_ℤ (pos 508) ∷ replicate 5 (pos 0)
  pub turning : window_at (channel_history 2 (rising 12)) 11 ≡ pos 9 ∷ pos 10 ∷ pos 11 ∷ pos 12 ∷ pos 5 ∷ pos 6 ∷ pos 7 ∷ pos 8 ∷ []
  -- "a drop level for each channel and a pickup level for each current"
  pub own_levels_lem : table 6 (own_levels nine.levels)
      ≡ own 401 0 0 false ∷ own 402 0 0 false ∷ own 403 0 0 false ∷ own 404 399 100 true ∷ own 405 398 0 true ∷ own 400 401 7 true ∷ []
  -- the clauses on Z are said of channel c's own levels
  pub own_margins : (LossMargins nine 4 story true false
      → Margins (loss_of bench) (own 405 398 0 true) (λ l. SurelyBelowDrop l.drop) (λ l. PossiblyBelowDrop l.drop) (channel_history 4 story) true false)
      × (OverMargins nine 5 story true false
      → Margins (over_of bench) (own 400 401 7 true) (λ l. SurelyOver l.pickup l.restraint)
      (λ l. PossiblyOver l.pickup l.restraint) (channel_history 5 story) true false)
  -- "A full run is 16 (loss) .. successive counted frames": of 88 frames the last sixteen are one, and no sixteen before or after them
  pub full_run : FullRun (loss_of bench) (own 1 0 0 false) long 16 72
  pub too_early : ¬ FullRun (loss_of bench) (own 1 0 0 false) long 16 71
  pub too_late : ¬ FullRun (loss_of bench) (own 1 0 0 false) long 16 73
  -- "loss latches in frame 87", which answers six latches; it does not in frame 72, the first that is counted, nor if no channel is enabled
  pub at87 : loss_after the_relay ones (quiet 88) 0 ≡ true
  pub at72 : loss_after the_relay ones (quiet 73) 0 ≡ false
  pub disabled : loss_after the_relay ones (frames512 0 88) 0 ≡ false
  pub none_over : table 6 (over_after the_relay ones (quiet 88)) ≡ replicate 6 false
  pub output87 : (answer_to (quiet 87) 512).output ≡ 63
  -- the age before a first frame, after it, and after a reset behind it; the amplitudes that a first frame answers
  pub ages : (our_age [] ≡ 0) × (our_age (quiet 1) ≡ 1) × (our_age (quiet 1 ++ (reset 0 ∷ [])) ≡ 1)
  pub amplitudes : (get_or (answer_to [] 512).amplitudes 0 0 ≡ 0) × (get_or (answer_to [] 1023).amplitudes 0 0 ≡ 2044)
  -- "16 (loss) or 4 (over)"; "m < drop (loss) or m ≥ pickup (over)" at m = 400
  pub lengths : ((loss_of bench).len ≡ 16) × ((over_of bench).len ≡ 4)
  pub losing : table 6 (λ c. (loss_of bench).meets (own_levels nine.levels c) window400) ≡ replicate 5 true ++ (false ∷ [])
  -- the restraint of 100 holds channel 3 back: the second harmonic is 400 too
  pub rising_over : table 6 (λ c. (over_of bench).meets (own_levels nine.levels c) window400) ≡ replicate 4 false ++ (true ∷ false ∷ [])
  pub at_pickup : (over_of bench).meets (own_levels (equal_levels 1 400).levels 3) window400 ≡ true
  -- Paper 8's test, each current with its own r: at 37 m1 − 100 m2 = 0 it fails, at 1 it holds; r 0, 1 and 100; and it is no test of the loss run
  pub tested_0 : table 6 (λ c. (over_of bench).meets (own_levels (restrained (36 ∷ 37 ∷ 38 ∷ [])).levels c) window100) ≡ replicate 5 false ++ (true ∷ [])
  pub tested_1 : table 6 (λ c. (over_of bench).meets (own_levels (restrained (36 ∷ 37 ∷ 38 ∷ [])).levels c) window173) ≡ replicate 4 false ++ (true ∷ true ∷ [])
  pub tested_ends : table 6 (λ c. (over_of bench).meets (own_levels (restrained (0 ∷ 1 ∷ 100 ∷ [])).levels c) window100) ≡ replicate 3 false ++ (true ∷ false ∷ true ∷ [])
  pub loss_untested : table 6 (λ c. (loss_of bench).meets (own_levels (equal_levels 101 1).levels c) window100) ≡ replicate 6 true
  pub test_alone : (harmonic_test 37 window100 ≡ false) × (harmonic_test 37 window173 ≡ true) × (harmonic_test 0 window100 ≡ true)
  -- the tests of wrong relays: m ≥ pickup alone at m = 400, and the third harmonic, which is 400 too and restrains under 15
  pub over_alone : table 3 (λ k. over_pickup k nine window400) ≡ true ∷ true ∷ false ∷ []
  pub by_third : (over_by_third 0 (restrained (replicate 3 15)) window400 ≡ false) × (over_by_third 0 (restrained (replicate 3 0)) window400 ≡ true)
  -- the test is asked beside each margin
  pub tested_margins : ¬ SurelyOver 1 37 window100 × ¬ PossiblyOver 1 37 window100
  -- the margins of 2, at Z = 400: "Z ≥ pickup + 2", "Z ≥ pickup − 2"; "Z < drop − 2", "Z < drop + 2"
  pub over_margins_lem : SurelyOverPickup 398 window400 × ¬ SurelyOverPickup 399 window400
      × PossiblyOverPickup 402 window400 × ¬ PossiblyOverPickup 403 window400
  pub loss_margins_lem : SurelyBelowDrop 403 window400 × ¬ SurelyBelowDrop 402 window400
      × PossiblyBelowDrop 399 window400 × ¬ PossiblyBelowDrop 398 window400

-- settings whose tests compute to true
pub in_range : (s : Settings) → levels_in_range 6 s.levels.drop ≡ true → levels_in_range 3 s.levels.pickup ≡ true → restraints_sound s.levels.restraint ≡ true
    → lengths_sound s.lengths ≡ true → AcceptedSettings s
in_range s d p r l =
    record {
      drops = range_says 6 s.levels.drop d;
      pickups = range_says 3 s.levels.pickup p;
      restraints = restraints_say s.levels.restraint r;
      loss_length = (lengths_say s.lengths l).0;
      over_length = (lengths_say s.lengths l).1;
    }

-- such levels with the bench's lengths
pub at_bench : (l : Levels) → levels_in_range 6 l.drop ≡ true → levels_in_range 3 l.pickup ≡ true → restraints_sound l.restraint ≡ true
    → BenchLengths (settings_of l)
unfolding lengths_sound
at_bench l d p r = record { accepted = in_range (settings_of l) d p r refl; loss_length = refl; over_length = refl }

pub calls : HistoryCalls
unfolding computed
calls =
    record {
      ours = refl;
      highest_drops = record {
        drops = λ c h. rw (get_or-replicate {A = ℕ} 6 c 10700 0 h) (omega arith, omega arith);
        pickups = λ k h. rw (get_or-replicate {A = ℕ} 3 k 1 0 h) (omega arith, omega arith);
        restraints = restraints_say (replicate 3 0) refl;
        loss_length = (omega arith, omega arith);
        over_length = (omega arith, omega arith);
      };
      highest_pickups = record {
        drops = λ c h. rw (get_or-replicate {A = ℕ} 6 c 1 0 h) (omega arith, omega arith);
        pickups = λ k h. rw (get_or-replicate {A = ℕ} 3 k 10700 0 h) (omega arith, omega arith);
        restraints = restraints_say (replicate 3 0) refl;
        loss_length = (omega arith, omega arith);
        over_length = (omega arith, omega arith);
      };
      lowest = in_range ones refl refl refl refl;
      unlike = in_range nine refl refl refl refl;
      highest_restraints = in_range (restrained (replicate 3 100)) refl refl refl refl;
      last_restraint = λ s. absurd (omega (arith, s.restraints 2 (omega arith)));
      last_drop_lem = (λ s. absurd (omega (arith, (s.drops 5 (omega arith)).1)), λ s. absurd (omega (arith, (s.drops 5 (omega arith)).0)));
      last_pickup_lem = (λ s. absurd (omega (arith, (s.pickups 2 (omega arith)).1)), λ s. absurd (omega (arith, (s.pickups 2 (omega arith)).0)));
      codes_high = refl;
      codes_high_off = refl;
      codes_taken = (refl, refl);
      middle_taken = (refl, refl);
      enable_refused = (refl, refl);
      masks_taken = refl;
      ends_taken = (refl, refl);
      masks_refused = refl;
      refusals = refl;
      three = refl;
      first_channel = refl;
      last_channel = refl;
      separated = refl;
      all_resets = (refl, refl, refl);
      counted = (found_counted (bit6_in long) 72 refl, λ h. absurd (omega (arith, h.late)));
      enabled = (tt, λ h. absurd h, λ h. absurd h);
      filling = refl;
      separated_window = refl;
      turning = refl;
      own_levels_lem = refl;
      own_margins = (λ m. m, λ m. m);
      full_run = record {
        within = omega (arith, all);
        each = λ n a b. record {
          counted = always_on (bit6_in long) n a (λ k l. (on k (omega arith)).1);
          enabled = yes_and (input_at long n).channel_bit (input_at long n).bit6 (on n (omega arith)).0 (on n (omega arith)).1;
          not_separated = eqb-true _ 0 (every_at 88 (λ n. eqb (resets_before long n) 0) refl n (omega arith));
          not_changed = eqb-true _ 0 (every_at 88 (λ n. eqb (changes_before (loss_of bench) (own 1 0 0 false) long n) 0) refl n (omega arith));
        };
      };
      too_early = λ r. absurd (omega (arith, (r.each 71 (omega arith) (omega arith)).counted.late));
      too_late = λ r. absurd (omega (arith, all, r.within));
      at87 = refl;
      at72 = refl;
      disabled = refl;
      none_over = refl;
      output87 = refl;
      ages = (refl, refl, refl);
      amplitudes = (refl, refl);
      lengths = (refl, refl);
      losing = refl;
      rising_over = refl;
      at_pickup = refl;
      tested_0 = refl;
      tested_1 = refl;
      tested_ends = refl;
      loss_untested = refl;
      test_alone = (refl, refl, refl);
      over_alone = refl;
      by_third = (refl, refl);
      tested_margins = (λ s. s.1, λ s. s.1);
      over_margins_lem = (exact.least_400, exact.below_401, exact.least_400, exact.below_401);
      loss_margins_lem = (exact.below_401, λ f. f exact.least_400, exact.below_401, λ f. f exact.least_400);
    }
  where
    all : frames long ≡ 88
    all = refl

    on : (n : ℕ) → n < 88 → T (input_at long n).channel_bit × T (input_at long n).bit6
    on n l =
        and_yes (input_at long n).channel_bit (input_at long n).bit6
        (subst T (sym (every_at 88 (λ n. (input_at long n).channel_bit && (input_at long n).bit6) refl n l)) tt)
