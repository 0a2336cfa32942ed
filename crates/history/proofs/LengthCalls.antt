-- Run lengths (document 02, Paper 9) from the demand's side, computed on closed lists: which lengths are accepted, that each kind of run has its own,
-- the frame that makes a run full and the one before it at lengths 1 and 24, and what the words of the wrong relays say. Rests on the definitions.
use Prim.Native.Nat.{ℕ, zero, suc, ◌+◌, ◌%◌, ◌≤◌, ◌<◌}
use native.Mathlib.Omega.{arith}
use mathlib.Core.Path.{◌≡◌, refl}
use mathlib.Core.Bool.{true, false}
use mathlib.Core.List.{List, [], ◌∷◌, ◌++◌}
use lib.Dec.{T, lit<}
use lib.ListN.{get_or, replicate}
use Rattle.lists.specs.Each.{table}
use Rattle.relay.specs.declared.Channel.{Channel}
use Rattle.relay.specs.declared.Lengths.{Lengths}
use Rattle.relay.specs.declared.Settings.{Settings}
use Rattle.relay.specs.declared.Relay.{Relay}
use Rattle.history.specs.Calls.{Call, frame, reset, change, accepted_frames, the_relay}
use Rattle.history.specs.History.{channel_history, resets_before, changes_before, levels_at, window_at, Counted, Enabled}
use Rattle.history.specs.Demand.{loss_of, over_of, made_with, LossOn, OverOn, relay_after, AcceptedSettings}
use Rattle.history.specs.WrongRelays.{BenchLengths, Latch, the_loss_latch, the_over_latch, run_held, length_of, other, kind_of, latch_after, GoesOn, number_of, calls_of}
use Rattle.history.specs.WrongRelays.{full_length, other_length, kind_in, made_in, events, met_in, ByRunOf, Late}
use Rattle.history.proofs.Computed.{computed}
use Rattle.history.proofs.FullRuns.{full_meeting}
use Rattle.history.proofs.HistoryCalls.{ones, still, quiet, in_range}
use Rattle.history.proofs.SettlingCalls.{first_of}

abbrev lengths : ℕ → ℕ → Lengths
lengths loss over = record { loss = loss; over = over }

-- every level 1, and such lengths
abbrev pub counting : ℕ → ℕ → Settings
counting loss over = record { levels = ones.levels; lengths = lengths loss over }

-- frames with 100 in slot 0 and else 0: m is 400, which is over each pickup
abbrev struck : ℕ → List Call
struck zero = []
struck (suc n) = struck n ++ (frame (still (get_or (612 ∷ replicate 7 512) (n % 8) 512)) 127 ∷ [])

-- two frames, a reset, new levels, one more frame
abbrev busy : List Call
busy = quiet 2 ++ (reset 63 ∷ change (record { drop = replicate 6 2; pickup = replicate 3 2; restraint = replicate 3 9 }) ∷ quiet 1)

-- a relay in which no two of channel 5's numbers are alike
abbrev uneven : Relay
uneven =
    record {
      channels = replicate 5 zeros
          ++ (record { samples = []; loss_run = 3; over_run = 7; loss_latch = false; over_latch = true } ∷ []);
      age = 0;
      slot = 0;
      device_on = true;
      settings = counting 24 24;
    }
  where
    zeros : Channel
    zeros = record { samples = []; loss_run = 0; over_run = 0; loss_latch = false; over_latch = false }

pub record LengthCalls : Type 0 where
  -- "1 to 24": each length at both ends, either the greater
  pub least : AcceptedSettings (counting 1 1)
  pub most : AcceptedSettings (counting 24 24)
  pub unequal : AcceptedSettings (counting 1 24) × AcceptedSettings (counting 24 1) × AcceptedSettings (counting 4 16)
  pub no_loss : ¬ AcceptedSettings (counting 0 4) × ¬ AcceptedSettings (counting 25 4) × ¬ AcceptedSettings (counting 255 4)
  pub no_over : ¬ AcceptedSettings (counting 16 0) × ¬ AcceptedSettings (counting 16 25) × ¬ AcceptedSettings (counting 16 255)
  -- document 01's lengths, and no others
  pub on_bench : BenchLengths (counting 16 4)
  pub off_bench : ¬ BenchLengths (counting 4 16) × ¬ BenchLengths (counting 16 5) × ¬ BenchLengths (counting 15 4)
  -- each kind of run has its own length
  pub own_length : ((loss_of (lengths 3 7)).len ≡ 3) × ((over_of (lengths 3 7)).len ≡ 7)
  pub of_latch : (length_of the_loss_latch (lengths 3 7) ≡ 3) × (length_of the_over_latch (lengths 3 7) ≡ 7)
  pub others : (other the_loss_latch ≡ the_over_latch) × (other the_over_latch ≡ the_loss_latch)
  pub held_runs : (run_held the_loss_latch uneven 5 ≡ 3) × (run_held the_over_latch uneven 5 ≡ 7) × (run_held the_over_latch uneven 4 ≡ 0)
  -- "fixed when it is made"
  pub fixed : table 6 (λ n. (relay_after the_relay (counting 7 19) (first_of n busy)).settings.lengths) ≡ replicate 6 (lengths 7 19)
  -- the frame that makes the run full is frame 72 at length 1 and 95 at length 24, by the rule; that our relay's latches go by it is the theorem
  pub rule_1 : ¬ LossOn (counting 1 24) 5 (quiet 72) × LossOn (counting 1 24) 5 (quiet 73)
  pub rule_24 : ¬ LossOn (counting 24 1) 5 (quiet 95) × LossOn (counting 24 1) 5 (quiet 96)
  pub over_rule_1 : ¬ OverOn (counting 24 1) 5 (struck 72) × OverOn (counting 24 1) 5 (struck 73)
  pub over_rule_24 : ¬ OverOn (counting 1 24) 5 (struck 95) × OverOn (counting 1 24) 5 (struck 96)
  -- a latch that goes on: the frames of its run and of the other's, its channel's events, and the level in force in a frame
  pub going_on : (g : GoesOn the_relay) → (full_length g ≡ length_of g.latch g.settings.lengths)
      × (other_length g ≡ length_of (other g.latch) g.settings.lengths) × (events g ≡ channel_history g.channel (calls_of g))
  pub of_run : (g : GoesOn the_relay) → (kind_in g ≡ kind_of g.latch g.settings.lengths) × (made_in g ≡ made_with g.settings g.channel)
  pub met_in_lem : (g : GoesOn the_relay) (n : ℕ) → met_in g n ≡ (kind_in g).meets (levels_at (made_in g) (events g) n) (window_at (events g) n)
  -- by a run of five frames: the one before them is not counted, or not enabled, or does not meet the level, or is separated from the last
  pub by_five : (g : GoesOn the_relay) (n : ℕ) → n + 5 ≡ number_of g
      → (¬ Counted (events g) n → ByRunOf g 5) × (¬ Enabled (events g) n → ByRunOf g 5) × (¬ T (met_in g n) → ByRunOf g 5)
  pub five_apart : (g : GoesOn the_relay) (n : ℕ) → n + 5 ≡ number_of g
      → (¬ (resets_before (events g) (number_of g) ≡ resets_before (events g) n) → ByRunOf g 5)
      × (¬ (changes_before (kind_in g) (made_in g) (events g) (number_of g) ≡ changes_before (kind_in g) (made_in g) (events g) n) → ByRunOf g 5)
  -- the run ends with the latest frame, and its latch is off
  pub late : (latch : Latch) (w : Late the_relay latch)
      → (w.first + length_of latch w.settings.lengths ≡ accepted_frames w.calls) × ¬ T (latch_after the_relay latch w.settings w.calls w.channel)

-- a full run that begins in frame 72 or later does not end in time
too_few : (j len n : ℕ) → 72 ≤ j → j + len ≤ n → ¬ (n < 72 + len)
too_few j len n a b c = omega arith

pub length_calls : LengthCalls
unfolding computed
length_calls =
    record {
      least = in_range (counting 1 1) refl refl refl refl;
      most = in_range (counting 24 24) refl refl refl refl;
      unequal = (
        in_range (counting 1 24) refl refl refl refl,
        in_range (counting 24 1) refl refl refl refl,
        in_range (counting 4 16) refl refl refl refl,
      );
      no_loss = (λ s. none s.loss_length.0, λ s. above 25 (lit< tt) s.loss_length.1, λ s. above 255 (lit< tt) s.loss_length.1);
      no_over = (λ s. none s.over_length.0, λ s. above 25 (lit< tt) s.over_length.1, λ s. above 255 (lit< tt) s.over_length.1);
      on_bench = record { accepted = in_range (counting 16 4) refl refl refl refl; loss_length = refl; over_length = refl };
      off_bench = (λ s. absurd (omega (arith, s.loss_length)), λ s. absurd (omega (arith, s.over_length)), λ s. absurd (omega (arith, s.loss_length)));
      own_length = (refl, refl);
      of_latch = (refl, refl);
      others = (refl, refl);
      held_runs = (refl, refl, refl);
      fixed = refl;
      rule_1 = (
        λ on. too_few on.0 1 72 (on.1.run.each on.0 (omega arith) (omega arith)).counted.late on.1.run.within (lit< tt),
        (72, full_meeting (loss_of (lengths 1 24)) (made_with ones 5) (channel_history 5 (quiet 73)) 72 refl refl refl),
      );
      rule_24 = (
        λ on. too_few on.0 24 95 (on.1.run.each on.0 (omega arith) (omega arith)).counted.late on.1.run.within (lit< tt),
        (72, full_meeting (loss_of (lengths 24 1)) (made_with ones 5) (channel_history 5 (quiet 96)) 72 refl refl refl),
      );
      over_rule_1 = (
        λ on. too_few on.0 1 72 (on.1.run.each on.0 (omega arith) (omega arith)).counted.late on.1.run.within (lit< tt),
        (72, full_meeting (over_of (lengths 24 1)) (made_with ones 5) (channel_history 5 (struck 73)) 72 refl refl refl),
      );
      over_rule_24 = (
        λ on. too_few on.0 24 95 (on.1.run.each on.0 (omega arith) (omega arith)).counted.late on.1.run.within (lit< tt),
        (72, full_meeting (over_of (lengths 1 24)) (made_with ones 5) (channel_history 5 (struck 96)) 72 refl refl refl),
      );
      going_on = λ g. (refl, refl, refl);
      of_run = λ g. (refl, refl);
      met_in_lem = λ g n. refl;
      by_five = λ g n e. (
        λ no. record { before = n; is_before = e; apart = λ run. no run.0.counted },
        λ no. record { before = n; is_before = e; apart = λ run. no run.0.enabled },
        λ no. record { before = n; is_before = e; apart = λ run. no run.1 },
      );
      five_apart = λ g n e. (
        λ no. record { before = n; is_before = e; apart = λ run. no run.2.not_separated },
        λ no. record { before = n; is_before = e; apart = λ run. no run.2.not_changed },
      );
      late = λ latch w. (w.ends, w.off);
    }
  where
    none : ¬ (1 ≤ 0)
    none h = absurd (omega arith)

    above : (len : ℕ) → 24 < len → ¬ (len ≤ 24)
    above len h k = absurd (omega arith)
