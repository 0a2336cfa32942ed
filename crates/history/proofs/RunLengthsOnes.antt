-- There are relays that count runs to wrong lengths in the ways that `Wrong` says (document 02, Paper 9): ours, with one thing changed. Each is shown
-- by a list of frames, every level 1, with lengths in which it shows: code 512 for the loss run, one frame of code 612 for the over run. Rests on the
-- definitions alone.
use Prim.Native.Nat.{ℕ, zero, suc, ◌+◌, ◌-◌, ◌≤◌, ◌<◌, min}
use native.Mathlib.Omega.{arith}
use mathlib.Core.Path.{◌≡◌, refl, sym, ap, subst}
use mathlib.Core.Bool.{true, false, ◌&&◌, ◌||◌, cond}
use mathlib.Core.List.{List, [], ◌∷◌, ◌++◌}
use lib.Dec.{T, leb, eqb, lit<}
use lib.ListN.{replicate}
use Rattle.lists.specs.Each.{every, table}
use Rattle.relay.specs.declared.Channel.{Channel}
use Rattle.relay.specs.declared.Lengths.{Lengths}
use Rattle.relay.specs.declared.Relay.{Relay}
use Rattle.relay.specs.declared.FrameAnswer.{FrameAnswer}
use Rattle.relay.specs.declared.RelayAnswer.{RelayAnswer}
use Rattle.relay.specs.Relay.{channel_at, fresh_of, frame_of, reset_of, change_of}
use Rattle.relay.proofs.Examples.{bench}
use Rattle.history.specs.Calls.{Call, frame, change, Implementation, frame_refused_by, accepted_frames}
use Rattle.history.specs.History.{Event, channel_history, input_at, levels_at, window_at, resets, resets_before}
use Rattle.history.specs.Demand.{loss_of, over_of, made_with, relay_after, loss_after, over_after, AcceptedSettings}
use Rattle.history.specs.WrongRelays.{the_loss_latch, the_over_latch, run_held, Wrong, refuses_settings, exchanges_lengths, cuts_length, trips_late, trips_early}
use Rattle.history.specs.WrongRelays.{grows_on, alters_lengths}
use Rattle.history.proofs.Computed.{computed}
use Rattle.history.proofs.FullRuns.{run_in, meets_in, full_meeting}
use Rattle.history.proofs.HistoryCalls.{ones, still, quiet, in_range}
use Rattle.history.proofs.LengthCalls.{counting, length_calls}
use Rattle.history.proofs.Refutations.{framing, with_fresh, handing, none, goes_on_in}

-- ---- other lengths than those that it was made with

abbrev with_lengths : Lengths → Relay → Relay
with_lengths lengths r =
    record {
      channels = r.channels;
      age = r.age;
      slot = r.slot;
      device_on = r.device_on;
      settings = record { levels = r.settings.levels; lengths = lengths };
    }

-- each call on the relay with lengths made of its own, which it then has again
abbrev through : (Lengths → Lengths) → Implementation
through f =
    record {
      fresh = fresh_of;
      frame = λ r codes enable.
          let a : FrameAnswer = frame_of (with_lengths (f r.settings.lengths) r) codes enable in
          handing (with_lengths r.settings.lengths a.relay) a;
      reset = λ r mask.
          let a : RelayAnswer = reset_of (with_lengths (f r.settings.lengths) r) mask in
          record { relay = with_lengths r.settings.lengths a.relay; refusal = a.refusal };
      change = λ r new.
          let a : RelayAnswer = change_of (with_lengths (f r.settings.lengths) r) new in
          record { relay = with_lengths r.settings.lengths a.relay; refusal = a.refusal };
    }

abbrev exchanged : Implementation
exchanged = through (λ lengths. record { loss = lengths.over; over = lengths.loss })

abbrev early : Implementation
early = through (λ lengths. record { loss = lengths.loss - 1; over = lengths.over - 1 })

abbrev cut_at16 : Implementation
cut_at16 = through (λ lengths. record { loss = min 16 lengths.loss; over = min 16 lengths.over })

-- the works' lengths come back with new levels
abbrev restored : Implementation
restored =
    record {
      fresh = fresh_of;
      frame = frame_of;
      reset = reset_of;
      change = λ r new.
          let a : RelayAnswer = change_of r new in
          record { relay = with_lengths bench a.relay; refusal = a.refusal };
    }

-- ---- runs and latches

-- each channel from what it was before the frame and what the frame made of it
abbrev remade : (Lengths → Channel → Channel → Channel) → Relay → Relay → Relay
remade f was r =
    record {
      channels = table 6 (λ c. f r.settings.lengths (channel_at was c) (channel_at r c));
      age = r.age;
      slot = r.slot;
      device_on = r.device_on;
      settings = r.settings;
    }

-- the latches by the runs that the frame found: one frame late
abbrev late_latches : Lengths → Channel → Channel → Channel
late_latches lengths was ch =
    record {
      samples = ch.samples;
      loss_run = ch.loss_run;
      over_run = ch.over_run;
      loss_latch = was.loss_latch || eqb was.loss_run lengths.loss;
      over_latch = was.over_latch || eqb was.over_run lengths.over;
    }

abbrev late : Implementation
late = framing (λ r codes enable a. handing (remade late_latches r a.relay) a)

-- runs that go on growing; our frame is given them cut at their lengths
abbrev cut_runs : Relay → Relay
cut_runs r = remade (λ lengths was ch.
    record {
      samples = ch.samples;
      loss_run = min lengths.loss ch.loss_run;
      over_run = min lengths.over ch.over_run;
      loss_latch = ch.loss_latch;
      over_latch = ch.over_latch;
    }) r r

abbrev further : ℕ → ℕ → ℕ → ℕ
further len was run = cond (eqb run len && leb len was) (suc was) run

abbrev grown_runs : Lengths → Channel → Channel → Channel
grown_runs lengths was ch =
    record {
      samples = ch.samples;
      loss_run = further lengths.loss was.loss_run ch.loss_run;
      over_run = further lengths.over was.over_run ch.over_run;
      loss_latch = ch.loss_latch;
      over_latch = ch.over_latch;
    }

abbrev overgrown : Implementation
overgrown = framing (λ r codes enable a.
    let b : FrameAnswer = frame_of (cut_runs r) codes enable in handing (remade grown_runs r b.relay) b)

-- ---- settings: a fresh relay for no loss length above 16

abbrev short : Implementation
short = with_fresh (λ settings. cond (leb settings.lengths.loss 16) (fresh_of settings) none)

-- ---- what is computed

abbrev late_events : List Event
late_events = channel_history 0 (quiet 73)

-- after n frames of code 512, the last of them counted, one of code 612: m is 400
abbrev struck_after : ℕ → List Call
struck_after n = quiet n ++ (frame (still 612) 127 ∷ [])

abbrev struck_events : List Event
struck_events = channel_history 3 (struck_after 73)

-- 80 frames, one in which channel 0 is not enabled, and n more
abbrev paused : ℕ → List Call
paused zero = quiet 80 ++ (frame (still 512) 0x7E ∷ [])
paused (suc n) = paused n ++ (frame (still 512) 127 ∷ [])

record Facts : Type 0 where
  frames_73 : accepted_frames (quiet 73) ≡ 73
  frames_87 : accepted_frames (quiet 87) ≡ 87
  frames_96 : accepted_frames (paused 15) ≡ 96
  taken : frame_refused_by (replicate 6 512) 0x7F ≡ 0
  struck_taken : frame_refused_by (replicate 6 612) 0x7F ≡ 0
  five_two : AcceptedSettings (counting 5 2)
  one_three : AcceptedSettings (counting 1 3)
  three_three : AcceptedSettings (counting 3 3)
  -- a loss length of 5: on in frame 73, by a run of the over length, 2
  exchanged_on : (loss_after exchanged (counting 5 2) (quiet 73) 0 ≡ false) × (loss_after exchanged (counting 5 2) (quiet 74) 0 ≡ true)
  -- an over length of 3: on in frame 73, by a run of the loss length, 1; frame 72 is counted and enabled, and not over its pickup
  over_on_lem : (over_after exchanged (counting 1 3) (quiet 73) 3 ≡ false) × (over_after exchanged (counting 1 3) (struck_after 73) 3 ≡ true)
  over_unmet : (over_of (counting 1 3).lengths).meets (levels_at (made_with ones 3) struck_events 72) (window_at struck_events 72) ≡ false
  -- a loss length of 24: on in frame 87, by a run of 16; and in frame 96, by one after frame 80, in which the channel is not enabled
  cut_on : (loss_after cut_at16 (counting 24 24) (quiet 87) 0 ≡ false) × (loss_after cut_at16 (counting 24 24) (quiet 88) 0 ≡ true)
  paused_on : (loss_after cut_at16 (counting 24 24) (paused 15) 0 ≡ false) × (loss_after cut_at16 (counting 24 24) (paused 16) 0 ≡ true)
  paused_off : (input_at (channel_history 0 (paused 16)) 80).channel_bit && (input_at (channel_history 0 (paused 16)) 80).bit6 ≡ false
  -- a loss length of 3: on in frame 73, by a run of 2
  early_on : (loss_after early (counting 3 3) (quiet 73) 0 ≡ false) × (loss_after early (counting 3 3) (quiet 74) 0 ≡ true)
  -- a loss length of 1: off after frame 72
  late_off : loss_after late (counting 1 1) (quiet 73) 0 ≡ false
  late_run : run_in (loss_of (counting 1 1).lengths) (made_with ones 0) late_events 1 72 ≡ true
  late_met : every 1 (λ k. meets_in (loss_of (counting 1 1).lengths) (made_with ones 0) late_events (72 + k)) ≡ true
  late_after : eqb (resets_before late_events 72) (resets late_events) ≡ true
  -- the runs go on, 1, 2, 3, and 2
  grown_run : (run_held the_loss_latch (relay_after overgrown (counting 1 1) (quiet 73)) 0 ≡ 1)
      × (run_held the_loss_latch (relay_after overgrown (counting 1 1) (quiet 74)) 0 ≡ 2)
      × (run_held the_loss_latch (relay_after overgrown (counting 1 1) (quiet 75)) 0 ≡ 3)
  over_grown : run_held the_over_latch (relay_after overgrown (counting 1 1) (struck_after 72 ++ (frame (still 512) 127 ∷ []))) 3 ≡ 2
  refused : (short.fresh (counting 24 24)).refusal ≡ 1
  restored_16 : (restored.change (relay_after restored (counting 24 24) []) ones.levels).relay.settings.lengths.loss ≡ 16

facts : Facts
unfolding computed
facts =
    record {
      frames_73 = refl;
      frames_87 = refl;
      frames_96 = refl;
      taken = refl;
      struck_taken = refl;
      five_two = in_range (counting 5 2) refl refl refl refl;
      one_three = in_range (counting 1 3) refl refl refl refl;
      three_three = in_range (counting 3 3) refl refl refl refl;
      exchanged_on = (refl, refl);
      over_on_lem = (refl, refl);
      over_unmet = refl;
      cut_on = (refl, refl);
      paused_on = (refl, refl);
      paused_off = refl;
      early_on = (refl, refl);
      late_off = refl;
      late_run = refl;
      late_met = refl;
      late_after = refl;
      grown_run = (refl, refl, refl);
      over_grown = refl;
      refused = refl;
      restored_16 = refl;
    }

pub record RunLengthsOnes : Type 0 where
  pub lengths_exchanged : Wrong exchanged
  pub over_exchanged : Wrong exchanged
  pub cut_at_16 : Wrong cut_at16
  pub cut_after_pause : Wrong cut_at16
  pub one_frame_early : Wrong early
  pub one_frame_late : Wrong late
  pub run_grown : Wrong overgrown
  pub over_run_grown : Wrong overgrown
  pub long_refused : Wrong short
  pub lengths_altered : Wrong restored

pub run_lengths_ones : RunLengthsOnes
unfolding computed
run_lengths_ones =
    record {
      lengths_exchanged = exchanges_lengths
          (goes_on_in exchanged (counting 5 2) facts.five_two (quiet 73) 127 facts.taken facts.exchanged_on.0 facts.exchanged_on.1)
          (lit< tt) (record { before = 71; is_before = sym facts.frames_73; apart = λ run. uncounted run.0.counted.late });
      over_exchanged = exchanges_lengths (record {
        settings = counting 1 3;
        accepted = facts.one_three;
        past = quiet 73;
        codes = still 612;
        enable = 127;
        taken = facts.struck_taken;
        latch = the_over_latch;
        channel = 3;
        is_channel = lit< tt;
        was = λ t. subst T facts.over_on_lem.0 t;
        now = subst T (sym facts.over_on_lem.1) tt;
      }) (lit< tt) (record { before = 72; is_before = sym facts.frames_73; apart = λ run. subst T facts.over_unmet run.1 });
      cut_at_16 = cuts_length
          (goes_on_in cut_at16 (counting 24 24) length_calls.most (quiet 87) 127 facts.taken facts.cut_on.0 facts.cut_on.1)
          (lit< tt) (record { before = 71; is_before = sym facts.frames_87; apart = λ run. uncounted run.0.counted.late });
      cut_after_pause = cuts_length
          (goes_on_in cut_at16 (counting 24 24) length_calls.most (paused 15) 127 facts.taken facts.paused_on.0 facts.paused_on.1)
          (lit< tt) (record { before = 80; is_before = sym facts.frames_96; apart = λ run. subst T facts.paused_off run.0.enabled });
      one_frame_early = trips_early
          (goes_on_in early (counting 3 3) facts.three_three (quiet 73) 127 facts.taken facts.early_on.0 facts.early_on.1) 2
          (lit< tt) (record { before = 71; is_before = sym facts.frames_73; apart = λ run. uncounted run.0.counted.late });
      one_frame_late = trips_late the_loss_latch (record {
        settings = counting 1 1;
        accepted = length_calls.least;
        calls = quiet 73;
        channel = 0;
        is_channel = lit< tt;
        first = 72;
        ends = sym facts.frames_73;
        run = full_meeting (loss_of (counting 1 1).lengths) (made_with ones 0) late_events 72 facts.late_run facts.late_met facts.late_after;
        off = λ t. subst T facts.late_off t;
      });
      run_grown = grows_on (counting 1 1) length_calls.least (quiet 74) the_loss_latch 0 (lit< tt)
          (subst (λ (run : ℕ). 1 < run) (sym facts.grown_run.1) (lit< tt));
      over_run_grown = grows_on (counting 1 1) length_calls.least (struck_after 72 ++ (frame (still 512) 127 ∷ [])) the_over_latch 3 (lit< tt)
          (subst (λ (run : ℕ). 1 < run) (sym facts.over_grown) (lit< tt));
      long_refused = refuses_settings (counting 24 24) length_calls.most (λ e. absurd (omega (arith, e, facts.refused)));
      lengths_altered = alters_lengths (counting 24 24) length_calls.most [] (change ones.levels)
          (λ e. absurd (omega (arith, facts.restored_16, ap (λ (l : Lengths). l.loss) e)));
    }
  where
    -- frame 71 is not counted
    uncounted : ¬ (72 ≤ 71)
    uncounted h = absurd (omega arith)
