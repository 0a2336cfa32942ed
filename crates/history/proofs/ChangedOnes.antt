-- There are relays that take new levels wrongly in the ways that `Wrong` says: ours, with one thing changed in what an accepted change makes of a
-- relay, or a reset after it, on a list of calls where it shows, computed. Most lists are frames of code 512 under levels of 1, so that a loss run
-- grows in each counted frame. Rests on Refutations.
use Prim.Native.Nat.{ℕ, ◌+◌}
use native.Mathlib.Omega.{arith}
use mathlib.Core.Path.{◌≡◌, refl, sym, ap, ◌∙◌, subst}
use mathlib.Core.Bool.{Bool, true, false, ◌&&◌, cond, false≢true}
use mathlib.Core.List.{List, [], ◌∷◌, ◌++◌}
use lib.Dec.{T, leb, eqb, lit≤, lit<}
use lib.ListN.{get_or, set, replicate}
use Rattle.lists.specs.Each.{every, table}
use Rattle.relay.specs.declared.Channel.{Channel}
use Rattle.relay.specs.declared.ChannelLevels.{ChannelLevels}
use Rattle.relay.specs.declared.Levels.{Levels}
use Rattle.relay.specs.declared.Settings.{Settings}
use Rattle.relay.specs.declared.Relay.{Relay}
use Rattle.relay.specs.declared.RelayAnswer.{RelayAnswer}
use Rattle.relay.specs.Relay.{channel_at, fresh_of, frame_of, reset_of, change_of}
use Rattle.relay.proofs.Examples.{bench, equal_levels}
use Rattle.history.specs.Calls.{Call, frame, change, reset_refused_by, change_refused_by, accepted_frames, Implementation}
use Rattle.history.specs.History.{Event, own_levels, channel_history, resets, resets_before, levels_at, window_at}
use Rattle.history.specs.Demand.{loss_of, over_of, made_with, relay_after, loss_after, over_after, AcceptedSettings}
use Rattle.history.specs.WrongRelays.{the_loss_latch, the_over_latch, GoesOn, ChangedLately, Changing, Wrong}
use Rattle.history.specs.WrongRelays.{moves_latch, keeps_changed, clears_run, judges_old, ages_anew, forgets_at_change, forgets_change, refuses_change}
use Rattle.history.proofs.Computed.{computed}
use Rattle.history.proofs.FullRuns.{run_in, meets_in, full_meeting}
use Rattle.history.proofs.HistoryCalls.{ones, still, frames512, quiet, calls, in_range}
use Rattle.history.proofs.Refutations.{resetting, with_age, with_memory, from_on, up_to_lem, goes_on}
use Rattle.history.proofs.Restraint.{cycle}

-- ---- ours, with what an accepted change makes of a relay changed; a refused one is answered as it should be

-- from the relay before, the new levels and the relay that ours would hand back
abbrev changing : (Relay → Levels → Relay → Relay) → Implementation
changing f =
    record {
      fresh = fresh_of;
      frame = frame_of;
      reset = reset_of;
      change = λ r new.
          let a : RelayAnswer = change_of r new in
          cond {A = RelayAnswer} (eqb (change_refused_by new) 0) (record { relay = f r new a.relay; refusal = a.refusal }) a;
    }

-- each channel made anew from the channel before, the channel after, and its old and new levels
abbrev each_at : (ChannelLevels → ChannelLevels → Channel → Channel → Channel) → Relay → Levels → Relay → ℕ → Channel
each_at f was new r c = f (own_levels was.settings.levels c) (own_levels new c) (channel_at was c) (channel_at r c)

abbrev each : (ChannelLevels → ChannelLevels → Channel → Channel → Channel) → Implementation
each f = changing (λ was new r.
    record { channels = table 6 (each_at f was new r); age = r.age; slot = r.slot; device_on = r.device_on; settings = r.settings })

abbrev with_runs : ℕ → ℕ → Channel → Channel
with_runs loss_count over_count ch =
    record {
      samples = ch.samples;
      loss_run = loss_count;
      over_run = over_count;
      loss_latch = ch.loss_latch;
      over_latch = ch.over_latch;
    }

abbrev with_latches : Bool → Bool → Channel → Channel
with_latches loss_on over_on ch =
    record {
      samples = ch.samples;
      loss_run = ch.loss_run;
      over_run = ch.over_run;
      loss_latch = loss_on;
      over_latch = over_on;
    }

-- clears all latches; turns a loss latch on where the latest window meets the new level
abbrev unlatching : Implementation
unlatching = each (λ old new was ch. with_latches false false ch)

abbrev hasty : Implementation
hasty = each (λ old new was ch. with_latches ((loss_of bench).meets new ch.samples) ch.over_latch ch)

-- keeps every run; keeps a run where the latest window meets the new level
abbrev keeping : Implementation
keeping = each (λ old new was ch. with_runs was.loss_run was.over_run ch)

abbrev lenient : Implementation
lenient = each (λ old new was ch. with_runs (cond ((loss_of bench).meets new ch.samples) was.loss_run 0)
    (cond ((over_of bench).meets new ch.samples) was.over_run 0) ch)

-- clears both runs of a channel where either level moved
abbrev clearing : Implementation
clearing = each (λ old new was ch.
    let same : Bool = (loss_of bench).same old new && (over_of bench).same old new in
    with_runs (cond same was.loss_run 0) (cond same was.over_run 0) ch)

-- a run that is broken starts with the latest window, judged by the new level
abbrev judging : Implementation
judging = each (λ old new was ch.
    with_runs ch.loss_run (cond ((over_of bench).same old new) ch.over_run (cond ((over_of bench).meets new ch.samples) 1 0)) ch)

-- restarts age; remembers on
abbrev rejuvenated : Implementation
rejuvenated = changing (λ was new r. with_age 0 r)

abbrev reminded : Implementation
reminded = changing (λ was new r. with_memory true r)

-- goes back to the levels of the works, all of them 1, at an accepted reset
abbrev restoring : Implementation
restoring = resetting (λ r mask.
    let a : RelayAnswer = reset_of r mask in
    let s : Relay = a.relay in
    cond {A = RelayAnswer} (eqb (reset_refused_by mask) 0)
    (record {
      relay = record { channels = s.channels; age = s.age; slot = s.slot; device_on = s.device_on; settings = ones };
      refusal = a.refusal;
    }) a)

-- takes no drop level above 8,192
abbrev narrow : Implementation
narrow =
    record {
      fresh = fresh_of;
      frame = frame_of;
      reset = reset_of;
      change = λ r new. cond (every 6 (λ c. leb (get_or new.drop c 0) 8192)) (change_of r new) (record { relay = r; refusal = 1 });
    }

-- ---- levels and lists

-- levels of 1 with a drop level of 2 on channel 0; with a pickup level of 2 on channel 3
abbrev dropped : Levels
dropped = record { drop = set (replicate 6 1) 0 2; pickup = replicate 3 1; restraint = replicate 3 0 }

abbrev picked : Levels
picked = record { drop = replicate 6 1; pickup = set (replicate 3 1) 0 2; restraint = replicate 3 0 }

abbrev highest : Levels
highest = (equal_levels 10700 1).levels

-- m = 400 is below the pickup levels of 401, and not below those of 400
abbrev pickups401 : Settings
pickups401 = equal_levels 1 401

abbrev struck : ℕ → List Call
struck n = cycle (612 ∷ replicate 7 512) n

-- frame 72 is counted; then the pickup levels are lowered, and frames 73 and 74 come
abbrev lowered : List Call
lowered = struck 73 ++ (change (equal_levels 1 400).levels ∷ frame (still 512) 127 ∷ frame (still 512) 127 ∷ [])

-- the pickup level of channel 3 is raised in the middle of a loss run
abbrev raised : List Call
raised = quiet 80 ++ (change picked ∷ quiet 8)

abbrev raised_events : List Event
raised_events = channel_history 3 raised

record Computed : Type 0 where
  taken : (change_refused_by dropped ≡ 0) × (change_refused_by picked ≡ 0) × (change_refused_by highest ≡ 0)
      × (change_refused_by (equal_levels 1 400).levels ≡ 0)
  unlatched : (loss_after unlatching ones (quiet 88) 0 ≡ true)
      × ((channel_at (unlatching.change (relay_after unlatching ones (quiet 88)) dropped).relay 0).loss_latch ≡ false)
  latched : (loss_after hasty ones [] 0 ≡ false)
      × ((channel_at (hasty.change (relay_after hasty ones []) dropped).relay 0).loss_latch ≡ true)
  -- 15 frames of a loss run, its level raised, and one frame more
  kept : (loss_after keeping ones (quiet 87 ++ (change dropped ∷ [])) 0 ≡ false)
      × (loss_after keeping ones ((quiet 87 ++ (change dropped ∷ [])) ++ (frame (still 512) 127 ∷ [])) 0 ≡ true)
  kept_met : (loss_after lenient ones (quiet 87 ++ (change dropped ∷ [])) 0 ≡ false)
      × (loss_after lenient ones ((quiet 87 ++ (change dropped ∷ [])) ++ (frame (still 512) 127 ∷ [])) 0 ≡ true)
  -- the loss latch of channel 3 after 16 counted frames with a change of its pickup in the middle
  cleared_run : loss_after clearing ones raised 3 ≡ false
  raised_frames : accepted_frames (quiet 80) ≡ 80
  raised_run : run_in (loss_of bench) (made_with ones 3) raised_events 16 72 ≡ true
  raised_met : every 16 (λ k. meets_in (loss_of bench) (made_with ones 3) raised_events (72 + k)) ≡ true
  raised_after : eqb (resets_before raised_events 72) (resets raised_events) ≡ true
  -- frame 72 was not over its pickup; the latch of channel 3 goes on in frame 75
  judged : (over_after judging pickups401 lowered 3 ≡ false) × (over_after judging pickups401 (lowered ++ (frame (still 512) 127 ∷ [])) 3 ≡ true)
  lowered_number : accepted_frames lowered ≡ 75
  unmet : (let es : List Event = channel_history 3 (lowered ++ (frame (still 512) 127 ∷ [])) in
      (over_of bench).meets (levels_at (made_with pickups401 3) es 72) (window_at es 72) ≡ false)
  aged : ((relay_after rejuvenated ones (quiet 1)).age ≡ 1) × ((rejuvenated.change (relay_after rejuvenated ones (quiet 1)) dropped).relay.age ≡ 0)
  remembered : ((relay_after reminded ones (frames512 0x3F 1)).device_on ≡ false)
      × ((reminded.change (relay_after reminded ones (frames512 0x3F 1)) dropped).relay.device_on ≡ true)
  restored : (get_or (relay_after restoring ones (change dropped ∷ [])).settings.levels.drop 0 0 ≡ 2)
      × (get_or (restoring.reset (relay_after restoring ones (change dropped ∷ [])) 0).relay.settings.levels.drop 0 0 ≡ 1)
  refused : (narrow.change (relay_after narrow ones []) highest).refusal ≡ 1
  accepted401 : AcceptedSettings pickups401

facts : Computed
unfolding computed
facts =
    record {
      taken = (refl, refl, refl, refl);
      unlatched = (refl, refl);
      latched = (refl, refl);
      kept = (refl, refl);
      kept_met = (refl, refl);
      cleared_run = refl;
      raised_frames = refl;
      raised_run = refl;
      raised_met = refl;
      raised_after = refl;
      judged = (refl, refl);
      lowered_number = refl;
      unmet = refl;
      aged = (refl, refl);
      remembered = (refl, refl);
      restored = (refl, refl);
      refused = refl;
      accepted401 = in_range pickups401 refl refl refl refl;
    }

-- ---- one relay of each kind, and a second where it has two sides

pub record ChangedOnes : Type 0 where
  pub latches_cleared : Wrong unlatching
  pub latched_at_once : Wrong hasty
  pub runs_kept : Wrong keeping
  pub runs_kept_where_met : Wrong lenient
  pub runs_cleared : Wrong clearing
  pub old_judged : Wrong judging
  pub age_restarted : Wrong rejuvenated
  pub memory_altered : Wrong reminded
  pub change_forgotten : Wrong restoring
  pub high_refused : Wrong narrow

-- an accepted change after these calls, every level 1 at first
abbrev at : (d : Implementation) (past : List Call) (new : Levels) → change_refused_by new ≡ 0 → Changing d
at d past new e = record { settings = ones; accepted = calls.lowest; past = past; new = new; taken = e }

pub changed_ones : ChangedOnes
changed_ones =
    record {
      latches_cleared = moves_latch (at unlatching (quiet 88) dropped facts.taken.0) the_loss_latch 0 (omega arith)
          (λ e. false≢true (sym facts.unlatched.1 ∙ e ∙ facts.unlatched.0));
      latched_at_once = moves_latch (at hasty [] dropped facts.taken.0) the_loss_latch 0 (omega arith)
          (λ e. false≢true (sym facts.latched.0 ∙ sym e ∙ facts.latched.1));
      runs_kept = keeps_changed (early keeping facts.kept.0 facts.kept.1) (lately keeping facts.kept.0 facts.kept.1);
      runs_kept_where_met = keeps_changed (early lenient facts.kept_met.0 facts.kept_met.1) (lately lenient facts.kept_met.0 facts.kept_met.1);
      runs_cleared = clears_run the_loss_latch (record {
        settings = ones;
        accepted = calls.lowest;
        before = quiet 80;
        new = picked;
        between = quiet 8;
        taken = facts.taken.1;
        channel = 3;
        is_channel = lit< tt;
        own = λ d. d refl;
        first = 72;
        begun = from_on facts.raised_frames (lit< tt);
        not_ended = up_to_lem facts.raised_frames (lit< tt);
        run = full_meeting (loss_of bench) (made_with ones 3) raised_events 72 facts.raised_run facts.raised_met facts.raised_after;
        off = λ t. subst T facts.cleared_run t;
      });
      old_judged = judges_old late 72 (record {
        up_to = from_on facts.lowered_number (lit≤ tt);
        in_run = up_to_lem facts.lowered_number (lit< tt);
        fails = λ t. subst T facts.unmet t;
      });
      age_restarted = ages_anew (at rejuvenated (quiet 1) dropped facts.taken.0) (λ e. absurd (omega (arith, e, facts.aged)));
      memory_altered = forgets_at_change (at reminded (frames512 0x3F 1) dropped facts.taken.0)
          (λ e. false≢true (sym facts.remembered.0 ∙ sym e ∙ facts.remembered.1));
      change_forgotten = forgets_change ones calls.lowest (change dropped ∷ []) 0 calls.ends_taken.0
          (λ e. absurd (omega (arith, ap (λ (s : Settings). get_or s.levels.drop 0 0) e, facts.restored)));
      high_refused = refuses_change (at narrow [] highest facts.taken.2) (λ e. absurd (omega (arith, e, facts.refused)));
    }
  where
    -- the loss latch of channel 0 goes on in the first frame after the change
    early : (d : Implementation) → loss_after d ones (quiet 87 ++ (change dropped ∷ [])) 0 ≡ false
        → loss_after d ones ((quiet 87 ++ (change dropped ∷ [])) ++ (frame (still 512) 127 ∷ [])) 0 ≡ true → GoesOn d
    early d was now = goes_on d (quiet 87 ++ (change dropped ∷ [])) 127 calls.middle_taken.0 was now

    lately : (d : Implementation) (was : loss_after d ones (quiet 87 ++ (change dropped ∷ [])) 0 ≡ false)
        (now : loss_after d ones ((quiet 87 ++ (change dropped ∷ [])) ++ (frame (still 512) 127 ∷ [])) 0 ≡ true)
        → ChangedLately (goes_on d (quiet 87 ++ (change dropped ∷ [])) 127 calls.middle_taken.0 was now)
    lately d was now =
        record {
          before = quiet 87;
          new = dropped;
          between = [];
          is_past = refl;
          accepted = facts.taken.0;
          another = λ e. absurd (omega arith);
          few = omega arith;
        }

    late : GoesOn judging
    late =
        record {
          settings = pickups401;
          accepted = facts.accepted401;
          past = lowered;
          codes = still 512;
          enable = 127;
          taken = calls.middle_taken.0;
          latch = the_over_latch;
          channel = 3;
          is_channel = lit< tt;
          was = λ t. subst T facts.judged.0 t;
          now = subst T (sym facts.judged.1) tt;
        }
