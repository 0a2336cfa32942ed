-- One channel and its own history: after each event its window is the history's, and each of its two latches is on exactly by the rule.
-- One argument serves both kinds of run, over the kind's length, test and own level, and so serves relays with other kinds (RestraintOnes). Rests on
-- Runs, Clock and History.
use Prim.Native.Nat.{ℕ, zero, suc, ◌+◌, ◌-◌, ◌≤◌, ◌<◌}
use native.Mathlib.Decide.{dec_le}
use native.Mathlib.Omega.{arith}
use mathlib.Core.Path.{◌≡◌, refl, sym, ap, ap₂, ◌∙◌, subst}
use mathlib.Core.Logic.{◌↔◌}
use mathlib.Core.Bool.{Bool, true, false, ◌&&◌, cond}
use mathlib.Core.List.{List, [], ◌∷◌}
use lib.IntN.{ℤ}
use lib.Dec.{T}
use lib.ListN.{length, set}
use mir.Facts.{and_yes, yes_and}
use Rattle.lists.specs.Each.{table}
use Rattle.relay.specs.declared.Channel.{Channel}
use Rattle.relay.specs.declared.ChannelLevels.{ChannelLevels}
use Rattle.relay.specs.Settings.{Kind}
use Rattle.relay.specs.Channel.{fresh_channel, cleared_of, run_after, next_run, next_latch, carried_run}
use Rattle.history.specs.History.{Input, Event, sampled, cleared, changed, inputs, frames, input_at, resets, resets_before}
use Rattle.history.specs.History.{levels_at, changes_before, window_of, window_at, Counted, Enabled, FullRun, FullRunMeeting, LatchOn}
use Rattle.history.specs.Demand.{Margins}
use Rattle.history.proofs.Clock.{Clock, fresh_clock, counted_by, ticked, bit6_in, ClockIs, clock_fresh, clock_other, clock_sampled}
use Rattle.history.proofs.Clock.{counted_is, counted_before}
use Rattle.history.proofs.Settling.{counted_on}
use Rattle.history.proofs.Tests.{holds}
use Rattle.history.proofs.Runs.{Streak, FullAt, Full, Kept, no_streak, no_full, full_kept, full_back, streak_kept, hit_streak, latch_frame}
use Rattle.history.proofs.History.{◌▷◌, frames_sampled, inputs_other, inputs_cleared, inputs_changed, input_append, input_last}
use Rattle.history.proofs.History.{resets_sampled, resets_cleared, resets_changed, before_append, before_last, before_le}
use Rattle.history.proofs.History.{levels_append, levels_sampled, changes_append, changes_le, changes_sampled, changes_past}
use Rattle.history.proofs.History.{changes_changed, window_append, window_other, window_sampled}

module _ (kind : Kind) (made : ChannelLevels) where
  -- frame n can stand in a full run that meets its level and lies after the last reset: it is counted, it is enabled, its window meets the level in
  -- force, and as many resets came before it as came at all
  abbrev pub Live : List Event → ℕ → Type 0
  Live es n =
      Counted es n × Enabled es n × T (kind.meets (levels_at made es n) (window_at es n)) × (resets_before es n ≡ resets es)

  -- how many changes of the run's own level came before frame n
  abbrev changes : List Event → ℕ → ℕ
  changes es n = changes_before kind made es n

  -- what a channel keeps of one kind of run
  pub record RunIs (es : List Event) (run : ℕ) (latch : Bool) : Type 0 where
    pub streak : Streak kind.len (frames es) run (Live es) (changes es)
    pub on : T latch ↔ Full kind.len (frames es) (Live es) (changes es)

  -- ---- the rule for a latch is a full run of such frames, with no change between them

  pub rule_full : (es : List Event) (j : ℕ) → FullRunMeeting kind made es j → FullAt kind.len (frames es) (Live es) (changes es) j
  rule_full es j m =
      let run : FullRun kind made es kind.len j = m.run in
      record {
        within = run.within;
        each = λ n a b. ((run.each n a b).counted, (run.each n a b).enabled, m.meets n a b, (run.each n a b).not_separated ∙ m.after_last_reset);
        linked = λ n a b. (run.each n a b).not_changed;
      }

  full_rule : 0 < kind.len → (es : List Event) (j : ℕ) → FullAt kind.len (frames es) (Live es) (changes es) j → FullRunMeeting kind made es j
  full_rule some es j f =
      let first : resets_before es j ≡ resets es = (f.each j (omega arith) (omega arith)).3 in
      record {
        run = record {
          within = f.within;
          each = λ n a b.
              let l : Live es n = f.each n a b in
              record { counted = l.0; enabled = l.1; not_separated = l.3 ∙ sym first; not_changed = f.linked n a b };
        };
        meets = λ n a b. (f.each n a b).2;
        after_last_reset = first;
      }

  latch_rule : 0 < kind.len → (es : List Event) (run : ℕ) (latch : Bool) → RunIs es run latch → T latch ↔ LatchOn kind made es
  latch_rule some es run latch r = (
    λ t. let f : Full kind.len (frames es) (Live es) (changes es) = r.on.0 t in (f.0, full_rule some es f.0 f.1),
    λ l. r.on.1 (l.0, rule_full es l.0 l.1),
  )

  -- ---- the start, and a reset: no frame is live

  run_none : 0 < kind.len → (es : List Event) → ((n : ℕ) → n < frames es → ¬ Live es n) → RunIs es 0 false
  run_none some es none =
      record {
        streak = no_streak kind.len (frames es) (Live es) (changes es) (λ n e b. absurd (none n (omega arith) b));
        on = (λ t. absurd t, no_full kind.len (frames es) (Live es) (changes es) some none);
      }

  pub run_fresh : 0 < kind.len → RunIs [] 0 false
  run_fresh some = run_none some [] (λ n h. absurd (omega arith))

  pub run_cleared : 0 < kind.len → (es : List Event) → RunIs (es ▷ cleared) 0 false
  run_cleared some es = run_none some (es ▷ cleared) none
    where
      none : (n : ℕ) → n < frames (es ▷ cleared) → ¬ Live (es ▷ cleared) n
      none n h b =
          let l : n < frames es = rw inputs_cleared at h in
          omega (arith, before_append es (cleared ∷ []) n l, b.3, resets_cleared es, before_le es n)

  -- ---- one event more that is no reset: the frames before it are live as they were, with the same changes before them

  live_more : (es : List Event) (e : Event) → ((n : ℕ) → n < frames es → Counted es n ↔ Counted (es ▷ e) n) → resets (es ▷ e) ≡ resets es
      → (n : ℕ) → n < frames es → Live es n ↔ Live (es ▷ e) n
  live_more es e counted same n h =
      let one : List Event = e ∷ [] in
      let c : Counted es n ↔ Counted (es ▷ e) n = counted n h in
      rw (input_append es one n h, window_append es one (suc n) h, levels_append made es one n h, before_append es one n h, same)
      (λ l. (c.0 l.0, l.1, l.2, l.3), λ l. (c.1 l.0, l.1, l.2, l.3))

  -- ---- new levels

  module _ (es : List Event) (new : ChannelLevels) where
    abbrev later : List Event
    later = es ▷ changed new

    counted_later : (n : ℕ) → n < frames es → Counted es n ↔ Counted later n
    counted_later n h = rw (inputs_changed es new) (λ c. c, λ c. c)

    kept_later : Kept (frames es) (Live es) (Live later) (changes es) (changes later)
    kept_later =
        record {
          same = live_more es (changed new) counted_later (resets_changed es new);
          links = changes_append kind made es (changed new ∷ []);
        }

    -- a run is kept where its own level is the same, else it is 0; the latch stays
    pub run_changed : (run : ℕ) (latch : Bool) → RunIs es run latch → RunIs later (carried_run (kind.same (levels_at made es (frames es)) new) run) latch
    run_changed run latch r =
        record {
          streak = rw (inputs_changed es new) (streak (kind.same (levels_at made es (frames es)) new) refl);
          on = rw (inputs_changed es new) on;
        }
      where
        all : (b : Bool) → kind.same (levels_at made es (frames es)) new ≡ b → changes later (frames es) ≡ changes es (frames es) + cond b 0 1
        all b q = changes_changed kind made es new ∙ ap (λ (b : Bool). changes es (frames es) + cond b 0 1) q

        streak : (b : Bool) → kind.same (levels_at made es (frames es)) new ≡ b
            → Streak kind.len (frames es) (cond b run 0) (Live later) (changes later)
        streak true q =
            streak_kept kind.len (frames es) (Live es) (Live later) (changes es) (changes later) kept_later run (all true q ∙ omega arith)
            r.streak
        streak false q =
            no_streak kind.len (frames es) (Live later) (changes later) (λ n e b l.
            omega (arith, l, all false q, changes_append kind made es (changed new ∷ []) n (omega arith), changes_le kind made es n))

        on : T latch ↔ Full kind.len (frames es) (Live later) (changes later)
        on = (
          λ t. let f = r.on.0 t in
              (f.0, full_kept kind.len (frames es) (Live es) (Live later) (changes es) (changes later) kept_later (frames es) f.0 (omega arith) f.1),
          λ f. r.on.1
              (f.0, full_back kind.len (frames es) (Live es) (Live later) (changes es) (changes later) kept_later (frames es) f.0 f.1.within f.1),
        )

  -- ---- a frame

  module _ (es : List Event) (i : Input) where
    abbrev next : List Event
    next = es ▷ sampled i

    -- the frames before it are live as they were
    pub live_same : (n : ℕ) → n < frames es → Live es n ↔ Live next n
    live_same = live_more es (sampled i) (counted_before es i) (resets_sampled es i)

    kept : Kept (frames es) (Live es) (Live next) (changes es) (changes next)
    kept = record { same = live_same; links = changes_append kind made es (sampled i ∷ []) }

    -- it is not live: nothing goes on
    miss : ¬ Live next (frames es) → Streak kind.len (suc (frames es)) 0 (Live next) (changes next)
    miss un =
        no_streak kind.len (suc (frames es)) (Live next) (changes next)
        (λ n e b. absurd (un (subst (Live next) (let q : n ≡ frames es = omega arith in q) b)))

    -- the run after it, by the two tests that settle it: the frame is counted, and it is enabled with a window that meets the level in force
    run_after_lem : (run : ℕ) (counted feeds : Bool) → (T counted ↔ Counted next (frames es))
        → (i.channel_bit && i.bit6 && kind.meets (levels_at made es (frames es)) (window_at next (frames es))) ≡ feeds
        → Streak kind.len (frames es) run (Live es) (changes es)
        → Streak kind.len (suc (frames es)) (run_after counted feeds kind.len run) (Live next) (changes next)
    run_after_lem run true true c r s =
        let both = and_yes (i.channel_bit && i.bit6) (kind.meets (levels_at made es (frames es)) (window_at next (frames es))) (holds _ r) in
        hit_streak kind.len (frames es) (Live es) (Live next) (changes es) (changes next) kept (changes_sampled kind made es i)
        (changes_past kind made es i) run s
        (c.0 tt, rw input_last both.0, rw levels_sampled both.1, before_last es i ∙ sym (resets_sampled es i))
    run_after_lem run true false c r s =
        miss (λ b. rw r at
        (yes_and (i.channel_bit && i.bit6) (kind.meets (levels_at made es (frames es)) (window_at next (frames es)))
        (rw input_last at b.1) (rw levels_sampled at b.2)))
    run_after_lem run false feeds c r s = rw (idle run s) (miss (λ b. c.1 b.0))
      where
        -- a run that is not 0 ends in a live frame, which is counted and has bit 6 on: the frame after it is no rise and is counted too
        idle : (run : ℕ) → Streak kind.len (frames es) run (Live es) (changes es) → run ≡ 0
        idle zero s = refl
        idle (suc run) s =
            let h : suc run ≤ frames es = s.room in
            let last : ℕ = frames es - 1 in
            let l : Live next last = (live_same last (omega arith)).0 (s.hits last (omega arith) (omega arith)) in
            absurd (c.1 (subst (Counted next) (let e : suc last ≡ frames es = omega arith in e)
            (counted_on (bit6_in next) last l.0 (and_yes (input_at next last).channel_bit (input_at next last).bit6 l.1).1)))

    pub run_sampled : 0 < kind.len → (run : ℕ) (latch counted : Bool) (levels : ChannelLevels) (window : List ℤ)
        → (T counted ↔ Counted next (frames es)) → levels ≡ levels_at made es (frames es) → window ≡ window_at next (frames es) → RunIs es run latch
        → RunIs next (next_run kind levels counted (i.channel_bit && i.bit6) window run)
        (next_latch kind (next_run kind levels counted (i.channel_bit && i.bit6) window run) latch)
    unfolding next_run
    run_sampled some run latch counted levels window c l w r =
        record {
          streak = rw frames_sampled streak;
          on = rw frames_sampled (latch_frame kind.len (frames es) (Live es) (Live next) (changes es) (changes next) kept
              (changes_sampled kind made es i) (changes_past kind made es i) _ latch some streak r.on);
        }
      where
        streak : Streak kind.len (suc (frames es)) (next_run kind levels counted (i.channel_bit && i.bit6) window run) (Live next) (changes next)
        streak = rw (l, w) (run_after_lem run counted _ c refl r.streak)

    -- a full run that meets its level and ends before the frame was one before it came
    pub earlier : 0 < kind.len → (j : ℕ) → j + kind.len ≤ frames es → FullRunMeeting kind made next j → FullRunMeeting kind made es j
    earlier some j early m =
        full_rule some es j
        (full_back kind.len (frames es) (Live es) (Live next) (changes es) (changes next) kept (frames next) j early (rule_full next j m))

    -- where the latch went on in the frame, a full run that meets its level ends there
    pub went_on : 0 < kind.len → ¬ LatchOn kind made es → LatchOn kind made next
        → (j : ℕ) × (j + kind.len ≡ frames next) × FullRunMeeting kind made next j
    went_on some off (j, m) = (j, ends (dec_le (j + kind.len) (frames es)), m)
      where
        ends : Dec (j + kind.len ≤ frames es) → j + kind.len ≡ frames next
        ends (yes early) = absurd (off (j, earlier some j early m))
        ends (no late) = omega (arith, frames_sampled es i, m.run.within)

    -- a full run that ends at the frame lies after the last reset
    ends_here : 0 < kind.len → (j : ℕ) → j + kind.len ≡ frames next → FullRun kind made next kind.len j → resets_before next j ≡ resets next
    ends_here some j e r =
        let f : frames next ≡ suc (frames es) = frames_sampled es i in
        sym (r.each (frames es) (omega arith) (omega arith)).not_separated ∙ before_last es i ∙ sym (resets_sampled es i)

    -- the clauses on Z, where the level is met if Surely holds, and only if Possibly does
    pub margins : 0 < kind.len → (Surely Possibly : ChannelLevels → List ℤ → Type 0)
        → ((n : ℕ) → Surely (levels_at made next n) (window_at next n) → T (kind.meets (levels_at made next n) (window_at next n)))
        → ((n : ℕ) → T (kind.meets (levels_at made next n) (window_at next n)) → Possibly (levels_at made next n) (window_at next n))
        → {was now : Bool} → (T was ↔ LatchOn kind made es) → (T now ↔ LatchOn kind made next)
        → Margins kind made Surely Possibly next was now
    margins some Surely Possibly met near old rule =
        record {
          clear_margin = λ j e full each. rule.1
              (j, record { run = full; meets = λ n a b. met n (each n a b); after_last_reset = ends_here some j e full });
          near_margin = λ off on.
              let t = went_on some (λ l. off (old.1 l)) (rule.0 on) in
              (t.0, t.1, t.2.run, λ n a b. near n (t.2.meets n a b));
        }

-- ---- a channel: its window and its two kinds of run, whatever these are, and the clock by which the next frame goes

module _ (loss_kind over_kind : Kind) where
  -- steps 1 to 4 of a frame, with these kinds of run; and new levels
  abbrev pub channel_by : ChannelLevels → ℕ → Bool → Bool → ℤ → Channel → Channel
  channel_by levels slot counted enabled sample ch =
      let window : List ℤ = set ch.samples slot sample in
      let loss_count : ℕ = next_run loss_kind levels counted enabled window ch.loss_run in
      let over_count : ℕ = next_run over_kind levels counted enabled window ch.over_run in
      record {
        samples = window;
        loss_run = loss_count;
        over_run = over_count;
        loss_latch = next_latch loss_kind loss_count ch.loss_latch;
        over_latch = next_latch over_kind over_count ch.over_latch;
      }

  abbrev pub carried_by : ChannelLevels → ChannelLevels → Channel → Channel
  carried_by old new ch =
      record {
        samples = ch.samples;
        loss_run = carried_run (loss_kind.same old new) ch.loss_run;
        over_run = carried_run (over_kind.same old new) ch.over_run;
        loss_latch = ch.loss_latch;
        over_latch = ch.over_latch;
      }

  pub record ChannelIs (made : ChannelLevels) (es : List Event) (t : Clock) (ch : Channel) : Type 0 where
    pub samples : ch.samples ≡ window_of es (frames es)
    pub loss_run : RunIs loss_kind made es ch.loss_run ch.loss_latch
    pub over_run : RunIs over_kind made es ch.over_run ch.over_latch
    pub clock : ClockIs es t

-- an event that is no frame leaves the window
pub samples_other : (es : List Event) (e : Event) → inputs (e ∷ []) ≡ [] → (samples : List ℤ) → samples ≡ window_of es (frames es)
    → samples ≡ window_of (es ▷ e) (frames (es ▷ e))
samples_other es e none samples s =
    s ∙ sym (window_other es e none (frames es)) ∙ ap (λ (l : List Input). window_of (es ▷ e) (length l)) (sym (inputs_other es e none))

-- its latches go by the rule
module _ (loss_kind over_kind : Kind) (loss_some : 0 < loss_kind.len) (over_some : 0 < over_kind.len) (made : ChannelLevels) where
  module _ {es : List Event} {t : Clock} {ch : Channel} (v : ChannelIs loss_kind over_kind made es t ch) where
    pub loss_rule : T ch.loss_latch ↔ LatchOn loss_kind made es
    loss_rule = latch_rule loss_kind made loss_some es ch.loss_run ch.loss_latch v.loss_run

    pub over_rule : T ch.over_latch ↔ LatchOn over_kind made es
    over_rule = latch_rule over_kind made over_some es ch.over_run ch.over_latch v.over_run

  pub channel_fresh : ChannelIs loss_kind over_kind made [] fresh_clock fresh_channel
  unfolding fresh_channel window_of table
  channel_fresh =
      record {
        samples = refl;
        loss_run = run_fresh loss_kind made loss_some;
        over_run = run_fresh over_kind made over_some;
        clock = clock_fresh;
      }

  module _ (es : List Event) (t : Clock) (ch : Channel) (v : ChannelIs loss_kind over_kind made es t ch) where
    pub channel_cleared : ChannelIs loss_kind over_kind made (es ▷ cleared) t (cleared_of ch)
    channel_cleared =
        record {
          samples = samples_other es cleared refl ch.samples v.samples;
          loss_run = run_cleared loss_kind made loss_some es;
          over_run = run_cleared over_kind made over_some es;
          clock = clock_other es cleared refl t v.clock;
        }

    -- new levels, where the old ones are those in force
    pub channel_changed : (old new : ChannelLevels) → old ≡ levels_at made es (frames es)
        → ChannelIs loss_kind over_kind made (es ▷ changed new) t (carried_by loss_kind over_kind old new ch)
    channel_changed old new e =
        rw e (record {
          samples = samples_other es (changed new) refl ch.samples v.samples;
          loss_run = run_changed loss_kind made es new ch.loss_run ch.loss_latch v.loss_run;
          over_run = run_changed over_kind made es new ch.over_run ch.over_latch v.over_run;
          clock = clock_other es (changed new) refl t v.clock;
        })

    pub channel_sampled : (levels : ChannelLevels) → levels ≡ levels_at made es (frames es) → (i : Input)
        → ChannelIs loss_kind over_kind made (es ▷ sampled i) (ticked t i.bit6)
        (channel_by loss_kind over_kind levels t.slot (counted_by t i.bit6) (i.channel_bit && i.bit6) i.sample ch)
    channel_sampled levels l i =
        record {
          samples = window ∙ rw frames_sampled;
          loss_run = run_sampled loss_kind made es i loss_some ch.loss_run ch.loss_latch (counted_by t i.bit6) levels _ counted l window
              v.loss_run;
          over_run = run_sampled over_kind made es i over_some ch.over_run ch.over_latch (counted_by t i.bit6) levels _ counted l window
              v.over_run;
          clock = clock_sampled es i t v.clock;
        }
      where
        counted : T (counted_by t i.bit6) ↔ Counted (es ▷ sampled i) (frames es)
        counted = counted_is es i t v.clock

        window : set ch.samples t.slot i.sample ≡ window_at (es ▷ sampled i) (frames es)
        window = ap₂ (λ (w : List ℤ) (k : ℕ). set w k i.sample) v.samples v.clock.placed ∙ window_sampled es i
