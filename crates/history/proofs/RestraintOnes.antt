-- There are relays that restrain wrongly in the ways that `Wrong` says: ours, with one thing changed in what an accepted frame makes of a channel.
-- Five of them have another kind of run, so that what is proved of a channel for any kinds says when their latches are on; in the sixth a restrained
-- frame leaves the run as it was. Lists from accepted settings hold no unsound relay, so these look at no soundness; and lists in which levels are
-- changed need not be looked at. Rests on Channel.
use Prim.Native.Nat.{ℕ, zero, suc, ◌+◌, ◌-◌, ◌%◌, ◌≤◌, ◌<◌, min}
use native.Mathlib.Decide.{ℕ_discrete}
use native.Mathlib.Omega.{arith}
use mathlib.Core.Path.{◌≡◌, refl, sym, ap, ap₂, ◌∙◌, subst}
use mathlib.Core.Bool.{Bool, true, false, ◌&&◌, ◌||◌, not, cond, false≢true}
use mathlib.Core.List.{List, [], ◌∷◌, ◌++◌, append-nil, append_assoc}
use mathlib.Core.Logic.{◌↔◌}
use lib.IntN.{ℤ}
use lib.Dec.{T, leb, eqb, lit<, le→leb}
use lib.ListN.{get_or, set, replicate}
use borrow.Author.Tests.{ne_eqb, le-leb}
use mir.Facts.{yes_and}
use Rattle.lists.specs.Each.{table}
use Rattle.lists.proofs.Each.{get_d_table}
use Rattle.frames.specs.Codes.{sample_of}
use Rattle.frames.specs.Bits.{bit_of, bits_below, enabled_in}
use Rattle.phasor.specs.Cordic.{amplitude_of}
use Rattle.relay.specs.declared.Channel.{Channel}
use Rattle.relay.specs.declared.ChannelLevels.{ChannelLevels}
use Rattle.relay.specs.declared.Settings.{Settings}
use Rattle.relay.specs.declared.Relay.{Relay}
use Rattle.relay.specs.declared.FrameAnswer.{FrameAnswer}
use Rattle.relay.specs.declared.RelayAnswer.{RelayAnswer}
use Rattle.relay.specs.Settings.{Kind}
use Rattle.relay.specs.Channel.{no_channel, fresh_channel, cleared_of, run_after, next_run, next_latch, latch_on}
use Rattle.relay.specs.Relay.{channel_at, unused_relay, fresh_relay, fresh_of, age_found, counted, age_after, slot_after, amplitude_in}
use Rattle.relay.specs.Relay.{reset_channel, accepted_reset, change_of}
use Rattle.relay.proofs.Laws.{fresh_is, fresh_channel_lem, reset_channel_lem}
use Rattle.history.specs.Calls.{Codes, Call, frame, reset, change, frame_refused_by, reset_refused_by, refusal_of, Implementation, handed_back, after}
use Rattle.history.specs.History.{Input, Event, sampled, cleared, changed, channel_history, frames, levels_at, changes_before, window_of, window_at}
use Rattle.history.specs.History.{Counted, InEach, InRun, LatchOn}
use Rattle.history.specs.Demand.{harmonic_test, loss_of, over_of, made_with, relay_after, loss_after, over_after, AcceptedSettings}
use Rattle.history.specs.WrongRelays.{no_change, run_of_windows, TripsBy, over_pickup, over_by, over_at_most, over_by_third, KeepsRun, loss_tested, RestrainsLoss, Wrong}
use Rattle.history.specs.WrongRelays.{ignores_restraint, not_strict, third_harmonic, keeps_run, restrains_loss, anothers_restraint}
use Rattle.history.proofs.Accepted.{settings_sound_lem}
use Rattle.history.proofs.History.{◌▷◌, frames_sampled, inputs_cleared, input_last, resets_cleared}
use Rattle.history.proofs.History.{before_append, before_le, window_sampled}
use Rattle.history.proofs.Clock.{Clock, clock_of, fresh_clock, counted_by, ticked, ClockIs, clock_fresh, clock_other, clock_sampled, counted_is}
use Rattle.history.proofs.Channel.{Live, live_same, ChannelIs, channel_by, loss_rule, over_rule}
use Rattle.history.proofs.Channel.{samples_other, channel_fresh, channel_cleared, channel_sampled}
use Rattle.history.proofs.Relay.{history_frame, history_reset, history_refused}
use Rattle.history.proofs.Tests.{is_true}

-- ---- ours, with what an accepted frame makes of a channel changed

-- what a frame makes of channel c of a relay, from its settings, slot, whether the frame is counted, whether the channel is enabled, and its code
abbrev Making : Type 0
Making = Settings → ℕ → ℕ → Bool → Bool → ℕ → Channel → Channel

module _ (make : Making) where
  abbrev made_at : Relay → List ℕ → ℕ → ℕ → Channel
  made_at r codes enable c = make r.settings c r.slot (counted r enable) (enabled_in enable c) (get_or codes c 0) (channel_at r c)

  abbrev framed : Relay → List ℕ → ℕ → FrameAnswer
  framed r codes enable =
      record {
        relay = record {
          channels = table 6 (made_at r codes enable);
          age = age_after (age_found r enable);
          slot = slot_after r.slot;
          device_on = bit_of enable 6;
          settings = r.settings;
        };
        refusal = 0;
        amplitudes = table 6 (amplitude_in r.slot codes r.channels);
        output = bits_below 6 (λ c. latch_on (made_at r codes enable c) && enabled_in enable c);
      }

  abbrev pub making : Implementation
  making =
      record {
        fresh = fresh_of;
        frame = λ r codes enable. cond {A = FrameAnswer} (eqb (frame_refused_by codes enable) 0) (framed r codes enable)
            (record { relay = r; refusal = frame_refused_by codes enable; amplitudes = replicate 6 0; output = 0 });
        reset = λ r mask. cond {A = RelayAnswer} (eqb (reset_refused_by mask) 0) (accepted_reset r mask)
            (record { relay = r; refusal = reset_refused_by mask });
        change = change_of;
      }

  -- ---- a claim about each channel, its history of the calls and the clock, that each call keeps

  module _ (settings : Settings) (ok : AcceptedSettings settings) (Holds : ℕ → List Event → Clock → Channel → Type 0)
      (at_fresh : (c : ℕ) → Holds c [] fresh_clock fresh_channel)
      (at_frame : (c : ℕ) (es : List Event) (t : Clock) (code : ℕ) (channel_bit bit6 : Bool) (ch : Channel) → Holds c es t ch
      → Holds c (es ▷ sampled (record { sample = sample_of code; channel_bit = channel_bit; bit6 = bit6 })) (ticked t bit6)
      (make settings c t.slot (counted_by t bit6) (channel_bit && bit6) code ch))
      (at_reset : (c : ℕ) (es : List Event) (t : Clock) (ch : Channel) → Holds c es t ch → Holds c (es ▷ cleared) t (cleared_of ch))
    where
      pub record Is (calls : List Call) (r : Relay) : Type 0 where
        pub channel : (c : ℕ) → c < 6 → Holds c (channel_history c calls) (clock_of r) (channel_at r c)
        pub held : r.settings ≡ settings

      fresh_so : Is [] (fresh_relay settings)
      unfolding unused_relay
      fresh_so = record { channel = λ c h. rw (fresh_channel_lem settings c h) (at_fresh c); held = refl }

      frame_so : (calls : List Call) (r : Relay) (codes : Codes) (enable : ℕ) → frame_refused_by codes.list enable ≡ 0 → Is calls r
          → Is (calls ++ (frame codes enable ∷ [])) (framed r codes.list enable).relay
      frame_so calls r codes enable e v =
          record {
            channel = λ c h. rw (get_d_table 6 (made_at r codes.list enable) no_channel c h, history_frame c calls codes enable e, v.held)
                (at_frame c (channel_history c calls) (clock_of r) (get_or codes.list c 0) (bit_of enable c) (bit_of enable 6) (channel_at r c)
                (v.channel c h));
            held = v.held;
          }

      reset_so : (calls : List Call) (r : Relay) (mask : ℕ) → reset_refused_by mask ≡ 0 → Is calls r
          → Is (calls ++ (reset mask ∷ [])) (accepted_reset r mask).relay
      unfolding accepted_reset reset_channel
      reset_so calls r mask e v =
          record {
            channel = λ c h. rw (reset_channel_lem r mask c h, history_reset c calls mask e) (named c (bit_of mask c) (v.channel c h));
            held = v.held;
          }
        where
          named : (c : ℕ) (b : Bool) → Holds c (channel_history c calls) (clock_of r) (channel_at r c)
              → Holds c (channel_history c calls ++ cond b (cleared ∷ []) []) (clock_of r) (cond b (cleared_of (channel_at r c)) (channel_at r c))
          named c true w = at_reset c (channel_history c calls) (clock_of r) (channel_at r c) w
          named c false w = rw append-nil w

      call_so : (calls : List Call) (r : Relay) (call : Call) → no_change (call ∷ []) ≡ true → Dec (refusal_of call ≡ 0) → Is calls r
          → Is (calls ++ (call ∷ [])) (handed_back making r call)
      call_so calls r (frame codes enable) q (yes e) v = rw (handed_back, e) (frame_so calls r codes enable e v)
      call_so calls r (frame codes enable) q (no e) v = rw (handed_back, ne_eqb (frame_refused_by codes.list enable) 0 e)
          (record { channel = λ c h. rw (history_refused c calls (frame codes enable) e) (v.channel c h); held = v.held })
      call_so calls r (reset mask) q (yes e) v = rw (handed_back, e) (reset_so calls r mask e v)
      call_so calls r (reset mask) q (no e) v = rw (handed_back, ne_eqb (reset_refused_by mask) 0 e)
          (record { channel = λ c h. rw (history_refused c calls (reset mask) e) (v.channel c h); held = v.held })
      call_so calls r (change new) q e v = absurd (false≢true q)

      -- neither the first call is a change, nor one after it
      both : (call : Call) (calls : List Call) → no_change (call ∷ calls) ≡ true → (no_change (call ∷ []) ≡ true) × (no_change calls ≡ true)
      both (frame codes enable) calls q = (refl, q)
      both (reset mask) calls q = (refl, q)
      both (change new) calls q = absurd (false≢true q)

      from : (past calls : List Call) (r : Relay) → no_change calls ≡ true → Is past r → Is (past ++ calls) (after making r calls)
      from past [] r q v = rw append-nil v
      from past (call ∷ calls) r q v =
          rw (← append_assoc past (call ∷ []) calls)
          (from (past ++ (call ∷ [])) calls (handed_back making r call) (both call calls q).1
          (call_so past r call (both call calls q).0 (ℕ_discrete (refusal_of call) 0) v))

      pub making_is : (calls : List Call) → no_change calls ≡ true → Is calls (relay_after making settings calls)
      making_is calls q = rw (fresh_is settings (settings_sound_lem settings ok)) (from [] calls (fresh_relay settings) q fresh_so)

-- ---- other tests of a window

-- a test for each channel, from the settings
abbrev Tests : Type 0
Tests = Settings → ℕ → List ℤ → Bool

abbrev loss_by : Tests → Settings → ℕ → Kind
loss_by test settings c = run_of_windows 16 (test settings c)

abbrev over_by4 : Tests → Settings → ℕ → Kind
over_by4 test settings c = run_of_windows 4 (test settings c)

abbrev with_tests : Tests → Tests → Making
with_tests loss_test over_test settings c slot counted enabled code =
    channel_by (loss_by loss_test settings c) (over_by4 over_test settings c) (made_with settings c) slot counted enabled (sample_of code)

module _ (loss_test over_test : Tests) (settings : Settings) (ok : AcceptedSettings settings) (calls : List Call) (none : no_change calls ≡ true) where
  abbrev d : Implementation
  d = making (with_tests loss_test over_test)

  abbrev Holds : ℕ → List Event → Clock → Channel → Type 0
  Holds c = ChannelIs (loss_by loss_test settings c) (over_by4 over_test settings c) (made_with settings c)

  -- these tests look at no levels, so that those in force are as good as those made with
  at_frame : (c : ℕ) (es : List Event) (t : Clock) (code : ℕ) (channel_bit bit6 : Bool) (ch : Channel) → Holds c es t ch
      → Holds c (es ▷ sampled (record { sample = sample_of code; channel_bit = channel_bit; bit6 = bit6 })) (ticked t bit6)
      (with_tests loss_test over_test settings c t.slot (counted_by t bit6) (channel_bit && bit6) code ch)
  unfolding next_run
  at_frame c es t code channel_bit bit6 ch v =
      channel_sampled (loss_by loss_test settings c) (over_by4 over_test settings c) (lit< tt) (lit< tt) (made_with settings c) es t ch v
      (levels_at (made_with settings c) es (frames es)) refl (record { sample = sample_of code; channel_bit = channel_bit; bit6 = bit6 })

  channel_is : (c : ℕ) → c < 6 → Holds c (channel_history c calls) (clock_of (relay_after d settings calls)) (channel_at (relay_after d settings calls) c)
  channel_is =
      (making_is (with_tests loss_test over_test) settings ok Holds
      (λ c. channel_fresh (loss_by loss_test settings c) (over_by4 over_test settings c) (lit< tt) (lit< tt) (made_with settings c)) at_frame
      (λ c. channel_cleared (loss_by loss_test settings c) (over_by4 over_test settings c) (lit< tt) (lit< tt) (made_with settings c)) calls none).channel

  -- their latches go by the rule with these tests
  loss_on_lem : (c : ℕ) → c < 6 → T (loss_after d settings calls c) ↔ LatchOn (loss_by loss_test settings c) (made_with settings c) (channel_history c calls)
  loss_on_lem c h = loss_rule _ _ (lit< tt) (lit< tt) (made_with settings c) (channel_is c h)

  over_on_lem : (c : ℕ) → c < 6 → T (over_after d settings calls c) ↔ LatchOn (over_by4 over_test settings c) (made_with settings c) (channel_history c calls)
  over_on_lem c h = over_rule _ _ (lit< tt) (lit< tt) (made_with settings c) (channel_is c h)

-- a latch by one test is a latch by another that holds where the first does
widened : (len : ℕ) (p q : List ℤ → Bool) (made : ChannelLevels) (es : List Event) → ((w : List ℤ) → T (p w) → T (q w))
    → LatchOn (run_of_windows len p) made es → LatchOn (run_of_windows len q) made es
widened len p q made es f (j, m) = (
  j,
  record {
    run = record {
      within = m.run.within;
      each = λ n a b.
          let r : InRun (run_of_windows len p) made es j n = m.run.each n a b in
          record { counted = r.counted; enabled = r.enabled; not_separated = r.not_separated; not_changed = same n ∙ r.not_changed ∙ sym (same j) };
    };
    meets = λ n a b. f _ (m.meets n a b);
    after_last_reset = m.after_last_reset;
  },
)
  where
    -- both count the same changes
    counts : (made : ChannelLevels) (es : List Event) (n : ℕ)
        → changes_before (run_of_windows len q) made es n ≡ changes_before (run_of_windows len p) made es n
    counts made [] n = refl
    counts made (sampled i ∷ es) zero = refl
    counts made (sampled i ∷ es) (suc n) = counts made es n
    counts made (cleared ∷ es) n = counts made es n
    counts made (changed new ∷ es) n = counts new es n

    same : (n : ℕ) → changes_before (run_of_windows len q) made es n ≡ changes_before (run_of_windows len p) made es n
    same n = counts made es n

-- channel k + 3 is current k
back : (k : ℕ) → k ≡ k + 3 - 3
back k = omega arith

-- an over run by another test of current k; a voltage has none
abbrev over_tested : (ℕ → Settings → List ℤ → Bool) → Tests
over_tested test settings c w = leb 3 c && test (c - 3) settings w

-- the demand's own tests, under the levels made with
abbrev loss_own : Tests
loss_own settings c w = (loss_of settings.lengths).meets (made_with settings c) w

abbrev over_own : Tests
over_own settings c w = (over_of settings.lengths).meets (made_with settings c) w

abbrev tested : (ℕ → Settings → List ℤ → Bool) → Implementation
tested test = making (with_tests loss_own (over_tested test))

tested_trips : (test : ℕ → Settings → List ℤ → Bool) (k : ℕ) → k < 3 → TripsBy (tested test) (k + 3) (test k)
tested_trips test k h settings ok calls none on =
    (over_on_lem loss_own (over_tested test) settings ok.accepted calls none (k + 3) (omega arith)).1
    (widened 4 (test k settings) (over_tested test settings (k + 3)) (made_with settings (k + 3)) (channel_history (k + 3) calls)
    (λ w t. yes_and (leb 3 (k + 3)) _ (le→leb 3 (k + 3) (omega arith)) (subst (λ (m : ℕ). T (test m settings w)) (back k) t)) on)

-- the loss run under restraint too
abbrev loss_restrained : Tests
loss_restrained settings c w = loss_own settings c w && harmonic_test (made_with settings c).restraint w

abbrev loss_too : Implementation
loss_too = making (with_tests loss_restrained over_own)

restraint_of : (settings : Settings) (k : ℕ) → (made_with settings (k + 3)).restraint ≡ get_or settings.levels.restraint k 0
restraint_of settings k = rw (le-leb 3 (k + 3) (omega arith)) (ap (λ (m : ℕ). get_or settings.levels.restraint m 0) (sym (back k)))

loss_too_lem : (k : ℕ) → k < 3 → RestrainsLoss loss_too k
loss_too_lem k h settings ok calls none on =
    widened 16 (loss_restrained settings (k + 3)) ((loss_tested settings k).meets (made_with settings (k + 3))) (made_with settings (k + 3))
    (channel_history (k + 3) calls)
    (λ w t. subst (λ (r : ℕ). T (loss_own settings (k + 3) w && harmonic_test r w)) (restraint_of settings k) t)
    ((loss_on_lem loss_restrained over_own settings ok.accepted calls none (k + 3) (omega arith)).0 on)

-- ---- a restrained frame leaves the run as it was

-- m ≥ pickup, and the test does not hold
abbrev held_back : Settings → ℕ → List ℤ → Bool
held_back settings c w = leb 3 c && (leb (made_with settings c).pickup (amplitude_of 1 w) && not (harmonic_test (made_with settings c).restraint w))

abbrev keeps : Making
keeps settings c slot counted enabled code ch =
    let made : Channel = with_tests loss_own over_own settings c slot counted enabled code ch in
    record {
      samples = made.samples;
      loss_run = made.loss_run;
      over_run = cond (counted && (enabled && held_back settings c made.samples)) ch.over_run made.over_run;
      loss_latch = made.loss_latch;
      over_latch = made.over_latch;
    }

-- a window that feeds is not held back
apart : (x a t : Bool) → x && (a && t) ≡ true → x && (a && not t) ≡ false
apart true true true e = refl
apart true true false e = absurd (false≢true e)
apart true false t e = refl
apart false a t e = refl

-- a run at 4 turns the latch on
latched : (latch : Bool) (run : ℕ) → run ≡ 4 → T (latch || eqb run 4)
latched true run e = tt
latched false run e = subst (λ (n : ℕ). T (eqb n 4)) (sym e) tt

four : (run : ℕ) → 3 ≤ run → min 4 (suc run) ≡ 4
four run h = omega arith

-- A channel of it: frames that feed (F) and frames that are held back (H), each of which can stand in a full run after the last reset. The run is
-- at least as long as the frames that fed at the end (at most 4), also where one more frame then was held back; and after three frames that fed,
-- one held back and one that fed the latch is on.
module _ (settings : Settings) (c : ℕ) where
  abbrev F : Kind
  F = over_by4 over_own settings c

  abbrev H : Kind
  H = run_of_windows 4 (held_back settings c)

  -- of the levels, which these tests do not look at
  abbrev M : ChannelLevels
  M = made_with settings c

  record Kept (es : List Event) (t : Clock) (ch : Channel) : Type 0 where
    samples : ch.samples ≡ window_of es (frames es)
    clock : ClockIs es t
    fed : (i : ℕ) → i ≤ frames es → InEach (frames es - i) i (Live F M es) → min 4 i ≤ ch.over_run
    held : (i last : ℕ) → suc last ≡ frames es → i ≤ last → InEach (last - i) i (Live F M es) → Live H M es last → min 4 i ≤ ch.over_run
    on : (j : ℕ) → j + 5 ≡ frames es → InEach j 3 (Live F M es) → Live H M es (j + 3) → Live F M es (j + 4) → T ch.over_latch

  -- the start, and a reset: no frame is live
  none_kept : (es : List Event) (t : Clock) (ch : Channel) → ch.samples ≡ window_of es (frames es) → ClockIs es t
      → ((kind : Kind) (n : ℕ) → n < frames es → ¬ Live kind M es n) → Kept es t ch
  none_kept es t ch s clock none =
      record {
        samples = s;
        clock = clock;
        fed = empty;
        held = λ i last e l f h. absurd (none H last (omega arith) h);
        on = λ j e f h g. absurd (none H (j + 3) (omega arith) h);
      }
    where
      empty : (i : ℕ) → i ≤ frames es → InEach (frames es - i) i (Live F M es) → min 4 i ≤ ch.over_run
      empty zero l f = omega arith
      empty (suc i) l f = absurd (none F (frames es - suc i) (omega arith) (f (frames es - suc i) (omega arith) (omega arith)))

  kept_fresh : Kept [] fresh_clock fresh_channel
  unfolding fresh_channel window_of table
  kept_fresh = none_kept [] fresh_clock fresh_channel refl clock_fresh (λ kind n h. absurd (omega arith))

  kept_cleared : (es : List Event) (t : Clock) (ch : Channel) → Kept es t ch → Kept (es ▷ cleared) t (cleared_of ch)
  kept_cleared es t ch v =
      none_kept (es ▷ cleared) t (cleared_of ch) (samples_other es cleared refl ch.samples v.samples) (clock_other es cleared refl t v.clock)
      none
    where
      none : (kind : Kind) (n : ℕ) → n < frames (es ▷ cleared) → ¬ Live kind M (es ▷ cleared) n
      none kind n h b =
          let l : n < frames es = rw inputs_cleared at h in
          omega (arith, before_append es (cleared ∷ []) n l, b.3, resets_cleared es, before_le es n)

  -- ---- a frame
  module _ (es : List Event) (i : Input) (is_counted : Bool) (e : T is_counted ↔ Counted (es ▷ sampled i) (frames es)) (w : List ℤ)
      (q : w ≡ window_at (es ▷ sampled i) (frames es)) where
    abbrev next : List Event
    next = es ▷ sampled i

    abbrev enabled : Bool
    enabled = i.channel_bit && i.bit6

    abbrev ran : ℕ → ℕ
    ran run = cond (is_counted && (enabled && held_back settings c w)) run (run_after is_counted (enabled && over_own settings c w) 4 run)

    is_counted_lem : (kind : Kind) → Live kind M next (frames es) → is_counted ≡ true
    is_counted_lem kind l = is_true is_counted (e.1 l.0)

    is_enabled : (kind : Kind) → Live kind M next (frames es) → enabled ≡ true
    is_enabled kind l = is_true enabled (rw input_last at l.1)

    is_met : (test : List ℤ → Bool) → Live (run_of_windows 4 test) M next (frames es) → test w ≡ true
    is_met test l = is_true (test w) (subst (λ (v : List ℤ). T (test v)) (sym q) l.2)

    grows : (run : ℕ) → Live F M next (frames es) → run_after is_counted (enabled && over_own settings c w) 4 run ≡ min 4 (suc run)
    grows run l = rw (is_counted_lem F l, is_enabled F l, is_met (over_own settings c) l)

    fed_run : (run : ℕ) → Live F M next (frames es) → ran run ≡ min 4 (suc run)
    fed_run run l =
        rw (
          is_counted_lem F l,
          is_enabled F l,
          is_met (over_own settings c) l,
          apart (leb 3 c) (leb (made_with settings c).pickup (amplitude_of 1 w))
              (harmonic_test (made_with settings c).restraint w) (is_met (over_own settings c) l),
        )

    held_run : (run : ℕ) → Live H M next (frames es) → ran run ≡ run
    held_run run l = rw (is_counted_lem H l, is_enabled H l, is_met (held_back settings c) l)

    before : (kind : Kind) (n : ℕ) → n < frames es → Live kind M next n → Live kind M es n
    before kind n h = (live_same kind M es i n h).1

  kept_sampled : (es : List Event) (t : Clock) (code : ℕ) (channel_bit bit6 : Bool) (ch : Channel) → Kept es t ch
      → Kept (es ▷ sampled (record { sample = sample_of code; channel_bit = channel_bit; bit6 = bit6 })) (ticked t bit6)
      (keeps settings c t.slot (counted_by t bit6) (channel_bit && bit6) code ch)
  unfolding next_run
  kept_sampled es t code channel_bit bit6 ch v =
      record {
        samples = window ∙ rw frames_sampled;
        clock = clock_sampled es ev t v.clock;
        fed = rw frames_sampled fed;
        held = rw frames_sampled held;
        on = rw frames_sampled on;
      }
    where
      ev : Input
      ev = record { sample = sample_of code; channel_bit = channel_bit; bit6 = bit6 }

      n : ℕ
      n = frames es

      run : ℕ
      run = ch.over_run

      w : List ℤ
      w = set ch.samples t.slot (sample_of code)

      window : w ≡ window_at (es ▷ sampled ev) (frames es)
      window = ap₂ (λ (u : List ℤ) (k : ℕ). set u k (sample_of code)) v.samples v.clock.placed ∙ window_sampled es ev

      counts : T (counted_by t bit6) ↔ Counted (es ▷ sampled ev) (frames es)
      counts = counted_is es ev t v.clock

      run' : ℕ
      run' = ran es ev (counted_by t bit6) counts w window run

      fed : (i : ℕ) → i ≤ suc n → InEach (suc n - i) i (Live F M (es ▷ sampled ev)) → min 4 i ≤ run'
      fed zero l f = omega arith
      fed (suc i) l f =
          let old : min 4 i ≤ run = v.fed i (omega arith)
          (λ m a b. before es ev (counted_by t bit6) counts w window F m (omega arith) (f m (omega arith) (omega arith))) in
          omega (arith, fed_run es ev (counted_by t bit6) counts w window run (f n (omega arith) (omega arith)))

      held : (i last : ℕ) → suc last ≡ suc n → i ≤ last → InEach (last - i) i (Live F M (es ▷ sampled ev)) → Live H M (es ▷ sampled ev) last
          → min 4 i ≤ run'
      held i last q l f h =
          let same : last ≡ n = omega arith in
          let old : min 4 i ≤ run = v.fed i (omega arith)
          (λ m a b. before es ev (counted_by t bit6) counts w window F m (omega arith) (f m (omega arith) (omega arith))) in
          omega (arith, held_run es ev (counted_by t bit6) counts w window run (subst (Live H M (es ▷ sampled ev)) same h))

      on : (j : ℕ) → j + 5 ≡ suc n → InEach j 3 (Live F M (es ▷ sampled ev)) → Live H M (es ▷ sampled ev) (j + 3) → Live F M (es ▷ sampled ev) (j + 4)
          → T (next_latch F (run_after (counted_by t bit6) ((channel_bit && bit6) && over_own settings c w) 4 run) ch.over_latch)
      on j q f h g =
          let three : 3 ≤ run = v.held 3 (j + 3) (omega arith) (omega arith)
          (λ m a b. before es ev (counted_by t bit6) counts w window F m (omega arith) (f m (omega arith) (omega arith)))
          (before es ev (counted_by t bit6) counts w window H (j + 3) (omega arith) h) in
          let last : j + 4 ≡ n = omega arith in
          latched ch.over_latch _ (grows es ev (counted_by t bit6) counts w window run (subst (Live F M (es ▷ sampled ev)) last g) ∙ four run three)

-- the relay whose runs are kept fits its kind
keeps_run_lem : (k : ℕ) → k < 3 → KeepsRun (making keeps) k
keeps_run_lem k h settings ok calls none j e run after fed over not_fed last =
    v.on j e (λ n a b. live n a (omega arith) (feeds n (fed n a b))) held_at (live (j + 4) (omega arith) (omega arith) (feeds (j + 4) last))
  where
    es : List Event
    es = channel_history (k + 3) calls

    v : Kept settings (k + 3) es (clock_of (relay_after (making keeps) settings calls))
        (channel_at (relay_after (making keeps) settings calls) (k + 3))
    v = (making_is keeps settings ok.accepted (λ c. Kept settings c) (λ c. kept_fresh settings c) (λ c. kept_sampled settings c) (λ c. kept_cleared settings c)
        calls none).channel (k + 3) (omega arith)

    three : leb 3 (k + 3) ≡ true
    three = le-leb 3 (k + 3) (omega arith)

    -- the tests of current k are those of channel k + 3
    feeds : (n : ℕ) → T (over_by k k settings (window_at es n)) → T (over_own settings (k + 3) (window_at es n))
    feeds n t = rw (three, ← back k) t

    holds_back : (a b : Bool) → T a → ¬ T (a && b) → T (a && not b)
    holds_back true true t f = absurd (f tt)
    holds_back true false t f = tt
    holds_back false b t f = absurd t

    held_at : Live (H settings (k + 3)) (made_with settings (k + 3)) es (j + 3)
    held_at =
        let r : InRun (over_of settings.lengths) (made_with settings (k + 3)) es j (j + 3) = run.each (j + 3) (omega arith) (omega arith) in (
          r.counted,
          r.enabled,
          rw (three, ← back k) (holds_back (over_pickup k settings (window_at es (j + 3)))
              (harmonic_test (get_or settings.levels.restraint k 0) (window_at es (j + 3))) over not_fed),
          r.not_separated ∙ after,
        )

    live : (n : ℕ) → j ≤ n → n < j + 5 → T (over_own settings (k + 3) (window_at es n)) → Live (F settings (k + 3)) (made_with settings (k + 3)) es n
    live n a b t = ((run.each n a b).counted, (run.each n a b).enabled, t, (run.each n a b).not_separated ∙ after)

-- ---- one relay of each kind

pub record RestraintOnes : Type 0 where
  pub ignored : Wrong (tested over_pickup)
  pub at_most : Wrong (tested over_at_most)
  pub third : Wrong (tested over_by_third)
  pub loss_restrained_lem : Wrong loss_too
  -- each takes the restraint of the next
  pub neighbours : Wrong (tested (λ k. over_by (suc k % 3) k))
  pub run_kept : Wrong (making keeps)

pub restraint_ones : RestraintOnes
restraint_ones =
    record {
      ignored = ignores_restraint 0 (lit< tt) (tested_trips over_pickup 0 (lit< tt));
      at_most = not_strict 0 (lit< tt) (tested_trips over_at_most 0 (lit< tt));
      third = third_harmonic 0 (lit< tt) (tested_trips over_by_third 0 (lit< tt));
      loss_restrained_lem = restrains_loss 0 (lit< tt) (loss_too_lem 0 (lit< tt));
      neighbours = anothers_restraint 0 1 (lit< tt) (lit< tt) (λ e. absurd (omega arith)) (tested_trips (λ k. over_by (suc k % 3) k) 0 (lit< tt));
      run_kept = keeps_run 0 (lit< tt) (keeps_run_lem 0 (lit< tt));
    }
