-- No relay that takes new levels wrongly (document 02, Paper 6) meets demand 3. What a change leaves as it was the relay that meets the demand leaves
-- too, as ours does (Unique); a full run that ends in a frame has no change of its own level in it, and each of its frames met the level in force
-- (WentOn, Channel). That there are such relays is in ChangedOnes. Rests on these.
use Prim.Native.Nat.{ℕ, suc, ◌+◌, ◌-◌, ◌≤◌, ◌<◌}
use native.Mathlib.Omega.{arith}
use mathlib.Core.Path.{◌≡◌, refl, sym, ap, ◌∙◌, subst}
use mathlib.Core.Logic.{◌↔◌}
use mathlib.Core.Bool.{Bool, true, false, ◌&&◌}
use mathlib.Core.List.{List, [], ◌∷◌, ◌++◌, append_assoc}
use lib.Dec.{T, eqb}
use borrow.Author.Tests.{eqb-true, ne_eqb}
use Rattle.relay.specs.declared.ChannelLevels.{ChannelLevels}
use Rattle.relay.specs.declared.Lengths.{Lengths}
use Rattle.relay.specs.declared.Levels.{Levels}
use Rattle.relay.specs.declared.Settings.{Settings}
use Rattle.relay.specs.declared.Relay.{Relay}
use Rattle.relay.specs.Settings.{Kind}
use Rattle.relay.specs.Relay.{channel_at}
use Rattle.relay.proofs.Changes.{CarriesOver, carries_over}
use Rattle.history.specs.Calls.{Call, frame, reset, change, change_refused_by, accepted_frames, in_force, Implementation, the_relay}
use Rattle.history.specs.History.{Event, sampled, changed, input_of, own_levels, channel_history, frames, levels_at, changes_before, window_at}
use Rattle.history.specs.History.{InEach, FullRunMeeting, LatchOn}
use Rattle.history.specs.Demand.{made_with, relay_after, AcceptedSettings, Demanded}
use Rattle.history.specs.WrongRelays.{Latch, the_loss_latch, the_over_latch, latch_in, latch_after, length_of, kind_of, Differ, GoesOn, number_of, calls_of, full_length, kind_in, made_in, events}
use Rattle.history.specs.WrongRelays.{ChangedLately, Unmet, Changing, given, changed_to, ClearsRun}
use Rattle.history.proofs.Channel.{went_on}
use Rattle.history.proofs.History.{◌▷◌, frames_append, changes_append, changes_end, changes_le}
use Rattle.history.proofs.Laws.{relay_says}
use Rattle.history.proofs.Relay.{history_append, history_frame, frames_same, frames_frame, force_end, own_in_force, after_end}
use Rattle.history.proofs.Unique.{SameButRuns, same_relay}
use Rattle.history.proofs.WentOn.{frames_are, run_ends, some}

-- levels that differ in a run's own level are not the same to it
differ_same : (latch : Latch) (lengths : Lengths) (old new : ChannelLevels) → Differ latch old new → (kind_of latch lengths).same old new ≡ false
differ_same the_loss_latch lengths old new d = ne_eqb old.drop new.drop d
differ_same the_over_latch lengths old new d = by (eqb old.pickup new.pickup) (eqb old.restraint new.restraint) refl refl
  where
    by : (a b : Bool) → eqb old.pickup new.pickup ≡ a → eqb old.restraint new.restraint ≡ b → a && b ≡ false
    by true true p q = absurd (d (eqb-true old.pickup new.pickup p, eqb-true old.restraint new.restraint q))
    by true false p q = refl
    by false b p q = refl

run_len : (latch : Latch) (lengths : Lengths) → (kind_of latch lengths).len ≡ length_of latch lengths
run_len the_loss_latch lengths = refl
run_len the_over_latch lengths = refl

module _ (d : Implementation) (meets : Demanded d) where
  -- the rule for either latch
  pub on_rule : (settings : Settings) → AcceptedSettings settings → (calls : List Call) (latch : Latch) (c : ℕ) → c < 6
      → T (latch_after d latch settings calls c) ↔ LatchOn (kind_of latch settings.lengths) (made_with settings c) (channel_history c calls)
  on_rule settings ok calls the_loss_latch c h = (relay_says d meets settings ok calls).loss_latch c h
  on_rule settings ok calls the_over_latch c h = (relay_says d meets settings ok calls).over_latch c h

  -- ---- what carries over

  module _ (g : Changing d) where
    abbrev calls : List Call
    calls = g.past ++ (change g.new ∷ [])

    abbrev same : (list : List Call) → SameButRuns (relay_after d g.settings list) (relay_after the_relay g.settings list)
    same list = same_relay d meets g.settings g.accepted list

    -- ours, before the change and after it
    abbrev ours : Relay
    ours = relay_after the_relay g.settings g.past

    over : CarriesOver ours (the_relay.change ours g.new).relay
    over = carries_over ours g.new

    -- what is read of a relay, where ours carries it over and both relays have it alike
    carried : {A : Type 0} (read : Relay → A) → read (relay_after d g.settings calls) ≡ read (relay_after the_relay g.settings calls)
        → read (the_relay.change ours g.new).relay ≡ read ours → read (given g) ≡ read ours → read (changed_to g) ≡ read (given g)
    carried read after kept before =
        ap read (sym (after_end d (d.fresh g.settings).relay g.past (change g.new))) ∙ after
        ∙ ap read (after_end the_relay (the_relay.fresh g.settings).relay g.past (change g.new)) ∙ kept ∙ sym before

    pub moves_latch_lem : (latch : Latch) (c : ℕ) → c < 6 → latch_in latch (changed_to g) c ≡ latch_in latch (given g) c
    moves_latch_lem the_loss_latch c h =
        carried (λ (r : Relay). (channel_at r c).loss_latch) ((same calls).loss_latch c h) (over.loss_latch_of c h) ((same g.past).loss_latch c h)
    moves_latch_lem the_over_latch c h =
        carried (λ (r : Relay). (channel_at r c).over_latch) ((same calls).over_latch c h) (over.over_latch_of c h) ((same g.past).over_latch c h)

    pub ages_anew_lem : (changed_to g).age ≡ (given g).age
    ages_anew_lem = carried (λ (r : Relay). r.age) (same calls).age over.age (same g.past).age

    pub forgets_at_change_lem : (changed_to g).device_on ≡ (given g).device_on
    forgets_at_change_lem = carried (λ (r : Relay). r.device_on) (same calls).remembered over.remembered (same g.past).remembered

  pub forgets_change_lem : (settings : Settings) → AcceptedSettings settings → (past : List Call) (mask : ℕ)
      → (d.reset (relay_after d settings past) mask).relay.settings ≡ (relay_after d settings past).settings
  forgets_change_lem settings ok past mask =
      ap (λ (r : Relay). r.settings) (sym (after_end d (d.fresh settings).relay past (reset mask)))
      ∙ (relay_says d meets settings ok (past ++ (reset mask ∷ []))).held
      ∙ ap (λ (l : Levels). record { levels = l; lengths = settings.lengths }) (force_end settings.levels past (reset mask ∷ []))
      ∙ sym (relay_says d meets settings ok past).held

  -- ---- runs

  pub clears_run_lem : (latch : Latch) → ¬ ClearsRun d latch
  clears_run_lem latch w =
      w.off ((on_rule w.settings w.accepted (w.before ++ (change w.new ∷ w.between)) latch w.channel w.is_channel).1 (w.first, w.run))

  module _ (g : GoesOn d) where
    abbrev es : List Event
    es = events g

    abbrev kind : Kind
    kind = kind_in g

    abbrev made : ChannelLevels
    made = made_in g

    -- the run that ends there begins before the change, and so the change lies between its first and last frame
    pub keeps_changed_lem : ¬ ChangedLately g
    keeps_changed_lem w =
        omega (
          arith,
          first,
          ((run_ends d meets g).2.each (number_of g) (omega (arith, ends, all, some d meets g)) (omega (arith, ends, all))).not_changed,
          changes_at,
          subst (λ (h : List Event). changes_before kind made h j ≡ changes_before kind made before j) (sym split)
              (changes_append kind made before rest j first),
          changes_le kind made before j,
        )
      where
        c : ℕ
        c = g.channel

        before : List Event
        before = channel_history g.channel w.before

        after : List Event
        after = channel_history g.channel (w.between ++ (frame g.codes g.enable ∷ []))

        rest : List Event
        rest = changed (own_levels w.new g.channel) ∷ after

        j : ℕ
        j = (run_ends d meets g).0

        ends : j + full_length g ≡ frames es
        ends = (run_ends d meets g).1

        all : frames es ≡ suc (number_of g)
        all = frames_are d meets g

        split : es ≡ before ++ rest
        split =
            ap (λ (l : List Call). channel_history c (l ++ (frame g.codes g.enable ∷ []))) w.is_past
            ∙ ap (channel_history c) (append_assoc w.before (change w.new ∷ w.between) (frame g.codes g.enable ∷ []))
            ∙ history_append c w.before (change w.new ∷ (w.between ++ (frame g.codes g.enable ∷ [])))
            ∙ ap (λ (h : List Event). before ++ h) (taken w.accepted)
          where
            taken : change_refused_by w.new ≡ 0 → channel_history c (change w.new ∷ (w.between ++ (frame g.codes g.enable ∷ []))) ≡ rest
            taken e = rw e

        -- as many frames after the change as came between, and the one in which the latch goes on
        few : frames after ≡ accepted_frames w.between + 1
        few = frames_same c (w.between ++ (frame g.codes g.enable ∷ [])) ∙ frames_frame w.between g.codes g.enable g.taken ∙ omega arith

        sum : frames es ≡ frames before + frames after
        sum = ap frames split ∙ frames_append before rest

        first : j < frames before
        first = omega (arith, ends, sum, few, w.few)

        levels : levels_at made before (frames before) ≡ own_levels (in_force g.settings.levels w.before) c
        levels = own_in_force g.settings.levels c w.before

        -- the change counts before the last frame
        another : kind.same (levels_at made before (frames before)) (own_levels w.new c) ≡ false
        another = ap (λ (l : ChannelLevels). kind.same l (own_levels w.new c)) levels ∙ differ_same g.latch g.settings.lengths _ _ w.another

        since : ℕ
        since = number_of g - frames before

        counts : changes_before kind (levels_at made before (frames before)) rest since ≡ suc (changes_before kind (own_levels w.new c) after since)
        counts = rw another

        changes_at : suc (changes_before kind made before (frames before)) ≤ changes_before kind made es (number_of g)
        changes_at =
            subst (λ (h : List Event). suc (changes_before kind made before (frames before)) ≤ changes_before kind made h (number_of g)) (sym split)
            (omega (arith, counts, changes_end kind made before rest since (number_of g) (omega (arith, all, sum, few))))

    -- each frame of the run that ends there met the level in force in it
    pub judges_old_lem : (n : ℕ) → ¬ Unmet g n
    judges_old_lem n w = w.fails (subst (λ (h : List Event). T (kind.meets (levels_at made h n) (window_at h n))) (sym history)
        (met.1 n (omega (arith, w.in_run, met.0, length_is, all, frames_are d meets g)) (omega (arith, w.up_to, met.0, all, frames_are d meets g))))
      where
        past : List Event
        past = channel_history g.channel g.past

        next : List Event
        next = past ▷ sampled (input_of g.channel g.codes.list g.enable)

        history : events g ≡ next
        history = history_frame g.channel g.past g.codes g.enable g.taken

        all : frames (events g) ≡ frames next
        all = ap frames history

        length_is : kind.len ≡ full_length g
        length_is = run_len g.latch g.settings.lengths

        rule : (calls : List Call) → T (latch_after d g.latch g.settings calls g.channel) ↔ LatchOn kind made (channel_history g.channel calls)
        rule calls = on_rule g.settings g.accepted calls g.latch g.channel g.is_channel

        ends : (j : ℕ) × (j + kind.len ≡ frames next) × FullRunMeeting kind made next j
        ends =
            went_on kind made past (input_of g.channel g.codes.list g.enable) (omega (arith, length_is, some d meets g))
            (λ l. g.was ((rule g.past).1 l)) (subst (LatchOn kind made) history ((rule (calls_of g)).0 g.now))

        met : (ends.0 + kind.len ≡ frames next) × InEach ends.0 kind.len (λ m. T (kind.meets (levels_at made next m) (window_at next m)))
        met = (ends.1, ends.2.meets)
