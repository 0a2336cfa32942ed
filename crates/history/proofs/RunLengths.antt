-- No relay that counts run lengths wrongly (document 02, Paper 9) meets demand 3. Each frame of the full run that ends where a latch goes on is
-- counted, enabled and meets its level, so that no shorter run turned the latch on; a full run that has ended has its latch on; and a sound relay
-- has no run above its length. That there are such relays is in RunLengthsOnes. Rests on WentOn, Changed and the relay's laws.
use Prim.Native.Nat.{ℕ, ◌≤◌, ◌<◌}
use native.Mathlib.Omega.{arith}
use mathlib.Core.Path.{◌≡◌, refl, sym, ap, ◌∙◌, subst}
use mathlib.Core.Bool.{Bool, true, false}
use mathlib.Core.List.{List, [], ◌∷◌, ◌++◌}
use lib.Dec.{T}
use Rattle.relay.specs.declared.Lengths.{Lengths}
use Rattle.relay.specs.declared.Settings.{Settings}
use Rattle.relay.specs.declared.Relay.{Relay}
use Rattle.relay.proofs.RunLengths.{SoundLengths, sound_lengths}
use Rattle.history.specs.Calls.{Call, Implementation, handed_back}
use Rattle.history.specs.History.{InRun}
use Rattle.history.specs.Demand.{relay_after, AcceptedSettings, Demanded}
use Rattle.history.specs.WrongRelays.{Latch, the_loss_latch, the_over_latch, length_of, run_held, GoesOn, number_of, full_length, kind_in, made_in, events, met_in}
use Rattle.history.specs.WrongRelays.{ByRunOf, Late}
use Rattle.history.proofs.Changed.{on_rule, judges_old_lem}
use Rattle.history.proofs.Laws.{relay_says}
use Rattle.history.proofs.Relay.{after_end}
use Rattle.history.proofs.WentOn.{frames_are, run_ends}

-- a test that is not false is true
not_not : (b : Bool) → ¬ ¬ T b → T b
not_not true f = tt
not_not false f = f (λ t. t)

module _ (d : Implementation) (meets : Demanded d) where
  -- the frame before a shorter run is one of the full run's
  pub short_run : (g : GoesOn d) (len : ℕ) → len < full_length g → ¬ ByRunOf g len
  short_run g len short w = w.apart (alone, met, together)
    where
      first : (run_ends d meets g).0 ≤ w.before
      first = omega (arith, (run_ends d meets g).1, frames_are d meets g, w.is_before, short)

      in_run_lem : InRun (kind_in g) (made_in g) (events g) (run_ends d meets g).0 w.before
      in_run_lem = (run_ends d meets g).2.each w.before first (omega (arith, (run_ends d meets g).1, frames_are d meets g, w.is_before))

      last : InRun (kind_in g) (made_in g) (events g) (run_ends d meets g).0 (number_of g)
      last =
          (run_ends d meets g).2.each (number_of g) (omega (arith, (run_ends d meets g).1, frames_are d meets g, short))
          (omega (arith, (run_ends d meets g).1, frames_are d meets g))

      alone : InRun (kind_in g) (made_in g) (events g) w.before w.before
      alone = record { counted = in_run_lem.counted; enabled = in_run_lem.enabled; not_separated = refl; not_changed = refl }

      together : InRun (kind_in g) (made_in g) (events g) w.before (number_of g)
      together =
          record {
            counted = last.counted;
            enabled = last.enabled;
            not_separated = last.not_separated ∙ sym in_run_lem.not_separated;
            not_changed = last.not_changed ∙ sym in_run_lem.not_changed;
          }

      met : T (met_in g w.before)
      met = not_not (met_in g w.before) (λ no. judges_old_lem d meets g w.before
          (record { up_to = omega (arith, w.is_before); in_run = omega (arith, w.is_before, short); fails = no }))

  pub trips_late_lem : (latch : Latch) → ¬ Late d latch
  trips_late_lem latch w = w.off ((on_rule d meets w.settings w.accepted w.calls latch w.channel w.is_channel).1 (w.first, w.run))

  -- the lengths are those that it was made with, before a call and after it
  lengths_held : (settings : Settings) → AcceptedSettings settings → (calls : List Call)
      → (relay_after d settings calls).settings.lengths ≡ settings.lengths
  lengths_held settings ok calls = ap (λ (s : Settings). s.lengths) (relay_says d meets settings ok calls).held

  pub alters_lengths_lem : (settings : Settings) → AcceptedSettings settings → (past : List Call) (call : Call)
      → (handed_back d (relay_after d settings past) call).settings.lengths ≡ (relay_after d settings past).settings.lengths
  alters_lengths_lem settings ok past call =
      ap (λ (r : Relay). r.settings.lengths) (sym (after_end d (d.fresh settings).relay past call))
      ∙ lengths_held settings ok (past ++ (call ∷ [])) ∙ sym (lengths_held settings ok past)

  pub grows_on_lem : (settings : Settings) → AcceptedSettings settings → (calls : List Call) (latch : Latch) (c : ℕ) → c < 6
      → ¬ (length_of latch settings.lengths < run_held latch (relay_after d settings calls) c)
  grows_on_lem settings ok calls latch c h grown =
      by latch (subst (λ (l : Lengths). length_of latch l < run_held latch r c) (sym (lengths_held settings ok calls)) grown)
    where
      r : Relay
      r = relay_after d settings calls

      up_to_lem : SoundLengths r
      up_to_lem = sound_lengths r (relay_says d meets settings ok calls).sound

      by : (latch : Latch) → ¬ (length_of latch r.settings.lengths < run_held latch r c)
      by the_loss_latch above = omega (arith, above, up_to_lem.loss_count c h)
      by the_over_latch above = omega (arith, above, up_to_lem.over_count c h)
