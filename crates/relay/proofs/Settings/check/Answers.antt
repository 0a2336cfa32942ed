-- `Settings::check` meets its contract: what the levels are refused by first, then the lengths.
use mathlib.Core.Bool.{Bool, true, false}
use mathlib.Core.Path.{◌≡◌, sym, ◌∙◌}
use Rattle.std.proofs.Common.{rules, Result, Err}
use Rattle.refusals.specs.declared.Refusal.{Refusal}
use Rattle.refusals.specs.Refusals.{accepted, bad_length, number_of}
use Rattle.refusals.specs.Outcomes.{refusal_in}
use Rattle.relay.specs.Settings.{lengths_sound}
use Rattle.relay.specs.Relay.{level_refusal, fresh_refusal}
use Rattle.relay.specs.declared.Settings.{Settings}
use Rattle.refusals.proofs.Exits.{number_not_zero}
use Rattle.relay.proofs.RunLengths.{levels_first, then_lengths}
use Rattle.relay.proofs.Settings.check.Goals as goal

by_levels : (s : Settings) (refusal : Refusal) (result : Result (Unit {0}) Refusal) → number_of refusal ≡ level_refusal s.levels
    → result ≡ Err refusal → refusal_in result ≡ fresh_refusal s
by_levels s refusal result e r = rw r (e ∙ sym (levels_first s (λ q. number_not_zero refusal (e ∙ q))))

module _ (s : Settings) (h : 0 ≡ level_refusal s.levels) (l : Bool) (f : l ≡ lengths_sound s.lengths) where
  bad_length_lem : l ≡ false → bad_length ≡ fresh_refusal s
  bad_length_lem k = sym (then_lengths s (sym h) ∙ rw (← f, k))

  none : l ≡ true → accepted ≡ fresh_refusal s
  none k = sym (then_lengths s (sym h) ∙ rw (← f, k))

pub returns-in_err-check : goal.returns-in_err-check
returns-in_err-check c = search (rules, by_levels, c.in_err-check.ensures)

pub returns-then-not-sound : goal.returns-then-not-sound
returns-then-not-sound c = search (bad_length_lem, c.in_ok-check.ensures)

pub returns : goal.returns
returns c = search (none, c.in_ok-check.ensures)
