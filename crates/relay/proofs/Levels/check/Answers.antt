-- `Levels::check` meets its contract: each check by its number, in order.
use borrow.Author.Tests.{not-true, not-false}
use mathlib.Core.Bool.{Bool, true, false, not}
use mathlib.Core.Path.{◌≡◌}
use Rattle.refusals.specs.Refusals.{accepted, bad_setting, bad_restraint}
use Rattle.relay.specs.Settings.{nine_sound, restraints_sound}
use Rattle.relay.specs.Relay.{level_refusal}
use Rattle.relay.specs.declared.Levels.{Levels}
use Rattle.relay.proofs.Levels.check.Goals as goal

module _ (levels : Levels) (l : Bool) (e : l ≡ nine_sound levels) where
  bad_level : not l ≡ true → bad_setting ≡ level_refusal levels
  unfolding level_refusal
  bad_level h = rw (← e, not-true l h)

  module _ (h : not l ≡ false) (r : Bool) (f : r ≡ restraints_sound levels.restraint) where
    bad_restraint_lem : not r ≡ true → bad_restraint ≡ level_refusal levels
    unfolding level_refusal
    bad_restraint_lem k = rw (← e, not-false l h, ← f, not-true r k)

    none : not r ≡ false → accepted ≡ level_refusal levels
    unfolding level_refusal
    none k = rw (← e, not-false l h, ← f, not-false r k)

pub returns-then-not-nine_sound : goal.returns-then-not-nine_sound
returns-then-not-nine_sound c = search bad_level

pub returns-then-not-restraints_in_range : goal.returns-then-not-restraints_in_range
returns-then-not-restraints_in_range c = search bad_restraint_lem

pub returns : goal.returns
returns c = search none
