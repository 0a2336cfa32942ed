-- `Relay::check_change` meets its contract: 2 first, then what the levels are refused by.
use Prim.Native.Nat.{ℕ}
use Rattle.refusals.specs.Refusals.{unsound_relay}
use Rattle.relay.specs.Relay.{level_refusal, change_refusal}
use Rattle.relay.specs.Sound.{sound_of}
use Rattle.relay.specs.declared.Levels.{Levels}
use Rattle.relay.specs.declared.Relay.{Relay}
use borrow.Author.Tests.{not-true, not-false}
use mathlib.Core.Bool.{Bool, true, false, not}
use mathlib.Core.Path.{◌≡◌}
use Rattle.relay.proofs.Relay.check_change.Goals as goal

module _ (r : Relay) (new : Levels) (s : Bool) (e : s ≡ sound_of r) where
  unsound : not s ≡ true → unsound_relay ≡ change_refusal r new
  unfolding change_refusal
  unsound h = rw (← e, not-true s h)

  by_levels : (n : ℕ) → not s ≡ false → n ≡ level_refusal new → n ≡ change_refusal r new
  unfolding change_refusal level_refusal
  by_levels n h f = rw (← e, not-false s h, f)

pub returns-then-not-sound : goal.returns-then-not-sound
returns-then-not-sound c = search unsound

pub returns : goal.returns
returns c = search by_levels
