-- `Relay::check_reset` meets its contract: each check by its number, in order.
use Prim.Native.Nat.{ℕ}
use Rattle.refusals.specs.Refusals.{accepted, unsound_relay, bad_mask}
use Rattle.frames.specs.Bits.{bit_of}
use Rattle.relay.specs.Relay.{reset_refusal}
use Rattle.relay.specs.Sound.{sound_of}
use Rattle.relay.specs.declared.Relay.{Relay}
use borrow.Author.Tests.{not-true, not-false}
use mathlib.Core.Bool.{Bool, true, false, ◌||◌, not}
use mathlib.Core.Path.{◌≡◌}
use Rattle.relay.proofs.Relay.check_reset.Goals as goal

module _ (r : Relay) (mask : ℕ) (s : Bool) (e : s ≡ sound_of r) where
  unsound : not s ≡ true → unsound_relay ≡ reset_refusal r mask
  unfolding reset_refusal
  unsound h = rw (← e, not-true s h)

  module _ (b₆ b₇ : Bool) (h : not s ≡ false) (e₆ : b₆ ≡ bit_of mask 6) (e₇ : b₇ ≡ bit_of mask 7) where
    bad_mask_lem : b₆ || b₇ ≡ true → bad_mask ≡ reset_refusal r mask
    unfolding reset_refusal
    bad_mask_lem k = rw (← e, not-false s h, ← e₆, ← e₇, k)

    none : b₆ || b₇ ≡ false → accepted ≡ reset_refusal r mask
    unfolding reset_refusal
    none k = rw (← e, not-false s h, ← e₆, ← e₇, k)

pub returns-then-not-sound : goal.returns-then-not-sound
returns-then-not-sound c = search unsound

pub returns-then-bit : goal.returns-then-bit
returns-then-bit c = search bad_mask_lem

pub returns : goal.returns
returns c = search none
