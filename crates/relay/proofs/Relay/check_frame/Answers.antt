-- `Relay::check_frame` meets its contract: each check by its number, in order.
use Prim.Native.Nat.{ℕ}
use Rattle.refusals.specs.Refusals.{accepted, unsound_relay, bad_code, bad_enable}
use Rattle.frames.specs.Bits.{bit_of}
use Rattle.frames.specs.Codes.{codes_in_range}
use Rattle.relay.specs.Relay.{frame_refusal}
use Rattle.relay.specs.Sound.{sound_of}
use Rattle.relay.specs.declared.Relay.{Relay}
use borrow.Author.Tests.{not-true, not-false}
use mathlib.Core.Bool.{Bool, true, false, not}
use mathlib.Core.List.{List}
use mathlib.Core.Path.{◌≡◌}
use Rattle.relay.proofs.Relay.check_frame.Goals as goal

module _ (r : Relay) (codes : List ℕ) (enable : ℕ) (s : Bool) (e : s ≡ sound_of r) where
  unsound : not s ≡ true → unsound_relay ≡ frame_refusal r codes enable
  unfolding frame_refusal
  unsound h = rw (← e, not-true s h)

  module _ (h : not s ≡ false) (g : Bool) (f : g ≡ codes_in_range codes) where
    bad_code_lem : not g ≡ true → bad_code ≡ frame_refusal r codes enable
    unfolding frame_refusal
    bad_code_lem k = rw (← e, not-false s h, ← f, not-true g k)

    bad_enable_lem : (b : Bool) → not g ≡ false → b ≡ bit_of enable 7 → b ≡ true → bad_enable ≡ frame_refusal r codes enable
    unfolding frame_refusal
    bad_enable_lem b k d l = rw (← e, not-false s h, ← f, not-false g k, ← d, l)

    none : (b : Bool) → not g ≡ false → b ≡ bit_of enable 7 → b ≡ false → accepted ≡ frame_refusal r codes enable
    unfolding frame_refusal
    none b k d l = rw (← e, not-false s h, ← f, not-false g k, ← d, l)

pub returns-then-not-sound : goal.returns-then-not-sound
returns-then-not-sound c = search unsound

pub returns-then-not-codes_in_range : goal.returns-then-not-codes_in_range
returns-then-not-codes_in_range c = search bad_code_lem

pub returns-then-bit : goal.returns-then-bit
returns-then-bit c = search bad_enable_lem

pub returns : goal.returns
returns c = search none
