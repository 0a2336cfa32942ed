-- What a sound relay and an accepted frame say of their parts.
-- Rests on the definitions of soundness and of the refusals.
use Prim.Native.Nat.{ℕ, suc, ◌<◌, ◌≤◌}
use mathlib.Core.Path.{◌≡◌, refl}
use mathlib.Core.Bool.{Bool, true, false, ◌&&◌, cond}
use mathlib.Core.List.{List}
use borrow.Author.Tests.{leb-true, le-leb}
use native.Mathlib.Omega.{arith}
use lib.Dec.{leb}
use Rattle.phasor.specs.Window.{window_sound}
use Rattle.lists.proofs.Each.{and_true, and_left, and_right, every_at, every_true}
use Rattle.frames.specs.Codes.{codes_in_range}
use Rattle.relay.specs.declared.Channel.{Channel}
use Rattle.relay.specs.declared.Lengths.{Lengths}
use Rattle.relay.specs.declared.Relay.{Relay}
use Rattle.relay.specs.Settings.{is_current, settings_sound, settled}
use Rattle.relay.specs.Sound.{channel_sound, channels_sound, sound_of}
use Rattle.relay.specs.Relay.{channel_at, input_refusal, frame_refusal}

-- what the test of a relay says
pub record Sound (r : Relay) : Type 0 where
  pub settings : settings_sound r.settings ≡ true
  pub age : r.age ≤ settled
  pub slot : r.slot ≤ 7
  pub channel : (c : ℕ) → c < 6 → channel_sound r.settings.lengths (is_current c) (channel_at r c) ≡ true

pub sound_says : (r : Relay) → sound_of r ≡ true → Sound r
unfolding sound_of channels_sound
sound_says r s =
    let three : settings_sound r.settings && leb r.age settled && leb r.slot 7 ≡ true = and_left _ (channels_sound r.settings.lengths r.channels) s in
    let two : settings_sound r.settings && leb r.age settled ≡ true = and_left _ (leb r.slot 7) three in
    record {
      settings = and_left _ (leb r.age settled) two;
      age = leb-true r.age settled (and_right (settings_sound r.settings) _ two);
      slot = leb-true r.slot 7 (and_right (settings_sound r.settings && leb r.age settled) _ three);
      channel = every_at 6 _ (and_right (settings_sound r.settings && leb r.age settled && leb r.slot 7) _ s);
    }

pub says_sound : (r : Relay) → Sound r → sound_of r ≡ true
unfolding sound_of channels_sound
says_sound r s =
    let two = and_true _ _ s.settings (le-leb r.age settled s.age) in
    and_true _ _ (and_true _ _ two (le-leb r.slot 7 s.slot)) (every_true 6 _ s.channel)

-- what a call that is accepted has passed, a check at a time
pub passed : (holds : Bool) (k : ℕ) {n : ℕ} → cond holds n (suc k) ≡ 0 → (holds ≡ true) × (n ≡ 0)
passed true k e = (refl, e)
passed false k e = absurd (omega arith)

pub input_codes : (codes : List ℕ) (enable : ℕ) → input_refusal codes enable ≡ 0 → codes_in_range codes ≡ true
unfolding input_refusal
input_codes codes enable e = (passed (codes_in_range codes) 2 e).0

pub relay_passed : (r : Relay) (codes : List ℕ) (enable : ℕ) → frame_refusal r codes enable ≡ 0 → sound_of r ≡ true
unfolding frame_refusal
relay_passed r codes enable e = (passed (sound_of r) 1 e).0

pub codes_passed : (r : Relay) (codes : List ℕ) (enable : ℕ) → frame_refusal r codes enable ≡ 0 → codes_in_range codes ≡ true
unfolding frame_refusal input_refusal
codes_passed r codes enable e = input_codes codes enable (passed (sound_of r) 1 e).1

pub slot_passed : (r : Relay) (codes : List ℕ) (enable : ℕ) → frame_refusal r codes enable ≡ 0 → r.slot < 8
slot_passed r codes enable e = let l : r.slot ≤ 7 = (sound_says r (relay_passed r codes enable e)).slot in omega arith

window_of_lem : (lengths : Lengths) (current : Bool) (ch : Channel) → channel_sound lengths current ch ≡ true → window_sound ch.samples ≡ true
unfolding channel_sound
window_of_lem lengths current ch h = and_left (window_sound ch.samples) _ (and_left (window_sound ch.samples && _) _ h)

pub window_is_sound : (r : Relay) → sound_of r ≡ true → (c : ℕ) → c < 6 → window_sound (channel_at r c).samples ≡ true
window_is_sound r h c l = window_of_lem r.settings.lengths (is_current c) (channel_at r c) ((sound_says r h).channel c l)
