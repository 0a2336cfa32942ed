-- What the demand says of accepted calls and settings in document 01's words is what the relay's own checks say: the relay's laws, turned into
-- these words. Rests on the laws of the relay's definitions.
use Prim.Native.Nat.{ℕ, ◌≤◌, ◌<◌}
use mathlib.Core.Path.{◌≡◌, refl, sym, ap, ap₂, ◌∙◌, fun_ext}
use mathlib.Core.Logic.{◌↔◌}
use mathlib.Core.Bool.{Bool, true, false, ◌&&◌, ◌||◌, not, cond}
use mathlib.Core.List.{List}
use lib.Dec.{leb, leb-suc-suc}
use lib.ListN.{get_or, replicate}
use borrow.Author.Tests.{le-leb, leb-true}
use Rattle.lists.specs.Each.{every}
use Rattle.lists.proofs.Each.{and_true, and_left, and_right, every_at, every_true}
use Rattle.frames.specs.Bits.{bit_of}
use Rattle.frames.specs.Codes.{codes_in_range}
use Rattle.relay.specs.declared.Levels.{Levels}
use Rattle.relay.specs.declared.Settings.{Settings}
use Rattle.relay.specs.declared.Relay.{Relay}
use Rattle.relay.specs.Settings.{level_in_range, levels_in_range, nine_sound, settings_sound, drops_sound, pickups_sound, restraint_in_range, restraints_sound}
use Rattle.relay.specs.Sound.{sound_of}
use Rattle.relay.specs.Relay.{accepted_frame, refused_frame, input_refusal, frame_of, accepted_reset, refused_reset, mask_refusal, reset_of}
use Rattle.relay.specs.Relay.{level_refusal, accepted_change, refused_change, change_of}
use Rattle.relay.proofs.Sound.{input_codes, passed}
use Rattle.relay.proofs.Laws as laws
use Rattle.relay.proofs.RunLengths.{say_lengths}
use Rattle.relay.proofs.Changes as changes
use Rattle.history.specs.Calls.{frame_refused_by, reset_refused_by, change_refused_by}
use Rattle.history.specs.Demand.{AcceptedSettings}

-- ---- the refusals

-- what must not hold, as the demand asks, and what must hold, as the relay's checks do
turned : (b : Bool) (n : ℕ) → cond (not b) 0 n ≡ cond b n 0
turned true n = refl
turned false n = refl

frame_refusal_lem : (codes : List ℕ) (enable : ℕ) → input_refusal codes enable ≡ frame_refused_by codes enable
unfolding input_refusal codes_in_range frame_refused_by
frame_refusal_lem codes enable =
    ap₂ (λ (p : ℕ → Bool) (n : ℕ). cond (every 6 p) n 3) (fun_ext (λ c. leb-suc-suc (get_or codes c 0) 1023)) (turned (bit_of enable 7) 4)

reset_refusal_lem : (mask : ℕ) → mask_refusal mask ≡ reset_refused_by mask
unfolding mask_refusal reset_refused_by
reset_refusal_lem mask = turned (bit_of mask 6 || bit_of mask 7) 5

pub change_refusal_lem : (new : Levels) → level_refusal new ≡ change_refused_by new
unfolding level_refusal change_refused_by drops_sound pickups_sound restraints_sound
change_refusal_lem new = refl

-- ---- the calls, on a sound relay

pub frame_codes : (codes : List ℕ) (enable : ℕ) → frame_refused_by codes enable ≡ 0 → codes_in_range codes ≡ true
frame_codes codes enable e = input_codes codes enable (frame_refusal_lem codes enable ∙ e)

pub frame_accepted : (r : Relay) (codes : List ℕ) (enable : ℕ) → sound_of r ≡ true → frame_refused_by codes enable ≡ 0
    → frame_of r codes enable ≡ accepted_frame r codes enable
frame_accepted r codes enable s e = laws.frame_accepted r codes enable s (frame_refusal_lem codes enable ∙ e)

pub frame_refused : (r : Relay) (codes : List ℕ) (enable : ℕ) → sound_of r ≡ true → ¬ (frame_refused_by codes enable ≡ 0)
    → frame_of r codes enable ≡ record { relay = r; refusal = frame_refused_by codes enable; amplitudes = replicate 6 0; output = 0 }
unfolding refused_frame
frame_refused r codes enable s e =
    laws.frame_refused r codes enable s (λ q. e (sym (frame_refusal_lem codes enable) ∙ q)) ∙ ap (refused_frame r) (frame_refusal_lem codes enable)

pub reset_accepted : (r : Relay) (mask : ℕ) → sound_of r ≡ true → reset_refused_by mask ≡ 0 → reset_of r mask ≡ accepted_reset r mask
reset_accepted r mask s e = laws.reset_accepted r mask s (reset_refusal_lem mask ∙ e)

pub reset_refused : (r : Relay) (mask : ℕ) → sound_of r ≡ true → ¬ (reset_refused_by mask ≡ 0)
    → reset_of r mask ≡ record { relay = r; refusal = reset_refused_by mask }
unfolding refused_reset
reset_refused r mask s e = laws.reset_refused r mask s (λ q. e (sym (reset_refusal_lem mask) ∙ q)) ∙ ap (refused_reset r) (reset_refusal_lem mask)

pub change_accepted : (r : Relay) (new : Levels) → sound_of r ≡ true → change_refused_by new ≡ 0 → change_of r new ≡ accepted_change r new
change_accepted r new s e = changes.change_accepted r new s (change_refusal_lem new ∙ e)

pub change_refused : (r : Relay) (new : Levels) → sound_of r ≡ true → ¬ (change_refused_by new ≡ 0)
    → change_of r new ≡ record { relay = r; refusal = change_refused_by new }
unfolding refused_change
change_refused r new s e = changes.change_refused r new s (λ q. e (sym (change_refusal_lem new) ∙ q)) ∙ ap (refused_change r) (change_refusal_lem new)

-- ---- the settings

-- n levels, each of them 1 to 10,700
abbrev pub Between : ℕ → List ℕ → Type 0
Between n levels = (k : ℕ) → k < n → (1 ≤ get_or levels k 0) × (get_or levels k 0 ≤ 10700)

pub range_says : (n : ℕ) (levels : List ℕ) → levels_in_range n levels ≡ true → Between n levels
range_says n levels e k h =
    let at : leb 1 (get_or levels k 0) && leb (get_or levels k 0) 10700 ≡ true = every_at n (level_in_range levels) e k h in
    (leb-true 1 (get_or levels k 0) (and_left _ _ at), leb-true (get_or levels k 0) 10700 (and_right (leb 1 (get_or levels k 0)) _ at))

says_range : (n : ℕ) (levels : List ℕ) → Between n levels → levels_in_range n levels ≡ true
says_range n levels s =
    every_true n (level_in_range levels) (λ k h. and_true _ _ (le-leb 1 (get_or levels k 0) (s k h).0) (le-leb (get_or levels k 0) 10700 (s k h).1))

-- three restraints, each of them at most 100
pub restraints_say : (restraint : List ℕ) → restraints_sound restraint ≡ true → (k : ℕ) → k < 3 → get_or restraint k 0 ≤ 100
unfolding restraints_sound
restraints_say restraint e k h = leb-true (get_or restraint k 0) 100 (every_at 3 (restraint_in_range restraint) e k h)

say_restraints : (restraint : List ℕ) → ((k : ℕ) → k < 3 → get_or restraint k 0 ≤ 100) → restraints_sound restraint ≡ true
unfolding restraints_sound
say_restraints restraint s = every_true 3 (restraint_in_range restraint) (λ k h. le-leb (get_or restraint k 0) 100 (s k h))

pub settings_sound_lem : (settings : Settings) → AcceptedSettings settings → settings_sound settings ≡ true
unfolding drops_sound pickups_sound
settings_sound_lem settings ok =
    and_true _ _ (and_true _ _ (and_true _ _ (says_range 6 settings.levels.drop ok.drops) (says_range 3 settings.levels.pickup ok.pickups))
    (say_restraints settings.levels.restraint ok.restraints))
    (say_lengths settings.lengths ok.loss_length ok.over_length)

pub settings_accepted : (settings : Settings) → settings_sound settings ≡ true → AcceptedSettings settings
unfolding drops_sound pickups_sound
settings_accepted settings e =
    let l : Levels = settings.levels in
    let say : laws.SettingsSay settings = laws.settings_say settings e in
    record {
      drops = range_says 6 l.drop (and_left (drops_sound l.drop) _ say.nine);
      pickups = range_says 3 l.pickup (and_right (drops_sound l.drop) _ say.nine);
      restraints = restraints_say l.restraint say.restraints;
      loss_length = (laws.lengths_say settings.lengths say.lengths).0;
      over_length = (laws.lengths_say settings.lengths say.lengths).1;
    }

-- the levels that a change is accepted with are those that a relay is made with, beside lengths of 1 to 24
abbrev LengthsIn : Settings → Type 0
LengthsIn settings =
    ((1 ≤ settings.lengths.loss) × (settings.lengths.loss ≤ 24)) × ((1 ≤ settings.lengths.over) × (settings.lengths.over ≤ 24))

levels_settings : (settings : Settings) → change_refused_by settings.levels ≡ 0 → LengthsIn settings → AcceptedSettings settings
unfolding level_refusal drops_sound pickups_sound
levels_settings settings e lengths =
    let l : Levels = settings.levels in
    let nine = passed (nine_sound l) 0 (change_refusal_lem l ∙ e) in
    record {
      drops = range_says 6 l.drop (and_left (drops_sound l.drop) _ nine.0);
      pickups = range_says 3 l.pickup (and_right (drops_sound l.drop) _ nine.0);
      restraints = restraints_say l.restraint (passed (restraints_sound l.restraint) 19 nine.1).0;
      loss_length = lengths.0;
      over_length = lengths.1;
    }

settings_levels : (settings : Settings) → AcceptedSettings settings → change_refused_by settings.levels ≡ 0
unfolding level_refusal
settings_levels settings ok =
    let say : laws.SettingsSay settings = laws.settings_say settings (settings_sound_lem settings ok) in
    sym (change_refusal_lem settings.levels) ∙ rw (say.nine, say.restraints)

pub same_levels : (settings : Settings) → AcceptedSettings settings ↔ ((change_refused_by settings.levels ≡ 0) × LengthsIn settings)
same_levels settings = (
  λ ok. (settings_levels settings ok, (ok.loss_length, ok.over_length)),
  λ e. levels_settings settings e.0 e.1,
)
