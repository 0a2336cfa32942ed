-- Laws of run lengths (document 02, Paper 9) that hold with no code: which lengths make a relay, that no call alters them, that a sound relay has
-- runs up to its own lengths, and in which frame a run turns its latch on. Rests on the definitions, and on what a sound relay says of its parts.
use Prim.Native.Nat.{ℕ, suc, ◌≤◌, ◌<◌, min}
use native.Mathlib.Omega.{arith}
use mathlib.Core.Path.{◌≡◌, refl}
use mathlib.Core.Bool.{Bool, true, false, ◌&&◌, not, cond}
use mathlib.Core.List.{List}
use lib.IntN.{ℤ}
use lib.Dec.{leb, eqb}
use borrow.Author.Tests.{leb-true, le-leb, eqb-true, eq-eqb, ne_eqb}
use Rattle.lists.proofs.Each.{and_true, and_left, and_right}
use Rattle.phasor.specs.Window.{window_sound}
use Rattle.relay.specs.declared.Channel.{Channel}
use Rattle.relay.specs.declared.ChannelLevels.{ChannelLevels}
use Rattle.relay.specs.declared.Lengths.{Lengths}
use Rattle.relay.specs.declared.Levels.{Levels}
use Rattle.relay.specs.declared.Settings.{Settings}
use Rattle.relay.specs.declared.Relay.{Relay}
use Rattle.relay.specs.declared.FrameAnswer.{FrameAnswer}
use Rattle.relay.specs.declared.RelayAnswer.{RelayAnswer}
use Rattle.relay.specs.Settings.{is_current, nine_sound, restraints_sound, length_in_range, lengths_sound, Kind, loss, over}
use Rattle.relay.specs.Channel.{next_run, next_latch}
use Rattle.relay.specs.Sound.{over_sound, channel_sound, sound_of}
use Rattle.relay.specs.Relay.{channel_at, unused_relay, zero_relay, level_refusal, fresh_refusal, fresh_of, accepted_frame, refused_frame, frame_refusal, frame_of}
use Rattle.relay.specs.Relay.{accepted_reset, refused_reset, reset_refusal, reset_of, accepted_change, refused_change, change_refusal, change_of}
use Rattle.relay.proofs.Sound.{sound_says}
use Rattle.relay.proofs.Laws.{fresh_accepted, fresh_is, settings_say, lengths_say}

-- ---- "Loss and over lengths become settings of the relay, 1 to 24, one pair for the device, fixed when it is made."

-- a relay that is made holds what was asked for
pub fresh_settings : (s : Settings) → (fresh_of s).refusal ≡ 0 → (fresh_of s).relay.settings ≡ s
unfolding unused_relay
fresh_settings s e = rw (fresh_is s (fresh_accepted s e))

-- "21, and not 1, for a length outside 1 to 24, after 20": what the levels are refused by comes first
first : (a b : Bool) (m : ℕ) → ¬ (◌≡◌ {A = ℕ} (cond a (cond b 0 20) 1) 0) → cond a (cond b m 20) 1 ≡ cond a (cond b 0 20) 1
first true true m h = absurd (h refl)
first true false m h = refl
first false b m h = refl

last : (a b : Bool) (m : ℕ) → ◌≡◌ {A = ℕ} (cond a (cond b 0 20) 1) 0 → cond a (cond b m 20) 1 ≡ m
last true true m h = refl
last true false m h = absurd (omega arith)
last false b m h = absurd (omega arith)

pub levels_first : (s : Settings) → ¬ (level_refusal s.levels ≡ 0) → fresh_refusal s ≡ level_refusal s.levels
unfolding fresh_refusal level_refusal
levels_first s h = first (nine_sound s.levels) (restraints_sound s.levels.restraint) _ h

pub then_lengths : (s : Settings) → level_refusal s.levels ≡ 0 → fresh_refusal s ≡ cond (lengths_sound s.lengths) 0 21
unfolding fresh_refusal level_refusal
then_lengths s h = last (nine_sound s.levels) (restraints_sound s.levels.restraint) _ h

-- both ends are in range: with `lengths_say` of Laws, exactly the lengths 1 to 24 are
pub say_lengths : (l : Lengths) → (1 ≤ l.loss) × (l.loss ≤ 24) → (1 ≤ l.over) × (l.over ≤ 24) → lengths_sound l ≡ true
unfolding lengths_sound
say_lengths l a b = and_true _ _ (in_range l.loss a) (in_range l.over b)
  where
    in_range : (len : ℕ) → (1 ≤ len) × (len ≤ 24) → length_in_range len ≡ true
    in_range len h = and_true _ _ (le-leb 1 len h.0) (le-leb len 24 h.1)

-- whatever settings are refused by, the relay is all-zero; and so for lengths alone
pub fresh_refused : (s : Settings) → ¬ (fresh_refusal s ≡ 0) → fresh_of s ≡ record { relay = zero_relay; refusal = fresh_refusal s }
unfolding fresh_of
fresh_refused s e = rw (ne_eqb (fresh_refusal s) 0 e)

pub lengths_refused : (s : Settings) → level_refusal s.levels ≡ 0 → lengths_sound s.lengths ≡ false
    → fresh_of s ≡ record { relay = zero_relay; refusal = 21 }
unfolding fresh_of
lengths_refused s e f = rw (then_lengths s e, f)

-- no call on a relay alters its lengths, whatever is handed in, accepted or refused
pub frame_lengths : (r : Relay) (codes : List ℕ) (enable : ℕ) → (frame_of r codes enable).relay.settings ≡ r.settings
unfolding frame_of accepted_frame refused_frame
frame_lengths r codes enable = by (eqb (frame_refusal r codes enable) 0)
  where
    by : (b : Bool)
        → (cond {A = FrameAnswer} b (accepted_frame r codes enable) (refused_frame r (frame_refusal r codes enable))).relay.settings ≡ r.settings
    by true = refl
    by false = refl

pub reset_lengths : (r : Relay) (mask : ℕ) → (reset_of r mask).relay.settings ≡ r.settings
unfolding reset_of accepted_reset refused_reset
reset_lengths r mask = by (eqb (reset_refusal r mask) 0)
  where
    by : (b : Bool) → (cond {A = RelayAnswer} b (accepted_reset r mask) (refused_reset r (reset_refusal r mask))).relay.settings ≡ r.settings
    by true = refl
    by false = refl

pub change_lengths : (r : Relay) (new : Levels) → (change_of r new).relay.settings.lengths ≡ r.settings.lengths
unfolding change_of accepted_change refused_change
change_lengths r new = by (eqb (change_refusal r new) 0)
  where
    by : (b : Bool)
        → (cond {A = RelayAnswer} b (accepted_change r new) (refused_change r (change_refusal r new))).relay.settings.lengths ≡ r.settings.lengths
    by true = refl
    by false = refl

-- ---- "A sound relay has runs up to its own lengths."; its lengths are in range

pub record SoundLengths (r : Relay) : Type 0 where
  pub loss_length : (1 ≤ r.settings.lengths.loss) × (r.settings.lengths.loss ≤ 24)
  pub over_length : (1 ≤ r.settings.lengths.over) × (r.settings.lengths.over ≤ 24)
  pub loss_count : (c : ℕ) → c < 6 → (channel_at r c).loss_run ≤ r.settings.lengths.loss
  pub over_count : (c : ℕ) → c < 6 → (channel_at r c).over_run ≤ r.settings.lengths.over

pub sound_lengths : (r : Relay) → sound_of r ≡ true → SoundLengths r
unfolding channel_sound
sound_lengths r s =
    record {
      loss_length = in_range.0;
      over_length = in_range.1;
      loss_count = λ c h. leb-true (channel_at r c).loss_run l.loss (and_right (samples c) (short c) (and_left _ (overs c) (sound c h)));
      over_count = λ c h. up_to_lem (is_current c) (channel_at r c) (and_right (samples c && short c) (overs c) (sound c h));
    }
  where
    l : Lengths
    l = r.settings.lengths

    in_range : ((1 ≤ l.loss) × (l.loss ≤ 24)) × ((1 ≤ l.over) × (l.over ≤ 24))
    in_range = lengths_say l (settings_say r.settings (sound_says r s).settings).lengths

    -- the three tests of channel c
    samples : ℕ → Bool
    samples c = window_sound (channel_at r c).samples

    short : ℕ → Bool
    short c = leb (channel_at r c).loss_run l.loss

    overs : ℕ → Bool
    overs c = over_sound l.over (is_current c) (channel_at r c)

    sound : (c : ℕ) → c < 6 → channel_sound l (is_current c) (channel_at r c) ≡ true
    sound c h = (sound_says r s).channel c h

    up_to_lem : (current : Bool) (ch : Channel) → over_sound l.over current ch ≡ true → ch.over_run ≤ l.over
    up_to_lem true ch e = leb-true ch.over_run l.over e
    up_to_lem false ch e = omega (arith, eqb-true ch.over_run 0 (and_left (eqb ch.over_run 0) (not ch.over_latch) e))

-- ---- "Wherever a rule on runs says 16 or 4 it means these", of either kind and any length

-- "these": the loss run has the loss length, the over run the over length
pub these : (l : Lengths) → ((loss l).len ≡ l.loss) × ((over l).len ≡ l.over)
these l = (refl, refl)

module _ (kind : Kind) (levels : ChannelLevels) (window : List ℤ) (met : kind.meets levels window ≡ true) (run : ℕ) where
  -- a counted frame that meets the level makes the run one longer, but no longer than its length
  pub grows : next_run kind levels true true window run ≡ min kind.len (suc run)
  unfolding next_run
  grows = rw met

  -- and turns the latch on in the very frame that makes it full, and in none before
  pub full : suc run ≡ kind.len → next_latch kind (next_run kind levels true true window run) false ≡ true
  full e = rw grows (eq-eqb (min kind.len (suc run)) kind.len (omega (arith, e)))

  pub not_yet : suc run < kind.len → next_latch kind (next_run kind levels true true window run) false ≡ false
  not_yet h = rw grows (ne_eqb (min kind.len (suc run)) kind.len (λ e. omega (arith, e, h)))
