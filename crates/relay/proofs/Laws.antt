-- Laws of the relay's definitions that hold with no code: what an accepted or a refused call is, what it makes of channel c, that a fresh
-- relay is sound and every accepted call leaves it so, and settling. Rests on the definitions, and on what a sound relay says of its parts.
use Prim.Native.Nat.{ℕ, ◌+◌, ◌≤◌, ◌<◌, min}
use native.Mathlib.Omega.{arith}
use mathlib.Core.Path.{◌≡◌, refl, ◌∙◌}
use mathlib.Core.Bool.{Bool, true, false, ◌&&◌, ◌||◌, not, cond, false≢true}
use mathlib.Core.List.{List}
use lib.IntN.{ℤ}
use lib.Dec.{leb, ltb, eqb}
use lib.ListN.{get_or, get_or-replicate}
use borrow.Author.Tests.{ltb-true, ltb-false, leb-true, le-leb, eqb-true, ne_eqb}
use Rattle.lists.specs.Each.{every}
use Rattle.phasor.specs.Cordic.{amplitude_of}
use Rattle.phasor.specs.Window.{window_sound}
use Rattle.phasor.proofs.Samples.{window_set}
use Rattle.lists.proofs.Each.{and_true, and_left, and_right, get_d_table}
use Rattle.refusals.specs.Refusals.{accepted}
use Rattle.frames.specs.Codes.{code_limit, sample_of, codes_in_range}
use Rattle.frames.proofs.Ranges.{codes_below}
use Rattle.frames.proofs.Samples.{sample_is_sound}
use Rattle.relay.specs.declared.Channel.{Channel}
use Rattle.relay.specs.declared.ChannelLevels.{ChannelLevels}
use Rattle.relay.specs.declared.Lengths.{Lengths}
use Rattle.relay.specs.declared.Settings.{Settings}
use Rattle.relay.specs.declared.Relay.{Relay}
use Rattle.relay.specs.declared.RelayAnswer.{RelayAnswer}
use Rattle.frames.specs.Bits.{bit_of, enabled_in}
use Rattle.relay.specs.Settings.{is_current, nine_sound, restraints_sound, length_in_range, lengths_sound, settings_sound, levels_of, unrestrained_by}
use Rattle.relay.specs.Settings.{most_length, settled, loss}
use Rattle.relay.specs.Channel.{no_channel, fresh_channel, cleared_of, window_after, run_after, next_run, channel_after}
use Rattle.relay.proofs.Sound.{Sound, sound_says, says_sound, passed}
use Rattle.relay.specs.Sound.{over_sound, channel_sound, channels_sound, sound_of}
use Rattle.relay.specs.Relay.{channel_at, unused_relay, fresh_relay, zero_relay, fresh_refusal, fresh_of}
use Rattle.relay.specs.Relay.{found_by, age_found, counted, age_after, slot_after}
use Rattle.relay.specs.Relay.{next_channel, accepted_frame, refused_frame, input_refusal, frame_refusal, frame_of}
use Rattle.relay.specs.Relay.{reset_channel, accepted_reset, refused_reset, mask_refusal, reset_refusal, reset_of}

-- ---- what a call's answer is

-- an answer is that of an accepted call only where the refusal is 0
not_refused : (r s : Relay) (n : ℕ)
    → (cond {A = RelayAnswer} (eqb n 0) (record { relay = r; refusal = 0 }) (record { relay = s; refusal = n })).refusal ≡ 0 → n ≡ 0
not_refused r s n e = by (eqb n 0) refl e
  where
    by : (b : Bool) → eqb n 0 ≡ b
        → (cond {A = RelayAnswer} b (record { relay = r; refusal = 0 }) (record { relay = s; refusal = n })).refusal ≡ 0 → n ≡ 0
    by true q e = eqb-true n 0 q
    by false q e = e

-- settings that are accepted are in range, and the answer is the fresh relay
pub fresh_accepted : (s : Settings) → (fresh_of s).refusal ≡ accepted → settings_sound s ≡ true
unfolding fresh_of fresh_refusal
fresh_accepted s e =
    let nine = passed (nine_sound s.levels) 0 (not_refused (fresh_relay s) zero_relay (fresh_refusal s) e) in
    let restraints = passed (restraints_sound s.levels.restraint) 19 nine.1 in
    and_true _ _ (and_true _ _ nine.0 restraints.0) (passed (lengths_sound s.lengths) 20 restraints.1).0

-- lengths in range, spelled out
pub lengths_say : (l : Lengths) → lengths_sound l ≡ true → ((1 ≤ l.loss) × (l.loss ≤ 24)) × ((1 ≤ l.over) × (l.over ≤ 24))
unfolding lengths_sound
lengths_say l e = (
  in_range l.loss (and_left (length_in_range l.loss) (length_in_range l.over) e),
  in_range l.over (and_right (length_in_range l.loss) (length_in_range l.over) e),
)
  where
    in_range : (len : ℕ) → length_in_range len ≡ true → (1 ≤ len) × (len ≤ 24)
    in_range len q = (leb-true 1 len (and_left (leb 1 len) (leb len most_length) q), leb-true len most_length (and_right (leb 1 len) (leb len most_length) q))

-- what settings in range say of their parts
pub record SettingsSay (s : Settings) : Type 0 where
  pub nine : nine_sound s.levels ≡ true
  pub restraints : restraints_sound s.levels.restraint ≡ true
  pub lengths : lengths_sound s.lengths ≡ true

pub settings_say : (s : Settings) → settings_sound s ≡ true → SettingsSay s
settings_say s e =
    let nine : Bool = nine_sound s.levels in
    let restraints : Bool = restraints_sound s.levels.restraint in
    let two : nine && restraints ≡ true = and_left (nine && restraints) (lengths_sound s.lengths) e in
    record {
      nine = and_left nine restraints two;
      restraints = and_right nine restraints two;
      lengths = and_right (nine && restraints) (lengths_sound s.lengths) e;
    }

pub fresh_is : (s : Settings) → settings_sound s ≡ true → fresh_of s ≡ record { relay = fresh_relay s; refusal = accepted }
unfolding fresh_of fresh_refusal
fresh_is s e = let say : SettingsSay s = settings_say s e in rw (say.nine, say.restraints, say.lengths)

-- of every relay: a frame with no refusal is what an accepted one is, and any other hands the relay back as it was given
pub frame_taken : (r : Relay) (codes : List ℕ) (enable : ℕ) → frame_refusal r codes enable ≡ 0 → frame_of r codes enable ≡ accepted_frame r codes enable
unfolding frame_of
frame_taken r codes enable e = rw e

pub frame_left_lem : (r : Relay) (codes : List ℕ) (enable : ℕ) → ¬ (frame_refusal r codes enable ≡ 0) → (frame_of r codes enable).relay ≡ r
unfolding frame_of refused_frame
frame_left_lem r codes enable e = rw (ne_eqb (frame_refusal r codes enable) 0 e)

-- 2 on a relay that is not sound, whatever else is wrong
pub frame_unsound : (r : Relay) (codes : List ℕ) (enable : ℕ) → sound_of r ≡ false → frame_of r codes enable ≡ refused_frame r 2
unfolding frame_of frame_refusal
frame_unsound r codes enable s = rw s

pub reset_unsound : (r : Relay) (mask : ℕ) → sound_of r ≡ false → reset_of r mask ≡ refused_reset r 2
unfolding reset_of reset_refusal
reset_unsound r mask s = rw s

-- on a sound relay codes, enable byte and mask alone decide
pub frame_accepted : (r : Relay) (codes : List ℕ) (enable : ℕ) → sound_of r ≡ true → input_refusal codes enable ≡ 0
    → frame_of r codes enable ≡ accepted_frame r codes enable
unfolding frame_of frame_refusal input_refusal
frame_accepted r codes enable s e = rw (s, e)

pub frame_refused : (r : Relay) (codes : List ℕ) (enable : ℕ) → sound_of r ≡ true → ¬ (input_refusal codes enable ≡ 0)
    → frame_of r codes enable ≡ refused_frame r (input_refusal codes enable)
unfolding frame_of frame_refusal input_refusal
frame_refused r codes enable s e = rw (s, ne_eqb (input_refusal codes enable) 0 e)

pub reset_accepted : (r : Relay) (mask : ℕ) → sound_of r ≡ true → mask_refusal mask ≡ 0 → reset_of r mask ≡ accepted_reset r mask
unfolding reset_of reset_refusal mask_refusal
reset_accepted r mask s e = rw (s, e)

pub reset_refused : (r : Relay) (mask : ℕ) → sound_of r ≡ true → ¬ (mask_refusal mask ≡ 0) → reset_of r mask ≡ refused_reset r (mask_refusal mask)
unfolding reset_of reset_refusal mask_refusal
reset_refused r mask s e = rw (s, ne_eqb (mask_refusal mask) 0 e)

-- ---- channel c

pub fresh_channel_lem : (s : Settings) (c : ℕ) → c < 6 → channel_at (fresh_relay s) c ≡ fresh_channel
unfolding unused_relay
fresh_channel_lem s c h = get_or-replicate 6 c fresh_channel no_channel h

-- channel c after an accepted frame, by the relay
abbrev pub next_of : Relay → List ℕ → ℕ → ℕ → Channel
next_of r codes enable = next_channel r.settings r.slot (counted r enable) codes enable r.channels

pub frame_channel : (r : Relay) (codes : List ℕ) (enable c : ℕ) → c < 6
    → channel_at (accepted_frame r codes enable).relay c ≡ next_of r codes enable c
unfolding accepted_frame
frame_channel r codes enable c h = get_d_table 6 (next_of r codes enable) no_channel c h

pub reset_channel_lem : (r : Relay) (mask c : ℕ) → c < 6 → channel_at (accepted_reset r mask).relay c ≡ reset_channel mask r.channels c
unfolding accepted_reset
reset_channel_lem r mask c h = get_d_table 6 (reset_channel mask r.channels) no_channel c h

-- ---- soundness of a channel

-- a run stays within its length, and at 0 where no window meets the level
run_le : (len run : ℕ) (counted feeds : Bool) → run ≤ len → run_after counted feeds len run ≤ len
run_le len run true true h = omega arith
run_le len run true false h = omega arith
run_le len run false feeds h = h

run_none : (len run : ℕ) (counted enabled : Bool) → run ≡ 0 → run_after counted (enabled && false) len run ≡ 0
run_none len run true true h = refl
run_none len run true false h = refl
run_none len run false enabled h = h

-- the over run and latch after a frame: a current's run stays within its length, a voltage's stay 0 and off
over_sound_lem : (len : ℕ) → 1 ≤ len → (current m counted enabled latch : Bool) (run next : ℕ)
    → next ≡ run_after counted (enabled && (current && m)) len run
    → cond current (leb run len) (eqb run 0 && not latch) ≡ true
    → cond current (leb next len) (eqb next 0 && not (latch || eqb next len)) ≡ true
over_sound_lem len some true m counted enabled latch run next e s =
    le-leb next len (rw e (run_le len run counted (enabled && m) (leb-true run len s)))
over_sound_lem len some false m counted enabled true run next e s = absurd (false≢true (and_right (eqb run 0) false s))
over_sound_lem len some false m counted enabled false run next e s =
    rw (e ∙ run_none len run counted enabled (eqb-true run 0 (and_left (eqb run 0) true s)), ne_eqb 0 len (omega arith))

-- a frame leaves a sound channel sound
channel_sound_lem : (lengths : Lengths) → 1 ≤ lengths.over → (levels : ChannelLevels) (slot : ℕ) (counted enabled : Bool) (code : ℕ) (ch : Channel)
    → code < code_limit → channel_sound lengths levels.current ch ≡ true
    → channel_sound lengths levels.current (channel_after lengths levels slot counted enabled code ch) ≡ true
unfolding channel_sound channel_after next_run
channel_sound_lem lengths some levels slot counted enabled code ch h s =
    let len : ℕ = lengths.loss in
    let window : List ℤ = window_after slot code ch in
    let samples = window_sound ch.samples in
    let two : samples && leb ch.loss_run len ≡ true = and_left _ (over_sound lengths.over levels.current ch) s in
    let loss_run_lem : ch.loss_run ≤ len = leb-true _ len (and_right samples _ two) in
    let over : over_sound lengths.over levels.current ch ≡ true = and_right (samples && leb ch.loss_run len) _ s in
    and_true _ _
    (and_true _ _ (window_set ch.samples slot (sample_of code) (and_left _ (leb ch.loss_run len) two) (sample_is_sound code h))
    (le-leb _ len (run_le len ch.loss_run counted (enabled && (loss lengths).meets levels window) loss_run_lem)))
    (over_sound_lem lengths.over some levels.current (leb levels.pickup (amplitude_of 1 window) && unrestrained_by levels.restraint window)
    counted enabled ch.over_latch ch.over_run _ refl over)

cleared_sound : (lengths : Lengths) (current : Bool) (ch : Channel) → channel_sound lengths current ch ≡ true
    → channel_sound lengths current (cleared_of ch) ≡ true
unfolding channel_sound
cleared_sound lengths current ch s = by current (and_left (window_sound ch.samples) _ (and_left _ (over_sound lengths.over current ch) s))
  where
    by : (b : Bool) → window_sound ch.samples ≡ true
        → window_sound ch.samples && leb 0 lengths.loss && over_sound lengths.over b (cleared_of ch) ≡ true
    by true e = rw (e, le-leb 0 lengths.loss (omega arith), le-leb 0 lengths.over (omega arith))
    by false e = rw (e, le-leb 0 lengths.loss (omega arith))

-- ---- soundness of a relay

-- a fresh relay with accepted settings is sound
pub fresh_sound : (s : Settings) → settings_sound s ≡ true → sound_of (fresh_relay s) ≡ true
unfolding sound_of channels_sound channel_sound unused_relay fresh_channel window_sound every
fresh_sound s e = rw (e, le-leb 0 s.lengths.loss (omega arith), le-leb 0 s.lengths.over (omega arith))

found_le : (was on : Bool) (age : ℕ) → age ≤ settled → found_by was on age ≤ settled
found_le true true age h = h
found_le true false age h = h
found_le false true age h = omega arith
found_le false false age h = h

age_le : (age : ℕ) → age ≤ settled → age_after age ≤ settled
age_le age h = by (ltb age settled) refl
  where
    by : (b : Bool) → ltb age settled ≡ b → cond b (age + 1) age ≤ settled
    by true q = omega (arith, ltb-true age settled q)
    by false q = h

slot_le : (slot : ℕ) → slot_after slot ≤ 7
slot_le slot = by (ltb slot 7) refl
  where
    by : (b : Bool) → ltb slot 7 ≡ b → cond b (slot + 1) 0 ≤ 7
    by true q = omega (arith, ltb-true slot 7 q)
    by false q = omega arith

-- an accepted frame leaves a sound relay sound, and so does an accepted reset
pub frame_sound : (r : Relay) (codes : List ℕ) (enable : ℕ) → sound_of r ≡ true → codes_in_range codes ≡ true
    → sound_of (accepted_frame r codes enable).relay ≡ true
unfolding accepted_frame next_channel levels_of
frame_sound r codes enable s h = says_sound (accepted_frame r codes enable).relay (next (sound_says r s))
  where
    next : Sound r → Sound (accepted_frame r codes enable).relay
    next was =
        record {
          settings = was.settings;
          age = age_le (age_found r enable) (found_le r.device_on (bit_of enable 6) r.age was.age);
          slot = slot_le r.slot;
          channel = λ c l. rw (frame_channel r codes enable c l)
              (channel_sound_lem r.settings.lengths (lengths_say r.settings.lengths (settings_say r.settings was.settings).lengths).1.0
              (levels_of r.settings.levels c) r.slot (counted r enable) (enabled_in enable c) (get_or codes c 0) (channel_at r c)
              (codes_below codes h c l) (was.channel c l));
        }

pub reset_sound : (r : Relay) (mask : ℕ) → sound_of r ≡ true → sound_of (accepted_reset r mask).relay ≡ true
unfolding accepted_reset reset_channel
reset_sound r mask s = says_sound (accepted_reset r mask).relay (next (sound_says r s))
  where
    named : (c : ℕ) (b : Bool) → channel_sound r.settings.lengths (is_current c) (channel_at r c) ≡ true
        → channel_sound r.settings.lengths (is_current c) (cond b (cleared_of (channel_at r c)) (channel_at r c)) ≡ true
    named c true t = cleared_sound r.settings.lengths (is_current c) (channel_at r c) t
    named c false t = t

    next : Sound r → Sound (accepted_reset r mask).relay
    next was =
        record {
          settings = was.settings;
          age = was.age;
          slot = was.slot;
          channel = λ c l. rw (reset_channel_lem r mask c l) (named c (bit_of mask c) (was.channel c l));
        }

-- ---- settling (document 02, Paper 5), for every relay; a frame that is refused leaves it (`frame_left_lem`)

-- "The relay remembers whether bit 6 was on in the latest accepted frame"
pub remembers : (r : Relay) (codes : List ℕ) (enable : ℕ) → (accepted_frame r codes enable).relay.device_on ≡ bit_of enable 6
unfolding accepted_frame
remembers r codes enable = refl

-- "A frame with bit 6 on after one with it off sets age to 0 before anything else": step 2 makes it 1, and all runs stay as they were
pub rise_age : (r : Relay) (codes : List ℕ) (enable : ℕ) → r.device_on ≡ false → bit_of enable 6 ≡ true
    → (accepted_frame r codes enable).relay.age ≡ 1
unfolding accepted_frame
rise_age r codes enable was on = rw (was, on)

pub rise_runs : (r : Relay) (codes : List ℕ) (enable c : ℕ) → r.device_on ≡ false → bit_of enable 6 ≡ true → c < 6
    → ((channel_at (accepted_frame r codes enable).relay c).loss_run ≡ (channel_at r c).loss_run)
    × ((channel_at (accepted_frame r codes enable).relay c).over_run ≡ (channel_at r c).over_run)
unfolding next_channel channel_after next_run
rise_runs r codes enable c was on h = (rw (frame_channel r codes enable c h, was, on), rw (frame_channel r codes enable c h, was, on))

-- any other frame goes on from the age that the relay has
pub no_rise_age : (r : Relay) (codes : List ℕ) (enable : ℕ) → ¬ ((r.device_on ≡ false) × (bit_of enable 6 ≡ true)) → r.age ≤ 72
    → (accepted_frame r codes enable).relay.age ≡ min 72 (r.age + 1)
unfolding accepted_frame
no_rise_age r codes enable no_rise_lem h = by r.device_on (bit_of enable 6) no_rise_lem
  where
    below : (b : Bool) → ltb r.age 72 ≡ b → cond b (r.age + 1) r.age ≡ min 72 (r.age + 1)
    below true q = omega (arith, ltb-true r.age 72 q)
    below false q = omega (arith, ltb-false r.age 72 q)

    goes_on : age_after r.age ≡ min 72 (r.age + 1)
    goes_on = below (ltb r.age 72) refl

    by : (was on : Bool) → ¬ ((was ≡ false) × (on ≡ true)) → age_after (found_by was on r.age) ≡ min 72 (r.age + 1)
    by true true n = goes_on
    by true false n = goes_on
    by false true n = absurd (n (refl, refl))
    by false false n = goes_on

-- a reset, accepted or not, leaves the memory and the age
pub reset_keeps : (r : Relay) (mask : ℕ)
    → ((reset_of r mask).relay.device_on ≡ r.device_on) × ((reset_of r mask).relay.age ≡ r.age)
unfolding reset_of accepted_reset refused_reset
reset_keeps r mask = by (eqb (reset_refusal r mask) accepted)
  where
    by : (b : Bool)
        → ((cond b (accepted_reset r mask) (refused_reset r (reset_refusal r mask))).relay.device_on ≡ r.device_on)
        × ((cond b (accepted_reset r mask) (refused_reset r (reset_refusal r mask))).relay.age ≡ r.age)
    by true = (refl, refl)
    by false = (refl, refl)
