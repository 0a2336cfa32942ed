-- Laws of new levels (document 02, Paper 6) that hold with no code: what an accepted or a refused change is, what it makes of channel c, that it
-- leaves a sound relay sound, what carries over whatever is handed in, and that changing to the levels in force changes nothing. Rests on the
-- definitions, and on what a sound relay says of its parts.
use Prim.Native.Nat.{ℕ, ◌≤◌, ◌<◌}
use native.Mathlib.Omega.{arith}
use mathlib.Core.Path.{◌≡◌, refl, sym, ap, ◌∙◌}
use mathlib.Core.Bool.{Bool, true, false, ◌&&◌, not, cond}
use mathlib.Core.List.{List}
use lib.Dec.{leb, eqb}
use lib.Seq.{ext_get_or}
use borrow.Author.Tests.{eq-eqb, ne_eqb, leb-true, le-leb}
use Rattle.lists.specs.Each.{table}
use Rattle.lists.proofs.Each.{and_true, and_left, and_right, get_d_table, length_table}
use Rattle.phasor.specs.Window.{window_sound}
use Rattle.relay.specs.declared.Channel.{Channel}
use Rattle.relay.specs.declared.ChannelLevels.{ChannelLevels}
use Rattle.relay.specs.declared.Lengths.{Lengths}
use Rattle.relay.specs.declared.Levels.{Levels}
use Rattle.relay.specs.declared.Relay.{Relay}
use Rattle.relay.specs.declared.RelayAnswer.{RelayAnswer}
use Rattle.relay.specs.Settings.{is_current, nine_sound, restraints_sound, levels_of, same_drop, same_pickup}
use Rattle.relay.specs.Channel.{no_channel, carried_over}
use Rattle.relay.specs.Sound.{over_sound, channel_sound, sound_of, SoundRelay}
use Rattle.relay.specs.Relay.{channel_at, level_refusal, changed_channel, accepted_change, refused_change, change_refusal, change_of}
use Rattle.relay.proofs.Sound.{Sound, sound_says, says_sound, passed}
use Rattle.relay.proofs.Laws.{SettingsSay, settings_say}

-- ---- what a change's answer is: 2 on a relay that is not sound, whatever the levels; on a sound one the levels alone decide

pub change_unsound : (r : Relay) (new : Levels) → sound_of r ≡ false → change_of r new ≡ record { relay = r; refusal = 2 }
unfolding change_of change_refusal refused_change
change_unsound r new s = rw s

pub change_accepted : (r : Relay) (new : Levels) → sound_of r ≡ true → level_refusal new ≡ 0 → change_of r new ≡ accepted_change r new
unfolding change_of change_refusal level_refusal
change_accepted r new s e = rw (s, e)

pub change_refused : (r : Relay) (new : Levels) → sound_of r ≡ true → ¬ (level_refusal new ≡ 0) → change_of r new ≡ refused_change r (level_refusal new)
unfolding change_of change_refusal level_refusal
change_refused r new s e = rw (s, ne_eqb (level_refusal new) 0 e)

pub change_channel : (r : Relay) (new : Levels) (c : ℕ) → c < 6
    → channel_at (accepted_change r new).relay c ≡ changed_channel r.settings.levels new r.channels c
unfolding accepted_change
change_channel r new c h = get_d_table 6 (changed_channel r.settings.levels new r.channels) no_channel c h

-- of every relay: a change that is refused hands the relay back as it was given, and one that is not leaves the levels handed in
pub change_left_lem : (r : Relay) (new : Levels) → ¬ (change_refusal r new ≡ 0) → (change_of r new).relay ≡ r
unfolding change_of refused_change
change_left_lem r new e = rw (ne_eqb (change_refusal r new) 0 e)

pub change_levels : (r : Relay) (new : Levels) → sound_of r ≡ true → level_refusal new ≡ 0
    → (change_of r new).relay.settings ≡ record { levels = new; lengths = r.settings.lengths }
unfolding accepted_change
change_levels r new s e = rw (change_accepted r new s e)

-- ---- soundness

carried_le : (same : Bool) (run len : ℕ) → run ≤ len → cond same run 0 ≤ len
carried_le true run len h = h
carried_le false run len h = omega arith

-- new levels leave a sound channel sound
carried_sound : (lengths : Lengths) (current : Bool) (old new : ChannelLevels) (ch : Channel) → channel_sound lengths current ch ≡ true
    → channel_sound lengths current (carried_over old new ch) ≡ true
unfolding channel_sound
carried_sound lengths current old new ch s =
    let w : Bool = window_sound ch.samples in
    let len : ℕ = lengths.loss in
    let l : Bool = leb ch.loss_run len in
    let two : w && l ≡ true = and_left (w && l) (over_sound lengths.over current ch) s in
    and_true _ _
    (and_true _ _ (and_left w l two)
    (le-leb _ len (carried_le (same_drop old new) ch.loss_run len (leb-true ch.loss_run len (and_right w l two)))))
    (by current (same_pickup old new) (and_right (w && l) (over_sound lengths.over current ch) s))
  where
    by : (b same : Bool) → cond b (leb ch.over_run lengths.over) (eqb ch.over_run 0 && not ch.over_latch) ≡ true
        → cond b (leb (cond same ch.over_run 0) lengths.over) (eqb (cond same ch.over_run 0) 0 && not ch.over_latch) ≡ true
    by true same t = le-leb _ lengths.over (carried_le same ch.over_run lengths.over (leb-true ch.over_run lengths.over t))
    by false true t = t
    by false false t = and_right (eqb ch.over_run 0) (not ch.over_latch) t

pub change_sound : (r : Relay) (new : Levels) → sound_of r ≡ true → level_refusal new ≡ 0 → sound_of (accepted_change r new).relay ≡ true
unfolding accepted_change changed_channel level_refusal
change_sound r new s e = says_sound (accepted_change r new).relay (next (sound_says r s))
  where
    next : Sound r → Sound (accepted_change r new).relay
    next was =
        record {
          settings = let nine = passed (nine_sound new) 0 e in
              and_true _ _ (and_true _ _ nine.0 (passed (restraints_sound new.restraint) 19 nine.1).0)
              (settings_say r.settings was.settings).lengths;
          age = was.age;
          slot = was.slot;
          channel = λ c l. rw (change_channel r new c l)
              (carried_sound r.settings.lengths (is_current c) (levels_of r.settings.levels c) (levels_of new c) (channel_at r c) (was.channel c l));
        }

-- ---- "Windows, slot, age, latches and the remembered bit 6 carry over.": of every relay and all levels, accepted or refused

pub record CarriesOver (r s : Relay) : Type 0 where
  pub age : s.age ≡ r.age
  pub slot : s.slot ≡ r.slot
  pub remembered : s.device_on ≡ r.device_on
  pub samples : (c : ℕ) → c < 6 → (channel_at s c).samples ≡ (channel_at r c).samples
  pub loss_latch_of : (c : ℕ) → c < 6 → (channel_at s c).loss_latch ≡ (channel_at r c).loss_latch
  pub over_latch_of : (c : ℕ) → c < 6 → (channel_at s c).over_latch ≡ (channel_at r c).over_latch

pub carries_over : (r : Relay) (new : Levels) → CarriesOver r (change_of r new).relay
unfolding change_of accepted_change refused_change changed_channel
carries_over r new = by (eqb (change_refusal r new) 0)
  where
    at : (c : ℕ) → c < 6 → channel_at (accepted_change r new).relay c
        ≡ carried_over (levels_of r.settings.levels c) (levels_of new c) (channel_at r c)
    at c l = change_channel r new c l

    by : (b : Bool) → CarriesOver r (cond {A = RelayAnswer} b (accepted_change r new) (refused_change r (change_refusal r new))).relay
    by true =
        record {
          age = refl;
          slot = refl;
          remembered = refl;
          samples = λ c l. ap (λ (ch : Channel). ch.samples) (at c l);
          loss_latch_of = λ c l. ap (λ (ch : Channel). ch.loss_latch) (at c l);
          over_latch_of = λ c l. ap (λ (ch : Channel). ch.over_latch) (at c l);
        }
    by false =
        record {
          age = refl;
          slot = refl;
          remembered = refl;
          samples = λ c l. refl;
          loss_latch_of = λ c l. refl;
          over_latch_of = λ c l. refl;
        }

-- ---- "A run carries over where its own level is equal; otherwise it becomes 0.", with the levels written out

module _ (r : Relay) (new : Levels) (s : sound_of r ≡ true) (e : level_refusal new ≡ 0) (c : ℕ) (h : c < 6) where
  abbrev was : ChannelLevels
  was = levels_of r.settings.levels c

  abbrev now : ChannelLevels
  now = levels_of new c

  carried : channel_at (change_of r new).relay c ≡ carried_over was now (channel_at r c)
  unfolding changed_channel
  carried = ap (λ (a : RelayAnswer). channel_at a.relay c) (change_accepted r new s e) ∙ change_channel r new c h

  pub loss_kept : was.drop ≡ now.drop → (channel_at (change_of r new).relay c).loss_run ≡ (channel_at r c).loss_run
  loss_kept q = ap (λ (ch : Channel). ch.loss_run) carried ∙ rw (eq-eqb was.drop now.drop q)

  pub loss_broken : ¬ (was.drop ≡ now.drop) → (channel_at (change_of r new).relay c).loss_run ≡ 0
  loss_broken q = ap (λ (ch : Channel). ch.loss_run) carried ∙ rw (ne_eqb was.drop now.drop q)

  pub over_kept : was.pickup ≡ now.pickup → was.restraint ≡ now.restraint
      → (channel_at (change_of r new).relay c).over_run ≡ (channel_at r c).over_run
  over_kept p q = ap (λ (ch : Channel). ch.over_run) carried ∙ rw (eq-eqb was.pickup now.pickup p, eq-eqb was.restraint now.restraint q)

  pub over_broken_by_pickup : ¬ (was.pickup ≡ now.pickup) → (channel_at (change_of r new).relay c).over_run ≡ 0
  over_broken_by_pickup q = ap (λ (ch : Channel). ch.over_run) carried ∙ rw (ne_eqb was.pickup now.pickup q)

  pub over_broken_by_restraint : ¬ (was.restraint ≡ now.restraint) → (channel_at (change_of r new).relay c).over_run ≡ 0
  over_broken_by_restraint q =
      ap (λ (ch : Channel). ch.over_run) carried
      ∙ rw (ne_eqb was.restraint now.restraint q) (by (eqb was.pickup now.pickup))
    where
      by : (b : Bool) → cond (b && false) (channel_at r c).over_run 0 ≡ 0
      by true = refl
      by false = refl

-- ---- changing to the levels in force changes nothing

-- levels that are equal to themselves keep each run
same_channel : (levels : ChannelLevels) (ch : Channel) → carried_over levels levels ch ≡ ch
same_channel levels ch =
    rw (eq-eqb levels.drop levels.drop refl, eq-eqb levels.pickup levels.pickup refl, eq-eqb levels.restraint levels.restraint refl)

-- levels that a sound relay has are accepted
own_accepted : (r : Relay) → sound_of r ≡ true → level_refusal r.settings.levels ≡ 0
unfolding level_refusal
own_accepted r s =
    let say : SettingsSay r.settings = settings_say r.settings (sound_says r s).settings in rw (say.nine, say.restraints)

pub change_nothing : (s : SoundRelay) → change_of s.relay s.relay.settings.levels ≡ record { relay = s.relay; refusal = 0 }
unfolding accepted_change changed_channel
change_nothing s =
    change_accepted r r.settings.levels s.sound (own_accepted r s.sound)
    ∙ ap (λ (cs : List Channel). record {
      relay = record { channels = cs; age = r.age; slot = r.slot; device_on = r.device_on; settings = r.settings };
      refusal = 0;
    }) same
  where
    r : Relay
    r = s.relay

    made : ℕ → Channel
    made c = carried_over (levels_of r.settings.levels c) (levels_of r.settings.levels c) (channel_at r c)

    same : table 6 made ≡ r.channels
    same =
        ext_get_or no_channel (table 6 made) r.channels (length_table 6 made ∙ sym s.six)
        (λ c l. get_d_table 6 made no_channel c (omega (arith, length_table 6 made))
        ∙ same_channel (levels_of r.settings.levels c) (channel_at r c))
