-- No wrong relay meets demand 3: what meets it answers as ours does (Unique), and on one list of calls or another a wrong relay does not. Most of
-- these are frames of code 512 with every level 1 (document 01, "Bench figures"): "loss latches in frame 87; in frame 86 none". What ours answers is
-- computed in HistoryCalls. Relays that restrain, settle, take new levels or count runs to wrong lengths are in Restraint, Unsettled, Changed and
-- RunLengths. Rests on Unique.
use Prim.Native.Nat.{ℕ, zero, suc, ◌≤◌, ◌<◌}
use native.Mathlib.Decide.{dec_le, dec_lt}
use native.Mathlib.Omega.{arith}
use mathlib.Core.Path.{◌≡◌, refl, sym, ap, ◌∙◌, subst}
use mathlib.Core.Bool.{Bool, true, false, cond, false≢true}
use mathlib.Core.List.{List, [], ◌∷◌, ◌++◌}
use lib.Dec.{T, leb, eqb}
use lib.ListN.{get_or, replicate}
use Rattle.lists.specs.Each.{every, table}
use Rattle.lists.proofs.Each.{get_d_table}
use Rattle.frames.specs.Bits.{bit_of}
use Rattle.relay.specs.declared.Channel.{Channel}
use Rattle.relay.specs.declared.Settings.{Settings}
use Rattle.relay.specs.declared.Relay.{Relay}
use Rattle.relay.specs.declared.RelayAnswer.{RelayAnswer}
use Rattle.relay.specs.declared.FrameAnswer.{FrameAnswer}
use Rattle.relay.specs.Channel.{no_channel}
use Rattle.relay.specs.Relay.{channel_at, zero_relay, fresh_of, age_found, amplitude_in, frame_of, reset_of, change_of}
use Rattle.relay.proofs.Examples.{equal_levels}
use Rattle.history.specs.Calls.{Codes, Call, frame, reset, change, frame_refused_by, reset_refused_by, accepted_frames, device_bit}
use Rattle.history.specs.Calls.{Implementation, the_relay}
use Rattle.history.specs.History.{channel_history, Counted}
use Rattle.history.specs.Demand.{relay_after, loss_after, AcceptedSettings, Demanded}
use Rattle.history.specs.WrongRelays.{no_change, BenchLengths, EachFrame, EachReset, FixedLatches, Wrong, never_trips, unaltered, fixed_amplitude}
use Rattle.history.specs.WrongRelays.{fixed_latches, restarts_age, grows_disabled, one_too_many, refuses_settings, refuses_reset}
use Rattle.history.specs.WrongRelays.{the_loss_latch, GoesOn, other_length}
use Rattle.history.specs.WrongRelays.{ignores_restraint, not_strict, third_harmonic, keeps_run, restrains_loss, anothers_restraint}
use Rattle.history.specs.WrongRelays.{never_settles, settles_at_fall, counts_the_rise, forgets_at_reset, remembers_refused}
use Rattle.history.specs.WrongRelays.{moves_latch, keeps_changed, clears_run, judges_old, ages_anew, forgets_at_change, forgets_change, refuses_change}
use Rattle.history.specs.WrongRelays.{exchanges_lengths, cuts_length, trips_late, trips_early, grows_on, alters_lengths}
use Rattle.history.proofs.HistoryCalls.{ones, still, frames512, quiet, answer_to, calls}
use Rattle.history.proofs.Laws.{answer_says}
use Rattle.history.proofs.Changed as changed
use Rattle.history.proofs.Clock.{bit6_in}
use Rattle.history.proofs.Computed.{computed}
use Rattle.history.proofs.Relay.{frames_frame, after_end, device_same, bit_before, bit_last}
use Rattle.history.proofs.Restraint as restraint
use Rattle.history.proofs.RunLengths as run_lengths
use Rattle.history.proofs.Settling.{always_on}
use Rattle.history.proofs.Unsettled as unsettled
use Rattle.history.proofs.WentOn as went_on
use Rattle.history.proofs.Unique.{SameButRuns, SameAnswer, same_relay, same_frame}

-- what they are shown by: accepted frames of code 512, under accepted settings
taken : frame_refused_by (replicate 6 512) 127 ≡ 0
taken = calls.middle_taken.0

in_range : AcceptedSettings ones
in_range = calls.lowest

on_bench : BenchLengths ones
on_bench = record { accepted = calls.lowest; loss_length = refl; over_length = refl }

quiet_frames : (n : ℕ) → accepted_frames (quiet n) ≡ n
quiet_frames zero = refl
quiet_frames (suc n) = frames_frame (quiet n) (still 512) 127 taken ∙ ap suc (quiet_frames n)

-- and no change of levels
no_change_end : (list : List Call) (codes : Codes) (enable : ℕ) → no_change (list ++ (frame codes enable ∷ [])) ≡ no_change list
no_change_end [] codes enable = refl
no_change_end (frame a b ∷ rest) codes enable = no_change_end rest codes enable
no_change_end (reset mask ∷ rest) codes enable = no_change_end rest codes enable
no_change_end (change new ∷ rest) codes enable = refl

quiet_changeless : (n : ℕ) → no_change (quiet n) ≡ true
quiet_changeless zero = refl
quiet_changeless (suc n) = no_change_end (quiet n) (still 512) 127 ∙ quiet_changeless n

-- bit 6 is on in each of them
bit_step : (n k : ℕ) → (k < n → device_bit (quiet n) k ≡ true) → k < suc n → Dec (k < n) → device_bit (quiet (suc n)) k ≡ true
bit_step n k old h (yes l) = sym (bit_before (quiet n) (still 512) 127 taken k (rw (quiet_frames n) l)) ∙ old l
bit_step n k old h (no l) =
    let last : k ≡ accepted_frames (quiet n) = omega (arith, quiet_frames n) in
    ap (device_bit (quiet (suc n))) last ∙ bit_last (quiet n) (still 512) 127 taken

quiet_bit : (n k : ℕ) → k < n → device_bit (quiet n) k ≡ true
quiet_bit zero k h = absurd (omega arith)
quiet_bit (suc n) k h = bit_step n k (quiet_bit n k) h (dec_lt k n)

quiet_on : (n k : ℕ) → k < n → T (bit6_in (channel_history 0 (quiet n)) k)
quiet_on n k h = subst T (sym (quiet_bit n k h) ∙ device_same 0 (quiet n) k) tt

-- m + 1 in place of each m
abbrev OneMore : Implementation → Relay → List ℕ → ℕ → Type 0
OneMore d r codes enable = (c : ℕ) → c < 6 → get_or (d.frame r codes enable).amplitudes c 0 ≡ suc (amplitude_in r.slot codes r.channels c)

-- ---- the refutations

module _ (d : Implementation) (meets : Demanded d) where
  relay_same : (calls : List Call) → SameButRuns (relay_after d ones calls) (relay_after the_relay ones calls)
  relay_same = same_relay d meets ones in_range

  latch_same : (calls : List Call) → loss_after d ones calls 0 ≡ loss_after the_relay ones calls 0
  latch_same calls = (relay_same calls).loss_latch 0 (omega arith)

  frame_same : (past : List Call) (code : ℕ) → SameAnswer (d.frame (relay_after d ones past) (replicate 6 code) 127) (answer_to past code)
  frame_same past code = same_frame d meets ones in_range past (still code) 127

  amplitude_same : (code : ℕ)
      → get_or (d.frame (relay_after d ones []) (replicate 6 code) 127).amplitudes 0 0 ≡ get_or (answer_to [] code).amplitudes 0 0
  amplitude_same code = ap (λ (l : List ℕ). get_or l 0 0) (frame_same [] code).amplitudes

  never_trips_lem : ¬ EachFrame d (λ r codes enable. (d.frame r codes enable).output ≡ 0)
  never_trips_lem wrong =
      omega (arith, wrong ones on_bench (quiet 87) refl (still 512) 127 taken, (frame_same (quiet 87) 512).output, calls.output87)

  stays : ¬ EachFrame d (λ r codes enable. (d.frame r codes enable).relay ≡ r)
  stays wrong =
      let age : (relay_after d ones (quiet 1)).age ≡ (relay_after d ones []).age =
      ap (λ (r : Relay). r.age) (wrong ones on_bench [] refl (still 512) 127 taken) in
      omega (arith, age, (relay_same []).age, (relay_same (quiet 1)).age, calls.ages)

  fixed_amplitude_lem : (m : ℕ) → ¬ EachFrame d (λ r codes enable. (d.frame r codes enable).amplitudes ≡ replicate 6 m)
  fixed_amplitude_lem m wrong = omega (arith, is 512 taken, is 1023 calls.codes_taken.0, calls.amplitudes)
    where
      is : (code : ℕ) → frame_refused_by (replicate 6 code) 127 ≡ 0 → m ≡ get_or (answer_to [] code).amplitudes 0 0
      is code e = sym (ap (λ (l : List ℕ). get_or l 0 0) (wrong ones on_bench [] refl (still code) 127 e)) ∙ amplitude_same code

  fixed_latches_lem : ¬ FixedLatches d
  fixed_latches_lem wrong =
      false≢true (sym calls.at72 ∙ sym (latch_same (quiet 73)) ∙ sym (repeated 87 (omega arith)) ∙ latch_same (quiet 88) ∙ calls.at87)
    where
      counted : (n : ℕ) → 72 ≤ n → Counted (channel_history 0 (quiet (suc n))) (accepted_frames (quiet n))
      counted n h = rw (quiet_frames n) (always_on (bit6_in (channel_history 0 (quiet (suc n)))) n h (λ k l. quiet_on (suc n) k (omega arith)))

      repeated : (n : ℕ) → 72 ≤ n → loss_after d ones (quiet (suc n)) 0 ≡ loss_after d ones (quiet 73) 0
      repeated zero h = absurd (omega arith)
      repeated (suc n) h = by (dec_le 72 n) (repeated n)
        where
          by : Dec (72 ≤ n) → (72 ≤ n → loss_after d ones (quiet (suc n)) 0 ≡ loss_after d ones (quiet 73) 0)
              → loss_after d ones (quiet (suc (suc n))) 0 ≡ loss_after d ones (quiet 73) 0
          by (yes l) more =
              ap (λ (r : Relay). (channel_at r 0).loss_latch) (after_end d (d.fresh ones).relay (quiet (suc n)) (frame (still 512) 127))
              ∙ wrong ones on_bench (quiet n) (quiet_changeless n) (still 512) (still 512) 127 127 taken taken (counted n l) 0 (omega arith) ∙ more l
          by (no l) more = ap (λ (k : ℕ). loss_after d ones (quiet (suc k)) 0) (let e : suc n ≡ 72 = omega arith in e)

  restarts_age_lem : ¬ EachReset d (λ r mask. (d.reset r mask).relay.age ≡ 0)
  restarts_age_lem wrong =
      omega (arith, wrong ones on_bench (quiet 1) refl 0 calls.ends_taken.0, (relay_same (quiet 1 ++ (reset 0 ∷ []))).age, calls.ages.2)

  one_too_many_lem : ¬ EachFrame d (OneMore d)
  one_too_many_lem wrong =
      omega (arith, wrong ones on_bench [] refl (still 512) 127 taken 0 (omega arith), amplitude_same 512, calls.amplitudes.0)

pub refuted : (d : Implementation) → Wrong d → ¬ Demanded d
refuted d (never_trips wrong) meets = never_trips_lem d meets wrong
refuted d (unaltered wrong) meets = stays d meets wrong
refuted d (fixed_amplitude m wrong) meets = fixed_amplitude_lem d meets m wrong
refuted d (fixed_latches wrong) meets = fixed_latches_lem d meets wrong
refuted d (restarts_age wrong) meets = restarts_age_lem d meets wrong
refuted d (grows_disabled g off) meets = off (went_on.grows_disabled_lem d meets g)
refuted d (one_too_many wrong) meets = one_too_many_lem d meets wrong
refuted d (refuses_settings settings ok wrong) meets = wrong (meets settings ok []).made
refuted d (refuses_reset settings ok past mask e wrong) meets = wrong ((answer_says d meets settings ok past (reset mask)).0 e)
refuted d (ignores_restraint k h wrong) meets = restraint.ignores_restraint_lem d meets k h wrong
refuted d (not_strict k h wrong) meets = restraint.not_strict_lem d meets k h wrong
refuted d (third_harmonic k h wrong) meets = restraint.third_harmonic_lem d meets k h wrong
refuted d (keeps_run k h wrong) meets = restraint.keeps_run_lem d meets k h wrong
refuted d (restrains_loss k h wrong) meets = restraint.restrains_loss_lem d meets k h wrong
refuted d (anothers_restraint k l h m ne wrong) meets = restraint.anothers_restraint_lem d meets k h l m ne wrong
refuted d (never_settles g t rise early) meets = unsettled.never_settles_lem d meets g t rise early
refuted d (settles_at_fall settings ok past codes enable e off old wrong) meets =
    unsettled.settles_at_fall_lem d meets settings ok past codes enable e off old wrong
refuted d (counts_the_rise g t rise late early) meets = unsettled.counts_the_rise_lem d meets g t rise early
refuted d (forgets_at_reset settings ok past mask e wrong) meets = wrong (unsettled.forgets_at_reset_lem d meets settings ok past mask)
refuted d (remembers_refused settings ok past codes enable e wrong) meets =
    wrong (unsettled.remembers_refused_lem d meets settings ok past codes enable e)
refuted d (moves_latch g latch c h wrong) meets = wrong (changed.moves_latch_lem d meets g latch c h)
refuted d (keeps_changed g lately) meets = changed.keeps_changed_lem d meets g lately
refuted d (clears_run latch wrong) meets = changed.clears_run_lem d meets latch wrong
refuted d (judges_old g n unmet) meets = changed.judges_old_lem d meets g n unmet
refuted d (ages_anew g wrong) meets = wrong (changed.ages_anew_lem d meets g)
refuted d (forgets_at_change g wrong) meets = wrong (changed.forgets_at_change_lem d meets g)
refuted d (forgets_change settings ok past mask e wrong) meets = wrong (changed.forgets_change_lem d meets settings ok past mask)
refuted d (refuses_change g wrong) meets = wrong ((answer_says d meets g.settings g.accepted g.past (change g.new)).0 g.taken)
refuted d (exchanges_lengths g shorter run) meets = run_lengths.short_run d meets g (other_length g) shorter run
refuted d (cuts_length g longer run) meets = run_lengths.short_run d meets g 16 longer run
refuted d (trips_late latch wrong) meets = run_lengths.trips_late_lem d meets latch wrong
refuted d (trips_early g len shorter run) meets = run_lengths.short_run d meets g len shorter run
refuted d (grows_on settings ok calls latch c h wrong) meets = run_lengths.grows_on_lem d meets settings ok calls latch c h wrong
refuted d (alters_lengths settings ok past call wrong) meets = wrong (run_lengths.alters_lengths_lem d meets settings ok past call)

-- ---- there are such relays: ours, with one thing changed in what accepted calls answer; a frame refused by 3 or 4 is answered as it should be

abbrev pub framing : (Relay → List ℕ → ℕ → FrameAnswer → FrameAnswer) → Implementation
framing f =
    record {
      fresh = fresh_of;
      frame = λ r codes enable. cond (eqb (frame_refused_by codes enable) 0) (f r codes enable (frame_of r codes enable)) (frame_of r codes enable);
      reset = reset_of;
      change = change_of;
    }

abbrev pub with_fresh : (Settings → RelayAnswer) → Implementation
with_fresh f = record { fresh = f; frame = frame_of; reset = reset_of; change = change_of }

abbrev pub resetting : (Relay → ℕ → RelayAnswer) → Implementation
resetting f = record { fresh = fresh_of; frame = frame_of; reset = f; change = change_of }

abbrev pub with_age : ℕ → Relay → Relay
with_age age r = record { channels = r.channels; age = age; slot = r.slot; device_on = r.device_on; settings = r.settings }

abbrev pub with_memory : Bool → Relay → Relay
with_memory on r = record { channels = r.channels; age = r.age; slot = r.slot; device_on = on; settings = r.settings }

abbrev muted : Implementation
muted = framing (λ r codes enable a. record { relay = a.relay; refusal = a.refusal; amplitudes = a.amplitudes; output = 0 })

abbrev pub handing : Relay → FrameAnswer → FrameAnswer
handing r a = record { relay = r; refusal = a.refusal; amplitudes = a.amplitudes; output = a.output }

abbrev stuck : Implementation
stuck = framing (λ r codes enable a. handing r a)

abbrev showing : List ℕ → FrameAnswer → FrameAnswer
showing amplitudes a = record { relay = a.relay; refusal = a.refusal; amplitudes = amplitudes; output = a.output }

abbrev constant : ℕ → Implementation
constant m = framing (λ r codes enable a. showing (replicate 6 m) a)

abbrev one_added : Relay → List ℕ → ℕ → ℕ
one_added r codes c = suc (amplitude_in r.slot codes r.channels c)

abbrev increased : Implementation
increased = framing (λ r codes enable a. showing (table 6 (one_added r codes)) a)

-- the latches as the frame found them: up to the first counted frame no run is full, so these are the ones it would fix
abbrev frozen_at : Relay → Relay → ℕ → Channel
frozen_at was r c =
    record {
      samples = (channel_at r c).samples;
      loss_run = (channel_at r c).loss_run;
      over_run = (channel_at r c).over_run;
      loss_latch = (channel_at was c).loss_latch;
      over_latch = (channel_at was c).over_latch;
    }

abbrev refrozen : Relay → Relay → Relay
refrozen was r =
    record { channels = table 6 (frozen_at was r); age = r.age; slot = r.slot; device_on = r.device_on; settings = r.settings }

abbrev frozen : Implementation
frozen = framing (λ r codes enable a. handing (refrozen r a.relay) a)

-- each accepted frame as if all were enabled
abbrev enabling : Implementation
enabling = framing (λ r codes enable a. frame_of r codes 127)

-- the same of its runs alone: it remembers bit 6 and settles as it should
abbrev growing : Implementation
growing = framing (λ r codes enable a.
    let b : FrameAnswer = frame_of (with_memory true (with_age (age_found r enable) r)) codes 127 in
    record { relay = with_memory (bit_of enable 6) b.relay; refusal = b.refusal; amplitudes = b.amplitudes; output = a.output })

-- age 0 after an accepted reset
abbrev young : Relay → Relay
young r = with_age 0 r

abbrev restarted : Implementation
restarted = resetting (λ r mask.
    let a : RelayAnswer = reset_of r mask in
    cond (eqb (reset_refused_by mask) 0) (record { relay = young a.relay; refusal = a.refusal }) a)

-- a reset that names channel 5 is refused
abbrev deaf : Implementation
deaf = resetting (λ r mask. cond {A = RelayAnswer} (bit_of mask 5) (record { relay = r; refusal = 5 }) (reset_of r mask))

-- a fresh relay for no settings, and one for no drop level above 8,192
abbrev pub none : RelayAnswer
none = record { relay = zero_relay; refusal = 1 }

abbrev refusing : Implementation
refusing = with_fresh (λ settings. none)

abbrev narrow : Implementation
narrow = with_fresh (λ settings. cond (every 6 (λ c. leb (get_or settings.levels.drop c 0) 8192)) (fresh_of settings) none)

narrow_refuses : ¬ ((narrow.fresh (equal_levels 10700 1)).refusal ≡ 0)
unfolding every
narrow_refuses e = absurd (omega arith)

-- a number that is another lies where that does
pub from_on : {n m t : ℕ} → n ≡ m → t ≤ m → t ≤ n
from_on {t = t} e h = subst (λ (k : ℕ). t ≤ k) (sym e) h

pub up_to_lem : {n m t : ℕ} → n ≡ m → m < t → n < t
up_to_lem {t = t} e h = subst (λ (k : ℕ). k < t) (sym e) h

-- Where the loss latch of channel 0 goes on in a last frame of code 512: of any settings, and every level 1.
abbrev pub goes_on_in : (d : Implementation) (settings : Settings) → AcceptedSettings settings → (past : List Call) (enable : ℕ)
    → frame_refused_by (replicate 6 512) enable ≡ 0 → loss_after d settings past 0 ≡ false
    → loss_after d settings (past ++ (frame (still 512) enable ∷ [])) 0 ≡ true → GoesOn d
goes_on_in d settings ok past enable e was now =
    record {
      settings = settings;
      accepted = ok;
      past = past;
      codes = still 512;
      enable = enable;
      taken = e;
      latch = the_loss_latch;
      channel = 0;
      is_channel = omega arith;
      was = λ t. subst T was t;
      now = subst T (sym now) tt;
    }

abbrev pub goes_on : (d : Implementation) (past : List Call) (enable : ℕ) → frame_refused_by (replicate 6 512) enable ≡ 0
    → loss_after d ones past 0 ≡ false → loss_after d ones (past ++ (frame (still 512) enable ∷ [])) 0 ≡ true → GoesOn d
goes_on d = goes_on_in d ones calls.lowest

record Facts : Type 0 where
  off_taken : frame_refused_by (replicate 6 512) 0x3F ≡ 0
  enabling_on : (loss_after enabling ones (frames512 0 87) 0 ≡ false) × (loss_after enabling ones (frames512 0 88) 0 ≡ true)
  growing_on : (loss_after growing ones (frames512 0x3F 87) 0 ≡ false) × (loss_after growing ones (frames512 0x3F 88) 0 ≡ true)

facts : Facts
unfolding computed
facts = record { off_taken = refl; enabling_on = (refl, refl); growing_on = (refl, refl) }

-- one implementation of each of the first nine kinds; those of restraint, of settling, of new levels and of lengths are in RestraintOnes,
-- UnsettledOnes, ChangedOnes and RunLengthsOnes
pub record WrongOnes : Type 0 where
  pub never_trips_lem : Wrong muted
  pub unaltered_one : Wrong stuck
  pub one_amplitude : (m : ℕ) → Wrong (constant m)
  pub frozen_latches : Wrong frozen
  pub age_restarted : Wrong restarted
  pub enable_ignored : Wrong enabling
  pub runs_disabled : Wrong growing
  pub one_more : Wrong increased
  pub all_refused : Wrong refusing
  pub high_refused : Wrong narrow
  pub last_refused : Wrong deaf

pub wrong_ones : WrongOnes
wrong_ones =
    record {
      never_trips_lem = never_trips (λ settings ok past none codes enable e. rw e);
      unaltered_one = unaltered (λ settings ok past none codes enable e. rw e);
      one_amplitude = λ m. fixed_amplitude m (λ settings ok past none codes enable e. rw e);
      frozen_latches = fixed_latches frozen_so;
      age_restarted = restarts_age (λ settings ok past none mask e. rw e);
      enable_ignored = grows_disabled
          (goes_on enabling (frames512 0 87) 0 calls.middle_taken.1 facts.enabling_on.0 facts.enabling_on.1) (λ t. t);
      runs_disabled = grows_disabled
          (goes_on growing (frames512 0x3F 87) 0x3F facts.off_taken facts.growing_on.0 facts.growing_on.1) (λ t. t);
      one_more = one_too_many more_so;
      all_refused = refuses_settings ones in_range (λ e. absurd (omega arith));
      high_refused = refuses_settings (equal_levels 10700 1) calls.highest_drops narrow_refuses;
      last_refused = refuses_reset ones in_range [] 32 calls.ends_taken.1 (λ e. absurd (omega arith));
    }
  where
    frozen_so : FixedLatches frozen
    frozen_so settings ok past none one two enable_one enable_two e k h c l =
        let r : Relay = relay_after frozen settings (past ++ (frame one enable_one ∷ [])) in
        rw k (ap (λ (ch : Channel). ch.loss_latch) (get_d_table 6 (frozen_at r (frame_of r two.list enable_two).relay) no_channel c l))

    more_so : EachFrame increased (OneMore increased)
    more_so settings ok past none codes enable e c l =
        let r : Relay = relay_after increased settings past in
        rw e (get_d_table 6 (one_added r codes.list) 0 c l)
