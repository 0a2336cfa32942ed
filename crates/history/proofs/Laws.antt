-- What demand 3 gives of any implementation that meets it, sentence by sentence, with the documents' levels and numbers written out. Each is a part
-- of the demand, so that a clause of it cannot be weakened unseen. Rests on the demand's definitions, and for what the age says on Settling.
use Prim.Native.Nat.{ℕ, ◌+◌, ◌*◌, ◌≤◌, ◌<◌, min}
use native.Mathlib.Omega.{arith}
use mathlib.Core.Path.{◌≡◌, refl, sym, ap, ◌∙◌, subst}
use mathlib.Core.Logic.{◌↔◌}
use mathlib.Core.Bool.{Bool, true, false, ◌||◌}
use mathlib.Core.List.{List, [], ◌∷◌, ◌++◌, append-nil}
use lib.IntN.{pos, ◌+ℤ◌, ◌-ℤ◌}
use lib.Dec.{T, ltb, leb, eqb}
use lib.ListN.{get_or, replicate}
use borrow.Author.Tests.{le-leb, leb-true}
use Rattle.frames.specs.Bits.{bit_of}
use Rattle.phasor.specs.Cordic.{amplitude_of}
use Rattle.phasor.specs.Exact.{AtLeast, AtMost}
use Rattle.relay.specs.declared.ChannelLevels.{ChannelLevels}
use Rattle.relay.specs.declared.Levels.{Levels}
use Rattle.relay.specs.declared.Settings.{Settings}
use Rattle.relay.specs.Settings.{settled}
use Rattle.relay.specs.Sound.{sound_of}
use Rattle.relay.specs.Relay.{found_by}
use Rattle.history.specs.Calls.{Codes, Call, frame, reset, change, refusal_of, accepted_frames, device_bit, in_force, Implementation}
use Rattle.history.specs.History.{Event, own_levels, channel_history, frames, levels_at, window_at, Counted, FullRun}
use Rattle.history.specs.Settling.{since_rise}
use Rattle.history.specs.Demand.{loss_of, over_of, relay_after, loss_after, over_after, RelayIs, FrameAnswered, CallAnswered, AcceptedSettings, Demanded}
use Rattle.history.proofs.Clock.{bit6_in}
use Rattle.history.proofs.Relay.{device_same, bit_before, bit_last}
use Rattle.history.proofs.Settling.{latest_same, since_same, age_at, found_counted, counted_found}

module _ (d : Implementation) (meets : Demanded d) (settings : Settings) (ok : AcceptedSettings settings) where
  -- what the relay is after a list of calls, and what a call answers after others
  pub relay_says : (calls : List Call) → RelayIs d settings calls
  relay_says calls = (meets settings ok calls).relay calls [] (sym (append-nil calls))

  pub answer_says : (past : List Call) (call : Call) → CallAnswered d settings past call
  answer_says past call = (meets settings ok (past ++ (call ∷ []))).answers past call [] refl

  -- "Refusal 2 never occurs in it"; the levels are those in force (Paper 6), the lengths those made with (Paper 9)
  pub always_sound : (calls : List Call) → sound_of (relay_after d settings calls) ≡ true
  always_sound calls = (relay_says calls).sound

  pub holds_settings : (calls : List Call) → (relay_after d settings calls).settings
      ≡ record { levels = in_force settings.levels calls; lengths = settings.lengths }
  holds_settings calls = (relay_says calls).held

  -- "A refused call changes nothing": what a refused frame, reset and change answer, in full
  pub frame_refused : (past : List Call) (codes : Codes) (enable : ℕ) → ¬ (refusal_of (frame codes enable) ≡ 0)
      → d.frame (relay_after d settings past) codes.list enable
      ≡ record { relay = relay_after d settings past; refusal = refusal_of (frame codes enable); amplitudes = replicate 6 0; output = 0 }
  frame_refused past codes enable e = (answer_says past (frame codes enable)).1 e

  pub reset_refused : (past : List Call) (mask : ℕ) → ¬ (refusal_of (reset mask) ≡ 0)
      → d.reset (relay_after d settings past) mask ≡ record { relay = relay_after d settings past; refusal = refusal_of (reset mask) }
  reset_refused past mask e = (answer_says past (reset mask)).1 e

  pub change_refused : (past : List Call) (new : Levels) → ¬ (refusal_of (change new) ≡ 0)
      → d.change (relay_after d settings past) new ≡ record { relay = relay_after d settings past; refusal = refusal_of (change new) }
  change_refused past new e = (answer_says past (change new)).1 e

  -- ---- at an accepted frame after the calls `past`
  module _ (past : List Call) (codes : Codes) (enable : ℕ) (taken : refusal_of (frame codes enable) ≡ 0) where
    abbrev calls : List Call
    calls = past ++ (frame codes enable ∷ [])

    abbrev history : ℕ → List Event
    history c = channel_history c calls

    answered : FrameAnswered d settings past calls (d.frame (relay_after d settings past) codes.list enable)
    answered = (answer_says past (frame codes enable)).0 taken

    abbrev amplitude : ℕ → ℕ
    amplitude c = get_or (d.frame (relay_after d settings past) codes.list enable).amplitudes c 0

    -- "each within 2 of Z"; "It is never above 10,700."
    pub within_2 : (c : ℕ) → c < 6
        → AtLeast 1 (window_at (history c) (accepted_frames past)) (pos (amplitude c) -ℤ pos 2)
        × AtMost 1 (window_at (history c) (accepted_frames past)) (pos (amplitude c) +ℤ pos 2)
    within_2 c h = ((answered.within c h).low, (answered.within c h).high)

    pub never_above : (c : ℕ) → c < 6 → amplitude c ≤ 10700
    never_above = answered.bounded

    -- channel c's levels in frame n: "the one it ran under" (Paper 6)
    abbrev made : ℕ → ChannelLevels
    made c = own_levels settings.levels c

    abbrev level : ℕ → ℕ → ChannelLevels
    level c n = levels_at (made c) (history c) n

    -- "Wherever a rule on runs says 16 or 4 it means these" (Paper 9)
    abbrev loss_length : ℕ
    loss_length = settings.lengths.loss

    abbrev over_length : ℕ
    over_length = settings.lengths.over

    -- Paper 8: "r is 0 or 100 times the second-harmonic amplitude is less than r times the fundamental", in frame n
    abbrev Tested : ℕ → ℕ → Type 0
    Tested c n =
        let r : ℕ = (level c n).restraint in
        T (eqb r 0 || ltb (100 * amplitude_of 2 (window_at (history c) n)) (r * amplitude_of 1 (window_at (history c) n)))

    -- "if Z ≥ pickup + 2 (over) or Z < drop − 2 (loss) in each frame of a full run, the latch is on after its last frame"
    pub loss_clear : (c : ℕ) → c < 6 → (j : ℕ) → j + loss_length ≡ frames (history c)
        → FullRun (loss_of settings.lengths) (made c) (history c) loss_length j
        → ((n : ℕ) → j ≤ n → n < j + loss_length → ¬ AtLeast 1 (window_at (history c) n) (pos (level c n).drop -ℤ pos 2))
        → T (loss_after d settings calls c)
    loss_clear c h = (answered.loss_margins c h).clear_margin

    pub over_clear : (c : ℕ) → 3 ≤ c → c < 6 → (j : ℕ) → j + over_length ≡ frames (history c)
        → FullRun (over_of settings.lengths) (made c) (history c) over_length j
        → ((n : ℕ) → j ≤ n → n < j + over_length → AtLeast 1 (window_at (history c) n) (pos (level c n).pickup +ℤ pos 2) × Tested c n)
        → T (over_after d settings calls c)
    over_clear c k h = (answered.over_margins c k h).clear_margin

    -- "where a latch went on in a frame, Z ≥ pickup − 2 or Z < drop + 2 held in each frame of the full run ending there"
    pub loss_near : (c : ℕ) → c < 6 → ¬ T (loss_after d settings past c) → T (loss_after d settings calls c)
        → (j : ℕ) × (j + loss_length ≡ frames (history c)) × FullRun (loss_of settings.lengths) (made c) (history c) loss_length j
        × ((n : ℕ) → j ≤ n → n < j + loss_length → ¬ AtLeast 1 (window_at (history c) n) (pos (level c n).drop +ℤ pos 2))
    loss_near c h = (answered.loss_margins c h).near_margin

    pub over_near : (c : ℕ) → 3 ≤ c → c < 6 → ¬ T (over_after d settings past c) → T (over_after d settings calls c)
        → (j : ℕ) × (j + over_length ≡ frames (history c)) × FullRun (over_of settings.lengths) (made c) (history c) over_length j
        × ((n : ℕ) → j ≤ n → n < j + over_length → AtLeast 1 (window_at (history c) n) (pos (level c n).pickup -ℤ pos 2) × Tested c n)
    over_near c k h = (answered.over_margins c k h).near_margin

    -- Paper 5, what the age says: the frame is counted where it finds age 72, by the age and the memory that the relay was handed back with
    pub counted_by_age : (c : ℕ)
        → Counted (history c) (accepted_frames past)
        ↔ (((relay_after d settings past).age ≡ 72) × ¬ (¬ T (relay_after d settings past).device_on × T (bit_of enable 6)))
    counted_by_age c = (
      λ counted. by r_on (bit_of enable 6) (leb-true settled _ (subst (λ (m : ℕ). leb settled m ≡ true) found (counted_found f n counted))),
      λ says. found_counted f n
          (subst (λ (m : ℕ). leb settled m ≡ true) (sym found) (le-leb settled _ (back r_on (bit_of enable 6) says.0 says.1))),
    )
      where
        n : ℕ
        n = accepted_frames past

        f : ℕ → Bool
        f = bit6_in (history c)

        r_on : Bool
        r_on = (relay_after d settings past).device_on

        r_age : ℕ
        r_age = (relay_after d settings past).age

        bits : (k : ℕ) → k < accepted_frames past → device_bit past k ≡ bit6_in (history c) k
        bits k l = bit_before past codes enable taken k l ∙ device_same c calls k

        age_is : r_age ≡ min 72 (since_rise f n)
        age_is = (relay_says past).age ∙ ap (min 72) (since_same (device_bit past) f n bits)

        found : age_at f n ≡ found_by r_on (bit_of enable 6) r_age
        found =
            rw (
              ← age_is,
              (relay_says past).remembered ∙ latest_same (device_bit past) f n bits,
              sym (device_same c calls n) ∙ bit_last past codes enable taken,
            )

        by : (on bit : Bool) → settled ≤ found_by on bit r_age → (r_age ≡ 72) × ¬ (¬ T on × T bit)
        by true true h = (omega (arith, age_is), λ p. p.0 tt)
        by true false h = (omega (arith, age_is), λ p. p.1)
        by false true h = absurd (omega arith)
        by false false h = (omega (arith, age_is), λ p. p.1)

        back : (on bit : Bool) → r_age ≡ 72 → ¬ (¬ T on × T bit) → settled ≤ found_by on bit r_age
        back true true e h = omega arith
        back true false e h = omega arith
        back false true e h = absurd (h (λ t. t, tt))
        back false false e h = omega arith
