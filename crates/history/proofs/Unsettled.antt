-- No relay that settles wrongly (document 02, Paper 5) meets demand 3. After a rise at frame t a full run has no frame before t + 72, whatever the
-- implementation; what it remembers and its age the demand says outright. That there are such relays is in UnsettledOnes. Rests on WentOn and
-- Settling.
use Prim.Native.Nat.{ℕ, zero, suc, ◌+◌, ◌≤◌, ◌<◌, min}
use native.Mathlib.Decide.{dec_lt}
use native.Mathlib.Omega.{arith}
use native.Mathlib.Nat.{le_refl}
use mathlib.Core.Path.{◌≡◌, refl, sym, ap, ap₂, ◌∙◌, subst}
use mathlib.Core.Bool.{Bool, true, false, cond}
use mathlib.Core.List.{List, [], ◌∷◌, ◌++◌}
use lib.Dec.{T}
use lib.ListN.{get_or}
use Rattle.frames.specs.Bits.{bit_of}
use Rattle.relay.specs.declared.ChannelLevels.{ChannelLevels}
use Rattle.relay.specs.declared.Settings.{Settings}
use Rattle.relay.specs.declared.Relay.{Relay}
use Rattle.relay.specs.declared.FrameAnswer.{FrameAnswer}
use Rattle.relay.specs.Settings.{Kind}
use Rattle.history.specs.Calls.{Codes, Call, frame, reset, refusal_of, accepted_frames, device_bit, Implementation}
use Rattle.history.specs.History.{Event, frames, FullRun}
use Rattle.history.specs.Settling.{rise_in, latest_bit, since_rise}
use Rattle.history.specs.Demand.{relay_after, RelayIs, AcceptedSettings, Demanded}
use Rattle.history.specs.WrongRelays.{GoesOn, number_of, calls_of, full_length, kind_in, made_in, events, Risen}
use Rattle.history.proofs.Clock.{bit6_in}
use Rattle.history.proofs.Laws.{relay_says, answer_says}
use Rattle.history.proofs.Relay.{after_end, frames_frame, frames_reset, device_same, bits_reset, bit_before, bit_last}
use Rattle.history.proofs.Settling.{rise_same, since_same}
use Rattle.history.proofs.WentOn.{frames_are, run_ends, some}

-- a full run at the end lies wholly from t + 72 on, where t is a rise
after_settling : (kind : Kind) (made : ChannelLevels) (es : List Event) (len j t : ℕ) → 0 < len → j + len ≡ frames es → FullRun kind made es len j → t < frames es → T (rise_in (bit6_in es) t)
    → t + 72 ≤ j
after_settling kind made es len j t some e run h rise = by (dec_lt t j) (dec_lt j (t + 72))
  where
    by : Dec (t < j) → Dec (j < t + 72) → t + 72 ≤ j
    by (yes before) (yes early) = absurd ((run.each j (omega arith) (omega arith)).counted.no_rise t (omega arith) (omega arith) rise)
    by (yes before) (no late) = omega arith
    by (no within) early = absurd ((run.each t (omega arith) (omega arith)).counted.no_rise t (omega arith) (omega arith) rise)

-- the frame itself can be the rise
pub risen_itself : {d : Implementation} (g : GoesOn d) → T (rise_in (device_bit (calls_of g)) (number_of g)) → Risen g (number_of g)
risen_itself g rise = (le_refl (number_of g), rise)

module _ (d : Implementation) (meets : Demanded d) where
  -- a latch that goes on after a rise at t has its full run from t + 72 on
  pub goes_on_late : (g : GoesOn d) (t : ℕ) → Risen g t → t + 72 + full_length g ≤ number_of g + 1
  goes_on_late g t (h, rise) =
      let run = run_ends d meets g in
      let all = frames_are d meets g in
      omega (
        arith,
        run.1,
        all,
        after_settling (kind_in g) (made_in g) (events g) (full_length g) run.0 t (some d meets g) run.1 run.2 (omega (arith, h, all)) rises,
      )
    where
      rises : T (rise_in (bit6_in (events g)) t)
      rises =
          subst T (rise_same (device_bit (calls_of g)) (bit6_in (events g)) t (λ k l. device_same g.channel (calls_of g) k)) rise

  pub never_settles_lem : (g : GoesOn d) (t : ℕ) → Risen g t → ¬ (number_of g < t + 72)
  never_settles_lem g t rise h = omega (arith, goes_on_late g t rise, some d meets g)

  pub counts_the_rise_lem : (g : GoesOn d) (t : ℕ) → Risen g t → ¬ (number_of g + 1 < t + 72 + full_length g)
  counts_the_rise_lem g t rise h = omega (arith, goes_on_late g t rise)

  module _ (settings : Settings) (ok : AcceptedSettings settings) (past : List Call) where
    abbrev says : (calls : List Call) → RelayIs d settings calls
    says calls = relay_says d meets settings ok calls

    -- a frame with bit 6 off is no rise
    pub settles_at_fall_lem : (codes : Codes) (enable : ℕ) → refusal_of (frame codes enable) ≡ 0 → ¬ T (bit_of enable 6)
        → 1 ≤ (relay_after d settings past).age → ¬ ((d.frame (relay_after d settings past) codes.list enable).relay.age ≤ 1)
    settles_at_fall_lem codes enable taken off old new = omega (arith, old, new, (says past).age, after, since)
      where
        calls : List Call
        calls = past ++ (frame codes enable ∷ [])

        n : ℕ
        n = accepted_frames past

        falls : rise_in (device_bit calls) n ≡ false
        falls = none n (bit_last past codes enable taken)
          where
            is_off : (b : Bool) → ¬ T b → b ≡ false
            is_off true h = absurd (h tt)
            is_off false h = refl

            none : (n : ℕ) → device_bit calls n ≡ bit_of enable 6 → rise_in (device_bit calls) n ≡ false
            none zero e = refl
            none (suc k) e = rw (e ∙ is_off (bit_of enable 6) off)

        since : since_rise (device_bit calls) (suc n) ≡ suc (since_rise (device_bit past) n)
        since = ap₂ (λ (b : Bool) (m : ℕ). cond b 1 (suc m)) falls
            (sym (since_same (device_bit past) (device_bit calls) n (bit_before past codes enable taken)))

        after : (d.frame (relay_after d settings past) codes.list enable).relay.age ≡ min 72 (since_rise (device_bit calls) (suc n))
        after =
            ap (λ (r : Relay). r.age) (sym (after_end d (d.fresh settings).relay past (frame codes enable))) ∙ (says calls).age
            ∙ ap (λ (m : ℕ). min 72 (since_rise (device_bit calls) m)) (frames_frame past codes enable taken)

    pub forgets_at_reset_lem : (mask : ℕ) → (d.reset (relay_after d settings past) mask).relay.device_on ≡ (relay_after d settings past).device_on
    forgets_at_reset_lem mask =
        ap (λ (r : Relay). r.device_on) (sym (after_end d (d.fresh settings).relay past (reset mask)))
        ∙ (says (past ++ (reset mask ∷ []))).remembered
        ∙ ap₂ (λ (bits : List Bool) (m : ℕ). latest_bit (λ k. get_or bits k false) m) (bits_reset past mask) (frames_reset past mask)
        ∙ sym (says past).remembered

    pub remembers_refused_lem : (codes : Codes) (enable : ℕ) → ¬ (refusal_of (frame codes enable) ≡ 0)
        → (d.frame (relay_after d settings past) codes.list enable).relay.device_on ≡ (relay_after d settings past).device_on
    remembers_refused_lem codes enable e =
        ap (λ (a : FrameAnswer). a.relay.device_on) ((answer_says d meets settings ok past (frame codes enable)).1 e)
