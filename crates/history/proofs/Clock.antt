-- What a relay has beside its channels and settings, its age, its slot and what it remembers of bit 6, after each event of a channel's history: each
-- is as the history says, and a frame is counted exactly where it finds age 72. Rests on Settling and History.
use Prim.Native.Nat.{ℕ, suc, ◌+◌, ◌%◌, ◌<◌, min}
use native.Mathlib.Omega.{arith}
use mathlib.Core.Path.{◌≡◌, refl, sym, ap, ◌∙◌, subst}
use mathlib.Core.Logic.{◌↔◌}
use mathlib.Core.Bool.{Bool, true, false, cond}
use mathlib.Core.List.{List, [], ◌∷◌}
use lib.Dec.{T, ltb, leb}
use lib.ListN.{length, get_or}
use borrow.Author.Tests.{ltb-true, ltb-false}
use Rattle.relay.specs.declared.Relay.{Relay}
use Rattle.relay.specs.Settings.{settled}
use Rattle.relay.specs.Relay.{found_by, age_after, slot_after}
use Rattle.history.specs.History.{Input, Event, sampled, inputs, frames, input_at, no_input, Counted}
use Rattle.history.specs.Settling.{latest_bit, since_rise}
use Rattle.history.proofs.History.{◌▷◌, frames_sampled, inputs_other, input_append, input_last}
use Rattle.history.proofs.Tests.{holds, is_true}
use Rattle.history.proofs.Settling.{counted_same, latest_same, since_same, age_at, found_counted, counted_found, age_step}

pub record Clock : Type 0 where
  pub age : ℕ
  pub slot : ℕ
  pub on : Bool

abbrev pub clock_of : Relay → Clock
clock_of r = record { age = r.age; slot = r.slot; on = r.device_on }

abbrev pub fresh_clock : Clock
fresh_clock = record { age = 0; slot = 0; on = true }

-- whether a frame with this bit 6 is counted, and what it leaves
abbrev pub counted_by : Clock → Bool → Bool
counted_by t bit6 = leb settled (found_by t.on bit6 t.age)

abbrev pub ticked : Clock → Bool → Clock
ticked t bit6 = record { age = age_after (found_by t.on bit6 t.age); slot = slot_after t.slot; on = bit6 }

-- bit 6 of frame k in a history
abbrev pub bit6_in : List Event → ℕ → Bool
bit6_in es k = (input_at es k).bit6

pub record ClockIs (es : List Event) (t : Clock) : Type 0 where
  pub aged : t.age ≡ min settled (since_rise (bit6_in es) (frames es))
  pub placed : t.slot ≡ frames es % 8
  pub remembered : t.on ≡ latest_bit (bit6_in es) (frames es)

pub clock_fresh : ClockIs [] fresh_clock
clock_fresh = record { aged = refl; placed = refl; remembered = refl }

-- an event that is no frame leaves the frames as they were
pub clock_other : (es : List Event) (e : Event) → inputs (e ∷ []) ≡ [] → (t : Clock) → ClockIs es t → ClockIs (es ▷ e) t
clock_other es e none t v =
    record {
      aged = subst (λ (l : List Input). t.age ≡ min settled (since_rise (λ k. (get_or l k no_input).bit6) (length l))) same v.aged;
      placed = subst (λ (l : List Input). t.slot ≡ length l % 8) same v.placed;
      remembered = subst (λ (l : List Input). t.on ≡ latest_bit (λ k. (get_or l k no_input).bit6) (length l)) same v.remembered;
    }
  where
    same : inputs es ≡ inputs (es ▷ e)
    same = sym (inputs_other es e none)

slot_step : (slot n : ℕ) → slot ≡ n % 8 → slot_after slot ≡ suc n % 8
slot_step slot n e = by (ltb slot 7) refl
  where
    by : (b : Bool) → ltb slot 7 ≡ b → cond b (slot + 1) 0 ≡ suc n % 8
    by true q = omega (arith, ltb-true slot 7 q)
    by false q = omega (arith, ltb-false slot 7 q)

module _ (es : List Event) (i : Input) (t : Clock) (v : ClockIs es t) where
  abbrev next : List Event
  next = es ▷ sampled i

  bit_same : (k : ℕ) → k < frames es → bit6_in es k ≡ bit6_in next k
  bit_same k l = ap (λ (i : Input). i.bit6) (sym (input_append es (sampled i ∷ []) k l))

  -- the age that the frame finds
  found : found_by t.on i.bit6 t.age ≡ age_at (bit6_in next) (frames es)
  found =
      by (v.remembered ∙ latest_same (bit6_in es) (bit6_in next) (frames es) bit_same)
      (ap (λ (i : Input). i.bit6) (sym (input_last es i)))
      (v.aged ∙ ap (min settled) (since_same (bit6_in es) (bit6_in next) (frames es) bit_same))
    where
      by : {a b c d : Bool} {m n : ℕ} → a ≡ b → c ≡ d → m ≡ n → found_by a c m ≡ found_by b d n
      by p q r = rw (p, q, r)

  pub counted_is : T (counted_by t i.bit6) ↔ Counted next (frames es)
  counted_is =
      rw found (λ h. found_counted (bit6_in next) (frames es) (is_true _ h), λ c. holds _ (counted_found (bit6_in next) (frames es) c))

  pub clock_sampled : ClockIs next (ticked t i.bit6)
  clock_sampled =
      record {
        aged = rw (found, frames_sampled es i) (age_step (bit6_in next) (frames es));
        placed = rw (frames_sampled es i) (slot_step t.slot (frames es) v.placed);
        remembered = rw (frames_sampled es i) (ap (λ (i : Input). i.bit6) (sym (input_last es i)));
      }

-- the frames before one more are counted as they were
pub counted_before : (es : List Event) (i : Input) (n : ℕ) → n < frames es → Counted es n ↔ Counted (es ▷ sampled i) n
counted_before es i n h =
    counted_same (bit6_in es) (bit6_in (es ▷ sampled i)) n
    (λ k l. ap (λ (i : Input). i.bit6) (sym (input_append es (sampled i ∷ []) k (omega arith))))
