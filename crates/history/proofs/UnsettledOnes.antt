-- There are relays that settle wrongly in the ways that `Wrong` says: ours, with one thing changed, on a list of calls where it shows, computed.
-- Frames have code 512 and every level is 1, so that a loss run grows in each counted frame. Rests on Refutations.
use Prim.Native.Nat.{ℕ, zero, suc, ◌+◌, ◌<◌}
use native.Mathlib.Omega.{arith}
use mathlib.Core.Path.{◌≡◌, refl, sym, ◌∙◌, subst}
use mathlib.Core.Bool.{true, false, ◌&&◌, not, cond, false≢true}
use mathlib.Core.List.{List, [], ◌∷◌, ◌++◌}
use lib.Dec.{T, eqb, lit≤, lit<}
use lib.ListN.{replicate}
use Rattle.frames.specs.Bits.{bit_of}
use Rattle.relay.specs.declared.Relay.{Relay}
use Rattle.relay.specs.declared.FrameAnswer.{FrameAnswer}
use Rattle.relay.specs.declared.RelayAnswer.{RelayAnswer}
use Rattle.relay.specs.Relay.{fresh_of, frame_of, reset_of, change_of}
use Rattle.history.specs.Calls.{Call, frame, frame_refused_by, reset_refused_by, accepted_frames, device_bit, Implementation}
use Rattle.history.specs.Settling.{rise_in}
use Rattle.history.specs.Demand.{relay_after, loss_after}
use Rattle.history.specs.WrongRelays.{Wrong, never_settles, settles_at_fall, counts_the_rise, forgets_at_reset, remembers_refused}
use Rattle.history.proofs.Computed.{computed}
use Rattle.history.proofs.HistoryCalls.{ones, still, frames512, calls}
use Rattle.history.proofs.Refutations.{framing, resetting, with_age, with_memory, from_on, up_to_lem, goes_on}

-- ---- ours, with one thing changed

-- what our relay would answer if it remembered bit 6 as on: it sees no rise
abbrev unseen : Relay → List ℕ → ℕ → FrameAnswer
unseen r codes enable = frame_of (with_memory true r) codes enable

-- never settles again
abbrev never : Implementation
never = framing (λ r codes enable a. unseen r codes enable)

-- settles at the fall, and not at the rise
abbrev falling : Implementation
falling = framing (λ r codes enable a. unseen (with_age (cond (r.device_on && not (bit_of enable 6)) 0 r.age) r) codes enable)

-- finds the old age in the rising frame, and settles from the next one on
abbrev tardy : Implementation
tardy = framing (λ r codes enable a.
    let b : FrameAnswer = unseen r codes enable in
    record { relay = with_age a.relay.age b.relay; refusal = b.refusal; amplitudes = b.amplitudes; output = b.output })

-- the same, and the age is set to 0 after all else, so that the next frame finds 0: with one rise its latches are those of ours
abbrev late : Implementation
late = framing (λ r codes enable a.
    let b : FrameAnswer = unseen r codes enable in
    record {
      relay = with_age (cond (bit_of enable 6 && not r.device_on) 0 b.relay.age) b.relay;
      refusal = b.refusal;
      amplitudes = b.amplitudes;
      output = b.output;
    })

-- remembers on after an accepted reset
abbrev forgetful : Implementation
forgetful = resetting (λ r mask.
    let a : RelayAnswer = reset_of r mask in
    cond (eqb (reset_refused_by mask) 0) (record { relay = with_memory true a.relay; refusal = a.refusal }) a)

-- remembers bit 6 of a refused frame
abbrev gullible : Implementation
gullible =
    record {
      fresh = fresh_of;
      frame = λ r codes enable.
          let a : FrameAnswer = frame_of r codes enable in
          cond (eqb a.refusal 0) a
          (record { relay = with_memory (bit_of enable 6) r; refusal = a.refusal; amplitudes = a.amplitudes; output = a.output });
      reset = reset_of;
      change = change_of;
    }

-- ---- 72 frames with bit 6 off, of which the first is no rise, and n with it on: frame 72 is a rise

abbrev onwards : ℕ → List Call
onwards zero = frames512 0x3F 72
onwards (suc n) = onwards n ++ (frame (still 512) 0x7F ∷ [])

-- and then one frame with it off, and n with it on: frame 145 is a rise too
abbrev again : ℕ → List Call
again zero = onwards 72 ++ (frame (still 512) 0x3F ∷ [])
again (suc n) = again n ++ (frame (still 512) 0x7F ∷ [])

record Computed : Type 0 where
  off_taken : frame_refused_by (replicate 6 512) 0x3F ≡ 0
  -- frame 87 of the one, frame 158 of the next, and frame 231 of the other list
  numbers : (accepted_frames (onwards 15) ≡ 87) × (accepted_frames (onwards 86) ≡ 158) × (accepted_frames (again 86) ≡ 231)
  rises : (rise_in (device_bit (onwards 16)) 72 ≡ true) × (rise_in (device_bit (onwards 87)) 72 ≡ true) × (rise_in (device_bit (again 87)) 145 ≡ true)
  never_on : (loss_after never ones (onwards 15) 0 ≡ false) × (loss_after never ones (onwards 16) 0 ≡ true)
  tardy_on : (loss_after tardy ones (onwards 86) 0 ≡ false) × (loss_after tardy ones (onwards 87) 0 ≡ true)
  late_on : (loss_after late ones (again 86) 0 ≡ false) × (loss_after late ones (again 87) 0 ≡ true)
  -- the age before a fall in frame 2, and after it
  fallen : ((relay_after falling ones (frames512 0x7F 2)).age ≡ 2)
      × ((falling.frame (relay_after falling ones (frames512 0x7F 2)) (replicate 6 512) 0x3F).relay.age ≡ 1)
  -- a reset after a frame with bit 6 off, and a frame refused by 4 with bit 6 off before any
  forgotten : ((relay_after forgetful ones (frames512 0x3F 1)).device_on ≡ false)
      × ((forgetful.reset (relay_after forgetful ones (frames512 0x3F 1)) 0).relay.device_on ≡ true)
  heeded : ((relay_after gullible ones []).device_on ≡ true)
      × ((gullible.frame (relay_after gullible ones []) (replicate 6 512) 0x80).relay.device_on ≡ false)

facts : Computed
unfolding computed
facts =
    record {
      off_taken = refl;
      numbers = (refl, refl, refl);
      rises = (refl, refl, refl);
      never_on = (refl, refl);
      tardy_on = (refl, refl);
      late_on = (refl, refl);
      fallen = (refl, refl);
      forgotten = (refl, refl);
      heeded = (refl, refl);
    }

pub record UnsettledOnes : Type 0 where
  pub never_again : Wrong never
  pub at_the_fall : Wrong falling
  pub rise_counted : Wrong tardy
  pub rise_counted_late : Wrong late
  pub reset_forgets : Wrong forgetful
  pub refused_heeded : Wrong gullible

pub unsettled_ones : UnsettledOnes
unsettled_ones =
    record {
      never_again =
          never_settles (goes_on never (onwards 15) 0x7F on_taken facts.never_on.0 facts.never_on.1) 72
          (from_on facts.numbers.0 (lit≤ tt), subst T (sym facts.rises.0) tt) (up_to_lem facts.numbers.0 (lit< tt));
      at_the_fall = settles_at_fall ones calls.lowest (frames512 0x7F 2) (still 512) 0x3F facts.off_taken (λ t. t)
          (omega (arith, facts.fallen.0)) (omega (arith, facts.fallen.1));
      rise_counted =
          counts_the_rise (goes_on tardy (onwards 86) 0x7F on_taken facts.tardy_on.0 facts.tardy_on.1) 72
          (from_on facts.numbers.1 (lit≤ tt), subst T (sym facts.rises.1) tt) (from_on facts.numbers.1 (lit≤ tt))
          (sooner facts.numbers.1 (lit< tt));
      rise_counted_late =
          counts_the_rise (goes_on late (again 86) 0x7F on_taken facts.late_on.0 facts.late_on.1) 145
          (from_on facts.numbers.2 (lit≤ tt), subst T (sym facts.rises.2) tt) (from_on facts.numbers.2 (lit≤ tt))
          (sooner facts.numbers.2 (lit< tt));
      reset_forgets = forgets_at_reset ones calls.lowest (frames512 0x3F 1) 0 calls.ends_taken.0
          (λ e. false≢true (sym facts.forgotten.0 ∙ sym e ∙ facts.forgotten.1));
      refused_heeded = remembers_refused ones calls.lowest [] (still 512) 0x80 (λ e. absurd (omega (arith, e, calls.enable_refused.0)))
          (λ e. false≢true (sym facts.heeded.1 ∙ e ∙ facts.heeded.0));
    }
  where
    on_taken : frame_refused_by (replicate 6 512) 0x7F ≡ 0
    on_taken = calls.middle_taken.0

    sooner : {n m t : ℕ} → n ≡ m → m + 1 < t → n + 1 < t
    sooner e h = omega arith
