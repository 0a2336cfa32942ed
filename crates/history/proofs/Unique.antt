-- On lists from accepted settings demand 3 leaves open the runs alone (and what a list of channels holds past the sixth, which the code's array
-- has not): any implementation that meets it answers every call as our relay does, and hands back the same settings, memory of bit 6, age,
-- slot, samples and latches. Rests on demand 3 for our relay, and on bytes being known by their bits.
use Prim.Native.Nat.{ℕ, ◌<◌}
use native.Mathlib.Decide.{ℕ_discrete}
use native.Mathlib.Omega.{arith}
use mathlib.Core.Path.{◌≡◌, refl, sym, ◌∙◌}
use mathlib.Core.Logic.{◌↔◌}
use mathlib.Core.Bool.{Bool, true, false}
use mathlib.Core.List.{List}
use lib.Dec.{T}
use lib.Seq.{ext_get_or}
use Rattle.relay.specs.declared.Levels.{Levels}
use Rattle.relay.specs.declared.Settings.{Settings}
use Rattle.relay.specs.declared.Relay.{Relay}
use Rattle.relay.specs.declared.FrameAnswer.{FrameAnswer}
use Rattle.frames.proofs.Output.{same_bits}
use Rattle.relay.specs.Relay.{channel_at}
use Rattle.history.specs.Calls.{Codes, Call, frame, reset, change, frame_refused_by, reset_refused_by, change_refused_by, Implementation, the_relay}
use Rattle.history.specs.Demand.{relay_after, RelayIs, CallAnswered, AcceptedSettings, Demanded}
use Rattle.history.proofs.Laws.{relay_says, answer_says}
use Rattle.history.proofs.Theorem.{demand3}

-- all of two relays but their runs
pub record SameButRuns (r s : Relay) : Type 0 where
  pub settings : r.settings ≡ s.settings
  pub remembered : r.device_on ≡ s.device_on
  pub age : r.age ≡ s.age
  pub slot : r.slot ≡ s.slot
  pub samples : (c : ℕ) → c < 6 → (channel_at r c).samples ≡ (channel_at s c).samples
  pub loss_latch : (c : ℕ) → c < 6 → (channel_at r c).loss_latch ≡ (channel_at s c).loss_latch
  pub over_latch : (c : ℕ) → c < 6 → (channel_at r c).over_latch ≡ (channel_at s c).over_latch

-- what two frames answer beside the relay
pub record SameAnswer (a b : FrameAnswer) : Type 0 where
  pub refusal : a.refusal ≡ b.refusal
  pub amplitudes : a.amplitudes ≡ b.amplitudes
  pub output : a.output ≡ b.output

-- two tests that say the same
same_test : {P : Type 0} (a b : Bool) → (T a ↔ P) → (T b ↔ P) → a ≡ b
same_test true true p q = refl
same_test false false p q = refl
same_test true false p q = absurd (q.1 (p.0 tt))
same_test false true p q = absurd (p.1 (q.0 tt))

module _ (d : Implementation) (meets : Demanded d) (settings : Settings) (ok : AcceptedSettings settings) where
  abbrev theirs : List Call → Relay
  theirs calls = relay_after d settings calls

  abbrev ours : List Call → Relay
  ours calls = relay_after the_relay settings calls

  pub same_relay : (calls : List Call) → SameButRuns (theirs calls) (ours calls)
  same_relay calls =
      let t : RelayIs d settings calls = relay_says d meets settings ok calls in
      let o : RelayIs the_relay settings calls = relay_says the_relay demand3 settings ok calls in
      record {
        settings = t.held ∙ sym o.held;
        remembered = t.remembered ∙ sym o.remembered;
        age = t.age ∙ sym o.age;
        slot = t.slot ∙ sym o.slot;
        samples = λ c h. t.samples c h ∙ sym (o.samples c h);
        loss_latch = λ c h. same_test _ _ (t.loss_latch c h) (o.loss_latch c h);
        over_latch = λ c h. same_test _ _ (t.over_latch c h) (o.over_latch c h);
      }

  pub same_frame : (past : List Call) (codes : Codes) (enable : ℕ)
      → SameAnswer (d.frame (theirs past) codes.list enable) (the_relay.frame (ours past) codes.list enable)
  same_frame past codes enable =
      by (ℕ_discrete (frame_refused_by codes.list enable) 0) (answer_says d meets settings ok past (frame codes enable))
      (answer_says the_relay demand3 settings ok past (frame codes enable))
    where
      by : Dec (frame_refused_by codes.list enable ≡ 0)
          → CallAnswered d settings past (frame codes enable) → CallAnswered the_relay settings past (frame codes enable)
          → SameAnswer (d.frame (theirs past) codes.list enable) (the_relay.frame (ours past) codes.list enable)
      by (yes e) t o =
          record {
            refusal = (t.0 e).refusal ∙ sym (o.0 e).refusal;
            amplitudes = ext_get_or 0 _ _ ((t.0 e).six ∙ sym (o.0 e).six)
                (λ c h. (t.0 e).amplitude c (omega (arith, (t.0 e).six)) ∙ sym ((o.0 e).amplitude c (omega (arith, (t.0 e).six))));
            output = same_bits 6 _ _ (t.0 e).six_bits (o.0 e).six_bits (λ c h. same_test _ _ ((t.0 e).output c h) ((o.0 e).output c h));
          }
      by (no e) t o = rw (t.1 e, o.1 e) (record { refusal = refl; amplitudes = refl; output = refl })

  pub same_reset : (past : List Call) (mask : ℕ) → (d.reset (theirs past) mask).refusal ≡ (the_relay.reset (ours past) mask).refusal
  same_reset past mask =
      by (ℕ_discrete (reset_refused_by mask) 0) (answer_says d meets settings ok past (reset mask))
      (answer_says the_relay demand3 settings ok past (reset mask))
    where
      by : Dec (reset_refused_by mask ≡ 0) → CallAnswered d settings past (reset mask) → CallAnswered the_relay settings past (reset mask)
          → (d.reset (theirs past) mask).refusal ≡ (the_relay.reset (ours past) mask).refusal
      by (yes e) t o = t.0 e ∙ sym (o.0 e)
      by (no e) t o = rw (t.1 e, o.1 e)

  pub same_change : (past : List Call) (new : Levels) → (d.change (theirs past) new).refusal ≡ (the_relay.change (ours past) new).refusal
  same_change past new =
      by (ℕ_discrete (change_refused_by new) 0) (answer_says d meets settings ok past (change new))
      (answer_says the_relay demand3 settings ok past (change new))
    where
      by : Dec (change_refused_by new ≡ 0) → CallAnswered d settings past (change new) → CallAnswered the_relay settings past (change new)
          → (d.change (theirs past) new).refusal ≡ (the_relay.change (ours past) new).refusal
      by (yes e) t o = t.0 e ∙ sym (o.0 e)
      by (no e) t o = rw (t.1 e, o.1 e)
