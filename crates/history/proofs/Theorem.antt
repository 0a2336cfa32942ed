-- Demand 3: every list of frames, resets and changes of levels, refused ones among them, on a relay that is made with accepted settings.
-- Rests on Relay (what the relay is after a list), Channel (the rule for a latch), Windows, and on what is proved of the amplitude.
use Prim.Native.Nat.{ℕ, suc, ◌%◌, ◌≤◌, ◌<◌, min}
use native.Mathlib.Omega.{arith}
use mathlib.Core.Path.{◌≡◌, refl, sym, ap, ◌∙◌, subst}
use mathlib.Core.Logic.{◌↔◌, ◌⊎◌, inl, inr, ⊎_elim}
use mathlib.Core.Bool.{Bool, true, false, ◌&&◌, ◌||◌}
use mathlib.Core.List.{List, [], ◌∷◌, ◌++◌}
use lib.Dec.{T, leb, le→leb, leb→le, lt→ltb, ltb→lt, lit≤}
use lib.IntN.{ℤ}
use lib.ListN.{get_or}
use mir.Facts.{and_yes, yes_and}
use Rattle.lists.proofs.Each.{length_table, get_d_table}
use Rattle.frames.specs.Bits.{bit_of, enabled_in}
use Rattle.frames.proofs.Output.{bits_lt, bit_bits}
use Rattle.phasor.specs.Cordic.{amplitude_of}
use Rattle.phasor.specs.Window.{window_sound}
use Rattle.phasor.proofs.Theorems.{accurate, over_clear, over_near, loss_clear, loss_near}
use Rattle.relay.specs.declared.Channel.{Channel}
use Rattle.relay.specs.declared.ChannelLevels.{ChannelLevels}
use Rattle.relay.specs.declared.Settings.{Settings}
use Rattle.relay.specs.declared.Relay.{Relay}
use Rattle.relay.specs.declared.FrameAnswer.{FrameAnswer}
use Rattle.relay.specs.Settings.{settled, loss, over}
use Rattle.relay.specs.Channel.{window_after, channel_after}
use Rattle.relay.specs.Relay.{channel_at, fresh_of, counted, next_channel, amplitude_in, output_in, accepted_frame, frame_of, accepted_reset, accepted_change}
use Rattle.relay.proofs.Laws.{next_of, fresh_accepted, fresh_is, frame_channel}
use Rattle.history.specs.Calls.{Codes, Call, frame, reset, change, frame_refused_by, accepted_frames, device_bit, the_relay}
use Rattle.history.specs.Settling.{latest_bit, since_rise}
use Rattle.history.specs.History.{Input, Event, sampled, input_of, channel_history, input_at, levels_at, window_of, window_at, Enabled}
use Rattle.history.specs.Demand.{harmonic_test, SurelyBelowDrop, PossiblyBelowDrop, SurelyOver, PossiblyOver, LossMargins, OverMargins}
use Rattle.history.specs.Demand.{loss_of, over_of, made_with, LossOn, OverOn, relay_after, loss_after, over_after, RelayIs}
use Rattle.history.specs.Demand.{FrameAnswered, CallAnswered, Demand3, AcceptedSettings, Demanded}
use Rattle.history.proofs.Accepted.{frame_accepted, frame_refused, reset_accepted, reset_refused, change_accepted, change_refused}
use Rattle.history.proofs.Accepted.{settings_sound_lem, settings_accepted}
use Rattle.history.proofs.History.{◌▷◌, input_last}
use Rattle.history.proofs.Settling.{latest_same, since_same}
use Rattle.history.proofs.Clock.{clock_of, bit6_in, ClockIs}
use Rattle.history.proofs.Channel.{ChannelIs, loss_rule, over_rule, margins}
use Rattle.history.proofs.Relay.{Is, channel_is, relay_is, frame_is, history_frame, frames_same, frames_frame, device_same, current_at}
use Rattle.history.proofs.Windows.{window_sound_lem}

-- a latch is on and the channel is enabled
output_rule : {P Q : Type 0} (a b e : Bool) → (T a ↔ P) → (T b ↔ Q) → T ((a || b) && e) ↔ ((P ⊎ Q) × T e)
output_rule true b e p q = (λ t. (inl (p.0 tt), t), λ t. t.1)
output_rule false true e p q = (λ t. (inr (q.0 tt), t), λ t. t.1)
output_rule false false e p q = (λ t. absurd t, λ t. ⊎_elim (λ u. absurd (p.1 u)) (λ u. absurd (q.1 u)) t.0)

module _ (settings : Settings) (ok : AcceptedSettings settings) where
  abbrev relay : List Call → Relay
  relay calls = relay_after the_relay settings calls

  is : (calls : List Call) → Is settings calls (relay calls)
  is calls = relay_is settings ok calls

  -- each channel, with the lengths that the relay was made with
  at_channel : (calls : List Call) (c : ℕ) → c < 6 → ChannelIs (loss settings.lengths) (over settings.lengths) (made_with settings c)
      (channel_history c calls) (clock_of (relay calls)) (channel_at (relay calls) c)
  at_channel calls = channel_is settings ok calls (relay calls) (is calls)

  some_loss : 0 < settings.lengths.loss
  some_loss = omega (arith, ok.loss_length)

  some_over : 0 < settings.lengths.over
  some_over = omega (arith, ok.over_length)

  relay_clause : (calls : List Call) → RelayIs the_relay settings calls
  relay_clause calls =
      let v : Is settings calls (relay calls) = is calls in
      let first : List Event = channel_history 0 calls in
      let clock : ClockIs first (clock_of (relay calls)) = (at_channel calls 0 (omega arith)).clock in
      let bits : (k : ℕ) → k < accepted_frames calls → bit6_in first k ≡ device_bit calls k = λ k l. sym (device_same 0 calls k) in
      record {
        sound = v.sound;
        remembered = clock.remembered ∙ ap (latest_bit (bit6_in first)) (frames_same 0 calls)
            ∙ latest_same (bit6_in first) (device_bit calls) (accepted_frames calls) bits;
        age = clock.aged ∙ ap (λ (n : ℕ). min settled (since_rise (bit6_in first) n)) (frames_same 0 calls)
            ∙ ap (min settled) (since_same (bit6_in first) (device_bit calls) (accepted_frames calls) bits);
        slot = clock.placed ∙ ap (λ (n : ℕ). n % 8) (frames_same 0 calls);
        samples = λ c h. (at_channel calls c h).samples ∙ ap (window_of (channel_history c calls)) (frames_same c calls);
        loss_latch = λ c h. loss_rule _ _ some_loss some_over _ (at_channel calls c h);
        over_latch = λ c h. over_rule _ _ some_loss some_over _ (at_channel calls c h);
        held = v.held;
      }

  -- ---- an accepted frame after the calls `past`
  module _ (past : List Call) (codes : Codes) (enable : ℕ) (taken : frame_refused_by codes.list enable ≡ 0) where
    abbrev calls : List Call
    calls = past ++ (frame codes enable ∷ [])

    abbrev answer : FrameAnswer
    answer = accepted_frame (relay past) codes.list enable

    -- the frame as channel c meets it, and its history with the frame
    abbrev input : ℕ → Input
    input c = input_of c codes.list enable

    history : (c : ℕ) → channel_history c calls ≡ channel_history c past ▷ sampled (input c)
    history c = history_frame c past codes enable taken

    input_is : (c : ℕ) → input_at (channel_history c calls) (accepted_frames past) ≡ input c
    input_is c = rw (history c, ← frames_same c past) (input_last (channel_history c past) (input c))

    -- channel c after the frame, as the answer's definition has it
    abbrev next : ℕ → Channel
    next c = next_of (relay past) codes.list enable c

    next_is : (c : ℕ) → c < 6
        → ChannelIs (loss settings.lengths) (over settings.lengths) (made_with settings c) (channel_history c calls) (clock_of answer.relay) (next c)
    next_is c h =
        rw (frame_channel (relay past) codes.list enable c h) at
        (channel_is settings ok calls answer.relay (frame_is settings past (relay past) codes enable taken (is past)) c h)

    window_is : (c : ℕ) → c < 6
        → window_after (relay past).slot (get_or codes.list c 0) (channel_at (relay past) c) ≡ window_at (channel_history c calls) (accepted_frames past)
    unfolding next_channel channel_after
    window_is c h = (next_is c h).samples ∙ ap (window_of (channel_history c calls)) (frames_same c calls ∙ frames_frame past codes enable taken)

    amplitude_is : (c : ℕ) → c < 6 → get_or answer.amplitudes c 0 ≡ amplitude_of 1 (window_at (channel_history c calls) (accepted_frames past))
    unfolding accepted_frame amplitude_in
    amplitude_is c h = get_d_table 6 (amplitude_in (relay past).slot codes.list (relay past).channels) 0 c h ∙ ap (amplitude_of 1) (window_is c h)

    -- the output, before it is made a byte
    abbrev bits : ℕ → Bool
    bits = output_in (relay past).settings (relay past).slot (counted (relay past) enable) codes.list enable (relay past).channels

    output_is : (c : ℕ) → c < 6 → T (bit_of answer.output c)
        ↔ ((LossOn settings c calls ⊎ OverOn settings c calls) × Enabled (channel_history c calls) (accepted_frames past))
    unfolding accepted_frame output_in
    output_is c h =
        rw (input_is c, bit_bits 6 bits c h)
        (output_rule (next c).loss_latch (next c).over_latch (enabled_in enable c) (loss_rule _ _ some_loss some_over _ (next_is c h))
        (over_rule _ _ some_loss some_over _ (next_is c h)))

    -- the clauses on Z
    sound : (c : ℕ) → c < 6 → (n : ℕ) → window_sound (window_at (channel_history c past ▷ sampled (input c)) n) ≡ true
    sound c h n = rw (history c) at (window_sound_lem c h calls (suc n))

    -- before the frame, and after it
    old_loss : (c : ℕ) → c < 6 → T (loss_after the_relay settings past c) ↔ LossOn settings c past
    old_loss c h = loss_rule _ _ some_loss some_over _ (at_channel past c h)

    old_over : (c : ℕ) → c < 6 → T (over_after the_relay settings past c) ↔ OverOn settings c past
    old_over c h = over_rule _ _ some_loss some_over _ (at_channel past c h)

    -- the levels in frame n
    abbrev levels : ℕ → ℕ → ChannelLevels
    levels c n = levels_at (made_with settings c) (channel_history c past ▷ sampled (input c)) n

    is_current_lem : (c : ℕ) → 3 ≤ c → (n : ℕ) → T (levels c n).current
    is_current_lem c k n =
        subst T (sym (subst (λ (es : List Event). (levels_at (made_with settings c) es n).current ≡ leb 3 c) (history c)
        (current_at c calls (made_with settings c) refl n))) (le→leb 3 c k)

    loss_margins_lem : (c : ℕ) → c < 6 → LossMargins settings c calls (loss_after the_relay settings past c) (loss_after the_relay settings calls c)
    loss_margins_lem c h =
        rw (history c)
        (margins (loss_of settings.lengths) (made_with settings c) (channel_history c past) (input c) some_loss (λ l. SurelyBelowDrop l.drop)
        (λ l. PossiblyBelowDrop l.drop)
        (λ n z. lt→ltb _ (levels c n).drop (loss_clear 1 (lit≤ tt) (lit≤ tt) _ (sound c h n) (levels c n).drop z))
        (λ n t. loss_near 1 (lit≤ tt) (lit≤ tt) _ (sound c h n) (levels c n).drop (ltb→lt _ (levels c n).drop t))
        (old_loss c h) (rw (history c) at (loss_rule _ _ some_loss some_over _ (at_channel calls c h))))

    over_margins_lem : (c : ℕ) → 3 ≤ c → c < 6 → OverMargins settings c calls (over_after the_relay settings past c) (over_after the_relay settings calls c)
    over_margins_lem c current h =
        let window : ℕ → List ℤ = λ n. window_at (channel_history c past ▷ sampled (input c)) n in
        let pickup : ℕ → ℕ = λ n. (levels c n).pickup in
        let r : ℕ → ℕ = λ n. (levels c n).restraint in
        rw (history c)
        (margins (over_of settings.lengths) (made_with settings c) (channel_history c past) (input c) some_over (λ l. SurelyOver l.pickup l.restraint)
        (λ l. PossiblyOver l.pickup l.restraint)
        (λ n z. yes_and (levels c n).current _ (is_current_lem c current n)
        (yes_and (leb (pickup n) (amplitude_of 1 (window n))) (harmonic_test (r n) (window n))
        (le→leb (pickup n) _ (over_clear 1 (lit≤ tt) (lit≤ tt) _ (sound c h n) (pickup n) z.0)) z.1))
        (λ n t. let met = and_yes (leb (pickup n) (amplitude_of 1 (window n))) (harmonic_test (r n) (window n)) (and_yes (levels c n).current _ t).1 in
        (over_near 1 (lit≤ tt) (lit≤ tt) _ (sound c h n) (pickup n) (leb→le (pickup n) _ met.0), met.1))
        (old_over c h) (rw (history c) at (over_rule _ _ some_loss some_over _ (at_channel calls c h))))

    frame_answered : FrameAnswered the_relay settings past calls (frame_of (relay past) codes.list enable)
    unfolding accepted_frame
    frame_answered =
        rw (frame_accepted (relay past) codes.list enable (is past).sound taken)
        (record {
          refusal = refl;
          six = length_table 6 (amplitude_in (relay past).slot codes.list (relay past).channels);
          amplitude = amplitude_is;
          within = λ c h. rw (amplitude_is c h) (accurate 1 (lit≤ tt) (lit≤ tt) _ (window_sound_lem c h calls (suc (accepted_frames past)))).1;
          bounded = λ c h. rw (amplitude_is c h) (accurate 1 (lit≤ tt) (lit≤ tt) _ (window_sound_lem c h calls (suc (accepted_frames past)))).0;
          output = output_is;
          six_bits = bits_lt 6 bits;
          loss_margins = loss_margins_lem;
          over_margins = over_margins_lem;
        })

  answered : (past : List Call) (call : Call) → CallAnswered the_relay settings past call
  unfolding accepted_reset accepted_change
  answered past (frame codes enable) =
      (frame_answered past codes enable, frame_refused (relay past) codes.list enable (is past).sound)
  answered past (reset mask) = (λ e. rw (reset_accepted (relay past) mask (is past).sound e), reset_refused (relay past) mask (is past).sound)
  answered past (change new) = (λ e. rw (change_accepted (relay past) new (is past).sound e), change_refused (relay past) new (is past).sound)

-- Demand 3
pub demand3 : Demanded the_relay
demand3 settings ok calls =
    record {
      made = rw (fresh_is settings (settings_sound_lem settings ok));
      relay = λ past rest e. relay_clause settings ok past;
      answers = λ past call rest e. answered settings ok past call;
    }

-- the same where making the relay answered 0
pub demand3_made : (settings : Settings) → (fresh_of settings).refusal ≡ 0 → (calls : List Call) → Demand3 the_relay settings calls
demand3_made settings made = demand3 settings (settings_accepted settings (fresh_accepted settings made))
