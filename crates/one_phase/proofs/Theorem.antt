-- The law of Paper 14. What a channel shows after each frame is told by what is left of the calls for it, from its own levels and channel and the
-- relay's clock and lengths (`shown_told`): a fold over what is left, by the steps of the fold that demand 3 goes by (history's Phase). So lists of
-- which the same is left show the same. Rests on these steps and on the laws of the relay's definitions.
use Prim.Native.Nat.{ℕ, ◌<◌}
use native.Mathlib.Omega.{arith}
use mathlib.Core.Path.{◌≡◌, refl, sym, ap, ap₂, ◌∙◌, subst}
use mathlib.Core.Bool.{Bool, true, false, ◌&&◌, cond}
use mathlib.Core.Logic.{◌⊎◌, inl, inr}
use mathlib.Core.List.{List, [], ◌∷◌, map}
use lib.IntN.{pos, ◌-ℤ◌}
use lib.Dec.{eqb}
use lib.ListN.{length, get_or}
use borrow.Author.Tests.{eqb-false}
use Rattle.lists.proofs.Each.{get_d_table}
use Rattle.frames.specs.Bits.{bit_of}
use Rattle.frames.proofs.Output.{bit_bits}
use Rattle.phasor.specs.Cordic.{amplitude_of}
use Rattle.relay.specs.declared.Lengths.{Lengths}
use Rattle.relay.specs.declared.Levels.{Levels}
use Rattle.relay.specs.declared.Settings.{Settings}
use Rattle.relay.specs.declared.Relay.{Relay}
use Rattle.relay.specs.declared.RelayAnswer.{RelayAnswer}
use Rattle.relay.specs.declared.FrameAnswer.{FrameAnswer}
use Rattle.relay.specs.Settings.{loss, over}
use Rattle.relay.specs.Channel.{channel_after, latch_on}
use Rattle.relay.specs.Relay.{fresh_relay, zero_relay, unused_relay, fresh_of, fresh_refusal, counted, next_channel, amplitude_in, output_in}
use Rattle.relay.specs.Relay.{accepted_frame, refused_frame, frame_refusal, frame_of, accepted_reset, refused_reset, reset_refusal, reset_of}
use Rattle.relay.specs.Relay.{accepted_change, refused_change, change_refusal, change_of}
use Rattle.relay.specs.Sound.{sound_of}
use Rattle.relay.proofs.Changes.{change_unsound}
use Rattle.relay.proofs.Computed.{computed}
use Rattle.relay.proofs.Laws.{frame_channel, frame_unsound, reset_unsound}
use Rattle.history.specs.Calls.{Call, frame, reset, change, Implementation, the_relay}
use Rattle.history.specs.History.{Input, sampled, cleared, changed, own_levels}
use Rattle.history.proofs.Phase.{Phase, phase_of, fresh_phase, step, played_in, fresh_phase_lem, frame_phase, reset_phase, change_phase}
use Rattle.one_phase.specs.OnePhase.{EachAccepted, struck, Left, frame_left, reset_left, change_left, left_of, left}
use Rattle.one_phase.specs.OnePhase.{Shown, shown_in, shown, ShownAlike, OnePhase}

-- ---- what is left tells what is shown

-- the frame that is left, as the channel's own history has it
abbrev input_left : ℕ → Bool → Bool → Input
input_left code enable_bit bit6 = record { sample = pos code -ℤ pos 512; channel_bit = enable_bit; bit6 = bit6 }

-- what a frame shows of what it leaves
abbrev showing : Phase → Bool → Shown
showing p enabled =
    record {
      amplitude = amplitude_of 1 p.channel.samples;
      loss_run = p.channel.loss_run;
      over_run = p.channel.over_run;
      loss_latch = p.channel.loss_latch;
      over_latch = p.channel.over_latch;
      output = latch_on p.channel && enabled;
    }

abbrev told : Lengths → Phase → List Left → List Shown
told l p [] = []
told l p (frame_left code enable_bit bit6 ∷ more) =
    let q : Phase = step (loss l) (over l) p (sampled (input_left code enable_bit bit6)) in
    showing q (enable_bit && bit6) ∷ told l q more
told l p (reset_left ∷ more) = told l (step (loss l) (over l) p cleared) more
told l p (change_left own ∷ more) = told l (step (loss l) (over l) p (changed own)) more

-- ---- an answer of 0 is that of an accepted call, on any relay

-- an answer by cases on a number, where a refused one answers that number
by_number : {A : Type 0} (answer : A → ℕ) (n : ℕ) (accepted refused : A) → answer refused ≡ n → answer (cond (eqb n 0) accepted refused) ≡ 0
    → cond (eqb n 0) accepted refused ≡ accepted
by_number answer n accepted refused q e = by (eqb n 0) refl e
  where
    by : (b : Bool) → eqb n 0 ≡ b → answer (cond b accepted refused) ≡ 0 → cond b accepted refused ≡ accepted
    by true z e = refl
    by false z e = absurd (eqb-false n 0 z (sym q ∙ e))

frame_answered : (r : Relay) (codes : List ℕ) (enable : ℕ) → (frame_of r codes enable).refusal ≡ 0 → frame_of r codes enable ≡ accepted_frame r codes enable
unfolding frame_of refused_frame
frame_answered r codes enable e = by_number (λ (a : FrameAnswer). a.refusal) (frame_refusal r codes enable) _ _ refl e

reset_answered : (r : Relay) (mask : ℕ) → (reset_of r mask).refusal ≡ 0 → reset_of r mask ≡ accepted_reset r mask
unfolding reset_of refused_reset
reset_answered r mask e = by_number (λ (a : RelayAnswer). a.refusal) (reset_refusal r mask) _ _ refl e

change_answered : (r : Relay) (new : Levels) → (change_of r new).refusal ≡ 0 → change_of r new ≡ accepted_change r new
unfolding change_of refused_change
change_answered r new e = by_number (λ (a : RelayAnswer). a.refusal) (change_refusal r new) _ _ refl e

-- ---- one call, then every list

-- the first of a list of numbers, and the others
abbrev first : List ℕ → ℕ
first numbers = get_or numbers 0 0

abbrev others : List ℕ → List ℕ
others [] = []
others (n ∷ numbers) = numbers

module _ (c : ℕ) (h : c < 6) where
  -- what an accepted frame shows of channel c is what it shows of what it leaves
  frame_shows : (r : Relay) (codes : List ℕ) (enable : ℕ)
      → shown_in c (accepted_frame r codes enable) ≡ showing (phase_of (accepted_frame r codes enable).relay c) (bit_of enable c && bit_of enable 6)
  unfolding accepted_frame amplitude_in output_in next_channel channel_after
  frame_shows r codes enable =
      rw (
        get_d_table 6 (amplitude_in r.slot codes r.channels) 0 c h,
        frame_channel r codes enable c h,
        bit_bits 6 (output_in r.settings r.slot (counted r enable) codes enable r.channels) c h,
      )

  pub shown_told : (calls : List Call) (r : Relay) → EachAccepted the_relay r calls
      → shown the_relay c r calls ≡ told r.settings.lengths (phase_of r c) (left c calls)
  unfolding accepted_frame accepted_reset accepted_change
  shown_told [] r e = refl
  shown_told (frame codes enable ∷ calls) r e =
      let taken : frame_of r codes.list enable ≡ accepted_frame r codes.list enable = frame_answered r codes.list enable (ap first e) in
      let next : Relay = (accepted_frame r codes.list enable).relay in
      let rest : EachAccepted the_relay next calls = subst (λ (a : FrameAnswer). EachAccepted the_relay a.relay calls) taken (ap others e) in
      rw taken (ap₂ (λ (s : Shown) (more : List Shown). s ∷ more) (frame_shows r codes.list enable) (shown_told calls next rest)
      ∙ ap (λ (p : Phase). showing p (bit_of enable c && bit_of enable 6) ∷ told r.settings.lengths p (left c calls))
      (frame_phase r c h codes.list enable))
  shown_told (reset mask ∷ calls) r e =
      let taken : reset_of r mask ≡ accepted_reset r mask = reset_answered r mask (ap first e) in
      let next : Relay = (accepted_reset r mask).relay in
      let rest : EachAccepted the_relay next calls = subst (λ (a : RelayAnswer). EachAccepted the_relay a.relay calls) taken (ap others e) in
      rw taken (shown_told calls next rest ∙ ap (λ (p : Phase). told r.settings.lengths p (left c calls)) (reset_phase r c h mask)
      ∙ by (bit_of mask c))
    where
      by : (b : Bool) → told r.settings.lengths (played_in r (phase_of r c) (cond b (cleared ∷ []) [])) (left c calls)
          ≡ told r.settings.lengths (phase_of r c) (map (left_of c) (cond b (reset mask ∷ struck c calls) (struck c calls)))
      by true = refl
      by false = refl
  shown_told (change new ∷ calls) r e =
      let taken : change_of r new ≡ accepted_change r new = change_answered r new (ap first e) in
      let next : Relay = (accepted_change r new).relay in
      let rest : EachAccepted the_relay next calls = subst (λ (a : RelayAnswer). EachAccepted the_relay a.relay calls) taken (ap others e) in
      rw taken (shown_told calls next rest ∙ ap (λ (p : Phase). told r.settings.lengths p (left c calls)) (change_phase r c h new))

  -- ---- two relays, whatever they are, that are alike in the clock, in the channel and its own levels, and in the lengths

  pub same_shown : (r s : Relay) → r.settings.lengths ≡ s.settings.lengths → phase_of r c ≡ phase_of s c → (these those : List Call)
      → EachAccepted the_relay r these → EachAccepted the_relay s those → left c these ≡ left c those
      → shown the_relay c r these ≡ shown the_relay c s those
  same_shown r s lengths phase these those a b same =
      shown_told these r a ∙ by lengths phase same ∙ sym (shown_told those s b)
    where
      by : {k l : Lengths} {p q : Phase} {x y : List Left} → k ≡ l → p ≡ q → x ≡ y → told k p x ≡ told l q y
      by e f g = rw (e, f, g)

-- ---- fresh relays

-- a relay that is made, or the all-zero one where making it is refused
abbrev Made : Settings → Type 0
Made s = ((fresh_of s).relay ≡ fresh_relay s) ⊎ ((fresh_of s).relay ≡ zero_relay)

made : (s : Settings) → Made s
unfolding fresh_of
made s = by (eqb (fresh_refusal s) 0)
  where
    by : (b : Bool)
        → (let a : RelayAnswer = cond b (record { relay = fresh_relay s; refusal = 0 }) (record { relay = zero_relay; refusal = fresh_refusal s }) in
        (a.relay ≡ fresh_relay s) ⊎ (a.relay ≡ zero_relay))
    by true = inl refl
    by false = inr refl

made_lengths : (s : Settings) → (fresh_of s).relay ≡ fresh_relay s → (fresh_of s).relay.settings.lengths ≡ s.lengths
unfolding unused_relay
made_lengths s e = ap (λ (r : Relay). r.settings.lengths) e

made_phase : (c : ℕ) → c < 6 → (s : Settings) → (fresh_of s).relay ≡ fresh_relay s
    → phase_of (fresh_of s).relay c ≡ fresh_phase (own_levels s.levels c)
made_phase c h s e = ap (λ (r : Relay). phase_of r c) e ∙ fresh_phase_lem s c h

-- the all-zero one accepts no call
zero_unsound : sound_of zero_relay ≡ false
unfolding computed
zero_unsound = refl

zero_accepts : (calls : List Call) → EachAccepted the_relay zero_relay calls → calls ≡ []
unfolding refused_frame refused_reset
zero_accepts [] e = refl
zero_accepts (frame codes enable ∷ calls) e =
    absurd (omega (arith, ap first e, ap (λ (a : FrameAnswer). a.refusal) (frame_unsound zero_relay codes.list enable zero_unsound)))
zero_accepts (reset mask ∷ calls) e =
    absurd (omega (arith, ap first e, ap (λ (a : RelayAnswer). a.refusal) (reset_unsound zero_relay mask zero_unsound)))
zero_accepts (change new ∷ calls) e =
    absurd (omega (arith, ap first e, ap (λ (a : RelayAnswer). a.refusal) (change_unsound zero_relay new zero_unsound)))

-- where nothing is left there is no frame
none_shown : (d : Implementation) (c : ℕ) (calls : List Call) (r : Relay) → left c calls ≡ [] → shown d c r calls ≡ []
none_shown d c [] r e = refl
none_shown d c (frame codes enable ∷ calls) r e = absurd (omega (arith, ap length e))
none_shown d c (reset mask ∷ calls) r e = none_shown d c calls (d.reset r mask).relay (by (bit_of mask c) e)
  where
    by : (b : Bool) → map (left_of c) (cond b (reset mask ∷ struck c calls) (struck c calls)) ≡ [] → left c calls ≡ []
    by true e = absurd (omega (arith, ap length e))
    by false e = e
none_shown d c (change new ∷ calls) r e = absurd (omega (arith, ap length e))

-- from a relay that is not made nothing is shown, nor by a list of which as little is left
none_made : (c : ℕ) (r : Relay) → r ≡ zero_relay → (these those : List Call) → EachAccepted the_relay r these → left c those ≡ left c these
    → (s : Relay) → (shown the_relay c r these ≡ []) × (shown the_relay c s those ≡ [])
none_made c r zero these those e same s =
    let none : these ≡ [] = zero_accepts these (subst (λ (r : Relay). EachAccepted the_relay r these) zero e) in
    (none_shown the_relay c these r (ap (left c) none), none_shown the_relay c those s (same ∙ ap (left c) none))

-- Paper 14
pub one_phase : OnePhase the_relay
one_phase c h p (these, those) = by (made p.one) (made p.other)
  where
    by : Made p.one → Made p.other → ShownAlike the_relay c p
    by (inl a) (inl b) =
        same_shown c h (fresh_of p.one).relay (fresh_of p.other).relay
        (made_lengths p.one a ∙ p.lengths_same ∙ sym (made_lengths p.other b))
        (made_phase c h p.one a ∙ ap fresh_phase p.own_alike ∙ sym (made_phase c h p.other b))
        p.these p.those these those p.left_same
    by (inr a) b =
        let none = none_made c (fresh_of p.one).relay a p.these p.those these (sym p.left_same) (fresh_of p.other).relay in
        none.0 ∙ sym none.1
    by (inl a) (inr b) =
        let none = none_made c (fresh_of p.other).relay b p.those p.these those p.left_same (fresh_of p.one).relay in
        none.1 ∙ sym none.0
