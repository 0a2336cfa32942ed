-- Laws of a reset (document 01) that hold with no code, said from another side than its definition: which masks are accepted, and which relay is
-- left, field by field; one relay alone fits that. With `reset_unsound` they fix every reset's whole answer. Rests on the definitions and on Laws.
use Prim.Native.Nat.{ℕ, ◌*◌, ◌/◌, ◌%◌, ◌≤◌, ◌<◌}
use native.Mathlib.Nat.{div-eq_of_lt, div-eq_of_lt-le}
use native.Mathlib.Omega.{arith}
use mathlib.Core.Logic.{◌↔◌}
use mathlib.Core.Path.{◌≡◌, refl, sym, ap, ◌∙◌}
use mathlib.Core.Bool.{Bool, true, false, ◌||◌, not, cond}
use lib.Dec.{ltb}
use lib.ListN.{length}
use borrow.Author.Tests.{eqb-false, ltb-true, ltb-false}
use lib.Seq.{ext_get_or}
use Rattle.lists.proofs.Each.{length_table}
use Rattle.frames.specs.Bits.{bit_of}
use Rattle.relay.specs.declared.Channel.{Channel}
use Rattle.relay.specs.declared.Relay.{Relay}
use Rattle.relay.specs.declared.RelayAnswer.{RelayAnswer}
use Rattle.relay.specs.Channel.{no_channel, cleared_of}
use Rattle.relay.specs.Sound.{sound_of}
use Rattle.relay.specs.Relay.{channel_at, reset_channel, accepted_reset, refused_reset, mask_refusal, reset_of}
use Rattle.relay.proofs.Laws.{reset_accepted, reset_refused, reset_channel_lem, reset_sound}

-- ---- accepted masks

-- bits 6 and 7 of a mask
no_bit_6 : (mask : ℕ) → mask ≤ 63 → bit_of mask 6 ≡ false
no_bit_6 mask h = rw (div-eq_of_lt {n = mask} {m = 64} (omega arith))

no_bit_7 : (mask : ℕ) → mask ≤ 63 → bit_of mask 7 ≡ false
no_bit_7 mask h = rw (div-eq_of_lt {n = mask} {m = 128} (omega arith))

low_passes : (mask : ℕ) → mask ≤ 63 → mask_refusal mask ≡ 0
unfolding mask_refusal
low_passes mask h = rw (no_bit_6 mask h, no_bit_7 mask h)

-- "reset mask bit 6 or 7 is 1"
high_fails : (mask : ℕ) → 63 < mask → mask < 256 → mask_refusal mask ≡ 5
unfolding mask_refusal
high_fails mask h l = by (bit_of mask 6) refl (bit_of mask 7) refl
  where
    -- a number below twice n whose digit at n is not 1 is below n
    below : (n m : ℕ) → m < 2 * n → ¬ (m / n % 2 ≡ 1) → m < n
    below n m l not-1 = at (ltb m n) refl
      where
        at : (b : Bool) → ltb m n ≡ b → m < n
        at true q = ltb-true m n q
        at false q = absurd (not-1 (ap (λ (d : ℕ). d % 2) (div-eq_of_lt-le {k = 1} n (omega (arith, ltb-false m n q)) (omega arith))))

    by : (x : Bool) → bit_of mask 6 ≡ x → (y : Bool) → bit_of mask 7 ≡ y → cond {A = ℕ} (not (bit_of mask 6 || bit_of mask 7)) 0 5 ≡ 5
    by true p y q = rw p
    by false p true q = rw (p, q)
    by false p false q =
        let below_128 : mask < 128 = below 128 mask (omega arith) (eqb-false (mask / 128 % 2) 1 q) in
        let below_64 : mask < 64 = below 64 mask (omega arith) (eqb-false (mask / 64 % 2) 1 p) in
        absurd (omega arith)

-- on a sound relay masks 0 to 63 are answered by 0, every other byte by 5 with the relay as given
pub reset_answers : (r : Relay) → sound_of r ≡ true → (mask : ℕ) → mask ≤ 63 → (reset_of r mask).refusal ≡ 0
unfolding accepted_reset
reset_answers r s mask h = ap (λ (a : RelayAnswer). a.refusal) (reset_accepted r mask s (low_passes mask h))

pub reset_high : (r : Relay) → sound_of r ≡ true → (mask : ℕ) → 63 < mask → mask < 256 → reset_of r mask ≡ record { relay = r; refusal = 5 }
unfolding refused_reset
reset_high r s mask h l =
    let e : mask_refusal mask ≡ 5 = high_fails mask h l in
    reset_refused r mask s (λ q. absurd (omega arith)) ∙ rw e

pub accepted_masks : (r : Relay) → sound_of r ≡ true → (mask : ℕ) → mask < 256 → ((reset_of r mask).refusal ≡ 0) ↔ (mask ≤ 63)
accepted_masks r s mask h = (by (ltb 63 mask) refl, reset_answers r s mask)
  where
    by : (b : Bool) → ltb 63 mask ≡ b → (reset_of r mask).refusal ≡ 0 → mask ≤ 63
    by true q e =
        let five : (reset_of r mask).refusal ≡ 5 = ap (λ (a : RelayAnswer). a.refusal) (reset_high r s mask (ltb-true 63 mask q) h) in
        absurd (omega arith)
    by false q e = ltb-false 63 mask q

-- ---- what a reset leaves

-- a channel with no run and no latch
pub record Idle (ch : Channel) : Type 0 where
  pub loss_count : ch.loss_run ≡ 0
  pub over_count : ch.over_run ≡ 0
  pub loss_latch_of : ch.loss_latch ≡ false
  pub over_latch_of : ch.over_latch ≡ false

-- "it clears runs and latches of the named channels and nothing else": the channels that pass the test are named
pub record Cleared (names : ℕ → Bool) (r s : Relay) : Type 0 where
  pub age : s.age ≡ r.age
  pub slot : s.slot ≡ r.slot
  pub remembered : s.device_on ≡ r.device_on
  pub settings : s.settings ≡ r.settings
  pub six : length s.channels ≡ 6
  pub samples : (c : ℕ) → c < 6 → (channel_at s c).samples ≡ (channel_at r c).samples
  pub named : (c : ℕ) → c < 6 → names c ≡ true → Idle (channel_at s c)
  pub others : (c : ℕ) → c < 6 → names c ≡ false → channel_at s c ≡ channel_at r c

clears : (r : Relay) (mask : ℕ) → Cleared (bit_of mask) r (accepted_reset r mask).relay
unfolding accepted_reset reset_channel
clears r mask =
    record {
      age = refl;
      slot = refl;
      remembered = refl;
      settings = refl;
      six = length_table 6 (reset_channel mask r.channels);
      samples = λ c l. ap (λ (ch : Channel). ch.samples) (reset_channel_lem r mask c l) ∙ kept (channel_at r c) (bit_of mask c);
      named = λ c l e. rw (reset_channel_lem r mask c l, e) (record { loss_count = refl; over_count = refl; loss_latch_of = refl; over_latch_of = refl });
      others = λ c l e. reset_channel_lem r mask c l ∙ rw e;
    }
  where
    kept : (ch : Channel) (b : Bool) → (cond b (cleared_of ch) ch).samples ≡ ch.samples
    kept ch true = refl
    kept ch false = refl

pub reset_leaves : (r : Relay) → sound_of r ≡ true → (mask : ℕ) → mask ≤ 63 → Cleared (bit_of mask) r (reset_of r mask).relay
reset_leaves r s mask h = rw (reset_accepted r mask s (low_passes mask h)) (clears r mask)

pub reset_stays_sound : (r : Relay) → sound_of r ≡ true → (mask : ℕ) → mask ≤ 63 → sound_of (reset_of r mask).relay ≡ true
reset_stays_sound r s mask h = rw (reset_accepted r mask s (low_passes mask h)) (reset_sound r mask s)

-- ---- there is one such relay

idle_same : (x y : Channel) → x.samples ≡ y.samples → Idle x → Idle y → x ≡ y
idle_same x y e p q i =
    record {
      samples = e i;
      loss_run = (p.loss_count ∙ sym q.loss_count) i;
      over_run = (p.over_count ∙ sym q.over_count) i;
      loss_latch = (p.loss_latch_of ∙ sym q.loss_latch_of) i;
      over_latch = (p.over_latch_of ∙ sym q.over_latch_of) i;
    }

pub one_cleared : (names : ℕ → Bool) (r s t : Relay) → Cleared names r s → Cleared names r t → s ≡ t
one_cleared names r s t p q i =
    record {
      channels = ext_get_or no_channel s.channels t.channels (p.six ∙ sym q.six) (λ c l. at c (omega (arith, p.six)) (names c) refl) i;
      age = (p.age ∙ sym q.age) i;
      slot = (p.slot ∙ sym q.slot) i;
      device_on = (p.remembered ∙ sym q.remembered) i;
      settings = (p.settings ∙ sym q.settings) i;
    }
  where
    at : (c : ℕ) → c < 6 → (b : Bool) → names c ≡ b → channel_at s c ≡ channel_at t c
    at c l true e = idle_same (channel_at s c) (channel_at t c) (p.samples c l ∙ sym (q.samples c l)) (p.named c l e) (q.named c l e)
    at c l false e = p.others c l e ∙ sym (q.others c l e)
