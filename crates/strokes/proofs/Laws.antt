-- Resetting in two strokes (document 02, Paper 2): the law, for every sound relay, reached or not, and accepted masks. Rests on what one reset leaves
-- (relay's Resets) and on the union's bits (Bits).
use Prim.Native.Nat.{ℕ, ◌≤◌, ◌<◌}
use native.Mathlib.Omega.{arith}
use mathlib.Core.Path.{◌≡◌, refl, sym, ◌∙◌}
use mathlib.Core.Bool.{Bool, true, false, ◌||◌, false≢true}
use Rattle.frames.specs.Bits.{bit_of}
use Rattle.relay.specs.declared.Relay.{Relay}
use Rattle.relay.specs.Sound.{sound_of}
use Rattle.relay.specs.Relay.{channel_at, reset_of}
use Rattle.relay.proofs.Resets.{Idle, Cleared, one_cleared, reset_leaves, reset_answers, reset_stays_sound}
use Rattle.strokes.specs.Strokes.{union_of, TwoStrokesLaw}
use Rattle.strokes.proofs.Bits.{bit_union, union_within}

-- ---- one reset after another

or_false : (x y : Bool) → x || y ≡ false → (x ≡ false) × (y ≡ false)
or_false true y e = absurd (false≢true (sym e))
or_false false y e = (refl, e)

-- tests that agree on the six channels name the same
pub same_names : (names others : ℕ → Bool) → ((c : ℕ) → c < 6 → names c ≡ others c) → (r s : Relay) → Cleared names r s → Cleared others r s
same_names names others e r s p =
    record {
      age = p.age;
      slot = p.slot;
      remembered = p.remembered;
      settings = p.settings;
      six = p.six;
      samples = p.samples;
      named = λ c l t. p.named c l (e c l ∙ t);
      others = λ c l t. p.others c l (e c l ∙ t);
    }

pub both : (first second : ℕ → Bool) (r s t : Relay) → Cleared first r s → Cleared second s t → Cleared (λ c. first c || second c) r t
both first second r s t p q =
    record {
      age = q.age ∙ p.age;
      slot = q.slot ∙ p.slot;
      remembered = q.remembered ∙ p.remembered;
      settings = q.settings ∙ p.settings;
      six = q.six;
      samples = λ c l. q.samples c l ∙ p.samples c l;
      named = λ c l. named_by c l (first c) refl (second c) refl;
      others = λ c l e. let f = or_false (first c) (second c) e in q.others c l f.1 ∙ p.others c l f.0;
    }
  where
    named_by : (c : ℕ) → c < 6 → (x : Bool) → first c ≡ x → (y : Bool) → second c ≡ y → first c || second c ≡ true → Idle (channel_at t c)
    named_by c l x d true e h = q.named c l e
    named_by c l true d false e h = rw (q.others c l e) (p.named c l d)
    named_by c l false d false e h = absurd (false≢true (sym (rw (d, e) refl) ∙ h))

-- ---- the law

or_comm : (x y : Bool) → x || y ≡ y || x
or_comm true true = refl
or_comm true false = refl
or_comm false true = refl
or_comm false false = refl

or_self : (x : Bool) → x || x ≡ x
or_self true = refl
or_self false = refl

-- two accepted masks, and one, u, that names what they name together
strokes : (r : Relay) → sound_of r ≡ true → (a b u : ℕ) → a ≤ 63 → b ≤ 63 → u ≤ 63 → ((c : ℕ) → c < 6 → bit_of a c || bit_of b c ≡ bit_of u c)
    → reset_of (reset_of r a).relay b ≡ reset_of r u
strokes r s a b u ha hb hu names i =
    let sound : sound_of (reset_of r a).relay ≡ true = reset_stays_sound r s a ha in
    let two = both (bit_of a) (bit_of b) r _ _ (reset_leaves r s a ha) (reset_leaves (reset_of r a).relay sound b hb) in
    record {
      relay = one_cleared (bit_of u) r (reset_of (reset_of r a).relay b).relay (reset_of r u).relay
          (same_names (λ c. bit_of a c || bit_of b c) (bit_of u) names r _ two) (reset_leaves r s u hu) i;
      refusal = (reset_answers (reset_of r a).relay sound b hb ∙ sym (reset_answers r s u hu)) i;
    }

-- Paper 2
pub two_strokes : TwoStrokesLaw
two_strokes r s a b ha hb =
    let hu : union_of a b ≤ 63 = union_within a b ha hb in
    record {
      a_answers = reset_answers r s a ha;
      b_answers = reset_answers r s b hb;
      union_answers = reset_answers r s (union_of a b) hu;
      a_then_b = strokes r s a b (union_of a b) ha hb hu (λ c l. sym (bit_union a b c (omega arith)));
      b_then_a = strokes r s b a (union_of a b) hb ha hu (λ c l. or_comm (bit_of b c) (bit_of a c) ∙ sym (bit_union a b c (omega arith)));
      twice = strokes r s a a a ha ha ha (λ c l. or_self (bit_of a c));
    }
