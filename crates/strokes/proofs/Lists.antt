-- What follows from two strokes: mask 0 changes nothing, and on a sound relay of six channels any list of accepted masks does what their union does,
-- in any order. Rests on the law (Laws) and on what one reset leaves (relay's Resets).
use Prim.Native.Nat.{ℕ, zero, suc, ◌≤◌, ◌<◌}
use native.Mathlib.Omega.{arith}
use mathlib.Core.Path.{◌≡◌, refl, sym, ap, ◌∙◌}
use mathlib.Core.Bool.{Bool, true, false, ◌||◌, false≢true}
use mathlib.Core.List.{List, [], ◌∷◌, ◌++◌}
use lib.ListN.{length, get_or, replicate, drop}
use Rattle.frames.specs.Bits.{bit_of, bits_below}
use Rattle.frames.proofs.Output.{bits_same, bit_bits}
use Rattle.relay.specs.declared.Relay.{Relay}
use Rattle.relay.specs.Sound.{sound_of, SoundRelay}
use Rattle.relay.specs.Relay.{reset_of}
use Rattle.relay.proofs.Resets.{Cleared, one_cleared, reset_leaves, reset_answers, reset_stays_sound, accepted_masks}
use Rattle.strokes.specs.Strokes.{union_of, pressed, answers_of, named, union_of_all, EachAccepted, Reordered, same, changed, after, then}
use Rattle.strokes.specs.Strokes.{ListOfStrokes, AnyOrderLaw, NoStrokeLaw}
use Rattle.strokes.proofs.Bits.{union_within}
use Rattle.strokes.proofs.Laws.{same_names, two_strokes}

-- ---- mask 0

no_bit : (c : ℕ) → c < 6 → bit_of 0 c ≡ false
unfolding bits_below
no_bit c l = bit_bits 8 (λ c. false) c (omega arith)

pub reset_nothing : NoStrokeLaw
reset_nothing s i =
    record {
      relay = one_cleared (λ c. false) r (reset_of r 0).relay r
          (same_names (bit_of 0) (λ c. false) no_bit r _ (reset_leaves r s.sound 0 (omega arith))) kept i;
      refusal = reset_answers r s.sound 0 (omega arith) i;
    }
  where
    r : Relay
    r = s.relay

    kept : Cleared (λ c. false) r r
    kept =
        record {
          age = refl;
          slot = refl;
          remembered = refl;
          settings = refl;
          six = s.six;
          samples = λ c l. refl;
          named = λ c l e. absurd (false≢true e);
          others = λ c l e. refl;
        }

-- ---- accepted masks, in a list

-- the list without its first
rest : (mask : ℕ) (more : List ℕ) → EachAccepted (mask ∷ more) → EachAccepted more
rest mask more h k l = h (suc k) (omega arith)

list_answers : (r : Relay) → sound_of r ≡ true → (masks : List ℕ) → EachAccepted masks → answers_of r masks ≡ replicate (length masks) 0
unfolding answers_of
list_answers r s [] h = refl
list_answers r s (mask ∷ more) h =
    let first : mask ≤ 63 = h 0 (omega arith) in
    rw (reset_answers r s mask first)
    (ap (◌∷◌ 0) (list_answers (reset_of r mask).relay (reset_stays_sound r s mask first) more (rest mask more h)))

-- by the calls' answers: where each of some bytes is answered by 0, each is accepted
pub accepted_list : (r : Relay) → sound_of r ≡ true → (masks : List ℕ) → ((k : ℕ) → k < length masks → get_or masks k 0 < 256)
    → answers_of r masks ≡ replicate (length masks) 0 → EachAccepted masks
unfolding answers_of
accepted_list r s [] bytes e = λ k l. omega arith
accepted_list r s (mask ∷ more) bytes e =
    put (accepted_list (reset_of r mask).relay (reset_stays_sound r s mask first) more others (ap (drop 1) e))
  where
    first : mask ≤ 63
    first = (accepted_masks r s mask (bytes 0 (omega arith))).0 (ap (λ (l : List ℕ). get_or l 0 0) e)

    others : (k : ℕ) → k < length more → get_or more k 0 < 256
    others k l = bytes (suc k) (omega arith)

    put : EachAccepted more → EachAccepted (mask ∷ more)
    put h zero l = first
    put h (suc k) l = h k (omega arith)

-- ---- their union

pub bit_all : (masks : List ℕ) (c : ℕ) → c < 8 → bit_of (union_of_all masks) c ≡ named masks c
unfolding union_of_all
bit_all masks c h = bit_bits 8 (named masks) c h

-- of none it is 0; of more it is that of the first and of the union of the others, and so `a | b` on the code's bytes, mask after mask
union_none : union_of_all [] ≡ 0
unfolding union_of_all named bits_below
union_none = refl

pub union_more : (mask : ℕ) (more : List ℕ) → union_of_all (mask ∷ more) ≡ union_of mask (union_of_all more)
unfolding union_of_all union_of named
union_more mask more =
    bits_same 8 (named (mask ∷ more)) (λ c. bit_of mask c || bit_of (union_of_all more) c)
    (λ c l. ap (λ (b : Bool). bit_of mask c || b) (sym (bit_all more c l)))

-- the union of accepted masks is an accepted mask
pub list_within : (masks : List ℕ) → EachAccepted masks → union_of_all masks ≤ 63
list_within [] h = rw union_none (omega arith)
list_within (mask ∷ more) h =
    rw (union_more mask more) (union_within mask (union_of_all more) (h 0 (omega arith)) (list_within more (rest mask more h)))

-- ---- any list

-- the relay after a stroke
abbrev next : (s : SoundRelay) (mask : ℕ) → mask ≤ 63 → SoundRelay
next s mask h =
    record {
      relay = (reset_of s.relay mask).relay;
      sound = reset_stays_sound s.relay s.sound mask h;
      six = (reset_leaves s.relay s.sound mask h).six;
    }

-- by the law: the first mask and then the union of the others is the union of all
at_once : (s : SoundRelay) (masks : List ℕ) → EachAccepted masks
    → reset_of s.relay (union_of_all masks) ≡ record { relay = pressed s.relay masks; refusal = 0 }
unfolding pressed
at_once s [] h = ap (reset_of s.relay) union_none ∙ reset_nothing s
at_once s (mask ∷ more) h =
    let first : mask ≤ 63 = h 0 (omega arith) in
    let others : EachAccepted more = rest mask more h in
    ap (reset_of s.relay) (union_more mask more)
    ∙ sym (two_strokes s.relay s.sound mask (union_of_all more) first (list_within more others)).a_then_b
    ∙ at_once (next s mask first) more others

-- ---- in any order

reordered_named : {these those : List ℕ} → Reordered these those → (c : ℕ) → named these c ≡ named those c
unfolding named
reordered_named (same masks) c = refl
reordered_named (changed a b more) c = swap (bit_of a c) (bit_of b c)
  where
    swap : (x y : Bool) → x || (y || named more c) ≡ y || (x || named more c)
    swap true true = refl
    swap true false = refl
    swap false true = refl
    swap false false = refl
reordered_named (after mask more) c = ap (λ (b : Bool). bit_of mask c || b) (reordered_named more c)
reordered_named (then first second) c = reordered_named first c ∙ reordered_named second c

reordered_accepted : {these those : List ℕ} → Reordered these those → EachAccepted these → EachAccepted those
reordered_accepted (same masks) h = h
reordered_accepted (changed a b more) h = swapped
  where
    swapped : EachAccepted (b ∷ a ∷ more)
    swapped zero l = h 1 (omega arith)
    swapped (suc zero) l = h 0 (omega arith)
    swapped (suc (suc k)) l = h (suc (suc k)) l
reordered_accepted (after mask {these} {those} more) h = put (reordered_accepted more (rest mask these h))
  where
    put : EachAccepted those → EachAccepted (mask ∷ those)
    put others zero l = h 0 (omega arith)
    put others (suc k) l = others k (omega arith)
reordered_accepted (then first second) h = reordered_accepted second (reordered_accepted first h)

-- every order: a mask may stand at any place among the others
pub any_place : (a : ℕ) (front back : List ℕ) → Reordered (a ∷ (front ++ back)) (front ++ (a ∷ back))
any_place a [] back = same (a ∷ back)
any_place a (b ∷ front) back = then (changed a b (front ++ back)) (after b (any_place a front back))

same_union : {these those : List ℕ} → Reordered these those → union_of_all these ≡ union_of_all those
unfolding union_of_all
same_union {these} {those} o = bits_same 8 (named these) (named those) (λ c l. reordered_named o c)

pub any_order : AnyOrderLaw
any_order s these those h order =
    let l : EachAccepted those = reordered_accepted order h in
    record {
      answers = list_answers s.relay s.sound those l;
      at_once = ap (reset_of s.relay) (same_union order) ∙ at_once s those l;
    }

-- a list in its own order
pub any_list : (s : SoundRelay) (masks : List ℕ) → EachAccepted masks → ListOfStrokes s.relay masks masks
any_list s masks h = any_order s masks masks h (same masks)
