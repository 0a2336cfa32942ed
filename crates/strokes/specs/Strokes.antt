-- Resetting in two strokes: document 02, Paper 2, "Panel users press one phase and then another." The union of masks,
-- presses one after another, and the law in the paper's words. Rests on the bits of a byte and on the relay's reset.
use Rattle.std.specs.Prelude.{ℕ, ◌≤◌, ◌<◌, ◌≡◌, Bool, true, false, ◌||◌, List, [], ◌∷◌, length, get_or, replicate}
use Rattle.frames.specs.Bits.{bit_of, bits_below}
use Rattle.relay.specs.declared.Relay.{Relay}
use Rattle.relay.specs.Sound.{sound_of, SoundRelay}
use Rattle.relay.specs.Relay.{reset_of}

-- "the union of a and b": each bit of a byte is on where it is on in a or in b
unfoldable pub union_of : ℕ → ℕ → ℕ
union_of a b = bits_below 8 (λ c. bit_of a c || bit_of b c)

-- "on a sound relay, accepted masks a then b give the relay that the union of a and b gives, in either order, and the
-- same mask twice gives what once gives", of whole answers: the relay, every field of it, and the refusal
pub record TwoStrokes (r : Relay) (a b : ℕ) : Type 0 where
  -- each call answers 0; that the second ones do is in the equations below
  pub a_answers : (reset_of r a).refusal ≡ 0
  pub b_answers : (reset_of r b).refusal ≡ 0
  pub union_answers : (reset_of r (union_of a b)).refusal ≡ 0
  -- "a then b", "in either order", "the same mask twice"
  pub a_then_b : reset_of (reset_of r a).relay b ≡ reset_of r (union_of a b)
  pub b_then_a : reset_of (reset_of r b).relay a ≡ reset_of r (union_of a b)
  pub twice : reset_of (reset_of r a).relay a ≡ reset_of r a

-- "accepted masks" are 0 to 63
abbrev pub TwoStrokesLaw : Type 0
TwoStrokesLaw = (r : Relay) → sound_of r ≡ true → (a b : ℕ) → a ≤ 63 → b ≤ 63 → TwoStrokes r a b

-- ---- more than two: a list of masks, the first pressed first

-- Pressed (the paper's word): the relay after a reset for each mask, and the refusals that they answer
unfoldable pub pressed : Relay → List ℕ → Relay
pressed r [] = r
pressed r (mask ∷ more) = pressed (reset_of r mask).relay more

unfoldable pub answers_of : Relay → List ℕ → List ℕ
answers_of r [] = []
answers_of r (mask ∷ more) = (reset_of r mask).refusal ∷ answers_of (reset_of r mask).relay more

-- a mask of the list names channel c
unfoldable pub named : List ℕ → ℕ → Bool
named [] c = false
named (mask ∷ more) c = bit_of mask c || named more c

-- their union: each bit of a byte is on where it is on in one of them
unfoldable pub union_of_all : List ℕ → ℕ
union_of_all masks = bits_below 8 (named masks)

-- each mask of the list is accepted: it is 0 to 63
abbrev pub EachAccepted : List ℕ → Type 0
EachAccepted masks = (k : ℕ) → k < length masks → get_or masks k 0 ≤ 63

-- Reordered (our word): the same masks "in any order", by changing places of two that follow each other
pub data Reordered : List ℕ → List ℕ → Type 0 where
  same : (masks : List ℕ) → Reordered masks masks
  changed : (a b : ℕ) (more : List ℕ) → Reordered (a ∷ b ∷ more) (b ∷ a ∷ more)
  after : (mask : ℕ) {these those : List ℕ} → Reordered these those → Reordered (mask ∷ these) (mask ∷ those)
  then : {these those others : List ℕ} → Reordered these those → Reordered those others → Reordered these others

-- any list of accepted masks: each call answers 0, and they give what the union of the same masks gives
pub record ListOfStrokes (r : Relay) (these those : List ℕ) : Type 0 where
  pub answers : answers_of r those ≡ replicate (length those) 0
  pub at_once : reset_of r (union_of_all these) ≡ record { relay = pressed r those; refusal = 0 }

abbrev pub AnyOrderLaw : Type 0
AnyOrderLaw =
    (s : SoundRelay) (these those : List ℕ) → EachAccepted these → Reordered these those
    → ListOfStrokes s.relay these those

-- mask 0 changes nothing
abbrev pub NoStrokeLaw : Type 0
NoStrokeLaw = (s : SoundRelay) → reset_of s.relay 0 ≡ record { relay = s.relay; refusal = 0 }
