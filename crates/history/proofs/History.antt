-- A channel's history when one more event comes at its end: frames, resets, levels, changes and windows. Rests on the definitions of the history.
use Prim.Native.Nat.{ℕ, zero, suc, ◌+◌, ◌%◌, ◌≤◌, ◌<◌, zero-le, suc-le-suc}
use native.Mathlib.Nat.{le_of_suc-le-suc, le_refl, mod-lt}
use native.Mathlib.Omega.{arith}
use mathlib.Core.Path.{◌≡◌, refl, sym, ap, ap₂, ◌∙◌}
use mathlib.Core.Bool.{Bool, true, false, cond}
use mathlib.Core.List.{List, [], ◌∷◌, ◌++◌, append-nil}
use lib.IntN.{ℤ}
use lib.Dec.{eqb}
use lib.ListN.{length, get_or, set, length-append, get_or-append}
use lib.Seq.{get_or-append_seam}
use Rattle.lists.proofs.Each.{set_table, table_same}
use Rattle.relay.specs.declared.ChannelLevels.{ChannelLevels}
use Rattle.relay.specs.Settings.{Kind}
use Rattle.history.specs.History.{Input, Event, sampled, cleared, changed, inputs, frames, input_at, no_input, resets, resets_before}
use Rattle.history.specs.History.{levels_at, changes_before, latest_in_slot, window_of, window_at}

-- one event more
infixl 60 ◌▷◌
abbrev pub ◌▷◌ : List Event → Event → List Event
es ▷ e = es ++ (e ∷ [])

pub inputs_append : (es fs : List Event) → inputs (es ++ fs) ≡ inputs es ++ inputs fs
inputs_append [] fs = refl
inputs_append (sampled i ∷ es) fs = ap (λ (l : List Input). i ∷ l) (inputs_append es fs)
inputs_append (cleared ∷ es) fs = inputs_append es fs
inputs_append (changed new ∷ es) fs = inputs_append es fs

pub frames_append : (es fs : List Event) → frames (es ++ fs) ≡ frames es + frames fs
frames_append es fs = ap length (inputs_append es fs) ∙ length-append (inputs es) (inputs fs)

pub frames_sampled : (es : List Event) (i : Input) → frames (es ▷ sampled i) ≡ suc (frames es)
frames_sampled es i = frames_append es (sampled i ∷ []) ∙ omega arith

-- an event that is no frame
pub inputs_other : (es : List Event) (e : Event) → inputs (e ∷ []) ≡ [] → inputs (es ▷ e) ≡ inputs es
inputs_other es e none = inputs_append es (e ∷ []) ∙ ap (λ (l : List Input). inputs es ++ l) none ∙ append-nil (inputs es)

pub inputs_cleared : (es : List Event) → inputs (es ▷ cleared) ≡ inputs es
inputs_cleared es = inputs_other es cleared refl

pub inputs_changed : (es : List Event) (new : ChannelLevels) → inputs (es ▷ changed new) ≡ inputs es
inputs_changed es new = inputs_other es (changed new) refl

pub input_append : (es fs : List Event) (n : ℕ) → n < frames es → input_at (es ++ fs) n ≡ input_at es n
input_append es fs n h = ap (λ (l : List Input). get_or l n no_input) (inputs_append es fs) ∙ get_or-append (inputs es) (inputs fs) no_input n h

pub input_last : (es : List Event) (i : Input) → input_at (es ▷ sampled i) (frames es) ≡ i
input_last es i = ap (λ (l : List Input). get_or l (frames es) no_input) (inputs_append es (sampled i ∷ [])) ∙ get_or-append_seam (inputs es) i [] no_input

-- ---- resets

pub resets_sampled : (es : List Event) (i : Input) → resets (es ▷ sampled i) ≡ resets es
resets_sampled [] i = refl
resets_sampled (sampled k ∷ es) i = resets_sampled es i
resets_sampled (cleared ∷ es) i = ap suc (resets_sampled es i)
resets_sampled (changed new ∷ es) i = resets_sampled es i

pub resets_cleared : (es : List Event) → resets (es ▷ cleared) ≡ suc (resets es)
resets_cleared [] = refl
resets_cleared (sampled k ∷ es) = resets_cleared es
resets_cleared (cleared ∷ es) = ap suc (resets_cleared es)
resets_cleared (changed new ∷ es) = resets_cleared es

pub resets_changed : (es : List Event) (new : ChannelLevels) → resets (es ▷ changed new) ≡ resets es
resets_changed [] new = refl
resets_changed (sampled k ∷ es) new = resets_changed es new
resets_changed (cleared ∷ es) new = ap suc (resets_changed es new)
resets_changed (changed old ∷ es) new = resets_changed es new

pub before_append : (es fs : List Event) (n : ℕ) → n < frames es → resets_before (es ++ fs) n ≡ resets_before es n
before_append [] fs n h = absurd (omega arith)
before_append (sampled i ∷ es) fs zero h = refl
before_append (sampled i ∷ es) fs (suc n) h = before_append es fs n (le_of_suc-le-suc h)
before_append (cleared ∷ es) fs n h = ap suc (before_append es fs n h)
before_append (changed new ∷ es) fs n h = before_append es fs n h

pub before_last : (es : List Event) (i : Input) → resets_before (es ▷ sampled i) (frames es) ≡ resets es
before_last [] i = refl
before_last (sampled k ∷ es) i = before_last es i
before_last (cleared ∷ es) i = ap suc (before_last es i)
before_last (changed new ∷ es) i = before_last es i

pub before_le : (es : List Event) (n : ℕ) → resets_before es n ≤ resets es
before_le [] n = zero-le
before_le (sampled i ∷ es) zero = zero-le
before_le (sampled i ∷ es) (suc n) = before_le es n
before_le (cleared ∷ es) n = suc-le-suc (before_le es n)
before_le (changed new ∷ es) n = before_le es n

-- ---- levels

-- in a frame they are what they were, whatever comes after it; `levels_at made es (frames es)` are those after all events
pub levels_append : (made : ChannelLevels) (es fs : List Event) (n : ℕ) → n < frames es → levels_at made (es ++ fs) n ≡ levels_at made es n
levels_append made [] fs n h = absurd (omega arith)
levels_append made (sampled i ∷ es) fs zero h = refl
levels_append made (sampled i ∷ es) fs (suc n) h = levels_append made es fs n (le_of_suc-le-suc h)
levels_append made (cleared ∷ es) fs n h = levels_append made es fs n h
levels_append made (changed new ∷ es) fs n h = levels_append new es fs n h

-- in frame m, the n-th of those after es
pub levels_end : (made : ChannelLevels) (es fs : List Event) (n m : ℕ) → m ≡ frames es + n
    → levels_at made (es ++ fs) m ≡ levels_at (levels_at made es (frames es)) fs n
levels_end made [] fs n m e = ap (levels_at made fs) (let q : m ≡ n = omega arith in q)
levels_end made (sampled i ∷ es) fs n zero e = absurd (omega arith)
levels_end made (sampled i ∷ es) fs n (suc m) e = levels_end made es fs n m (omega arith)
levels_end made (cleared ∷ es) fs n m e = levels_end made es fs n m e
levels_end made (changed new ∷ es) fs n m e = levels_end new es fs n m e

pub levels_sampled : (made : ChannelLevels) (es : List Event) (i : Input)
    → levels_at made (es ▷ sampled i) (frames es) ≡ levels_at made es (frames es)
levels_sampled made es i = levels_end made es (sampled i ∷ []) 0 (frames es) (omega arith)

-- ---- changes of a run's own level

module _ (kind : Kind) where
  pub changes_append : (made : ChannelLevels) (es fs : List Event) (n : ℕ) → n < frames es
      → changes_before kind made (es ++ fs) n ≡ changes_before kind made es n
  changes_append made [] fs n h = absurd (omega arith)
  changes_append made (sampled i ∷ es) fs zero h = refl
  changes_append made (sampled i ∷ es) fs (suc n) h = changes_append made es fs n (le_of_suc-le-suc h)
  changes_append made (cleared ∷ es) fs n h = changes_append made es fs n h
  changes_append made (changed new ∷ es) fs n h =
      ap (λ (m : ℕ). cond (kind.same made new) m (suc m)) (changes_append new es fs n h)

  pub changes_end : (made : ChannelLevels) (es fs : List Event) (n m : ℕ) → m ≡ frames es + n
      → changes_before kind made (es ++ fs) m
      ≡ changes_before kind made es (frames es) + changes_before kind (levels_at made es (frames es)) fs n
  changes_end made [] fs n m e = ap (changes_before kind made fs) (let q : m ≡ n = omega arith in q) ∙ omega arith
  changes_end made (sampled i ∷ es) fs n zero e = absurd (omega arith)
  changes_end made (sampled i ∷ es) fs n (suc m) e = changes_end made es fs n m (omega arith)
  changes_end made (cleared ∷ es) fs n m e = changes_end made es fs n m e
  changes_end made (changed new ∷ es) fs n m e = by (kind.same made new) _ _ _ (changes_end new es fs n m e)
    where
      by : (b : Bool) (x y z : ℕ) → x ≡ y + z → cond b x (suc x) ≡ cond b y (suc y) + z
      by true x y z e = e
      by false x y z e = omega arith

  -- a frame more is no change, before it or after
  pub changes_sampled : (made : ChannelLevels) (es : List Event) (i : Input)
      → changes_before kind made (es ▷ sampled i) (frames es) ≡ changes_before kind made es (frames es)
  changes_sampled made es i = changes_end made es (sampled i ∷ []) 0 (frames es) (omega arith) ∙ omega arith

  pub changes_past : (made : ChannelLevels) (es : List Event) (i : Input)
      → changes_before kind made (es ▷ sampled i) (suc (frames es)) ≡ changes_before kind made es (frames es)
  changes_past made es i = changes_end made es (sampled i ∷ []) 1 (suc (frames es)) (omega arith) ∙ omega arith

  -- new levels are one where the run's own level is not the same
  pub changes_changed : (made : ChannelLevels) (es : List Event) (new : ChannelLevels)
      → changes_before kind made (es ▷ changed new) (frames es)
      ≡ changes_before kind made es (frames es) + cond (kind.same (levels_at made es (frames es)) new) 0 1
  changes_changed made es new = changes_end made es (changed new ∷ []) 0 (frames es) (omega arith)

  pub changes_le : (made : ChannelLevels) (es : List Event) (n : ℕ) → changes_before kind made es n ≤ changes_before kind made es (frames es)
  changes_le made [] n = zero-le
  changes_le made (sampled i ∷ es) zero = zero-le
  changes_le made (sampled i ∷ es) (suc n) = changes_le made es n
  changes_le made (cleared ∷ es) n = changes_le made es n
  changes_le made (changed new ∷ es) n = by (kind.same made new) (changes_le new es n)
    where
      by : (b : Bool) {x y : ℕ} → x ≤ y → cond b x (suc x) ≤ cond b y (suc y)
      by true h = h
      by false h = suc-le-suc h

-- ---- the window

latest_same : (es fs : List Event) (n k : ℕ) → ((i : ℕ) → i < n → input_at es i ≡ input_at fs i) → latest_in_slot es n k ≡ latest_in_slot fs n k
latest_same es fs zero k same = refl
latest_same es fs (suc n) k same =
    ap₂ (λ (a : Input) (b : ℤ). cond (eqb (n % 8) k) a.sample b) (same n (le_refl (suc n))) (latest_same es fs n k (λ i h. same i (omega arith)))

window_same : (es fs : List Event) (n : ℕ) → ((i : ℕ) → i < n → input_at es i ≡ input_at fs i) → window_of es n ≡ window_of fs n
unfolding window_of
window_same es fs n same = table_same 8 (latest_in_slot es n) (latest_in_slot fs n) (λ k l. latest_same es fs n k same)

pub window_append : (es fs : List Event) (n : ℕ) → n ≤ frames es → window_of (es ++ fs) n ≡ window_of es n
window_append es fs n h = window_same (es ++ fs) es n (λ i l. input_append es fs i (omega arith))

-- an event that is no frame leaves the windows
pub window_other : (es : List Event) (e : Event) → inputs (e ∷ []) ≡ [] → (n : ℕ) → window_of (es ▷ e) n ≡ window_of es n
window_other es e none n = window_same (es ▷ e) es n (λ i l. ap (λ (l : List Input). get_or l i no_input) (inputs_other es e none))

-- a frame's sample goes to its slot
pub window_sampled : (es : List Event) (i : Input)
    → set (window_of es (frames es)) (frames es % 8) i.sample ≡ window_at (es ▷ sampled i) (frames es)
unfolding window_of
window_sampled es i =
    set_table 8 (frames es % 8) (latest_in_slot es (frames es)) i.sample (mod-lt (frames es) (omega arith))
    ∙ table_same 8 _ (latest_in_slot (es ▷ sampled i) (suc (frames es))) (λ k l.
    ap₂ (λ (a : Input) (b : ℤ). cond (eqb (frames es % 8) k) a.sample b) (sym (input_last es i))
    (latest_same es (es ▷ sampled i) (frames es) k (λ n l. sym (input_append es (sampled i ∷ []) n l))))
