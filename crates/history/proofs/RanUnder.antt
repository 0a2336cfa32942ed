-- "The one it ran under" (document 02, Paper 6) is one level: in each frame of a full run the run's own level, the drop or the pickup and the
-- restraint, is what it is in its first frame. Rests on the definitions of the history.
use Prim.Native.Nat.{ℕ, zero, suc, ◌≤◌}
use native.Mathlib.Nat.{le_of_suc-le-suc}
use native.Mathlib.Omega.{arith}
use mathlib.Core.Path.{◌≡◌, refl, sym, ◌∙◌}
use mathlib.Core.Bool.{Bool, true, false, cond}
use mathlib.Core.List.{List, [], ◌∷◌}
use lib.Dec.{eqb}
use borrow.Author.Tests.{eqb-true}
use Rattle.lists.proofs.Each.{and_left, and_right}
use Rattle.relay.specs.declared.ChannelLevels.{ChannelLevels}
use Rattle.relay.specs.declared.Lengths.{Lengths}
use Rattle.relay.specs.Settings.{Kind}
use Rattle.history.specs.History.{Event, sampled, cleared, changed, levels_at, changes_before, InEach, FullRun}
use Rattle.history.specs.Demand.{loss_of, over_of}

-- what is read of levels, where levels that are the same to the run have it alike
module _ (kind : Kind) (read : ChannelLevels → ℕ) (alike : (old new : ChannelLevels) → kind.same old new ≡ true → read old ≡ read new) where
  -- no change before frame n
  from_start : (made : ChannelLevels) (es : List Event) (n : ℕ) → changes_before kind made es n ≡ 0 → read (levels_at made es n) ≡ read made
  from_start made [] n e = refl
  from_start made (sampled i ∷ es) zero e = refl
  from_start made (sampled i ∷ es) (suc n) e = from_start made es n e
  from_start made (cleared ∷ es) n e = from_start made es n e
  from_start made (changed new ∷ es) n e = by (kind.same made new) refl e (from_start new es n)
    where
      by : (b : Bool) → kind.same made new ≡ b → cond b (changes_before kind new es n) (suc (changes_before kind new es n)) ≡ 0
          → (changes_before kind new es n ≡ 0 → read (levels_at new es n) ≡ read new) → read (levels_at new es n) ≡ read made
      by true q e rest = rest e ∙ sym (alike made new q)
      by false q e rest = absurd (omega arith)

  -- none between frames j and n
  pub between : (made : ChannelLevels) (es : List Event) (j n : ℕ) → j ≤ n → changes_before kind made es n ≡ changes_before kind made es j
      → read (levels_at made es n) ≡ read (levels_at made es j)
  between made [] j n h e = refl
  between made (sampled i ∷ es) zero zero h e = refl
  between made (sampled i ∷ es) zero (suc n) h e = from_start made es n e
  between made (sampled i ∷ es) (suc j) zero h e = absurd (omega arith)
  between made (sampled i ∷ es) (suc j) (suc n) h e = between made es j n (le_of_suc-le-suc h) e
  between made (cleared ∷ es) j n h e = between made es j n h e
  between made (changed new ∷ es) j n h e = between new es j n h (by (kind.same made new) e)
    where
      by : (b : Bool) {x y : ℕ} → cond b x (suc x) ≡ cond b y (suc y) → x ≡ y
      by true e = e
      by false e = omega arith

pub loss_ran_under : (lengths : Lengths) (made : ChannelLevels) (es : List Event) (len j : ℕ) → FullRun (loss_of lengths) made es len j
    → InEach j len (λ n. (levels_at made es n).drop ≡ (levels_at made es j).drop)
loss_ran_under lengths made es len j run n a b =
    between (loss_of lengths) (λ l. l.drop) (λ old new e. eqb-true old.drop new.drop e) made es j n a (run.each n a b).not_changed

pub over_ran_under : (lengths : Lengths) (made : ChannelLevels) (es : List Event) (len j : ℕ) → FullRun (over_of lengths) made es len j
    → InEach j len (λ n. ((levels_at made es n).pickup ≡ (levels_at made es j).pickup) × ((levels_at made es n).restraint ≡ (levels_at made es j).restraint))
over_ran_under lengths made es len j run n a b = (
  between (over_of lengths) (λ l. l.pickup) (λ old new e. eqb-true old.pickup new.pickup (and_left _ (eqb old.restraint new.restraint) e)) made es j n a
      (run.each n a b).not_changed,
  between (over_of lengths) (λ l. l.restraint) (λ old new e. eqb-true old.restraint new.restraint (and_right (eqb old.pickup new.pickup) _ e)) made es
      j n a (run.each n a b).not_changed,
)
