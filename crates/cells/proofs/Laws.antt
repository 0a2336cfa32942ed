-- What a call of `strongest` answers: 0 exactly where no check fails, and then a window within the frames, none larger and each earlier one
-- smaller; refused, sum and frame 0. Rests on specs/Strongest.
use Prim.Native.Nat.{ℕ, zero, suc, ◌+◌, ◌-◌, ◌≤◌, ◌<◌}
use mathlib.Core.Path.{◌≡◌, refl, sym, ◌∙◌, ap}
use mathlib.Core.Bool.{Bool, true, false, cond}
use mathlib.Core.List.{List}
use mathlib.Core.Logic.{◌↔◌}
use lib.Dec.{ltb, leb, eqb}
use native.Mathlib.Nat.{le_of_eq}
use native.Mathlib.Omega.{arith}
use borrow.Author.Tests.{le-leb, leb-true, leb-false, ltb-true, ltb-false, ne_eqb, eqb-true, eqb-false}
use Rattle.refusals.specs.Refusals.{accepted, wrong_shape, out_of_range, few_frames}
use Rattle.refusals.proofs.Outcomes.{first_held}
use Rattle.frames.specs.Cells.{whole_frames, frames_in, frames_in_range}
use Rattle.cells.specs.declared.StrongestWindow.{StrongestWindow}
use Rattle.cells.specs.Strongest.{codes_of, window_sum, window_found, strongest_up_to, strongest_in, strongest_refusal, strongest_of}

-- ---- the largest of the windows up to frame f

pub record Largest (codes : List ℕ) (last : ℕ) (w : StrongestWindow) : Type 0 where
  pub refusal_is : w.refusal ≡ accepted
  pub inside : w.frame ≤ last
  pub sum_is : w.sum ≡ window_sum codes w.frame
  pub largest : (g : ℕ) → g ≤ last → window_sum codes g ≤ w.sum
  pub first : (g : ℕ) → g < w.frame → window_sum codes g < w.sum

up_to_lem : (codes : List ℕ) (f : ℕ) → Largest codes f (strongest_up_to codes f)
unfolding strongest_up_to
up_to_lem codes zero =
    record {
      refusal_is = refl;
      inside = omega arith;
      sum_is = refl;
      largest = λ g h. (let e : g ≡ 0 = omega arith in le_of_eq (ap (window_sum codes) e));
      first = λ g h. absurd (omega arith);
    }
up_to_lem codes (suc f) = go (up_to_lem codes f) (ltb (strongest_up_to codes f).sum (window_sum codes (suc f))) refl
  where
    -- the windows up to suc f are those up to f and one more
    each : (s : ℕ) → ((g : ℕ) → g ≤ f → window_sum codes g ≤ s) → window_sum codes (suc f) ≤ s → (g : ℕ) → g ≤ suc f → window_sum codes g ≤ s
    each s a b g h = on (leb g f) refl
      where
        on : (t : Bool) → leb g f ≡ t → window_sum codes g ≤ s
        on true q = a g (leb-true g f q)
        on false q = let z : g ≡ suc f = omega (arith, leb-false g f q) in rw z b

    go : Largest codes f (strongest_up_to codes f) → (t : Bool) → ltb (strongest_up_to codes f).sum (window_sum codes (suc f)) ≡ t
        → Largest codes (suc f) (cond t (window_found accepted (window_sum codes (suc f)) (suc f)) (strongest_up_to codes f))
    go L true e =
        let b = ltb-true (strongest_up_to codes f).sum (window_sum codes (suc f)) e in
        record {
          refusal_is = refl;
          inside = omega arith;
          sum_is = refl;
          largest = each (window_sum codes (suc f)) (λ g h. omega (arith, L.largest g h)) (omega arith);
          first = λ g h. omega (arith, L.largest g (omega arith));
        }
    go L false e =
        record {
          refusal_is = L.refusal_is;
          inside = omega (arith, L.inside);
          sum_is = L.sum_is;
          largest = each (strongest_up_to codes f).sum L.largest (ltb-false (strongest_up_to codes f).sum (window_sum codes (suc f)) e);
          first = L.first;
        }

-- ---- the outcome

module _ (cells : List ℕ) (channel : ℕ) where
  -- No check fails.
  pub record StrongestAccepted : Type 0 where
    pub whole : whole_frames cells ≡ true
    pub channel_is : channel ≤ 5
    pub range : frames_in_range cells ≡ true
    pub enough : 8 ≤ frames_in cells

  refusal_right : strongest_refusal cells channel ≡ accepted → StrongestAccepted
  refusal_right h =
      let a = first_held (leb channel 5) wrong_shape accepted (λ z. omega arith) h in
      let b = first_held (whole_frames cells) wrong_shape accepted (λ z. omega arith) a.1 in
      let d = first_held (frames_in_range cells) out_of_range accepted (λ z. omega arith) b.1 in
      let e = first_held (leb 8 (frames_in cells)) few_frames accepted (λ z. omega arith) d.1 in
      record { whole = b.0; channel_is = leb-true _ _ a.0; range = d.0; enough = leb-true _ _ e.0 }

  right_refusal : StrongestAccepted → strongest_refusal cells channel ≡ accepted
  right_refusal R = rw (le-leb channel 5 R.channel_is, R.whole, R.range, le-leb 8 (frames_in cells) R.enough)

  -- The answer, by the refusal of the first check that fails.
  refusal_of_lem : (strongest_refusal cells channel ≡ accepted → ⊥) → strongest_of cells channel ≡ window_found (strongest_refusal cells channel) 0 0
  unfolding strongest_of
  refusal_of_lem h = rw (ne_eqb (strongest_refusal cells channel) accepted h)

  window_of_lem : strongest_refusal cells channel ≡ accepted → strongest_of cells channel ≡ strongest_in cells channel
  unfolding strongest_of
  window_of_lem e = rw e

  -- The refusal answered is that of the first check that fails.
  pub is_refusal : (strongest_of cells channel).refusal ≡ strongest_refusal cells channel
  is_refusal = go (eqb (strongest_refusal cells channel) accepted) refl
    where
      go : (t : Bool) → eqb (strongest_refusal cells channel) accepted ≡ t → (strongest_of cells channel).refusal ≡ strongest_refusal cells channel
      go true p =
          let e = eqb-true (strongest_refusal cells channel) accepted p in
          ap (λ (w : StrongestWindow). w.refusal) (window_of_lem e) ∙ (up_to_lem (codes_of cells channel) (frames_in cells - 8)).refusal_is ∙ sym e
      go false p = ap (λ (w : StrongestWindow). w.refusal) (refusal_of_lem (eqb-false (strongest_refusal cells channel) accepted p))

  -- Refusal 0 exactly where no check fails.
  pub strongest_accepts : ((strongest_of cells channel).refusal ≡ accepted) ↔ StrongestAccepted
  strongest_accepts = (λ h. refusal_right (sym is_refusal ∙ h), λ R. is_refusal ∙ right_refusal R)

  -- "sum and frame 0"
  pub strongest_refused : ((strongest_of cells channel).refusal ≡ accepted → ⊥)
      → ((strongest_of cells channel).sum ≡ 0) × ((strongest_of cells channel).frame ≡ 0)
  strongest_refused h =
      let e = refusal_of_lem (λ z. h (is_refusal ∙ z)) in
      (ap (λ (w : StrongestWindow). w.sum) e, ap (λ (w : StrongestWindow). w.frame) e)

  -- "the largest sum of eight squared samples of successive frames, and the first frame where it occurs"
  pub record Strongest : Type 0 where
    pub inside : (strongest_of cells channel).frame + 8 ≤ frames_in cells
    pub sum_is : (strongest_of cells channel).sum ≡ window_sum (codes_of cells channel) (strongest_of cells channel).frame
    pub largest : (g : ℕ) → g + 8 ≤ frames_in cells → window_sum (codes_of cells channel) g ≤ (strongest_of cells channel).sum
    pub first : (g : ℕ) → g < (strongest_of cells channel).frame → window_sum (codes_of cells channel) g < (strongest_of cells channel).sum

  pub strongest_is : (strongest_of cells channel).refusal ≡ accepted → Strongest
  strongest_is h =
      let R = strongest_accepts.0 h in
      let L = up_to_lem (codes_of cells channel) (frames_in cells - 8) in
      let e = window_of_lem (sym is_refusal ∙ h) in
      record {
        inside = rw e (omega (arith, L.inside, R.enough));
        sum_is = rw e L.sum_is;
        largest = λ g l. rw e (L.largest g (omega arith));
        first = λ g l. (let m = rw e at l in rw e (L.first g m));
      }
