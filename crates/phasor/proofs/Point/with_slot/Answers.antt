-- `phasor::Point::with_slot` meets its contract: each product and each sum fits in 32 bits.
use Prim.Native.Nat.{ℕ, ◌*◌, ◌%◌, ◌≤◌, ◌^◌}
use mathlib.Core.Path.{◌≡◌, ◌∙◌}
use mathlib.Core.List.{List}
use lib.Dec.{lit<}
use lib.ListN.{get_or}
use lib.IntN.{ℤ, pos, nat_abs, ◌+ℤ◌, ◌*ℤ◌}
use mir.Syntax.{w16, w32}
use mir.Val.{SFits, of_z, to_z}
use Rattle.integers.proofs.Holds.{Holds, held, held_as, sum, sum_fits, prod, prod_fits}
use Rattle.phasor.specs.declared.Point.{Point}
use Rattle.phasor.specs.Fourier.{cosines, sines}
use Rattle.phasor.specs.Internal.{SlotFits}
use Rattle.phasor.proofs.Weights.{cosines_small, sines_small}
use Rattle.phasor.proofs.Point.with_slot.Goals as goal

-- r is the sample, widened
module _ (q : Point) (s : ℤ) (k p : ℕ) (f : SlotFits q s k p) (r : ℤ) (e : r ≡ to_z w16 (of_z w16 s)) where
  wide : Holds w32 (of_z w32 r) s 512
  wide = held_as (e ∙ (held {w = w16} f.sample (lit< tt)).reads) f.sample (lit< tt)

  -- times a weight of one table, and added to a sum of seven such terms at most
  module _ (t : List ℤ) (light : (i : ℕ) → nat_abs (get_or t i (pos 0)) ≤ 2 ^ 14) where
    abbrev v : ℤ
    v = get_or t (p * k % 8) (pos 0)

    weight : Holds w32 (of_z w32 v) v (2 ^ 14)
    weight = held (light (p * k % 8)) (lit< tt)

    abbrev product : ℤ
    product = to_z w32 (of_z w32 r) *ℤ to_z w32 (of_z w32 v)

    term_fits : SFits w32 product
    term_fits = prod_fits wide weight (lit< tt)

    term : Holds w32 (of_z w32 product) (s *ℤ v) (2 ^ 23)
    term = prod wide weight (lit< tt)

    module _ (a : ℤ) (h : nat_abs a ≤ 7 * 2 ^ 23) where
      before : Holds w32 (of_z w32 a) a (7 * 2 ^ 23)
      before = held h (lit< tt)

      next_fits : SFits w32 (to_z w32 (of_z w32 a) +ℤ to_z w32 (of_z w32 product))
      next_fits = sum_fits before term (lit< tt)

      next : Holds w32 (of_z w32 (to_z w32 (of_z w32 a) +ℤ to_z w32 (of_z w32 product))) (a +ℤ s *ℤ v) (2 ^ 26)
      next = sum before term (lit< tt)

pub overflow_mul-result : goal.overflow_mul-result
unfolding cosines
overflow_mul-result c =
    let a = c.args in
    term_fits a.self a.sample a.slot a.order c.requires c.from-s.result c.from-s.ensures cosines cosines_small

pub overflow_add-result : goal.overflow_add-result
unfolding cosines
overflow_add-result c =
    let a = c.args in
    next_fits a.self a.sample a.slot a.order c.requires c.from-s.result c.from-s.ensures cosines cosines_small a.self.x c.requires.x

pub overflow_mul-result-2 : goal.overflow_mul-result-2
unfolding sines
overflow_mul-result-2 c =
    let a = c.args in
    term_fits a.self a.sample a.slot a.order c.requires c.from-s.result c.from-s.ensures sines sines_small

pub overflow_add-result-2 : goal.overflow_add-result-2
unfolding sines
overflow_add-result-2 c =
    let a = c.args in
    next_fits a.self a.sample a.slot a.order c.requires c.from-s.result c.from-s.ensures sines sines_small a.self.y c.requires.y

pub returns : goal.returns
unfolding cosines sines
returns c =
    let a = c.args in
    let s = c.from-s in
    let x = next a.self a.sample a.slot a.order c.requires s.result s.ensures cosines cosines_small a.self.x c.requires.x in
    let y = next a.self a.sample a.slot a.order c.requires s.result s.ensures sines sines_small a.self.y c.requires.y in
    λ i. record { x = x.reads i; y = y.reads i }
