-- The place of an excerpt, case by case as `place` returns it. Rests on specs/Excerpt.
use Prim.Native.Nat.{ℕ, ◌+◌, ◌-◌, ◌*◌, ◌/◌, ◌%◌, ◌≤◌, ◌<◌}
use mathlib.Core.Path.{◌≡◌}
use mathlib.Core.List.{List}
use lib.ListN.{length}
use native.Mathlib.Omega.{arith}
use borrow.Author.Tests.{le-leb, lt-leb, eq-eqb, ne_eqb}
use Rattle.cells.specs.declared.Part.{Part}
use Rattle.cells.specs.Excerpt.{place_of}

module _ (cells : List ℕ) (f n : ℕ) where
  abbrev nothing : Part
  nothing = record { start = 0; length = 0 }

  pub place_shape : (length cells % 7 ≡ 0 → ⊥) → nothing ≡ place_of cells f n
  place_shape h = rw (ne_eqb (length cells % 7) 0 h)

  module _ (w : length cells % 7 ≡ 0) where
    pub past : length cells / 7 < f + n → nothing ≡ place_of cells f n
    past h = rw (eq-eqb (length cells % 7) 0 w, lt-leb (f + n) (length cells / 7) h)

    pub place_part : f ≤ length cells / 7 → n ≤ length cells / 7 - f → record { start = 7 * f; length = 7 * n } ≡ place_of cells f n
    place_part l h = rw (eq-eqb (length cells % 7) 0 w, le-leb (f + n) (length cells / 7) (omega arith))
