-- Paper 4's law: from the sum of one window the step gives the sum of the window one frame later. Rests on specs/Rolling.
use Prim.Native.Nat.{ℕ, zero, suc, ◌+◌, ◌-◌, ◌≤◌, ◌<◌}
use mathlib.Core.Path.{◌≡◌, refl, sym, ◌∙◌, ap}
use mathlib.Core.List.{List, [], ◌∷◌}
use lib.ListN.{length, get_or, take, drop, drop_of_length-le}
use lib.Seq.{take-nil, drop-cons, drop-drop}
use native.Mathlib.Numerals.{add-one}
use native.Mathlib.Omega.{arith}
use Rattle.frames.specs.Codes.{sample_of}
use Rattle.cells.specs.Strongest.{squared, squares, window_sum}
use Rattle.cells.specs.Rolling.{square_at, rolled_on, carried_to}

-- The first m of some codes, and the n behind them; where they are fewer too.
pub squares_split : (m n : ℕ) (codes : List ℕ) → squares (take (m + n) codes) ≡ squares (take m codes) + squares (take n (drop m codes))
unfolding squares
squares_split zero n codes = let e : 0 + n ≡ n = omega arith in rw e (omega arith)
squares_split (suc m) n [] = rw (take-nil (suc m + n), take-nil n)
squares_split (suc m) n (c ∷ codes) = let e : suc m + n ≡ suc (m + n) = omega arith in rw e (omega (arith, squares_split m n codes))

module _ (codes : List ℕ) (f : ℕ) where
  -- The nine frames from f on, cut behind the eighth and behind the first.
  pub window_next : window_sum codes f + square_at codes (f + 8) ≡ square_at codes f + window_sum codes (f + 1)
  unfolding window_sum square_at
  window_next =
      let nine = drop f codes in
      let a = squares_split 8 1 nine in
      let b = squares_split 1 8 nine in
      rw (← drop-drop 8 f codes, ← drop-drop 1 f codes) (sym a ∙ b)

  -- The leaving square is part of the sum: taking it off is never cut at 0.
  pub leaving_within : square_at codes f ≤ window_sum codes f
  unfolding window_sum square_at
  leaving_within = omega (arith, squares_split 1 7 (drop f codes))

  -- "from the sum of one window this step gives the sum of the window one frame later"
  pub window_rolls : rolled_on codes f (window_sum codes f) ≡ window_sum codes (f + 1)
  unfolding rolled_on
  window_rolls = omega (arith, window_next)

  -- The square of a frame that there is, by its code, and of one that there is not.
  pub square_at_lem : f < length codes → square_at codes f ≡ squared (sample_of (get_or codes f 0))
  unfolding square_at squares
  square_at_lem h = rw (drop-cons codes f 0 h) (omega arith)

  pub square_past : length codes ≤ f → square_at codes f ≡ 0
  unfolding square_at squares
  square_past h = rw (drop_of_length-le codes h)

-- The step by the codes, from any number: that of the frame after the window's last enters, that of its first leaves.
pub rolled_codes : (codes : List ℕ) (f sum : ℕ) → f + 8 < length codes
    → rolled_on codes f sum ≡ sum + squared (sample_of (get_or codes (f + 8) 0)) - squared (sample_of (get_or codes f 0))
unfolding rolled_on
rolled_codes codes f sum h = rw (square_at_lem codes (f + 8) h, square_at_lem codes f (omega arith))

-- The law by the codes, where there is a window one frame later.
pub window_rolls_codes : (codes : List ℕ) (f : ℕ) → f + 8 < length codes
    → window_sum codes f + squared (sample_of (get_or codes (f + 8) 0)) - squared (sample_of (get_or codes f 0)) ≡ window_sum codes (f + 1)
window_rolls_codes codes f h = sym (rolled_codes codes f (window_sum codes f) h) ∙ window_rolls codes f

-- However far it is carried, the sum is that of the window where it stands.
pub carried_is : (codes : List ℕ) (f : ℕ) → carried_to codes f ≡ window_sum codes f
unfolding carried_to
carried_is codes zero = refl
carried_is codes (suc f) = ap (rolled_on codes f) (carried_is codes f) ∙ window_rolls codes f ∙ ap (window_sum codes) (add-one f)
