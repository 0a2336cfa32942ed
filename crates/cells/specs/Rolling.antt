-- Document 02, Paper 4: the step from the sum of one window to the next. No promise of an entry point cites it: that of
-- `strongest` is said by specs/Strongest alone, and the laws (`window_rolls`, `carried_is`) say that the step gives the
-- sums which stand there. Rests on Strongest.
use Rattle.std.specs.Prelude.{ℕ, zero, suc, ◌+◌, ◌-◌, List, take, drop}
use Rattle.cells.specs.Strongest.{squares, window_sum}

-- The square of the sample of frame f; 0 past the last frame.
unfoldable pub square_at : List ℕ → ℕ → ℕ
square_at codes f = squares (take 1 (drop f codes))

-- "carry its sum along, adding the entering square and taking off the leaving one", from the sum of the window at frame
-- f. The entering square is that of the frame after the window's last, the leaving one that of its first.
unfoldable pub rolled_on : List ℕ → ℕ → ℕ → ℕ
rolled_on codes f sum = sum + square_at codes (f + 8) - square_at codes f

-- The sum so carried along, from the first window's to that of the window at frame f.
unfoldable pub carried_to : List ℕ → ℕ → ℕ
carried_to codes zero = window_sum codes 0
carried_to codes (suc f) = rolled_on codes f (carried_to codes f)
