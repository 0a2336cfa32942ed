-- The squares, the sums of windows and the loop over the windows, case by case as the code returns them. Rests on specs/Strongest and the
-- checks of frames.
use Prim.Native.Nat.{ℕ, zero, suc, ◌+◌, ◌-◌, ◌*◌, ◌≤◌, ◌<◌}
use mathlib.Core.Path.{◌≡◌, refl, sym, ◌∙◌, ap}
use mathlib.Core.List.{List, [], ◌∷◌}
use mathlib.Core.Bool.{Bool, true, false, cond}
use lib.ListN.{length, get_or, take, drop, get_or-eq_default}
use lib.IntN.{nat_abs, pos, negsuc}
use lib.Seq.{get_or-drop, drop-drop}
use native.Mathlib.Nat.{mul-le-mul}
use native.Mathlib.Numerals.{add-one}
use mir.Val.{Fits}
use mir.Syntax.{w32}
use native.Mathlib.Omega.{arith}
use borrow.Author.Tests.{ltb-true, ltb-false, le-leb, lt-leb, ne_eqb}
use lib.Dec.{ltb, leb}
use Rattle.std.specs.Result.{IsErrAnd}
use Rattle.std.specs.Prelude.{Result, Ok, Err}
use Rattle.refusals.specs.declared.Refusal.{Refusal}
use Rattle.refusals.proofs.Exits.{number_not_zero}
use Rattle.refusals.specs.Refusals.{Check, ◌or_else◌, first_fault, accepted, wrong_shape, few_frames, number_of}
use Rattle.frames.specs.Codes.{code_limit, middle_code, sample_of}
use Rattle.frames.specs.Cells.{frames_in, cell_checks}
use Rattle.frames.proofs.Ranges.{ranges_code}
use Rattle.frames.proofs.Checks.{cells_sound, cells_refused, cells_passed}
use Rattle.cells.specs.declared.StrongestWindow.{StrongestWindow}
use Rattle.cells.specs.declared.Window.{Window}
use Rattle.cells.specs.Strongest.{squared, channel_codes, codes_of, squares, window_sum, window_found, found}
use Rattle.cells.specs.Strongest.{stronger_of, strongest_up_to, strongest_in, strongest_refusal, strongest_of, strongest_answer}
use Rattle.cells.specs.Rolling.{square_at, rolled_on, carried_to}
use Rattle.cells.specs.Internal.{ChannelRight, most_square}
use Rattle.cells.proofs.Rolling.{squares_split, leaving_within, square_at_lem, carried_is}

-- ---- squares

-- `own` is the square of the code's sample.
abbrev pub SquareOf : ℕ → ℕ → Type 0
SquareOf code own = (own ≡ squared (sample_of code)) × (own ≤ most_square)

pub sample_size : (code : ℕ) → code < code_limit → nat_abs (sample_of code) ≤ middle_code
sample_size code h = go (ltb code middle_code) refl
  where
    go : (t : Bool) → ltb code middle_code ≡ t → nat_abs (cond t (negsuc (middle_code - suc code)) (pos (code - middle_code))) ≤ middle_code
    go true e = omega arith
    go false e = omega arith

pub square_small : (code : ℕ) → code < code_limit → squared (sample_of code) ≤ most_square
unfolding squared
square_small code h = mul-le-mul (sample_size code h) (sample_size code h)

-- ---- a channel's codes

pub codes_length : (channel n : ℕ) (cells : List ℕ) → length (channel_codes channel n cells) ≡ n
unfolding channel_codes
codes_length channel zero cells = refl
codes_length channel (suc n) cells = ap suc (codes_length channel n (drop 7 cells))

codes_at : (channel n : ℕ) (cells : List ℕ) (i : ℕ) → i < n → get_or (channel_codes channel n cells) i 0 ≡ get_or cells (7 * i + channel) 0
unfolding channel_codes
codes_at channel zero cells i h = absurd (omega arith)
codes_at channel (suc n) cells zero h = ap (λ (k : ℕ). get_or cells k 0) (omega arith)
codes_at channel (suc n) cells (suc i) h =
    let e : 7 + (7 * i + channel) ≡ 7 * suc i + channel = omega arith in
    codes_at channel n (drop 7 cells) i (omega arith) ∙ get_or-drop 7 cells (7 * i + channel) 0 ∙ ap (λ (k : ℕ). get_or cells k 0) e

-- ---- the square of a frame

module _ (cells : List ℕ) (channel f : ℕ) (R : ChannelRight cells channel) (h : f < frames_in cells) where
  pub square_here : (own : ℕ) → own ≡ squared (sample_of (get_or cells (7 * f + channel) 0)) → own ≡ square_at (codes_of cells channel) f
  square_here own e =
      let l : f < length (codes_of cells channel) = omega (arith, codes_length channel (frames_in cells) cells) in
      e ∙ ap (λ (c : ℕ). squared (sample_of c)) (sym (codes_at channel (frames_in cells) cells f h)) ∙ sym (square_at_lem (codes_of cells channel) f l)

-- ---- the sum of a window

-- The first k of its eight squares are added.
pub record WindowRead (codes : List ℕ) (f sum k : ℕ) : Type 0 where
  pub bounded : sum ≤ most_square * k
  pub is : sum ≡ squares (take k (drop f codes))

module _ (codes : List ℕ) (f : ℕ) where
  pub window_begin : WindowRead codes f 0 0
  unfolding squares
  window_begin = record { bounded = omega arith; is = refl }

  pub window_again : (sum k own : ℕ) → WindowRead codes f sum k → own ≡ square_at codes (f + k) → own ≤ most_square
      → WindowRead codes f (sum + own) (k + 1)
  unfolding square_at
  window_again sum k own I e h =
      record {
        bounded = omega (arith, I.bounded);
        is = omega (arith, I.is, e, squares_split k 1 (drop f codes), ap (λ (l : List ℕ). squares (take 1 l)) (drop-drop k f codes));
      }

  pub window_done : (sum k : ℕ) → WindowRead codes f sum k → 8 ≤ k → k ≤ 8 → sum ≡ window_sum codes f
  unfolding window_sum
  window_done sum k I h l = let e : k ≡ 8 = omega arith in rw e at I.is

pub ruleset window_cases = (window_begin, window_again, window_done)

-- ---- the loop over the windows

squares_small : (n : ℕ) (codes : List ℕ) → ((i : ℕ) → get_or codes i 0 < code_limit) → squares (take n codes) ≤ most_square * n
unfolding squares
squares_small zero codes all = omega arith
squares_small (suc n) [] all = omega arith
squares_small (suc n) (c ∷ codes) all = omega (arith, square_small c (all 0), squares_small n codes (λ i. all (suc i)))

-- Nine squares have room in 32 bits, whichever is the ninth.
pub rolled_fits : (sum own : ℕ) → sum ≤ most_square * 8 → own ≤ most_square → Fits w32 (sum + own)
rolled_fits sum own a b = record { fits = omega arith }

module _ (cells : List ℕ) (channel f : ℕ) (R : ChannelRight cells channel) where
  -- past the last frame `get_or` gives 0
  code_small : (i : ℕ) → get_or (codes_of cells channel) i 0 < code_limit
  code_small i = go (ltb i (frames_in cells)) refl
    where
      go : (t : Bool) → ltb i (frames_in cells) ≡ t → get_or (codes_of cells channel) i 0 < code_limit
      go true e = rw (codes_at channel (frames_in cells) cells i (ltb-true _ _ e)) (R.codes i)
      go false e =
          let l : length (codes_of cells channel) ≤ i = omega (arith, codes_length channel (frames_in cells) cells, ltb-false i (frames_in cells) e) in
          rw (get_or-eq_default (codes_of cells channel) 0 {n = i} l) (omega arith)

  window_small : window_sum (codes_of cells channel) f ≤ most_square * 8
  unfolding window_sum
  window_small = squares_small 8 (drop f (codes_of cells channel)) (λ i. rw (get_or-drop f (codes_of cells channel) i 0) (code_small (f + i)))

-- The sum is the one carried along to frame f.
pub record StrongestRead (codes : List ℕ) (sum : ℕ) (best : Window) (f : ℕ) : Type 0 where
  pub sum_is : sum ≡ carried_to codes f
  pub is : found best ≡ strongest_up_to codes f

module _ (codes : List ℕ) where
  pub strongest_begin : (sum : ℕ) → sum ≡ window_sum codes 0 → StrongestRead codes sum (record { sum = sum; frame = 0 }) 0
  unfolding strongest_up_to carried_to
  strongest_begin sum e = record { sum_is = e; is = rw e }

  module _ (sum : ℕ) (best : Window) (f : ℕ) (I : StrongestRead codes sum best f) where
    sum_here : sum ≡ window_sum codes f
    sum_here = I.sum_is ∙ carried_is codes f

    pub strongest_leaving : square_at codes f ≤ sum
    strongest_leaving = omega (arith, sum_here, leaving_within codes f)

    pub strongest_again : (on : ℕ) (next : Window) → on ≡ rolled_on codes f sum → found next ≡ stronger_of (found best) on (f + 1)
        → StrongestRead codes on next (f + 1)
    unfolding strongest_up_to carried_to
    strongest_again on next e q =
        let c : on ≡ carried_to codes (suc f) = e ∙ ap (rolled_on codes f) I.sum_is in
        let w : on ≡ window_sum codes (suc f) = c ∙ carried_is codes (suc f) in
        record { sum_is = rw (add-one f) c; is = q ∙ rw (add-one f, w) (ap (λ (b : StrongestWindow). stronger_of b (window_sum codes (suc f)) (suc f)) I.is) }

pub strongest_small : (cells : List ℕ) (channel sum : ℕ) (best : Window) (f : ℕ) → ChannelRight cells channel
    → StrongestRead (codes_of cells channel) sum best f → sum ≤ most_square * 8
strongest_small cells channel sum best f R I = omega (arith, sum_here (codes_of cells channel) sum best f I, window_small cells channel f R)

pub ruleset strongest_loop = (strongest_begin, strongest_leaving, strongest_small, strongest_again)

-- ---- strongest: the cases as the code returns them

module _ (cells : List ℕ) (channel : ℕ) where
  refused : (k : ℕ) → strongest_refusal cells channel ≡ k → (k ≡ accepted → ⊥) → window_found k 0 0 ≡ strongest_of cells channel
  unfolding strongest_of
  refused k e h = sym (rw e (rw (ne_eqb k accepted h)))

  pub strongest_channel : 5 < channel → window_found wrong_shape 0 0 ≡ strongest_of cells channel
  strongest_channel h = refused wrong_shape (rw (lt-leb channel 5 h)) (λ z. omega arith)

  abbrev enough : List Check
  enough = (leb 8 (frames_in cells) or_else few_frames) ∷ []

  -- What the check of the cells refuses, handed on.
  pub strongest_cells : (r : Result Window Refusal) (refusal : Refusal) → IsErrAnd r (λ e. e ≡ refusal) → channel ≤ 5
      → number_of refusal ≡ first_fault (cell_checks cells) → strongest_answer r ≡ strongest_of cells channel
  strongest_cells (Ok w) refusal is c e = absurd is
  strongest_cells (Err y) refusal is c e =
      ap (λ (z : Refusal). window_found (number_of z) 0 0) is
      ∙ refused (number_of refusal) (rw (le-leb channel 5 c) (cells_refused cells (number_of refusal) e enough (number_not_zero refusal)))
      (number_not_zero refusal)

  module _ (c : channel ≤ 5) (e : accepted ≡ first_fault (cell_checks cells)) where
    passed : strongest_refusal cells channel ≡ first_fault enough
    passed = rw (le-leb channel 5 c) (cells_passed cells accepted e enough refl)

    pub strongest_few : frames_in cells < 8 → window_found few_frames 0 0 ≡ strongest_of cells channel
    strongest_few h = refused few_frames (passed ∙ rw (lt-leb 8 (frames_in cells) h)) (λ z. omega arith)

    module _ (h : 8 ≤ frames_in cells) where
      pub channel_right : ChannelRight cells channel
      channel_right =
          let S = cells_sound cells accepted e refl in
          record {
            whole = S.whole;
            enough = h;
            few = S.few;
            channel_is = c;
            codes = λ f. ranges_code cells S.ranges f channel (omega arith);
          }

      pub strongest_accepted : (w : Window) → found w ≡ strongest_in cells channel → found w ≡ strongest_of cells channel
      unfolding strongest_of
      strongest_accepted w q = let p : strongest_refusal cells channel ≡ accepted = passed ∙ rw (le-leb 8 (frames_in cells) h) in q ∙ sym (rw p)
