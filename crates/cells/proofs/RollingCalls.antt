-- Paper 4's step, computed: which square enters, which leaves, both ends of the codes, the first step and the last. Two laws of
-- Rolling stand here once more, so that neither is given a premise unseen. Rests on the definitions and, for that, on Rolling.
use Prim.Native.Nat.{ℕ, suc, ◌+◌, ◌-◌, ◌*◌}
use mathlib.Core.Path.{◌≡◌, refl}
use mathlib.Core.List.{List, [], ◌∷◌, ◌++◌, map}
use lib.ListN.{replicate}
use native.Mathlib.Omega.{arith}
use Rattle.lists.proofs.Lists.{up_from}
use Rattle.frames.specs.Codes.{sample_of}
use Rattle.cells.specs.Strongest.{squared, window_sum}
use Rattle.cells.specs.Rolling.{square_at, rolled_on, carried_to}
use Rattle.cells.proofs.Rolling.{window_rolls, carried_is}
use Rattle.cells.proofs.Computed.{computed}

abbrev sq : ℕ → ℕ
sq code = squared (sample_of code)

pub record RollingCalls : Type 0 where
  -- a frame's square, and 0 past the last frame; each of three hundred
  pub square : map (square_at (0 ∷ 512 ∷ 1023 ∷ 500 ∷ [])) (up_from 0 6) ≡ 262144 ∷ 0 ∷ 261121 ∷ 144 ∷ 0 ∷ 0 ∷ []
  pub each_square : map (square_at (up_from 512 300)) (up_from 0 300) ≡ map (λ f. f * f) (up_from 0 300)
  -- samples 0, 1, 2, ..: 0² + .. + 7², then 1² + .. + 8², and so on; the last window of three hundred frames
  pub steps : (rolled_on (up_from 512 300) 0 140 ≡ 204) × (rolled_on (up_from 512 300) 1 204 ≡ 284) × (rolled_on (up_from 512 300) 2 284 ≡ 380)
      × (rolled_on (up_from 512 300) 291 693884 ≡ 698604)
  -- from any number, be it a window's sum or not
  pub any_sum : (rolled_on (513 ∷ replicate 7 512 ++ (514 ∷ [])) 0 1000 ≡ 1003) × (rolled_on (514 ∷ replicate 7 512 ++ (513 ∷ [])) 0 1000 ≡ 997)
      × (rolled_on (up_from 512 300) 100 1000000 ≡ 1001664)
  -- the largest square enters, leaves, or both; the seven frames between do neither
  pub enters : rolled_on (replicate 8 512 ++ (0 ∷ [])) 0 0 ≡ 262144
  pub leaves : rolled_on (0 ∷ replicate 8 512) 0 262144 ≡ 0
  pub both : rolled_on (1023 ∷ replicate 7 512 ++ (0 ∷ [])) 0 261121 ≡ 262144
  pub between : rolled_on (512 ∷ replicate 7 0 ++ (512 ∷ [])) 0 1835008 ≡ 1835008
  pub loudest : rolled_on (replicate 9 0) 0 2097152 ≡ 2097152
  -- the frames around the nine count for nothing
  pub around : rolled_on (0 ∷ 513 ∷ replicate 7 512 ++ (514 ∷ 0 ∷ [])) 1 1 ≡ 4
  -- the last step of 4,096 frames; one step more, where nothing enters
  pub last : rolled_on (replicate 4088 512 ++ replicate 8 513) 4087 7 ≡ 8
  pub past : rolled_on (replicate 4088 512 ++ replicate 8 513) 4088 8 ≡ 7
  -- any nine codes, and any codes before and behind them; any number that has the leaving square in it
  pub nine : (a b c d e g h i j : ℕ) (more : List ℕ)
      → rolled_on (a ∷ b ∷ c ∷ d ∷ e ∷ g ∷ h ∷ i ∷ j ∷ more) 0 (sq a + sq b + sq c + sq d + sq e + sq g + sq h + sq i)
      ≡ sq b + sq c + sq d + sq e + sq g + sq h + sq i + sq j
  pub on : (c f sum : ℕ) (codes : List ℕ) → rolled_on (c ∷ codes) (suc f) sum ≡ rolled_on codes f sum
  pub rest : (a b c d e g h i j sum : ℕ) (more : List ℕ)
      → rolled_on (a ∷ b ∷ c ∷ d ∷ e ∷ g ∷ h ∷ i ∷ j ∷ more) 0 (sq a + sum) ≡ sum + sq j
  -- carried along over three hundred frames, the sums that `windows` of StrongestCalls computes; as eight loud frames go
  pub carried : map (carried_to (up_from 512 300)) (0 ∷ 3 ∷ 100 ∷ 200 ∷ 292 ∷ []) ≡ 140 ∷ 380 ∷ 85740 ∷ 331340 ∷ 698604 ∷ []
  pub carried_ends : map (carried_to (replicate 8 0 ++ replicate 8 512)) (up_from 0 9) ≡ map (λ f. (8 - f) * 262144) (up_from 0 9)
  -- the laws, of any codes and any frame
  pub step_law : (codes : List ℕ) (f : ℕ) → rolled_on codes f (window_sum codes f) ≡ window_sum codes (f + 1)
  pub carried_law : (codes : List ℕ) (f : ℕ) → carried_to codes f ≡ window_sum codes f

pub rollings : RollingCalls
unfolding computed
rollings =
    record {
      square = refl;
      each_square = refl;
      steps = (refl, refl, refl, refl);
      any_sum = (refl, refl, refl);
      enters = refl;
      leaves = refl;
      both = refl;
      between = refl;
      loudest = refl;
      around = refl;
      last = refl;
      past = refl;
      nine = λ a b c d e g h i j more. omega arith;
      on = λ c f sum codes. (let e : suc f + 8 ≡ suc (f + 8) = omega arith in rw e);
      rest = λ a b c d e g h i j sum more. omega arith;
      carried = refl;
      carried_ends = refl;
      step_law = window_rolls;
      carried_law = carried_is;
    }
