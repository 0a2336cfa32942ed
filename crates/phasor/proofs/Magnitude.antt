-- The length of a point and where CORDIC's x ends: how far apart they can be (`near`), and how large x and y become on the way (`ranged`).
-- Lengths are in units of 1/unit and go up and down a table of 17 rows, checked by one computed test each. Rests on Trace.
use mathlib.Core.Path.{◌≡◌, refl}
use mathlib.Core.Logic.{⊎_elim}
use mathlib.Core.Bool.{Bool, true, ◌&&◌}
use mathlib.Core.List.{[], ◌∷◌}
use Prim.Native.Nat.{ℕ, zero, suc, ◌+◌, ◌*◌, ◌-◌, ◌^◌, ◌≤◌, ◌<◌}
use native.Mathlib.Nat.{mul-le-mul_left, le_of_lt, le_trans, pow-succ', add_assoc}
use native.Mathlib.Omega.{arith}
use borrow.Author.Tests.{leb-true}
use lib.Dec.{T, leb, lit≤}
use lib.ListN.{get_or}
use lib.IntN.{pos, nat_abs}
use lib.Signed.{non_neg, pos-nat_abs}
use Rattle.std.proofs.lemmas.Nat.{pow_pos}
use Rattle.integers.proofs.Squares.{sq_cancel, sq_mono}
use Rattle.phasor.specs.declared.Point.{Point}
use Rattle.lists.specs.Each.{every}
use Rattle.phasor.specs.Cordic.{steps, end_of, scaled_of}
use Rattle.phasor.specs.Internal.{StepsFit}
use Rattle.lists.proofs.Each.{every_at, and_left, and_right}
use Rattle.phasor.proofs.Lengths.{Step, up, down, linear}
use Rattle.phasor.proofs.Trace.{xs, ys, trace, not_negative}

-- ---- induction up and down a range

upward : (P : ℕ → Type 0) (n : ℕ) → ((i : ℕ) → i < n → P i → P (suc i)) → P 0 → P n
upward P zero s p = p
upward P (suc n) s p = s n (omega arith) (upward P n (λ i h. s i (omega arith)) p)

downward : (P : ℕ → Type 0) (n : ℕ) → ((i : ℕ) → i < n → P (suc i) → P i) → P n → P 0
downward P zero s p = p
downward P (suc n) s p = downward P n (λ i h. s i (omega arith)) (s n (omega arith) p)

-- ---- the tables: after i steps the length is at most upα i times a bound of the first length, plus upβ i;
-- before the steps i to 15 it is at most dnα i times the last x, plus dnβ i

abbrev unit : ℕ
unit = 16777216

-- a rounding error of 1 in either coordinate: √2 units, rounded up
abbrev gap : ℕ
gap = 23726567

upα : ℕ → ℕ
upα i = get_or (
    16777216 ∷ 23726567 ∷ 26527109 ∷ 27343519 ∷ 27556313 ∷ 27610082 ∷ 27623561 ∷ 27626933 ∷ 27627777
    ∷ 27627988 ∷ 27628041 ∷ 27628055 ∷ 27628059 ∷ 27628060 ∷ 27628061 ∷ 27628062 ∷ 27628063 ∷ []) i 0

upβ : ℕ → ℕ
upβ i = get_or (
    0 ∷ 23726567 ∷ 50253676 ∷ 75526871 ∷ 99841205 ∷ 123762585 ∷ 147549569 ∷ 171294147 ∷ 195025942
    ∷ 218753997 ∷ 242480982 ∷ 266207665 ∷ 289934264 ∷ 313660840 ∷ 337387410 ∷ 361113978 ∷ 384840546 ∷ []) i 0

dnα : ℕ → ℕ
dnα i = get_or (
    10188327 ∷ 14408470 ∷ 16109159 ∷ 16604941 ∷ 16734164 ∷ 16766816 ∷ 16775000 ∷ 16777047 ∷ 16777558
    ∷ 16777686 ∷ 16777718 ∷ 16777726 ∷ 16777728 ∷ 16777728 ∷ 16777728 ∷ 16777728 ∷ 16777728 ∷ []) i 0

dnβ : ℕ → ℕ
dnβ i = get_or (
    386515756 ∷ 522889257 ∷ 560881394 ∷ 554416740 ∷ 535004765 ∷ 512322110 ∷ 488845639 ∷ 465178741 ∷ 441466369
    ∷ 417743170 ∷ 394017399 ∷ 370291019 ∷ 346564496 ∷ 322837939 ∷ 299111374 ∷ 275384807 ∷ 251658240 ∷ []) i 0

-- c (αn + β)² ≤ d (α'n + γ)², by the coefficients
abbrev fits : (c d α β α' γ : ℕ) → Bool
fits c d α β α' γ = leb (c * (α * α)) (d * (α' * α')) && (leb (c * (α * β)) (d * (α' * γ)) && leb (c * (β * β)) (d * (γ * γ)))

two : (a a' : ℕ) (b : Bool) → leb a a' && b ≡ true → (a ≤ a') × (b ≡ true)
two a a' b t = (leb-true a a' (and_left (leb a a') b t), and_right (leb a a') b t)

fitted : (c d α β α' γ n : ℕ) → fits c d α β α' γ ≡ true → c * ((α * n + β) * (α * n + β)) ≤ d * ((α' * n + γ) * (α' * n + γ))
fitted c d α β α' γ n t =
    let h = two (c * (α * α)) (d * (α' * α')) _ t in
    let k = two (c * (α * β)) (d * (α' * γ)) _ h.1 in
    linear c d α β α' γ n h.0 k.0 (leb-true (c * (β * β)) (d * (γ * γ)) k.1)

abbrev up_row : ℕ → Bool
up_row i = leb gap (upβ (suc i)) && fits (2 ^ i * 2 ^ i + 1) (2 ^ i * 2 ^ i) (upα i) (upβ i) (upα (suc i)) (upβ (suc i) - gap)

abbrev dn_row : ℕ → Bool
dn_row i = fits (2 ^ i * 2 ^ i) (2 ^ i * 2 ^ i + 1) (dnα (suc i)) (dnβ (suc i) + gap) (dnα i) (dnβ i)

-- no entry of the first table is above its last
abbrev top_row : ℕ → Bool
top_row i = leb (upα i) (upα 16) && leb (upβ i) (upβ 16)

up_table : every 16 up_row ≡ true
unfolding every upα upβ
up_table = refl

dn_table : every 16 dn_row ≡ true
unfolding every dnα dnβ
dn_table = refl

top_table : every 17 top_row ≡ true
unfolding every upα upβ
top_table = refl

gap_fits : 2 * (unit * unit) ≤ gap * gap
gap_fits = lit≤ tt

-- one coordinate is no longer than the point
left : (x y : ℕ) → (unit * x) * (unit * x) ≤ (unit * unit) * (x * x + y * y)
left x y = omega arith

right : (x y : ℕ) → (unit * y) * (unit * y) ≤ (unit * unit) * (x * x + y * y)
right x y = omega arith

-- from the two bounds to the amplitude, by linear arithmetic
scale : (x n : ℕ) → unit * x ≤ 27628063 * suc n + 384840546 → unit * n ≤ 10188327 * x + 386515756 → n ≤ 48000000 →
    (4096 * scaled_of (pos x) ≤ n + 128) × (n ≤ 4096 * scaled_of (pos x) + 5596)
unfolding scaled_of
scale x n h k l = (omega arith, omega arith)

module _ (p : Point) (r : T (non_neg p.x)) where
  -- the square of the length after i steps
  abbrev len : ℕ → ℕ
  len i = xs p i * xs p i + ys p i * ys p i

  abbrev len₀ : ℕ
  len₀ = nat_abs p.x * nat_abs p.x + nat_abs p.y * nat_abs p.y

  first : len 0 ≡ len₀
  unfolding xs ys steps
  first = refl

  -- ---- forth

  forth_start : (n : ℕ) → len₀ ≤ n * n → (unit * unit) * len 0 ≤ (upα 0 * n + upβ 0) * (upα 0 * n + upβ 0)
  unfolding upα upβ
  forth_start n h = omega (arith, first)

  forth_step : (n i : ℕ) → i < 16 → (unit * unit) * len i ≤ (upα i * n + upβ i) * (upα i * n + upβ i) →
      (unit * unit) * len (suc i) ≤ (upα (suc i) * n + upβ (suc i)) * (upα (suc i) * n + upβ (suc i))
  forth_step n i l h =
      let k : ℕ = 2 ^ i in
      let γ : ℕ = upβ (suc i) - gap in
      let row = two gap (upβ (suc i)) _ (every_at 16 up_row up_table i l) in
      let fit = fitted (k * k + 1) (k * k) (upα i) (upβ i) (upα (suc i)) γ n row.1 in
      le_trans
      (up unit gap k (xs p i) (ys p i) (xs p (suc i)) (ys p (suc i)) (trace p r i) (pow_pos i) gap_fits
      (upα i * n + upβ i) (upα (suc i) * n + γ) h fit)
      (sq_mono (join (upα (suc i) * n) (upβ (suc i)) row.0))
    where
      join : (p q : ℕ) → gap ≤ q → p + (q - gap) + gap ≤ p + q
      join p q h = omega arith

  forth : (n j : ℕ) → j ≤ 16 → len₀ ≤ n * n → (unit * unit) * len j ≤ (upα j * n + upβ j) * (upα j * n + upβ j)
  forth n j l h = upward (λ (i : ℕ). (unit * unit) * len i ≤ (upα i * n + upβ i) * (upα i * n + upβ i)) j
      (λ i k. forth_step n i (omega arith)) (forth_start n h)

  -- ---- back, from a y that ended small

  back_step : (n i : ℕ) → i < 16 → (unit * unit) * len (suc i) ≤ (dnα (suc i) * n + dnβ (suc i)) * (dnα (suc i) * n + dnβ (suc i)) →
      (unit * unit) * len i ≤ (dnα i * n + dnβ i) * (dnα i * n + dnβ i)
  back_step n i l h =
      let k : ℕ = 2 ^ i in
      let fit = fitted (k * k) (k * k + 1) (dnα (suc i)) (dnβ (suc i) + gap) (dnα i) (dnβ i) n (every_at 16 dn_row dn_table i l) in
      down unit gap k (xs p i) (ys p i) (xs p (suc i)) (ys p (suc i)) (trace p r i) (pow_pos i) gap_fits
      (dnα (suc i) * n + dnβ (suc i)) (dnα i * n + dnβ i) h (rw (add_assoc (dnα (suc i) * n) (dnβ (suc i)) gap) fit)

  back : (n : ℕ) → (unit * unit) * len 16 ≤ (dnα 16 * n + dnβ 16) * (dnα 16 * n + dnβ 16) →
      (unit * unit) * len₀ ≤ (dnα 0 * n + dnβ 0) * (dnα 0 * n + dnβ 0)
  back n h = rw (← first)
      (downward (λ (i : ℕ). (unit * unit) * len i ≤ (dnα i * n + dnβ i) * (dnα i * n + dnβ i)) 16 (back_step n) h)

  -- y ends small: after i + 1 steps at most x / 2^i + i
  small_step : (c i x y x' y' : ℕ) → Step (2 * c) x y x' y' → c * y ≤ x + i * c → (2 * c) * y' ≤ x' + suc i * (2 * c)
  small_step c i x y x' y' s h =
      ⊎_elim (λ e. omega (arith, e, s.grows)) (λ e. omega (arith, e, s.grows, h)) s.small

  small : (i : ℕ) → 2 ^ i * ys p (suc i) ≤ xs p (suc i) + i * 2 ^ i
  small zero = start (trace p r 0)
    where
      start : Step 1 (xs p 0) (ys p 0) (xs p 1) (ys p 1) → 1 * ys p 1 ≤ xs p 1 + 0 * 1
      start s = ⊎_elim (λ e. omega (arith, s.grows)) (λ e. omega (arith, s.x_above, s.x_below)) s.small
  small (suc i) =
      rw (pow-succ' 2 i)
      (small_step (2 ^ i) i (xs p (suc i)) (ys p (suc i)) (xs p (suc (suc i))) (ys p (suc (suc i)))
      (rw (pow-succ' 2 i) at (trace p r (suc i))) (small i))

  back_start : (unit * unit) * len 16 ≤ (dnα 16 * xs p 16 + dnβ 16) * (dnα 16 * xs p 16 + dnβ 16)
  unfolding dnα dnβ
  back_start = wide (xs p 16) (ys p 16) (small 15)
    where
      wide : (x y : ℕ) → 32768 * y ≤ x + 15 * 32768 →
          (unit * unit) * (x * x + y * y) ≤ (16777728 * x + 251658240) * (16777728 * x + 251658240)
      wide x y h = le_trans (part x y) (sq_mono (line x y h))
        where
          part : (x y : ℕ) → (unit * unit) * (x * x + y * y) ≤ (unit * (x + y)) * (unit * (x + y))
          part x y = omega arith

          line : (x y : ℕ) → 32768 * y ≤ x + 15 * 32768 → unit * (x + y) ≤ 16777728 * x + 251658240
          line x y h = omega arith

  -- ---- the last x against a bound of the first length from above, and from below

  above : (n : ℕ) → len₀ ≤ n * n → unit * xs p 16 ≤ 27628063 * n + 384840546
  unfolding upα upβ
  above n h = sq_cancel (le_trans (left (xs p 16) (ys p 16)) (forth n 16 (lit≤ tt) h))

  below : (n : ℕ) → n * n ≤ len₀ → unit * n ≤ 10188327 * xs p 16 + 386515756
  unfolding dnα dnβ
  below n h = sq_cancel (le_trans (part (mul-le-mul_left (unit * unit) h)) (back (xs p 16) back_start))
    where
      part : (unit * unit) * (n * n) ≤ (unit * unit) * len₀ → (unit * n) * (unit * n) ≤ (unit * unit) * len₀
      part k = omega arith

  -- x as it ends is what its size says
  end_is : pos (xs p 16) ≡ end_of p
  unfolding xs
  end_is = pos-nat_abs (end_of p) (not_negative p r 16)

  -- n is the whole part of the first length
  pub near : (n : ℕ) → n * n ≤ len₀ → len₀ < suc n * suc n → n ≤ 48000000 →
      (4096 * scaled_of (end_of p) ≤ n + 128) × (n ≤ 4096 * scaled_of (end_of p) + 5596)
  near n h k l = rw (← end_is) (scale (xs p 16) n (above (suc n) (le_of_lt k)) (below n h) l)

-- x and y stay below 2^27 all the way: what a 32-bit loop needs
pub record Ranged (q : Point) : Type 0 where
  pub x : nat_abs q.x ≤ 79100000
  pub y : nat_abs q.y ≤ 79100000

pub ranged : (p : Point) → StepsFit p → (j : ℕ) → j ≤ 16 → Ranged (steps j p)
unfolding upα upβ xs ys
ranged p s j l =
    let f = forth p s.right 48000000 j l s.near in
    let t = two (upα j) (upα 16) _ (every_at 17 top_row top_table j (omega arith)) in
    let h = far t.0 (leb-true (upβ j) (upβ 16) t.1) in record {
      x = reach (xs p j) (upα j * 48000000 + upβ j) (sq_cancel (le_trans (left (xs p j) (ys p j)) f)) h;
      y = reach (ys p j) (upα j * 48000000 + upβ j) (sq_cancel (le_trans (right (xs p j) (ys p j)) f)) h;
    }
  where
    far : {p q : ℕ} → p ≤ 27628063 → q ≤ 384840546 → p * 48000000 + q ≤ 27628063 * 48000000 + 384840546
    far h k = omega arith

    reach : (x t : ℕ) → unit * x ≤ t → t ≤ 27628063 * 48000000 + 384840546 → x ≤ 79100000
    reach x t h k = omega arith
