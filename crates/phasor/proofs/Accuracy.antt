-- A window's Re and Im are 16384 a + 11585 b and 16384 c + 11585 d of four integers, for each order its own, and the samples bound their length:
-- the case split by order is in these sums alone. With Vector this is the accuracy of m for every order, and that the steps fit from where CORDIC
-- starts. Rests on Vector and Samples.
use mathlib.Core.Path.{◌≡◌, refl, sym, ◌∙◌}
use mathlib.Core.Bool.{Bool, true, false, cond}
use mathlib.Core.Logic.{⊎_elim}
use mathlib.Core.List.{List}
use Prim.Native.Nat.{ℕ, zero, suc, ◌+◌, ◌*◌, ◌-◌, ◌%◌, ◌≤◌, ◌<◌}
use native.Mathlib.Nat.{mul-le-mul, mul-le-mul_left, le_of_lt, le_trans}
use native.Mathlib.Omega.{arith}
use lib.Dec.{eqb, lit≤, lit<}
use lib.IntN.{ℤ, pos, nat_abs, +ℤ_idr, *ℤ-zero, ◌+ℤ◌, ◌-ℤ◌, ◌*ℤ◌}
use Rattle.integers.proofs.Squares.{rearrange, le_or_lt}
use Rattle.integers.proofs.Diff.{Diff, plus, minus, shift, of, of_pos, add, sub, mul, square, agree}
use Rattle.lists.specs.Each.{table}
use Rattle.lists.proofs.Each.{every_true, get_d_table}
use Rattle.frames.specs.Codes.{sample_sound}
use Rattle.phasor.specs.Window.{sample_at, window_sound}
use Rattle.phasor.specs.Fourier.{cosines, sines, weight_at, sum_over, re, im}
use Rattle.phasor.specs.Cordic.{start_of, last_x, amplitude_of, most_amplitude}
use Rattle.phasor.specs.Exact.{A, B, C, D, P, Q, turned, even, odd, exact_p, exact_q, Within, AtLeast, AtMost}
use Rattle.phasor.specs.Internal.{StepsFit}
use Rattle.phasor.proofs.Samples.{sample_at_lem, code_of}
use Rattle.phasor.proofs.Vector.{X, Y, length², along, squared, within, ceiling}

-- ---- the sums, as differences of naturals

abbrev ups : List ℤ → ℕ → List ℤ → ℕ → ℕ
ups v p w zero = 0
ups v p w (suc k) = ups v p w k + (plus (sample_at w k) * plus (weight_at v p k) + minus (sample_at w k) * minus (weight_at v p k))

abbrev downs : List ℤ → ℕ → List ℤ → ℕ → ℕ
downs v p w zero = 0
downs v p w (suc k) = downs v p w k + (plus (sample_at w k) * minus (weight_at v p k) + minus (sample_at w k) * plus (weight_at v p k))

sum_is : (v : List ℤ) (p : ℕ) (w : List ℤ) (k : ℕ) → Diff (sum_over v p w k) (ups v p w k) (downs v p w k)
unfolding sum_over
sum_is v p w zero = of_pos 0
sum_is v p w (suc k) = add (sum_is v p w k) (mul (of (sample_at w k)) (of (weight_at v p k)))

-- order 1
pub re_is : (w : List ℤ) → re 1 w ≡ X (A w) (B w) (C w) (D w)
unfolding re cosines
re_is w = agree (sum_is cosines 1 w 8)
    (add (mul (of_pos 16384) (sub (of (sample_at w 0)) (of (sample_at w 4))))
    (mul (of_pos 11585) (add (sub (sub (of (sample_at w 1)) (of (sample_at w 3))) (of (sample_at w 5))) (of (sample_at w 7)))))
    (omega arith)

pub im_is : (w : List ℤ) → im 1 w ≡ Y (A w) (B w) (C w) (D w)
unfolding im sines
im_is w = agree (sum_is sines 1 w 8)
    (add (mul (of_pos 16384) (sub (of (sample_at w 2)) (of (sample_at w 6))))
    (mul (of_pos 11585) (sub (sub (add (of (sample_at w 1)) (of (sample_at w 3))) (of (sample_at w 5))) (of (sample_at w 7)))))
    (omega arith)

-- order 2: one weight, 16384, under its signs
pub re_2 : (w : List ℤ) → re 2 w ≡ X (even w) (pos 0) (odd w) (pos 0)
unfolding re cosines
re_2 w = agree (sum_is cosines 2 w 8)
    (add (mul (of_pos 16384) (sub (add (sub (of (sample_at w 0)) (of (sample_at w 2))) (of (sample_at w 4))) (of (sample_at w 6))))
    (mul (of_pos 11585) (of_pos 0)))
    (omega arith)

pub im_2 : (w : List ℤ) → im 2 w ≡ Y (even w) (pos 0) (odd w) (pos 0)
unfolding im sines
im_2 w = agree (sum_is sines 2 w 8)
    (add (mul (of_pos 16384) (sub (add (sub (of (sample_at w 1)) (of (sample_at w 3))) (of (sample_at w 5))) (of (sample_at w 7))))
    (mul (of_pos 11585) (of_pos 0)))
    (omega arith)

-- order 3: order 1 over the turned window
pub re_3 : (w : List ℤ) → re 3 w ≡ re 1 (turned w)
unfolding re cosines table
re_3 w = agree (sum_is cosines 3 w 8) (sum_is cosines 1 (turned w) 8) (omega arith)

pub im_3 : (w : List ℤ) → im 3 w ≡ im 1 (turned w)
unfolding im sines table
im_3 w = agree (sum_is sines 3 w 8) (sum_is sines 1 (turned w) 8) (omega arith)

-- ---- how long (Re, Im) can be

record Reach (a b c d : ℤ) : Type 0 where
  few : nat_abs b * nat_abs b + nat_abs d * nat_abs d ≤ 4186116
  long : length² a b c d ≤ 43797732 * 43797732

-- A and C are α − 1023 and γ − 1023, B is π − κ and D is π + κ − 2046, with α, γ, π, κ at most 2046
module _ (a b c d : ℤ) (α γ π κ : ℕ) (da : Diff a α 1023) (dc : Diff c γ 1023) (db : Diff b π κ) (dd : Diff d (π + κ) 2046)
    (la : α ≤ 2046) (lc : γ ≤ 2046) (lp : π ≤ 2046) (lk : κ ≤ 2046) where
  one : {z : ℤ} {k : ℕ} → Diff z k 1023 → k ≤ 2046 → nat_abs z * nat_abs z ≤ 1046529
  one {z} {k} f h = omega (arith, square f, mul-le-mul_left k h)

  two : nat_abs b * nat_abs b + nat_abs d * nat_abs d ≤ 4186116
  two = omega (arith, square db, square dd, mul-le-mul_left π lp, mul-le-mul_left κ lk)

  -- p (A + C) + q (C − A), with p and q at most 1023 in size, is at most 2 · 1023²
  turn : α * π + γ * π + γ * κ ≤ α * κ + 2046 * π + 2046 * γ
  turn = ⊎_elim
      (λ h. ⊎_elim
      (λ k. omega (arith, mul-le-mul_left π h, rearrange lk k))
      (λ k. omega (arith, mul-le-mul_left π h, mul-le-mul_left κ k)) (le_or_lt α γ))
      (λ h. ⊎_elim
      (λ k. omega (arith, rearrange lp (le_of_lt h), rearrange lk k))
      (λ k. omega (arith, rearrange lp (le_of_lt h), mul-le-mul_left κ k)) (le_or_lt α γ))
      (le_or_lt (α + γ) 2046)

  dot : plus (along a b c d) ≤ 2093058 + minus (along a b c d)
  dot = omega (arith, turn, add (mul da db) (mul dc dd))

  reached : Reach a b c d
  reached = record { few = two; long = omega (arith, squared a b c d, dot, two, one da la, one dc lc) }

-- the difference of two samples, as a number at most 2046 less 1023
apart : {x y : ℤ} {c d : ℕ} → Diff x c 512 → Diff y d 512 → c ≤ 1023 → d ≤ 1023 → Diff (x -ℤ y) (c + 1023 - d) 1023
apart {x} {y} {c} {d} f g h k = shift (c + 1023 - d) 1023 (sub f g) (omega arith)

-- ---- order 2: sums of four samples, as a number at most 4092 less 2046

module _ (a c : ℤ) (α γ : ℕ) (da : Diff a α 2046) (dc : Diff c γ 2046) (la : α ≤ 4092) (lc : γ ≤ 4092) where
  quarter : {z : ℤ} {k : ℕ} → Diff z k 2046 → k ≤ 4092 → nat_abs z * nat_abs z ≤ 4186116
  quarter {z} {k} f h = omega (arith, square f, mul-le-mul_left k h)

  long_2 : length² a (pos 0) c (pos 0) ≤ 47406792 * 47406792
  long_2 = omega (arith, squared a (pos 0) c (pos 0), add (mul (of a) (of_pos 0)) (mul (of c) (of_pos 0)), quarter da la, quarter dc lc)

-- ---- every order

-- no length of (Re, Im) is above this
abbrev reach : ℕ → ℕ
reach p = cond (eqb p 2) 47406792 43797732

-- four integers of a window, for an order: Re and Im are theirs, so are P and Q, and the samples bound them
record Vector (p : ℕ) (w : List ℤ) : Type 0 where
  a : ℤ
  b : ℤ
  c : ℤ
  d : ℤ
  x_is : re p w ≡ X a b c d
  y_is : im p w ≡ Y a b c d
  p_is : exact_p p w ≡ P a b c d
  q_is : exact_q p w ≡ Q a b c d
  few : nat_abs b * nat_abs b + nat_abs d * nat_abs d ≤ 4186116
  long : length² a b c d ≤ reach p * reach p

module _ (w : List ℤ) (sound : window_sound w ≡ true) where
  code : (k : ℕ) → k < 8 → (c : ℕ) × (c ≤ 1023) × Diff (sample_at w k) c 512
  code k l = code_of (sample_at w k) (sample_at_lem w sound k l)

  -- the samples bound the sums of order 1, and those of order 2
  reaches : Reach (A w) (B w) (C w) (D w) × (length² (even w) (pos 0) (odd w) (pos 0) ≤ 47406792 * 47406792)
  reaches =
      let (c0, l0, d0) = code 0 (lit< tt) in
      let (c1, l1, d1) = code 1 (lit< tt) in
      let (c2, l2, d2) = code 2 (lit< tt) in
      let (c3, l3, d3) = code 3 (lit< tt) in
      let (c4, l4, d4) = code 4 (lit< tt) in
      let (c5, l5, d5) = code 5 (lit< tt) in
      let (c6, l6, d6) = code 6 (lit< tt) in
      let (c7, l7, d7) = code 7 (lit< tt) in (
        reached (A w) (B w) (C w) (D w) (c0 + 1023 - c4) (c2 + 1023 - c6) (c1 + 1023 - c5) (c3 + 1023 - c7)
            (apart d0 d4 l0 l4) (apart d2 d6 l2 l6)
            (shift (c1 + 1023 - c5) (c3 + 1023 - c7) (add (sub (sub d1 d3) d5) d7) (omega arith))
            (shift (c1 + 1023 - c5 + (c3 + 1023 - c7)) 2046 (sub (sub (add d1 d3) d5) d7) (omega arith))
            (omega arith) (omega arith) (omega arith) (omega arith),
        long_2 (even w) (odd w) (c0 + c4 + 2046 - (c2 + c6)) (c1 + c5 + 2046 - (c3 + c7))
            (shift (c0 + c4 + 2046 - (c2 + c6)) 2046 (sub (add (sub d0 d2) d4) d6) (omega arith))
            (shift (c1 + c5 + 2046 - (c3 + c7)) 2046 (sub (add (sub d1 d3) d5) d7) (omega arith))
            (omega arith) (omega arith),
      )

  vector_1 : Vector 1 w
  unfolding exact_p exact_q
  vector_1 =
      record {
        a = A w;
        b = B w;
        c = C w;
        d = D w;
        x_is = re_is w;
        y_is = im_is w;
        p_is = refl;
        q_is = refl;
        few = reaches.0.few;
        long = reaches.0.long;
      }

  vector_2 : Vector 2 w
  unfolding exact_p exact_q
  vector_2 =
      record {
        a = even w;
        b = pos 0;
        c = odd w;
        d = pos 0;
        x_is = re_2 w;
        y_is = im_2 w;
        p_is = sym (+ℤ_idr (pos 16 *ℤ (even w *ℤ even w +ℤ odd w *ℤ odd w)));
        q_is = rw (*ℤ-zero (even w), *ℤ-zero (odd w));
        few = lit≤ tt;
        long = reaches.1;
      }

-- a sample of the turned window is one of the window
turned_sound : (w : List ℤ) → window_sound w ≡ true → window_sound (turned w) ≡ true
unfolding window_sound
turned_sound w sound =
    every_true 8 (λ k. sample_sound (sample_at (turned w) k))
    (λ k l. rw (get_d_table 8 (λ j. sample_at w (3 * j % 8)) (pos 0) k l) (sample_at_lem w sound (3 * k % 8) (omega arith)))

vector_3 : (w : List ℤ) → window_sound w ≡ true → Vector 3 w
unfolding exact_p exact_q
vector_3 w sound =
    let v : Vector 1 (turned w) = vector_1 (turned w) (turned_sound w sound) in
    record {
      a = v.a;
      b = v.b;
      c = v.c;
      d = v.d;
      x_is = re_3 w ∙ v.x_is;
      y_is = im_3 w ∙ v.y_is;
      p_is = v.p_is;
      q_is = v.q_is;
      few = v.few;
      long = v.long;
    }

vector : (p : ℕ) → 1 ≤ p → p ≤ 3 → (w : List ℤ) → window_sound w ≡ true → Vector p w
vector zero l u w sound = absurd (let e : 1 ≤ 0 = l in omega arith)
vector (suc zero) l u w sound = vector_1 w sound
vector (suc (suc zero)) l u w sound = vector_2 w sound
vector (suc (suc (suc zero))) l u w sound = vector_3 w sound
vector (suc (suc (suc (suc p)))) l u w sound = absurd (let e : suc (suc (suc (suc p))) ≤ 3 = u in omega arith)

reach_le : (b : Bool) → cond b 47406792 43797732 ≤ 48000000
reach_le true = lit≤ tt
reach_le false = lit≤ tt

least : (b : Bool) {m : ℕ} → 4096 * m ≤ cond b 47406792 43797732 + 128 → m ≤ cond b 11599 10700
least true h = omega arith
least false h = omega arith

module _ (p : ℕ) (l : 1 ≤ p) (u : p ≤ 3) (w : List ℤ) (sound : window_sound w ≡ true) where
  v : Vector p w
  v = vector p l u w sound

  near : length² v.a v.b v.c v.d ≤ 48000000 * 48000000
  near = le_trans v.long (mul-le-mul (reach_le (eqb p 2)) (reach_le (eqb p 2)))

  -- CORDIC's start is inside the range of its 32-bit steps
  pub start_fits : StepsFit (start_of p w)
  unfolding start_of
  start_fits = record { right = tt; near = rw (v.x_is, v.y_is) near }

  pub largest : amplitude_of p w ≤ most_amplitude p
  unfolding amplitude_of last_x start_of
  largest = rw (v.x_is, v.y_is) (least (eqb p 2) (ceiling v.a v.b v.c v.d (reach p) v.long (reach_le (eqb p 2))))

  pub near_exact : Within p w (amplitude_of p w)
  unfolding amplitude_of last_x start_of AtLeast AtMost
  near_exact =
      let h = within v.a v.b v.c v.d v.few near in
      record { low = rw (v.x_is, v.y_is, v.p_is, v.q_is) h.0; high = rw (v.x_is, v.y_is, v.p_is, v.q_is) h.1 }
