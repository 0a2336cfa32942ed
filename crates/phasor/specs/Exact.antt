-- Document 01, "The exact amplitude": Z, with Z² = P + Q√2, is known by its order against whole numbers alone, and so
-- is all that is promised of it; and the exact amplitudes of the second and third harmonic (document 02, Paper 8).
-- Rests on Window.
use Rattle.std.specs.Prelude.{ℕ, ◌*◌, ◌%◌, cond, List, ℤ, pos, negsuc, neg_ℤ, ◌+ℤ◌, ◌-ℤ◌, ◌*ℤ◌, ◌≤ℤ◌, ◌<ℤ◌, eqb}
use Rattle.lists.specs.Each.{table}
use Rattle.phasor.specs.Window.{sample_at}

-- "let A = s0 − s4, B = s1 − s3 − s5 + s7, C = s2 − s6, D = s1 + s3 − s5 − s7"
abbrev pub A : List ℤ → ℤ
A w = sample_at w 0 -ℤ sample_at w 4

abbrev pub B : List ℤ → ℤ
B w = sample_at w 1 -ℤ sample_at w 3 -ℤ sample_at w 5 +ℤ sample_at w 7

abbrev pub C : List ℤ → ℤ
C w = sample_at w 2 -ℤ sample_at w 6

abbrev pub D : List ℤ → ℤ
D w = sample_at w 1 +ℤ sample_at w 3 -ℤ sample_at w 5 -ℤ sample_at w 7

-- "P = 16(A² + C²) + 8(B² + D²) and Q = 16(AB + CD)", of any four integers
abbrev pub P : (a b c d : ℤ) → ℤ
P a b c d = pos 16 *ℤ (a *ℤ a +ℤ c *ℤ c) +ℤ pos 8 *ℤ (b *ℤ b +ℤ d *ℤ d)

abbrev pub Q : (a b c d : ℤ) → ℤ
Q a b c d = pos 16 *ℤ (a *ℤ b +ℤ c *ℤ d)

-- the rule for R and Q: "holds if R ≥ 0 and Q ≥ 0; or R ≥ 0, Q < 0 and R² ≥ 2Q²; or R < 0, Q > 0 and 2Q² ≥ R²"
pub data Rule (r q : ℤ) : Type 0 where
  both : pos 0 ≤ℤ r → pos 0 ≤ℤ q → Rule r q
  larger_r : pos 0 ≤ℤ r → q <ℤ pos 0 → (pos 2 *ℤ (q *ℤ q)) ≤ℤ (r *ℤ r) → Rule r q
  larger_q : r <ℤ pos 0 → pos 0 <ℤ q → (r *ℤ r) ≤ℤ (pos 2 *ℤ (q *ℤ q)) → Rule r q

-- Z ≥ t, for P = p and Q = q: "For t < 0, Z ≥ t always holds"; "For t ≥ 0 let R = P − t²"
abbrev pub RootAtLeast : (p q t : ℤ) → Type 0
RootAtLeast p q (pos t) = Rule (p -ℤ pos t *ℤ pos t) q
RootAtLeast p q (negsuc t) = Unit {0}

-- Z ≤ t: for t < 0 it never holds; for t ≥ 0 it "is the same rule with −R and −Q"
abbrev pub RootAtMost : (p q t : ℤ) → Type 0
RootAtMost p q (pos t) = Rule (neg_ℤ (p -ℤ pos t *ℤ pos t)) (neg_ℤ q)
RootAtMost p q (negsuc t) = ⊥

-- P and Q by order (document 02, Paper 8). Order 1 is document 01's window; "For p = 3 it is document 01's Z with
-- sample k replaced by sample 3k mod 8"; "For p = 2, Q is 0 and P is 16((s0 − s2 + s4 − s6)² + (s1 − s3 + s5 − s7)²)".
-- No other order is promised anything; it reads as order 1.
abbrev pub turned : List ℤ → List ℤ
turned w = table 8 (λ k. sample_at w (3 * k % 8))

abbrev pub first_p : List ℤ → ℤ
first_p w = P (A w) (B w) (C w) (D w)

abbrev pub first_q : List ℤ → ℤ
first_q w = Q (A w) (B w) (C w) (D w)

abbrev pub even : List ℤ → ℤ
even w = sample_at w 0 -ℤ sample_at w 2 +ℤ sample_at w 4 -ℤ sample_at w 6

abbrev pub odd : List ℤ → ℤ
odd w = sample_at w 1 -ℤ sample_at w 3 +ℤ sample_at w 5 -ℤ sample_at w 7

unfoldable pub exact_p : ℕ → List ℤ → ℤ
exact_p p w =
    cond (eqb p 2) (pos 16 *ℤ (even w *ℤ even w +ℤ odd w *ℤ odd w)) (cond (eqb p 3) (first_p (turned w)) (first_p w))

unfoldable pub exact_q : ℕ → List ℤ → ℤ
exact_q p w = cond (eqb p 2) (pos 0) (cond (eqb p 3) (first_q (turned w)) (first_q w))

-- Z ≥ t and Z ≤ t, of a window for an order
unfoldable pub AtLeast : ℕ → List ℤ → ℤ → Type 0
AtLeast p w t = RootAtLeast (exact_p p w) (exact_q p w) t

unfoldable pub AtMost : ℕ → List ℤ → ℤ → Type 0
AtMost p w t = RootAtMost (exact_p p w) (exact_q p w) t

-- "Z < t means that Z ≥ t fails"
abbrev pub Below : ℕ → List ℤ → ℤ → Type 0
Below p w t = ¬ (AtLeast p w t)

-- "'Within 2' means Z ≥ m − 2 and Z ≤ m + 2"
pub record Within (p : ℕ) (w : List ℤ) (m : ℕ) : Type 0 where
  pub low : AtLeast p w (pos m -ℤ pos 2)
  pub high : AtMost p w (pos m +ℤ pos 2)
