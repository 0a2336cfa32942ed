-- Document 01's rule for R and Q in the form that proofs use: R + Q√2 ≥ 0, by the constructors of the two integers, so that each case is one
-- comparison of naturals. `rule_gives` and `gives_rule`: it is the document's rule. Rests on the definitions alone.
use Prim.Native.Nat.{ℕ, zero, suc, ◌*◌, ◌≤◌, zero-le, suc-le-suc}
use native.Mathlib.Omega.{arith}
use lib.Dec.{leb→le, le→leb, lt→ltb}
use lib.IntN.{ℤ, pos, negsuc}
use lib.Signed.{◌≤ℤ◌}
use Rattle.phasor.specs.Exact.{Rule, both, larger_r, larger_q}

abbrev pub NotBelow : ℤ → ℤ → Type 0
NotBelow (pos r) (pos q) = Unit {0}
NotBelow (pos r) (negsuc q) = 2 * (suc q * suc q) ≤ r * r
NotBelow (negsuc r) (pos q) = suc r * suc r ≤ 2 * (q * q)
NotBelow (negsuc r) (negsuc q) = ⊥

pub rule_gives : {r q : ℤ} → Rule r q → NotBelow r q
rule_gives {r = pos r} {q = pos q} h = tt
rule_gives {r = pos r} {q = negsuc q} (both a b) = absurd b.le
rule_gives {r = pos r} {q = negsuc q} (larger_r a b c) = leb→le (2 * (suc q * suc q)) (r * r) c.le
rule_gives {r = pos r} {q = negsuc q} (larger_q a b c) = absurd b.lt
rule_gives {r = negsuc r} {q = pos q} (both a b) = absurd a.le
rule_gives {r = negsuc r} {q = pos q} (larger_r a b c) = absurd a.le
rule_gives {r = negsuc r} {q = pos q} (larger_q a b c) = leb→le (suc r * suc r) (2 * (q * q)) c.le
rule_gives {r = negsuc r} {q = negsuc q} (both a b) = a.le
rule_gives {r = negsuc r} {q = negsuc q} (larger_r a b c) = a.le
rule_gives {r = negsuc r} {q = negsuc q} (larger_q a b c) = b.lt

natural : (n : ℕ) → pos 0 ≤ℤ pos n
natural n = record { le = le→leb 0 n zero-le }

pub gives_rule : (r q : ℤ) → NotBelow r q → Rule r q
gives_rule (pos r) (pos q) h = both (natural r) (natural q)
gives_rule (pos r) (negsuc q) h = larger_r (natural r) (record { lt = tt }) (record { le = le→leb (2 * (suc q * suc q)) (r * r) h })
gives_rule (negsuc r) (pos zero) h = absurd (never h)
  where
    never : suc r * suc r ≤ 2 * (0 * 0) → ⊥
    never h = omega arith
gives_rule (negsuc r) (pos (suc q)) h =
    larger_q (record { lt = tt }) (record { lt = lt→ltb 0 (suc q) (suc-le-suc zero-le) })
    (record { le = le→leb (suc r * suc r) (2 * (suc q * suc q)) h })
gives_rule (negsuc r) (negsuc q) h = absurd h
