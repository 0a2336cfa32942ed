-- Which frames are counted is what a relay's age and memory say (document 02, Paper 5): a frame is counted exactly where, with its rise seen, it
-- finds age 72. Said of bit 6 by frame numbers; rests on the definitions of the rule and on how the relay's age goes on.
use Prim.Native.Nat.{ℕ, zero, suc, ◌+◌, ◌-◌, ◌≤◌, ◌<◌, min}
use native.Mathlib.Omega.{arith}
use native.Mathlib.Decide.{dec_lt}
use mathlib.Core.Path.{◌≡◌, refl, sym, ap, ap₂, ◌∙◌, subst}
use mathlib.Core.Logic.{◌↔◌}
use mathlib.Core.Bool.{Bool, true, false, ◌&&◌, not, cond}
use lib.Dec.{T, ltb, leb}
use borrow.Author.Tests.{ltb-true, ltb-false, leb-true, le-leb}
use Rattle.relay.specs.Settings.{settled}
use Rattle.relay.specs.Relay.{found_by, age_after}
use Rattle.history.specs.Settling.{rise_in, CountedIn, latest_bit, since_rise}

-- ---- the rule looks at no later frame

module _ (f g : ℕ → Bool) where
  pub rise_same : (n : ℕ) → ((k : ℕ) → k ≤ n → f k ≡ g k) → rise_in f n ≡ rise_in g n
  rise_same zero same = refl
  rise_same (suc n) same = rw (same (suc n) (omega arith), same n (omega arith))

  counted_to : (n : ℕ) → ((k : ℕ) → k ≤ n → f k ≡ g k) → CountedIn f n → CountedIn g n
  counted_to n same c =
      record {
        late = c.late;
        no_rise = λ k a b t. c.no_rise k a b (subst T (sym (rise_same k (λ i l. same i (omega arith)))) t);
      }

  pub latest_same : (n : ℕ) → ((k : ℕ) → k < n → f k ≡ g k) → latest_bit f n ≡ latest_bit g n
  latest_same zero same = refl
  latest_same (suc n) same = same n (omega arith)

  pub since_same : (n : ℕ) → ((k : ℕ) → k < n → f k ≡ g k) → since_rise f n ≡ since_rise g n
  since_same zero same = refl
  since_same (suc n) same =
      ap₂ (λ (b : Bool) (m : ℕ). cond b 1 (suc m)) (rise_same n (λ k l. same k (omega arith))) (since_same n (λ k l. same k (omega arith)))

pub counted_same : (f g : ℕ → Bool) (n : ℕ) → ((k : ℕ) → k ≤ n → f k ≡ g k) → CountedIn f n ↔ CountedIn g n
counted_same f g n same = (counted_to f g n same, counted_to g f n (λ k l. sym (same k l)))

module _ (f : ℕ → Bool) where
  -- a frame that finds the latest bit off and has it on is a rise; frame 0 finds it on
  rise_is : (n : ℕ) → f n && not (latest_bit f n) ≡ rise_in f n
  rise_is zero = never (f 0)
    where
      never : (b : Bool) → b && false ≡ false
      never true = refl
      never false = refl
  rise_is (suc n) = refl

  -- ---- at least m frames since the latest rise: m frames came, and none of the last m but the first of them rises

  abbrev pub NoneSince : ℕ → ℕ → Type 0
  NoneSince n m = (m ≤ n) × ((k : ℕ) → n < k + m → k < n → ¬ T (rise_in f k))

  since_step : (n m : ℕ) (b : Bool) → rise_in f n ≡ b → (m - 1 ≤ since_rise f n → NoneSince n (m - 1)) → m ≤ cond b 1 (suc (since_rise f n))
      → NoneSince (suc n) m
  since_step n m true q old h = (omega arith, λ k a b. absurd (omega arith))
  since_step n m false q old h = (omega (arith, was.0), λ k a b. late k a (dec_lt k n) b)
    where
      was : NoneSince n (m - 1)
      was = old (omega arith)

      late : (k : ℕ) → suc n < k + m → Dec (k < n) → k < suc n → ¬ T (rise_in f k)
      late k a (yes l) b t = was.1 k (omega arith) l t
      late k a (no l) b t = subst T (ap (rise_in f) (let e : k ≡ n = omega arith in e) ∙ q) t

  pub since_says : (n m : ℕ) → m ≤ since_rise f n → NoneSince n m
  since_says zero m h = (h, λ k a b. absurd (omega arith))
  since_says (suc n) m h = since_step n m (rise_in f n) refl (since_says n (m - 1)) h

  step_since : (n m : ℕ) (b : Bool) → rise_in f n ≡ b → (NoneSince n (m - 1) → m - 1 ≤ since_rise f n) → NoneSince (suc n) m
      → m ≤ cond b 1 (suc (since_rise f n))
  step_since n m true q old (h, none) = one (dec_lt m 2)
    where
      one : Dec (m < 2) → m ≤ 1
      one (yes l) = omega arith
      one (no l) = absurd (none n (omega arith) (omega arith) (subst T (sym q) tt))
  step_since n m false q old (h, none) = omega (arith, old (omega arith, λ k a b. none k (omega arith) (omega arith)))

  pub says_since : (n m : ℕ) → NoneSince n m → m ≤ since_rise f n
  says_since zero m (h, none) = h
  says_since (suc n) m none = step_since n m (rise_in f n) refl (says_since n (m - 1)) none

  -- ---- the age that frame n finds

  abbrev pub age_at : ℕ → ℕ
  age_at n = found_by (latest_bit f n) (f n) (min settled (since_rise f n))

  found_is : (n : ℕ) → age_at n ≡ cond (rise_in f n) 0 (min settled (since_rise f n))
  found_is n = rw (rise_is n)

  pub found_counted : (n : ℕ) → leb settled (age_at n) ≡ true → CountedIn f n
  found_counted n e = by (rise_in f n) refl (rw found_is at (leb-true settled (age_at n) e))
    where
      by : (b : Bool) → rise_in f n ≡ b → settled ≤ cond b 0 (min settled (since_rise f n)) → CountedIn f n
      by true q h = absurd (omega arith)
      by false q h =
          let s = since_says n 72 (omega arith) in
          record { late = s.0; no_rise = λ k a b. each k a b (dec_lt k n) }
        where
          each : (k : ℕ) → n - 71 ≤ k → k ≤ n → Dec (k < n) → ¬ T (rise_in f k)
          each k a b (yes l) t = (since_says n 72 (omega arith)).1 k (omega arith) l t
          each k a b (no l) t = subst T (ap (rise_in f) (let e : k ≡ n = omega arith in e) ∙ q) t

  pub counted_found : (n : ℕ) → CountedIn f n → leb settled (age_at n) ≡ true
  counted_found n c = le-leb settled (age_at n) (rw found_is (by (rise_in f n) refl))
    where
      by : (b : Bool) → rise_in f n ≡ b → settled ≤ cond b 0 (min settled (since_rise f n))
      by true q = absurd (c.no_rise n (omega arith) (omega arith) (subst T (sym q) tt))
      by false q = omega (arith, says_since n 72 (c.late, λ k a b. c.no_rise k (omega arith) (omega arith)))

  -- the age goes on by one rule
  pub age_step : (n : ℕ) → age_after (age_at n) ≡ min settled (since_rise f (suc n))
  age_step n = rw found_is (by (rise_in f n))
    where
      grown : (age : ℕ) (b : Bool) → ltb (min settled age) settled ≡ b → cond b (min settled age + 1) (min settled age) ≡ min settled (suc age)
      grown age true q = omega (arith, ltb-true (min settled age) settled q)
      grown age false q = omega (arith, ltb-false (min settled age) settled q)

      by : (b : Bool) → age_after (cond b 0 (min settled (since_rise f n))) ≡ min settled (cond b 1 (suc (since_rise f n)))
      by true = refl
      by false = grown (since_rise f n) _ refl

  -- where bit 6 is on in frame n the next is no rise
  no_rise_lem : (n : ℕ) → T (f n) → ¬ T (rise_in f (suc n))
  no_rise_lem n on = by (f (suc n)) (f n) on
    where
      by : (a b : Bool) → T b → ¬ T (a && not b)
      by true true t u = u
      by false b t u = u
      by true false t u = t

  -- so no frame is, where it is on in each before
  pub always_on : (n : ℕ) → 72 ≤ n → ((k : ℕ) → k < n → T (f k)) → CountedIn f n
  always_on n h on = record { late = h; no_rise = λ k a b. each k b }
    where
      each : (k : ℕ) → k ≤ n → ¬ T (rise_in f k)
      each zero b t = t
      each (suc k) b t = no_rise_lem k (on k (omega arith)) t

  -- after a counted frame with bit 6 on the next is counted
  pub counted_on : (n : ℕ) → CountedIn f n → T (f n) → CountedIn f (suc n)
  counted_on n c on = record { late = let h : 72 ≤ n = c.late in omega arith; no_rise = λ k a b. each k a b (dec_lt n k) }
    where
      each : (k : ℕ) → suc n - 71 ≤ k → k ≤ suc n → Dec (n < k) → ¬ T (rise_in f k)
      each k a b (yes l) t = no_rise_lem n on (subst (λ (m : ℕ). T (rise_in f m)) (let e : k ≡ suc n = omega arith in e) t)
      each k a b (no l) t = c.no_rise k (omega arith) (omega arith) t

  -- ---- the rule from the rise's side: after a rise at frame t the first frame that can be counted is t + 72

  pub settling : (t k : ℕ) → T (rise_in f t) → k < 72 → ¬ CountedIn f (t + k)
  settling t k rise h c = c.no_rise t (omega arith) (omega arith) rise

  pub settled_again : (t : ℕ) → T (rise_in f t) → ((k : ℕ) → t < k → k ≤ t + 72 → ¬ T (rise_in f k)) → CountedIn f (t + 72)
  settled_again t rise none = record { late = omega arith; no_rise = λ k a b. none k (omega arith) b }
