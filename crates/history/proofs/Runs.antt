-- Runs and latches as numbers alone: F frames came so far, P n says that frame n belongs to a run that still matters, and B n is how many changes of
-- the run's own level came before frame n (B F: in all); no run goes across one. A run that is counted up where a frame belongs, and set to 0 where it
-- does not or where such a change comes, is the number of latest frames that belong together, at most L (`Streak`); and a latch that such a run turns
-- on at L is on exactly when some L successive frames belong together (`Full`).
use Prim.Native.Nat.{ℕ, suc, ◌+◌, ◌-◌, ◌≤◌, ◌<◌, min}
use native.Mathlib.Decide.{dec_le, dec_lt}
use native.Mathlib.Omega.{arith}
use mathlib.Core.Path.{◌≡◌, sym, ap, ◌∙◌, subst}
use mathlib.Core.Logic.{◌↔◌}
use mathlib.Core.Bool.{Bool, true, false, ◌||◌}
use lib.Dec.{T, eqb, eqb→eq, eqb_refl}
use Rattle.history.specs.History.{InEach}

pub record Streak (L F run : ℕ) (P : ℕ → Type 0) (B : ℕ → ℕ) : Type 0 where
  pub small : run ≤ L
  pub room : run ≤ F
  pub hits : (n : ℕ) → n < F → F ≤ n + run → P n
  pub linked : (n : ℕ) → n ≤ F → F ≤ n + run → B n ≡ B F
  pub stop : run < L → (n : ℕ) → suc (n + run) ≡ F → P n → ¬ (B n ≡ B F)

pub record FullAt (L F : ℕ) (P : ℕ → Type 0) (B : ℕ → ℕ) (j : ℕ) : Type 0 where
  pub within : j + L ≤ F
  pub each : InEach j L P
  pub linked : InEach j L (λ n. B n ≡ B j)

abbrev pub Full : ℕ → ℕ → (ℕ → Type 0) → (ℕ → ℕ) → Type 0
Full L F P B = (j : ℕ) × FullAt L F P B j

module _ (L F : ℕ) (P : ℕ → Type 0) (B : ℕ → ℕ) where
  -- the latest frame does not belong, or a change came after it, or there is none
  pub no_streak : ((n : ℕ) → suc n ≡ F → P n → ¬ (B n ≡ B F)) → Streak L F 0 P B
  no_streak un =
      record {
        small = omega arith;
        room = omega arith;
        hits = λ n h k. absurd (omega arith);
        linked = λ n h k. ap B (let e : n ≡ F = omega arith in e);
        stop = λ h n e. un n (omega arith);
      }

  -- none belongs
  pub no_full : 0 < L → ((n : ℕ) → n < F → ¬ P n) → ¬ Full L F P B
  no_full some un (j, f) = un j (let h : j + L ≤ F = f.within in omega arith) (f.each j (omega arith) (omega arith))

-- what is said of the first F frames is still said when more has come
pub record Kept (F : ℕ) (P P' : ℕ → Type 0) (B B' : ℕ → ℕ) : Type 0 where
  pub same : (n : ℕ) → n < F → P n ↔ P' n
  pub links : (n : ℕ) → n < F → B' n ≡ B n

module _ (L F : ℕ) (P P' : ℕ → Type 0) (B B' : ℕ → ℕ) (kept : Kept F P P' B B') where
  -- of a full run of the first F frames, for any number of frames G by now
  pub full_kept : (G j : ℕ) → F ≤ G → FullAt L F P B j → FullAt L G P' B' j
  full_kept G j h f =
      let w : j + L ≤ F = f.within in
      record {
        within = omega arith;
        each = λ n a b. (kept.same n (omega arith)).0 (f.each n a b);
        linked = λ n a b. kept.links n (omega arith) ∙ f.linked n a b ∙ sym (kept.links j (omega arith));
      }

  pub full_back : (G j : ℕ) → j + L ≤ F → FullAt L G P' B' j → FullAt L F P B j
  full_back G j w f =
      record {
        within = w;
        each = λ n a b. (kept.same n (omega arith)).1 (f.each n a b);
        linked = λ n a b. sym (kept.links n (omega arith)) ∙ f.linked n a b ∙ kept.links j (omega arith);
      }

  -- what is no frame, and no change of the run's own level, leaves the run
  pub streak_kept : (run : ℕ) → B' F ≡ B F → Streak L F run P B → Streak L F run P' B'
  streak_kept run e s =
      record {
        small = s.small;
        room = s.room;
        hits = λ n h k. (kept.same n h).0 (s.hits n h k);
        linked = λ n h k. linked n h k (dec_lt n F);
        stop = λ h n q p b. s.stop h n q ((kept.same n (omega arith)).1 p) (sym (kept.links n (omega arith)) ∙ b ∙ e);
      }
    where
      linked : (n : ℕ) → n ≤ F → F ≤ n + run → Dec (n < F) → B' n ≡ B' F
      linked n h k (yes l) = kept.links n l ∙ s.linked n h k ∙ sym e
      linked n h k (no l) = ap B' (let q : n ≡ F = omega arith in q)

  -- one frame more, with no change before or after it
  module _ (at : B' F ≡ B F) (end : B' (suc F) ≡ B F) where
    pub hit_streak : (run : ℕ) → Streak L F run P B → P' F → Streak L (suc F) (min L (suc run)) P' B'
    hit_streak run s p =
        record {
          small = omega arith;
          room = omega arith;
          hits = λ n h k. hits n h k (dec_lt n F);
          linked = λ n h k. linked n h k (dec_lt n F) (dec_le n F) ∙ sym end;
          stop = λ h n e q b. s.stop (omega arith) n (omega arith) ((kept.same n (omega arith)).1 q)
              (sym (kept.links n (omega arith)) ∙ b ∙ end);
        }
      where
        hits : (n : ℕ) → n < suc F → suc F ≤ n + min L (suc run) → Dec (n < F) → P' n
        hits n h k (yes l) = (kept.same n l).0 (s.hits n l (omega arith))
        hits n h k (no l) = subst P' (let e : F ≡ n = omega arith in e) p

        linked : (n : ℕ) → n ≤ suc F → suc F ≤ n + min L (suc run) → Dec (n < F) → Dec (n ≤ F) → B' n ≡ B F
        linked n h k (yes l) m = kept.links n l ∙ s.linked n (omega arith) (omega arith)
        linked n h k (no l) (yes m) = ap B' (let e : n ≡ F = omega arith in e) ∙ at
        linked n h k (no l) (no m) = ap B' (let e : n ≡ suc F = omega arith in e) ∙ end

    -- the latch after the frame, by the run after it
    pub latch_frame : (run : ℕ) (latch : Bool) → 0 < L → Streak L (suc F) run P' B' → (T latch ↔ Full L F P B)
        → T (latch || eqb run L) ↔ Full L (suc F) P' B'
    latch_frame run latch some s old = (on latch old.0, λ f. back f (dec_le (f.0 + L) F) latch old.1)
      where
        on : (b : Bool) → (T b → Full L F P B) → T (b || eqb run L) → Full L (suc F) P' B'
        on true f t = ((f tt).0, full_kept (suc F) (f tt).0 (omega arith) (f tt).1)
        on false f t =
            let e : run ≡ L = eqb→eq run L t in
            let r : run ≤ suc F = s.room in (
              suc F - L,
              record {
                within = omega arith;
                each = λ n a b. s.hits n (omega arith) (omega arith);
                linked = λ n a b. s.linked n (omega arith) (omega arith) ∙ sym (s.linked (suc F - L) (omega arith) (omega arith));
              },
            )

        -- a full run that ends at the frame: the run cannot be shorter
        ends : (j : ℕ) → FullAt L (suc F) P' B' j → ¬ (j + L ≤ F) → Dec (run < L) → T (eqb run L)
        ends j f late (yes short) =
            let h : j + L ≤ suc F = f.within in
            let r : run ≤ suc F = s.room in
            absurd (s.stop short (F - run) (omega arith) (f.each (F - run) (omega arith) (omega arith))
            (f.linked (F - run) (omega arith) (omega arith) ∙ sym (f.linked F (omega arith) (omega arith)) ∙ at ∙ sym end))
        ends j f late (no long) = subst (λ (n : ℕ). T (eqb run n)) (let e : run ≡ L = omega (arith, s.small) in e) (eqb_refl run)

        back : (f : Full L (suc F) P' B') → Dec (f.0 + L ≤ F) → (b : Bool) → (Full L F P B → T b) → T (b || eqb run L)
        back f d true g = tt
        back (j, f) (yes early) false g = absurd (g (j, full_back (suc F) j early f))
        back (j, f) (no late) false g = ends j f late (dec_lt run L)
