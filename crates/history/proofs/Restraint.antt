-- No relay that restrains wrongly (document 02, Paper 8) meets demand 3: what meets it answers as ours does (Unique), and on one list of calls or
-- another a wrong relay does not. The lists are cycles of eight codes, the same on each channel, so that every window from frame 7 on is the cycle
-- itself; what ours does on them is computed here. Rests on Unique.
use Prim.Native.Nat.{ℕ, zero, suc, ◌+◌, ◌%◌, ◌≤◌, ◌<◌}
use native.Mathlib.Omega.{arith}
use mathlib.Core.Path.{◌≡◌, refl, sym, ◌∙◌, subst}
use mathlib.Core.Bool.{Bool, true, false, ◌&&◌, ◌||◌, not, false≢true}
use mathlib.Core.List.{List, [], ◌∷◌, ◌++◌}
use lib.IntN.{ℤ}
use lib.Dec.{T, eqb}
use lib.ListN.{get_or, set, replicate}
use borrow.Author.Tests.{eqb-true, ne_eqb, not-true}
use Rattle.lists.specs.Each.{every}
use Rattle.lists.proofs.Each.{every_at, and_left, and_right}
use Rattle.relay.specs.declared.Settings.{Settings}
use Rattle.history.specs.Calls.{Call, frame, accepted_frames, Implementation, the_relay}
use Rattle.history.specs.History.{Event, channel_history, frames, resets, resets_before, window_at, LatchOn}
use Rattle.relay.proofs.Examples.{settings_of}
use Rattle.history.specs.Demand.{over_of, made_with, loss_after, over_after, AcceptedSettings, Demanded}
use Rattle.history.specs.WrongRelays.{no_change, BenchLengths, run_of_windows, TripsBy, over_pickup, over_by, over_at_most, over_by_third, KeepsRun, loss_tested, RestrainsLoss}
use Rattle.history.proofs.Computed.{computed}
use Rattle.history.proofs.FullRuns.{run_in, each_holds, full_run, full_meeting}
use Rattle.history.proofs.HistoryCalls.{still, restrained, at_bench}
use Rattle.history.proofs.Relay.{frames_same}
use Rattle.history.proofs.Tests.{holds}
use Rattle.history.proofs.Unique.{same_relay}

-- ---- cycles of codes

-- n frames of a cycle of eight codes, all enabled
abbrev pub cycle : List ℕ → ℕ → List Call
cycle codes zero = []
cycle codes (suc n) = cycle codes n ++ (frame (still (get_or codes (n % 8) 512)) 127 ∷ [])

-- 100 in slot 0: m1, m2 and m3 are all 400
abbrev struck : List Call
struck = cycle (612 ∷ replicate 7 512) 76

-- the wave 100, 71, 0, −71, −100, −71, 0, 71 with 100, 0, −100, 0, 100, 0, −100, 0 on it: m1 = 1603, m2 = 1600, m3 = 3
abbrev inrush : List Call
inrush = cycle (712 ∷ 583 ∷ 412 ∷ 441 ∷ 512 ∷ 441 ∷ 412 ∷ 583 ∷ []) 76

-- the wave alone, m1 = 1603 and m2 = 0; then a frame with m1 = 2105 and m2 = 640, and one with 2457 and 734: of r = 30 the first is restrained, and
-- the second is not
abbrev pub broken : List Call
broken =
    cycle (612 ∷ 583 ∷ 512 ∷ 441 ∷ 412 ∷ 441 ∷ 512 ∷ 583 ∷ []) 75 ++ (frame (still 281) 127 ∷ frame (still 322) 127 ∷ [])

-- ---- the refutations

-- What is computed of one test, for current k: the last four of 76 frames are a full run after the last reset, the wrong test holds in each, and our
-- latch is off.
abbrev runs : (Settings → List ℤ → Bool) → Settings → List Call → ℕ → Bool
runs test s calls c =
    let es : List Event = channel_history c calls in
    run_in (run_of_windows 4 (test s)) (made_with s c) es 4 72 && eqb (resets_before es 72) (resets es)

abbrev met : (Settings → List ℤ → Bool) → Settings → List Call → ℕ → Bool
met test s calls c = every 4 (λ k. test s (window_at (channel_history c calls) (72 + k)))

abbrev shown : (Settings → List ℤ → Bool) → Settings → List Call → ℕ → Bool
shown test s calls c = (runs test s calls c && met test s calls c) && not (over_after the_relay s calls c)

module _ (d : Implementation) (meets : Demanded d) where
  pub over_same : (s : Settings) → AcceptedSettings s → (calls : List Call) (c : ℕ) → c < 6 → over_after the_relay s calls c ≡ false
      → ¬ T (over_after d s calls c)
  over_same s ok calls c h off t = subst T ((same_relay d meets s ok calls).over_latch c h ∙ off) t

  trips : (test : Settings → List ℤ → Bool) (s : Settings) → BenchLengths s → (calls : List Call) → no_change calls ≡ true → (c : ℕ) → c < 6
      → shown test s calls c ≡ true → ¬ TripsBy d c test
  trips test s ok calls none c h e wrong =
      over_same s ok.accepted calls c h (not-true _ (and_right (run && each) (not (over_after the_relay s calls c)) e))
      (wrong s ok calls none (
        72,
        full_meeting (run_of_windows 4 (test s)) (made_with s c) es 72 (and_left _ (eqb (resets_before es 72) (resets es)) (and_left run each both))
            (and_right run each both) (and_right (run_in (run_of_windows 4 (test s)) (made_with s c) es 4 72) _ (and_left run each both)),
      ))
    where
      es : List Event
      es = channel_history c calls

      run : Bool
      run = runs test s calls c

      each : Bool
      each = met test s calls c

      both : run && each ≡ true
      both = and_left (run && each) (not (over_after the_relay s calls c)) e

-- ---- what is computed

abbrev fifteen : Settings
fifteen = restrained (replicate 3 15)

abbrev hundred : Settings
hundred = restrained (replicate 3 100)

abbrev pub thirty : Settings
thirty = restrained (replicate 3 30)

abbrev fifty : Settings
fifty = restrained (replicate 3 50)

-- restraint is off in current l alone
abbrev but_for : ℕ → Settings
but_for l = restrained (set (replicate 3 15) l 0)

-- drops of 401, which struck windows are below
abbrev dropping : Settings
dropping = settings_of (record { drop = replicate 6 401; pickup = replicate 3 1; restraint = replicate 3 15 })

abbrev long : List Call
long = cycle (612 ∷ replicate 7 512) 88

-- the same for the wrong relay of `KeepsRun`: 77 frames, of which the last five are as it says, and our latch is off
abbrev whole : Settings → List Event → ℕ → Bool
whole s es k = run_in (over_of s.lengths) (made_with s (k + 3)) es 5 72 && eqb (resets_before es 72) (resets es)

abbrev kept : Settings → List Call → ℕ → Bool
kept s calls k =
    let es : List Event = channel_history (k + 3) calls in
    let fed : ℕ → Bool = λ n. over_by k k s (window_at es n) in
    ((whole s es k && every 3 (λ i. fed (72 + i))) && ((over_pickup k s (window_at es 75) && not (fed 75)) && fed 76))
    && not (over_after the_relay s calls (k + 3))

-- and for that of `RestrainsLoss`: our loss latch is on after 88 frames, though frame 72 does not meet the wrong test
abbrev lost : ℕ → Bool
lost k = loss_after the_relay dropping long (k + 3) && not ((loss_tested dropping k).meets (made_with dropping (k + 3)) (window_at (channel_history (k + 3) long) 72))

record Computed : Type 0 where
  frames_broken : accepted_frames broken ≡ 77
  frames_long : accepted_frames long ≡ 88
  no_changes : (no_change struck ≡ true) × (no_change inrush ≡ true) × (no_change broken ≡ true) × (no_change long ≡ true)
  ignored : every 3 (λ k. shown (over_pickup k) fifteen struck (k + 3)) ≡ true
  at_most : every 3 (λ k. shown (over_at_most k) hundred struck (k + 3)) ≡ true
  third : every 3 (λ k. shown (over_by_third k) fifty inrush (k + 3)) ≡ true
  another : every 3 (λ l. every 3 (λ k. eqb l k || shown (over_by l k) (but_for l) struck (k + 3))) ≡ true
  keeping : every 3 (kept thirty broken) ≡ true
  losing : every 3 lost ≡ true

facts : Computed
unfolding computed
facts =
    record {
      frames_broken = refl;
      frames_long = refl;
      no_changes = (refl, refl, refl, refl);
      ignored = refl;
      at_most = refl;
      third = refl;
      another = refl;
      keeping = refl;
      losing = refl;
    }

-- ---- the six kinds

pub record Accepted : Type 0 where
  fifteens : BenchLengths fifteen
  pub thirties : BenchLengths thirty
  fifties : BenchLengths fifty
  hundreds : BenchLengths hundred
  drops : BenchLengths dropping
  first_off : BenchLengths (but_for 0)
  second_off : BenchLengths (but_for 1)
  third_off : BenchLengths (but_for 2)

pub accepted : Accepted
unfolding computed
accepted =
    record {
      fifteens = at_bench fifteen.levels refl refl refl;
      thirties = at_bench thirty.levels refl refl refl;
      fifties = at_bench fifty.levels refl refl refl;
      hundreds = at_bench hundred.levels refl refl refl;
      drops = at_bench dropping.levels refl refl refl;
      first_off = at_bench (but_for 0).levels refl refl refl;
      second_off = at_bench (but_for 1).levels refl refl refl;
      third_off = at_bench (but_for 2).levels refl refl refl;
    }

accepted_but : (l : ℕ) → l < 3 → BenchLengths (but_for l)
accepted_but zero h = accepted.first_off
accepted_but (suc zero) h = accepted.second_off
accepted_but (suc (suc zero)) h = accepted.third_off
accepted_but (suc (suc (suc l))) h = absurd (omega arith)

-- one of two tests holds, and it is not the first
other : (a b : Bool) → a || b ≡ true → a ≡ false → b ≡ true
other true b e f = absurd (false≢true (sym f))
other false b e f = e

fails : (b : Bool) → not b ≡ true → ¬ T b
fails true e t = false≢true e
fails false e t = t

module _ (d : Implementation) (meets : Demanded d) (k : ℕ) (h : k < 3) where
  pub ignores_restraint_lem : ¬ TripsBy d (k + 3) (over_pickup k)
  ignores_restraint_lem =
      trips d meets (over_pickup k) fifteen accepted.fifteens struck facts.no_changes.0 (k + 3) (omega arith)
      (every_at 3 (λ k. shown (over_pickup k) fifteen struck (k + 3)) facts.ignored k h)

  pub not_strict_lem : ¬ TripsBy d (k + 3) (over_at_most k)
  not_strict_lem =
      trips d meets (over_at_most k) hundred accepted.hundreds struck facts.no_changes.0 (k + 3) (omega arith)
      (every_at 3 (λ k. shown (over_at_most k) hundred struck (k + 3)) facts.at_most k h)

  pub third_harmonic_lem : ¬ TripsBy d (k + 3) (over_by_third k)
  third_harmonic_lem =
      trips d meets (over_by_third k) fifty accepted.fifties inrush facts.no_changes.1 (k + 3) (omega arith)
      (every_at 3 (λ k. shown (over_by_third k) fifty inrush (k + 3)) facts.third k h)

  pub anothers_restraint_lem : (l : ℕ) → l < 3 → ¬ (l ≡ k) → ¬ TripsBy d (k + 3) (over_by l k)
  anothers_restraint_lem l m ne =
      trips d meets (over_by l k) (but_for l) (accepted_but l m) struck facts.no_changes.0 (k + 3) (omega arith)
      (other (eqb l k) _ (every_at 3 (λ k. eqb l k || shown (over_by l k) (but_for l) struck (k + 3))
      (every_at 3 (λ l. every 3 (λ k. eqb l k || shown (over_by l k) (but_for l) struck (k + 3))) facts.another l m) k h) (ne_eqb l k ne))

  pub keeps_run_lem : ¬ KeepsRun d k
  keeps_run_lem wrong =
      over_same d meets thirty accepted.thirties.accepted broken (k + 3) (omega arith) (not-true _ (and_right body _ e))
      (wrong thirty accepted.thirties broken facts.no_changes.2 72 (sym all)
      (full_run (over_of thirty.lengths) (made_with thirty (k + 3)) es 5 72 (and_left _ (eqb (resets_before es 72) (resets es)) (and_left (whole thirty es k) three front)))
      (eqb-true (resets_before es 72) (resets es)
      (and_right (run_in (over_of thirty.lengths) (made_with thirty (k + 3)) es 5 72) _ (and_left (whole thirty es k) three front)))
      (each_holds fed 72 3 (and_right (whole thirty es k) three front)) (holds over (and_left over (not (fed 75)) middle))
      (fails (fed 75) (and_right over (not (fed 75)) middle)) (holds (fed 76) (and_right (over && not (fed 75)) (fed 76) back)))
    where
      es : List Event
      es = channel_history (k + 3) broken

      fed : ℕ → Bool
      fed n = over_by k k thirty (window_at es n)

      three : Bool
      three = every 3 (λ i. fed (72 + i))

      over : Bool
      over = over_pickup k thirty (window_at es 75)

      body : Bool
      body = (whole thirty es k && three) && ((over && not (fed 75)) && fed 76)

      e : body && not (over_after the_relay thirty broken (k + 3)) ≡ true
      e = every_at 3 (kept thirty broken) facts.keeping k h

      so : body ≡ true
      so = and_left body _ e

      front : whole thirty es k && three ≡ true
      front = and_left (whole thirty es k && three) _ so

      back : (over && not (fed 75)) && fed 76 ≡ true
      back = and_right (whole thirty es k && three) _ so

      middle : over && not (fed 75) ≡ true
      middle = and_left _ (fed 76) back

      all : frames es ≡ 77
      all = frames_same (k + 3) broken ∙ facts.frames_broken

  pub restrains_loss_lem : ¬ RestrainsLoss d k
  restrains_loss_lem wrong = no (wrong dropping accepted.drops long facts.no_changes.3 (holds _ on))
    where
      es : List Event
      es = channel_history (k + 3) long

      tested : List ℤ → Bool
      tested w = (loss_tested dropping k).meets (made_with dropping (k + 3)) w

      e : loss_after the_relay dropping long (k + 3) && not (tested (window_at es 72)) ≡ true
      e = every_at 3 lost facts.losing k h

      on : loss_after d dropping long (k + 3) ≡ true
      on = (same_relay d meets dropping accepted.drops.accepted long).loss_latch (k + 3) (omega arith) ∙ and_left _ _ e

      -- a full run of 16 in 88 frames begins in frame 72
      no : ¬ LatchOn (loss_tested dropping k) (made_with dropping (k + 3)) es
      no (j, m) =
          fails (tested (window_at es 72))
          (and_right (loss_after the_relay dropping long (k + 3)) (not (tested (window_at es 72))) e)
          (m.meets 72 (omega (arith, last)) (omega (arith, first)))
        where
          first : 72 ≤ j
          first = (m.run.each j (omega arith) (omega arith)).counted.late

          last : j + 16 ≤ 88
          last = subst (λ (n : ℕ). j + 16 ≤ n) (frames_same (k + 3) long ∙ facts.frames_long) m.run.within
