-- Full runs from tests that antt computes, on lists in which the channel and the device are enabled throughout, so that a frame is counted from 72
-- on: what the computed calls and the wrong relays are shown by. Rests on the definitions of the history, and on Settling.
use Prim.Native.Nat.{ℕ, ◌+◌, ◌-◌, ◌≤◌, ◌<◌}
use native.Mathlib.Omega.{arith}
use mathlib.Core.Path.{◌≡◌, subst}
use mathlib.Core.Bool.{Bool, true, ◌&&◌}
use mathlib.Core.List.{List}
use lib.Dec.{T, eqb, leb}
use borrow.Author.Tests.{eqb-true, leb-true}
use mir.Facts.{and_yes}
use Rattle.lists.specs.Each.{every}
use Rattle.lists.proofs.Each.{every_at, and_left, and_right}
use Rattle.relay.specs.declared.ChannelLevels.{ChannelLevels}
use Rattle.relay.specs.Settings.{Kind}
use Rattle.history.specs.History.{Event, frames, input_at, resets, resets_before, levels_at, changes_before, window_at}
use Rattle.history.specs.History.{InEach, FullRun, FullRunMeeting}
use Rattle.history.proofs.Clock.{bit6_in}
use Rattle.history.proofs.Settling.{always_on}
use Rattle.history.proofs.Tests.{holds}

abbrev pub on_in : List Event → ℕ → Bool
on_in es n = (input_at es n).channel_bit && (input_at es n).bit6

abbrev pub linked_in : Kind → ChannelLevels → List Event → ℕ → ℕ → Bool
linked_in kind made es j n =
    eqb (resets_before es n) (resets_before es j) && eqb (changes_before kind made es n) (changes_before kind made es j)

abbrev pub run_in : Kind → ChannelLevels → List Event → ℕ → ℕ → Bool
run_in kind made es len j =
    (leb 72 j && leb (j + len) (frames es)) && (every (frames es) (on_in es) && every len (λ k. linked_in kind made es j (j + k)))

-- what holds at j + k for each k below len, by itself and as a test
pub in_each_lem : (P : ℕ → Type 0) (j len : ℕ) → ((k : ℕ) → k < len → P (j + k)) → InEach j len P
in_each_lem P j len p n a b = subst P (let q : j + (n - j) ≡ n = omega arith in q) (p (n - j) (omega arith))

pub each_holds : (p : ℕ → Bool) (j len : ℕ) → every len (λ k. p (j + k)) ≡ true → InEach j len (λ n. T (p n))
each_holds p j len e = in_each_lem (λ n. T (p n)) j len (λ k l. holds (p (j + k)) (every_at len (λ k. p (j + k)) e k l))

pub full_run : (kind : Kind) (made : ChannelLevels) (es : List Event) (len j : ℕ) → run_in kind made es len j ≡ true → FullRun kind made es len j
full_run kind made es len j e =
    record {
      within = within;
      each = λ n a b. record {
        counted = always_on (bit6_in es) n (omega (arith, late))
            (λ k l. (and_yes (input_at es k).channel_bit (input_at es k).bit6 (on k (omega (arith, within)))).1);
        enabled = on n (omega (arith, within));
        not_separated = eqb-true (resets_before es n) (resets_before es j) (and_left (same_resets n) (same_changes n) (linked n a b));
        not_changed = eqb-true (changes_before kind made es n) (changes_before kind made es j)
            (and_right (same_resets n) (same_changes n) (linked n a b));
      };
    }
  where
    same_resets : ℕ → Bool
    same_resets n = eqb (resets_before es n) (resets_before es j)

    same_changes : ℕ → Bool
    same_changes n = eqb (changes_before kind made es n) (changes_before kind made es j)

    front : leb 72 j && leb (j + len) (frames es) ≡ true
    front = and_left (leb 72 j && leb (j + len) (frames es)) _ e

    back : every (frames es) (on_in es) && every len (λ k. linked_in kind made es j (j + k)) ≡ true
    back = and_right (leb 72 j && leb (j + len) (frames es)) _ e

    late : 72 ≤ j
    late = leb-true 72 j (and_left (leb 72 j) (leb (j + len) (frames es)) front)

    within : j + len ≤ frames es
    within = leb-true (j + len) (frames es) (and_right (leb 72 j) (leb (j + len) (frames es)) front)

    on : (n : ℕ) → n < frames es → T (on_in es n)
    on n l = holds (on_in es n) (every_at (frames es) (on_in es) (and_left (every (frames es) (on_in es)) _ back) n l)

    linked : (n : ℕ) → j ≤ n → n < j + len → linked_in kind made es j n ≡ true
    linked =
        in_each_lem (λ n. linked_in kind made es j n ≡ true) j len
        (every_at len (λ k. linked_in kind made es j (j + k)) (and_right (every (frames es) (on_in es)) _ back))

-- a full run, and its windows meet the levels that it ran under
abbrev pub meets_in : Kind → ChannelLevels → List Event → ℕ → Bool
meets_in kind made es n = kind.meets (levels_at made es n) (window_at es n)

pub full_meeting : (kind : Kind) (made : ChannelLevels) (es : List Event) (j : ℕ) → run_in kind made es kind.len j ≡ true
    → every kind.len (λ k. meets_in kind made es (j + k)) ≡ true → eqb (resets_before es j) (resets es) ≡ true
    → FullRunMeeting kind made es j
full_meeting kind made es j e m r =
    record {
      run = full_run kind made es kind.len j e;
      meets = each_holds (meets_in kind made es) j kind.len m;
      after_last_reset = eqb-true (resets_before es j) (resets es) r;
    }
