-- Relays that break the law of Paper 14: ours, with channel 4 looking at channel 3's level, enable bit, code or reset. Each is refuted by a pair of
-- lists, computed, that is alike in channel 4 and not in channel 3. Rests on the definitions alone, and takes a list from Calls.
use Prim.Native.Nat.{ℕ, ◌<◌}
use native.Mathlib.Omega.{arith}
use mathlib.Core.Path.{◌≡◌, refl, sym, ap, ◌∙◌}
use mathlib.Core.Bool.{cond}
use mathlib.Core.List.{List, [], ◌∷◌, ◌++◌, map}
use lib.Dec.{eqb}
use lib.ListN.{get_or, set, replicate}
use Rattle.frames.specs.Bits.{bit_of, bits_below}
use Rattle.relay.specs.declared.Levels.{Levels}
use Rattle.relay.specs.Relay.{fresh_of, frame_of, reset_of, change_of}
use Rattle.relay.proofs.Examples.{settings_of, equal_levels}
use Rattle.history.specs.Calls.{Call, frame, reset, change, Implementation}
use Rattle.history.specs.History.{own_levels}
use Rattle.history.proofs.Computed.{computed}
use Rattle.history.proofs.HistoryCalls.{ones, frames512, quiet}
use Rattle.one_phase.specs.OnePhase.{left, Shown, shown, Pair, one_relay, other_relay, BothAccepted, ShownAlike, OnePhase}
use Rattle.one_phase.proofs.Calls.{wave}

-- ---- ours, given each call with something in the place of channel 4 that stands in the place of channel 3

abbrev given : (Levels → Levels) → (List ℕ → List ℕ) → (ℕ → ℕ) → (ℕ → ℕ) → Implementation
given levels codes enable mask =
    record {
      fresh = λ s. fresh_of (record { levels = levels s.levels; lengths = s.lengths });
      frame = λ r cs e. frame_of r (codes cs) (enable e);
      reset = λ r m. reset_of r (mask m);
      change = λ r new. change_of r (levels new);
    }

-- an entry of a list in the place of another; bit 3 of a byte in the place of bit 4; and nothing moved
abbrev moved : ℕ → ℕ → List ℕ → List ℕ
moved from to list = set list to (get_or list from 0)

abbrev bit_moved : ℕ → ℕ
bit_moved byte = bits_below 8 (λ c. bit_of byte (cond (eqb c 4) 3 c))

abbrev as_it_is : {A : Type 0} → A → A
as_it_is x = x

abbrev other_drop : Implementation
other_drop = given (λ l. record { drop = moved 3 4 l.drop; pickup = l.pickup; restraint = l.restraint }) as_it_is as_it_is as_it_is

abbrev other_pickup : Implementation
other_pickup = given (λ l. record { drop = l.drop; pickup = moved 0 1 l.pickup; restraint = l.restraint }) as_it_is as_it_is as_it_is

abbrev other_restraint : Implementation
other_restraint = given (λ l. record { drop = l.drop; pickup = l.pickup; restraint = moved 0 1 l.restraint }) as_it_is as_it_is as_it_is

abbrev other_enable : Implementation
other_enable = given as_it_is as_it_is bit_moved as_it_is

abbrev other_code : Implementation
other_code = given as_it_is (moved 3 4) as_it_is as_it_is

abbrev other_reset : Implementation
other_reset = given as_it_is as_it_is as_it_is bit_moved

-- ---- pairs of lists that are alike in channel 4 and not in channel 3

-- lists that are alike, on relays with every level 1
abbrev on_ones : (these those : List Call) → left 4 these ≡ left 4 those → Pair 4
on_ones these those same =
    record { one = ones; other = ones; own_alike = refl; lengths_same = refl; these = these; those = those; left_same = same }

-- one list, with m = 400, on two relays
abbrev under_levels : (one other : Levels) → own_levels one 4 ≡ own_levels other 4 → Pair 4
under_levels one other same =
    record { one = settings_of one; other = settings_of other; own_alike = same; lengths_same = refl; these = wave; those = wave; left_same = refl }

abbrev levels : List ℕ → List ℕ → List ℕ → Levels
levels drop pickup restraint = record { drop = drop; pickup = pickup; restraint = restraint }

-- channel 3's drop level is 401, and 1; its pickup level 400, and 401; its restraint on, and off
abbrev by_drop : Pair 4
by_drop =
    under_levels (levels (set (replicate 6 1) 3 401) (replicate 3 401) (replicate 3 0)) (levels (replicate 6 1) (replicate 3 401) (replicate 3 0)) refl

abbrev by_pickup : Pair 4
by_pickup =
    under_levels (levels (replicate 6 1) (set (replicate 3 401) 0 400) (replicate 3 0)) (levels (replicate 6 1) (replicate 3 401) (replicate 3 0)) refl

abbrev by_restraint : Pair 4
by_restraint =
    under_levels (levels (replicate 6 1) (replicate 3 1) (set (replicate 3 0) 0 100)) (levels (replicate 6 1) (replicate 3 1) (replicate 3 0)) refl

-- its drop level raised and lowered by new levels
abbrev changed : ℕ → List Call
changed drop = wave ++ (change (levels (set (replicate 6 1) 3 drop) (replicate 3 401) (replicate 3 0)) ∷ quiet 1)

abbrev by_change : Pair 4
by_change =
    record {
      one = equal_levels 1 401;
      other = equal_levels 1 401;
      own_alike = refl;
      lengths_same = refl;
      these = changed 401;
      those = changed 2;
      left_same = refl;
    }

-- its enable bit off
abbrev by_enable : Pair 4
by_enable = on_ones (quiet 73) (frames512 0x77 73) refl

-- its code 612, in one frame
abbrev by_code : Pair 4
by_code = on_ones (frame (record { list = set (replicate 6 512) 3 612; six = refl }) 127 ∷ []) (quiet 1) refl

-- a reset of it after the first counted frame, which is struck; and a reset of channel 4, which names it too or not
abbrev by_reset : Pair 4
by_reset = on_ones (quiet 73 ++ (reset 0x08 ∷ quiet 1)) (quiet 74) refl

abbrev by_named : Pair 4
by_named = on_ones (quiet 73 ++ (reset 0x18 ∷ quiet 1)) (quiet 73 ++ (reset 0x10 ∷ quiet 1)) refl

-- ---- each relay accepts both lists of its pair, and something that it shows after one frame is not the same

-- something that is shown after frame n
abbrev part_at : (Shown → ℕ) → ℕ → List Shown → ℕ
part_at part n list = get_or (map part list) n 0

-- what is computed: it is `here` in the one list and `there` in the other
record Unlike (d : Implementation) (p : Pair 4) (part : Shown → ℕ) (n here there : ℕ) : Type 0 where
  accepted : BothAccepted d 4 p
  in_one : part_at part n (shown d 4 (one_relay d 4 p) p.these) ≡ here
  in_other : part_at part n (shown d 4 (other_relay d 4 p) p.those) ≡ there

abbrev loss_run_in : Shown → ℕ
loss_run_in s = s.loss_run

abbrev over_run_in : Shown → ℕ
over_run_in s = s.over_run

abbrev amplitude_in : Shown → ℕ
amplitude_in s = s.amplitude

record Facts : Type 0 where
  drop : Unlike other_drop by_drop loss_run_in 72 1 0
  change : Unlike other_drop by_change loss_run_in 73 1 0
  pickup : Unlike other_pickup by_pickup over_run_in 72 1 0
  restraint : Unlike other_restraint by_restraint over_run_in 72 0 1
  enable : Unlike other_enable by_enable loss_run_in 72 1 0
  code : Unlike other_code by_code amplitude_in 0 400 0
  reset : Unlike other_reset by_reset loss_run_in 73 1 2
  named : Unlike other_reset by_named loss_run_in 73 1 2

facts : Facts
unfolding computed
facts =
    record {
      drop = record { accepted = (refl, refl); in_one = refl; in_other = refl };
      change = record { accepted = (refl, refl); in_one = refl; in_other = refl };
      pickup = record { accepted = (refl, refl); in_one = refl; in_other = refl };
      restraint = record { accepted = (refl, refl); in_one = refl; in_other = refl };
      enable = record { accepted = (refl, refl); in_one = refl; in_other = refl };
      code = record { accepted = (refl, refl); in_one = refl; in_other = refl };
      reset = record { accepted = (refl, refl); in_one = refl; in_other = refl };
      named = record { accepted = (refl, refl); in_one = refl; in_other = refl };
    }

-- ---- so none of them has the law

-- each relay with the pair that it breaks
pub record Breaks (d : Implementation) (c : ℕ) (p : Pair c) : Type 0 where
  pub accepted : BothAccepted d c p
  pub not_alike : ¬ ShownAlike d c p

breaks : {d : Implementation} {p : Pair 4} {part : Shown → ℕ} {n here there : ℕ} → Unlike d p part n here there → ¬ (here ≡ there) → Breaks d 4 p
breaks {part = part} {n = n} t differ =
    record { accepted = t.accepted; not_alike = λ alike. differ (sym t.in_one ∙ ap (part_at part n) alike ∙ t.in_other) }

pub refuted : {d : Implementation} {c : ℕ} {p : Pair c} → c < 6 → Breaks d c p → ¬ OnePhase d
refuted {c = c} {p = p} h b law = b.not_alike (law c h p b.accepted)

pub record WrongOnes : Type 0 where
  pub drop_of_3 : Breaks other_drop 4 by_drop
  pub drop_of_3_changed : Breaks other_drop 4 by_change
  pub pickup_of_3 : Breaks other_pickup 4 by_pickup
  pub restraint_of_3 : Breaks other_restraint 4 by_restraint
  pub enable_of_3 : Breaks other_enable 4 by_enable
  pub code_of_3 : Breaks other_code 4 by_code
  pub reset_of_3 : Breaks other_reset 4 by_reset
  pub reset_of_3_named : Breaks other_reset 4 by_named

pub wrong_ones : WrongOnes
wrong_ones =
    record {
      drop_of_3 = breaks facts.drop (λ e. absurd (omega arith));
      drop_of_3_changed = breaks facts.change (λ e. absurd (omega arith));
      pickup_of_3 = breaks facts.pickup (λ e. absurd (omega arith));
      restraint_of_3 = breaks facts.restraint (λ e. absurd (omega arith));
      enable_of_3 = breaks facts.enable (λ e. absurd (omega arith));
      code_of_3 = breaks facts.code (λ e. absurd (omega arith));
      reset_of_3 = breaks facts.reset (λ e. absurd (omega arith));
      reset_of_3_named = breaks facts.named (λ e. absurd (omega arith));
    }

pub record NoLaw : Type 0 where
  pub drop_of_3 : ¬ OnePhase other_drop
  pub pickup_of_3 : ¬ OnePhase other_pickup
  pub restraint_of_3 : ¬ OnePhase other_restraint
  pub enable_of_3 : ¬ OnePhase other_enable
  pub code_of_3 : ¬ OnePhase other_code
  pub reset_of_3 : ¬ OnePhase other_reset

pub no_law : NoLaw
no_law =
    record {
      drop_of_3 = refuted (omega arith) wrong_ones.drop_of_3;
      pickup_of_3 = refuted (omega arith) wrong_ones.pickup_of_3;
      restraint_of_3 = refuted (omega arith) wrong_ones.restraint_of_3;
      enable_of_3 = refuted (omega arith) wrong_ones.enable_of_3;
      code_of_3 = refuted (omega arith) wrong_ones.code_of_3;
      reset_of_3 = refuted (omega arith) wrong_ones.reset_of_3;
    }
