-- The numbers of the table, the first of several faults, and outcomes, computed. Rests on the definitions alone.
use mathlib.Core.Path.{◌≡◌, refl}
use mathlib.Core.Bool.{true, false}
use Prim.Native.Nat.{ℕ}
use mathlib.Core.List.{List, [], ◌∷◌, map}
use Rattle.refusals.specs.Refusals as refusals
use Rattle.refusals.specs.Refusals.{◌or_else◌, first_fault, number_of}
use Rattle.refusals.specs.Outcomes.{outcome_of, refusal_in, count_in, answer_of}
use Rattle.std.specs.Prelude.{Ok, Err}
use Rattle.refusals.specs.declared.Refusal.TheVariants.{BadSetting, UnsoundRelay, BadCode, BadEnable, BadMask}
use Rattle.refusals.specs.declared.Refusal.TheVariants.{MarkDiffers, BadSecondByte, EndsEarly, OutOfRange, BytesAfter}
use Rattle.refusals.specs.declared.Refusal.TheVariants.{DoesNotFit, WrongShape, FewFrames, BadEstimate, BadRestraint}
use Rattle.refusals.specs.declared.Refusal.TheVariants.{BadLength, AllEven}

-- Document 01's table, row by row, and document 02's numbers.
pub record Rows : Type 0 where
  pub accepted : refusals.accepted ≡ 0
  pub settings : refusals.bad_setting ≡ 1
  pub relay : refusals.unsound_relay ≡ 2
  pub frame : (refusals.bad_code ≡ 3) × (refusals.bad_enable ≡ 4)
  pub reset : refusals.bad_mask ≡ 5
  pub capture : (refusals.mark_differs ≡ 6) × (refusals.bad_second_byte ≡ 7) × (refusals.ends_early ≡ 8)
  pub range : refusals.out_of_range ≡ 9
  pub after : refusals.bytes_after ≡ 10
  pub room : refusals.does_not_fit ≡ 11
  pub shape : refusals.wrong_shape ≡ 12
  pub few : refusals.few_frames ≡ 13
  -- Paper 8
  pub estimate : refusals.bad_estimate ≡ 19
  pub restraint : refusals.bad_restraint ≡ 20
  -- Paper 9
  pub length : refusals.bad_length ≡ 21
  -- Paper 12
  pub even : refusals.all_even ≡ 24

pub rows : Rows
rows =
    record {
      accepted = refl;
      settings = refl;
      relay = refl;
      frame = (refl, refl);
      reset = refl;
      capture = (refl, refl, refl);
      range = refl;
      after = refl;
      room = refl;
      shape = refl;
      few = refl;
      estimate = refl;
      restraint = refl;
      length = refl;
      even = refl;
    }

-- The number of each refusal, in the table's order and in document 02's.
pub record Numbers : Type 0 where
  pub settings : number_of BadSetting ≡ 1
  pub relay : number_of UnsoundRelay ≡ 2
  pub frame : (number_of BadCode ≡ 3) × (number_of BadEnable ≡ 4)
  pub reset : number_of BadMask ≡ 5
  pub capture : (number_of MarkDiffers ≡ 6) × (number_of BadSecondByte ≡ 7) × (number_of EndsEarly ≡ 8)
  pub range : number_of OutOfRange ≡ 9
  pub after : number_of BytesAfter ≡ 10
  pub room : number_of DoesNotFit ≡ 11
  pub shape : number_of WrongShape ≡ 12
  pub few : number_of FewFrames ≡ 13
  pub estimate : number_of BadEstimate ≡ 19
  pub restraint : number_of BadRestraint ≡ 20
  pub length : number_of BadLength ≡ 21
  pub even : number_of AllEven ≡ 24

pub numbers : Numbers
numbers =
    record {
      settings = refl;
      relay = refl;
      frame = (refl, refl);
      reset = refl;
      capture = (refl, refl, refl);
      range = refl;
      after = refl;
      room = refl;
      shape = refl;
      few = refl;
      estimate = refl;
      restraint = refl;
      length = refl;
      even = refl;
    }

-- What an accepted and a refused call answer, and what C is answered.
pub record Answers : Type 0 where
  pub taken : (refusal_in {A = ℕ} (Ok 5) ≡ 0) × (count_in (Ok 5) ≡ 5)
  pub refused : (refusal_in {A = ℕ} (Err AllEven) ≡ 24) × (count_in (Err AllEven) ≡ 0)
  pub taken_at_c : answer_of (Ok 5) ≡ record { refusal = 0; count = 5 }
  pub refused_at_c : answer_of (Err DoesNotFit) ≡ record { refusal = 11; count = 0 }

pub answers : Answers
answers =
    record {
      taken = (refl, refl);
      refused = (refl, refl);
      taken_at_c = refl;
      refused_at_c = refl;
    }

-- the numbers of the refusals
abbrev all : List ℕ
all = 1 ∷ 2 ∷ 3 ∷ 4 ∷ 5 ∷ 6 ∷ 7 ∷ 8 ∷ 9 ∷ 10 ∷ 11 ∷ 12 ∷ 13 ∷ 19 ∷ 20 ∷ 21 ∷ 24 ∷ []

-- "first check that fails": none, one, each order of two, the last of three, and each number alone; an outcome accepted and refused, with room to
-- spare.
pub record FirstFaults : Type 0 where
  pub none : (first_fault [] ≡ 0) × (first_fault ((true or_else 7) ∷ (true or_else 3) ∷ []) ≡ 0)
  pub first : first_fault ((false or_else 7) ∷ (true or_else 3) ∷ []) ≡ 7
  pub second : first_fault ((true or_else 7) ∷ (false or_else 3) ∷ []) ≡ 3
  pub both : (first_fault ((false or_else 7) ∷ (false or_else 3) ∷ []) ≡ 7) × (first_fault ((false or_else 3) ∷ (false or_else 7) ∷ []) ≡ 3)
  pub third : first_fault ((true or_else 2) ∷ (true or_else 3) ∷ (false or_else 4) ∷ []) ≡ 4
  pub each : map (λ k. first_fault ((true or_else 1) ∷ (false or_else k) ∷ [])) all ≡ all
  pub taken : outcome_of 0 5 (10 ∷ 20 ∷ []) (1 ∷ 2 ∷ 3 ∷ []) ≡ record { refusal = 0; count = 5; buffer = 10 ∷ 20 ∷ 3 ∷ [] }
  pub refused : outcome_of 11 5 (10 ∷ 20 ∷ []) (1 ∷ 2 ∷ 3 ∷ []) ≡ record { refusal = 11; count = 0; buffer = 1 ∷ 2 ∷ 3 ∷ [] }
  pub each_refused_lem : map (λ k. outcome_of k 5 (10 ∷ 20 ∷ []) (1 ∷ 2 ∷ 3 ∷ [])) all
      ≡ map (λ k. record { refusal = k; count = 0; buffer = 1 ∷ 2 ∷ 3 ∷ [] }) all

pub first_faults : FirstFaults
first_faults =
    record {
      none = (refl, refl);
      first = refl;
      second = refl;
      both = (refl, refl);
      third = refl;
      each = refl;
      taken = refl;
      refused = refl;
      each_refused_lem = refl;
    }
