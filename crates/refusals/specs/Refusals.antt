-- Document 01, "Refusals": the thirteen rows of its table, those of document 02 that have landed, and how a list of
-- checks gives one of their numbers. Rests on nothing.
use Rattle.std.specs.Prelude.{ℕ, Bool, cond, List, [], ◌∷◌}
use Rattle.refusals.specs.declared.Refusal.{Refusal}
use Rattle.refusals.specs.declared.Refusal.TheVariants.{BadSetting, UnsoundRelay, BadCode, BadEnable, BadMask}
use Rattle.refusals.specs.declared.Refusal.TheVariants.{MarkDiffers, BadSecondByte, EndsEarly, OutOfRange, BytesAfter}
use Rattle.refusals.specs.declared.Refusal.TheVariants.{DoesNotFit, WrongShape, FewFrames, BadEstimate, BadRestraint}
use Rattle.refusals.specs.declared.Refusal.TheVariants.{BadLength, AllEven}

-- The rows of the table; 0 is an accepted call.
abbrev pub accepted : ℕ  -- "An accepted call's number is 0."
accepted = 0

abbrev pub bad_setting : ℕ  -- "a setting outside 1 to 10,700"
bad_setting = 1

abbrev pub unsound_relay : ℕ  -- "relay not sound"
unsound_relay = 2

abbrev pub bad_code : ℕ  -- "a code above 1023"
bad_code = 3

abbrev pub bad_enable : ℕ  -- "enable bit 7 is 1"
bad_enable = 4

abbrev pub bad_mask : ℕ  -- "reset mask bit 6 or 7 is 1"
bad_mask = 5

abbrev pub mark_differs : ℕ  -- "a mark byte differs"
mark_differs = 6

abbrev pub bad_second_byte : ℕ  -- "second byte is 0 or has its top bit set"
bad_second_byte = 7

abbrev pub ends_early : ℕ  -- "capture ends early"
ends_early = 8

abbrev pub out_of_range : ℕ  -- "frame count, code or enable byte out of range"
out_of_range = 9

abbrev pub bytes_after : ℕ  -- "bytes after the last frame"
bytes_after = 10

abbrev pub does_not_fit : ℕ  -- "answer does not fit"
does_not_fit = 11

abbrev pub wrong_shape : ℕ  -- "cells no multiple of seven, or channel above 5"
wrong_shape = 12

abbrev pub few_frames : ℕ  -- "fewer than eight frames"
few_frames = 13

-- Document 02, Paper 8.
abbrev pub bad_estimate : ℕ  -- "19 for an order outside 1 to 3 or a window sample outside −512 to 511"
bad_estimate = 19

abbrev pub bad_restraint : ℕ  -- "20 for r above 100"
bad_restraint = 20

-- Document 02, Paper 9.
abbrev pub bad_length : ℕ  -- "21, and not 1, for a length outside 1 to 24"
bad_length = 21

-- Document 02, Paper 12.
abbrev pub all_even : ℕ  -- "24 if all 55 are even"
all_even = 24

-- The number of a refusal.
abbrev pub number_of : Refusal → ℕ
number_of BadSetting = bad_setting
number_of UnsoundRelay = unsound_relay
number_of BadCode = bad_code
number_of BadEnable = bad_enable
number_of BadMask = bad_mask
number_of MarkDiffers = mark_differs
number_of BadSecondByte = bad_second_byte
number_of EndsEarly = ends_early
number_of OutOfRange = out_of_range
number_of BytesAfter = bytes_after
number_of DoesNotFit = does_not_fit
number_of WrongShape = wrong_shape
number_of FewFrames = few_frames
number_of BadEstimate = bad_estimate
number_of BadRestraint = bad_restraint
number_of BadLength = bad_length
number_of AllEven = all_even

-- A check: what must hold, and the number of the refusal where it does not.
infix 20 ◌or_else◌
pub data Check : Type 0 where
  ◌or_else◌ : Bool → ℕ → Check

-- The number of the first check that fails, in the order of the list; 0 where none does.
abbrev pub first_fault : List Check → ℕ
first_fault [] = accepted
first_fault ((holds or_else refusal) ∷ checks) = cond holds (first_fault checks) refusal
