-- The rule for counted frames, the age and the memory (document 02, Paper 5) on closed lists, computed: from the history's side, each limit and the
-- frame beside it; and what our relay then has. Rests on the definitions of the rule; that a frame is counted is computed by its age (Settling).
use Prim.Native.Nat.{ℕ, zero, suc}
use native.Mathlib.Omega.{arith}
use mathlib.Core.Path.{◌≡◌, refl}
use mathlib.Core.Bool.{Bool, true, false, ◌&&◌, not}
use mathlib.Core.List.{List, [], ◌∷◌, ◌++◌}
use lib.Dec.{eqb}
use lib.ListN.{get_or}
use Rattle.lists.specs.Each.{table}
use Rattle.history.specs.Calls.{Call, frame, reset, accepted_frames, device_bits, device_bit, the_relay}
use Rattle.history.specs.History.{channel_history, Counted}
use Rattle.history.specs.Settling.{rise_in, CountedIn, latest_bit, since_rise}
use Rattle.history.specs.Demand.{relay_after}
use Rattle.history.proofs.Computed.{computed}
use Rattle.history.proofs.HistoryCalls.{ones, still, frames512}
use Rattle.history.proofs.Clock.{bit6_in}
use Rattle.history.proofs.Settling.{found_counted, settling}

-- one frame with bit 6 off, and n with it on
abbrev rising_at1 : ℕ → List Call
rising_at1 n = frames512 0x3F 1 ++ frames512 0x7F n

-- bit 6 of six frames; of frames in which it is off in frame k alone, and in frames k and l
abbrev six_bits : ℕ → Bool
six_bits n = get_or (false ∷ true ∷ true ∷ false ∷ false ∷ true ∷ []) n false

abbrev off_in : ℕ → ℕ → Bool
off_in k n = not (eqb n k)

abbrev off_in_both : ℕ → ℕ → ℕ → Bool
off_in_both k l n = off_in k n && off_in l n

-- a frame with bit 6 on, and off; a frame refused by 3, and by 4, each with the other bit 6 than the frame before it
abbrev on : Call
on = frame (still 512) 0x7F

abbrev off : Call
off = frame (still 512) 0x3F

abbrev bad_on : Call
bad_on = frame (still 1024) 0x7F

abbrev bad_off : Call
bad_off = frame (still 512) 0x80

-- frame 0 off; refused; frame 1 on, a rise; refused; frame 2 on; frame 3 off; a reset; refused; frame 4 on, a rise; a refused reset
abbrev switched : List Call
switched = off ∷ bad_on ∷ on ∷ bad_off ∷ on ∷ off ∷ reset 63 ∷ bad_on ∷ on ∷ reset 64 ∷ []

-- the first n of them
abbrev pub first_of : ℕ → List Call → List Call
first_of zero calls = []
first_of (suc n) [] = []
first_of (suc n) (call ∷ calls) = call ∷ first_of n calls

pub record SettlingCalls : Type 0 where
  -- "bit 6 on right after one with it off": frame 0 is no rise, on or off; frames 1 and 5 are
  pub rises : table 6 (rise_in six_bits) ≡ false ∷ true ∷ false ∷ false ∷ false ∷ true ∷ []
  pub first_on : rise_in (off_in 9) 0 ≡ false
  -- after the first n frames, none to all six
  pub latest : table 7 (latest_bit six_bits) ≡ true ∷ false ∷ true ∷ true ∷ false ∷ false ∷ true ∷ []
  pub since : table 7 (since_rise six_bits) ≡ 0 ∷ 1 ∷ 1 ∷ 2 ∷ 3 ∷ 4 ∷ 1 ∷ []
  -- "frame n is counted if n is 72 or more ..": no rise so far; a rise at 1, then at 41, below age 72: from t to t + 71 none is counted, t + 72 is
  pub start : ¬ CountedIn (off_in 200) 71 × CountedIn (off_in 200) 72
  pub rise_1 : ¬ CountedIn (off_in 0) 72 × CountedIn (off_in 0) 73
  pub rise_41 : ¬ CountedIn (off_in 40) 72 × ¬ CountedIn (off_in 40) 112 × CountedIn (off_in 40) 113
  -- the frame with bit 6 off is counted; the rise, at 100, is not
  pub rise_100 : CountedIn (off_in 99) 99 × ¬ CountedIn (off_in 99) 100 × ¬ CountedIn (off_in 99) 171 × CountedIn (off_in 99) 172
  -- two rises, at 100 and 110, and at 100 and 173: between them frame 172 alone is counted
  pub two_rises : ¬ CountedIn (off_in_both 99 109) 172 × ¬ CountedIn (off_in_both 99 109) 181 × CountedIn (off_in_both 99 109) 182
  pub two_apart : CountedIn (off_in_both 99 172) 172 × ¬ CountedIn (off_in_both 99 172) 173 × ¬ CountedIn (off_in_both 99 172) 244
      × CountedIn (off_in_both 99 172) 245
  -- the same of a channel's history, the last: frame 1 of these is a rise
  pub in_history : ¬ Counted (channel_history 5 (rising_at1 74)) 72 × Counted (channel_history 5 (rising_at1 74)) 73
  -- a refused frame and a reset have no bit 6 in the list
  pub bits : device_bits switched ≡ false ∷ true ∷ true ∷ false ∷ true ∷ []
  pub bit : table 6 (device_bit switched) ≡ false ∷ true ∷ true ∷ false ∷ true ∷ false ∷ []
  -- our relay after each part of it: what it remembers, and its age
  pub memories : table 11 (λ n. (relay_after the_relay ones (first_of n switched)).device_on)
      ≡ true ∷ false ∷ false ∷ true ∷ true ∷ true ∷ false ∷ false ∷ false ∷ true ∷ true ∷ []
  pub ages : table 11 (λ n. (relay_after the_relay ones (first_of n switched)).age) ≡ 0 ∷ 1 ∷ 1 ∷ 1 ∷ 1 ∷ 2 ∷ 3 ∷ 3 ∷ 3 ∷ 1 ∷ 1 ∷ []
  -- which is what the demand says of it
  pub said : table 11 (λ n. since_rise (device_bit switched) (accepted_frames (first_of n switched))) ≡ 0 ∷ 1 ∷ 1 ∷ 1 ∷ 1 ∷ 2 ∷ 3 ∷ 3 ∷ 3 ∷ 1 ∷ 1 ∷ []

pub settling_calls : SettlingCalls
unfolding computed
settling_calls =
    record {
      rises = refl;
      first_on = refl;
      latest = refl;
      since = refl;
      start = (λ c. absurd (omega (arith, c.late)), found_counted (off_in 200) 72 refl);
      rise_1 = (settling (off_in 0) 1 71 tt (omega arith), found_counted (off_in 0) 73 refl);
      rise_41 = (settling (off_in 40) 41 31 tt (omega arith), settling (off_in 40) 41 71 tt (omega arith), found_counted (off_in 40) 113 refl);
      rise_100 = (
        found_counted (off_in 99) 99 refl,
        settling (off_in 99) 100 0 tt (omega arith),
        settling (off_in 99) 100 71 tt (omega arith),
        found_counted (off_in 99) 172 refl,
      );
      two_rises = (
        settling (off_in_both 99 109) 110 62 tt (omega arith),
        settling (off_in_both 99 109) 110 71 tt (omega arith),
        found_counted (off_in_both 99 109) 182 refl,
      );
      two_apart = (
        found_counted (off_in_both 99 172) 172 refl,
        settling (off_in_both 99 172) 173 0 tt (omega arith),
        settling (off_in_both 99 172) 173 71 tt (omega arith),
        found_counted (off_in_both 99 172) 245 refl,
      );
      in_history = (
        settling (bit6_in (channel_history 5 (rising_at1 74))) 1 71 tt (omega arith),
        found_counted (bit6_in (channel_history 5 (rising_at1 74))) 73 refl,
      );
      bits = refl;
      bit = refl;
      memories = refl;
      ages = refl;
      said = refl;
    }
