-- Settling after the device switch (document 02, Paper 5), said of bit 6 in the accepted frames by their numbers: which
-- frames are counted, and what a relay's age and memory say. 72 and 71 stand as the paper's own numbers. Rests on
-- nothing of the relay.
use Rattle.std.specs.Prelude.{ℕ, zero, suc, ◌-◌, ◌≤◌, Bool, true, false, ◌&&◌, not, cond, T}

-- `bit6 n` is bit 6 of frame n.
module _ (bit6 : ℕ → Bool) where
  -- Frame n "has bit 6 on right after one with it off": a rise, a word of ours. Frame 0 comes right after none.
  abbrev pub rise_in : ℕ → Bool
  rise_in zero = false
  rise_in (suc n) = bit6 (suc n) && not (bit6 n)

  -- "frame n is counted if n is 72 or more and none of the frames n − 71 to n has bit 6 on right after one with it off"
  pub record CountedIn (n : ℕ) : Type 0 where
    pub late : 72 ≤ n
    pub no_rise : (k : ℕ) → n - 71 ≤ k → k ≤ n → ¬ T (rise_in k)

  -- after the first n frames: bit 6 of the latest of them, on if there is none
  abbrev pub latest_bit : ℕ → Bool
  latest_bit zero = true
  latest_bit (suc n) = bit6 n

  -- and how many came since the latest rise, it included, or since the start
  abbrev pub since_rise : ℕ → ℕ
  since_rise zero = 0
  since_rise (suc n) = cond (rise_in n) 1 (suc (since_rise n))
