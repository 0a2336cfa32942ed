-- The latch history, read from the calls and from the levels that the relay was made with, and never from the relay
-- (document 01, "Frames, runs, latches, resets"; document 02, Papers 5 and 6). 512, 3 and 8 stand as document 01's own
-- numbers, as in Demand and for its reason. Rests on the lists of calls, the rule for counted frames and the form of
-- the two kinds of run.
use Rattle.std.specs.Prelude.{ℕ, zero, suc, ◌+◌, ◌-◌, ◌%◌, ◌≤◌, ◌<◌, ◌≡◌, Bool, false, ◌&&◌, cond, List, [], ◌∷◌, ◌++◌, ℤ, pos, ◌-ℤ◌, T, leb, eqb, length, get_or}
use Rattle.lists.specs.Each.{table}
use Rattle.frames.specs.Bits.{bit_of}
use Rattle.relay.specs.declared.ChannelLevels.{ChannelLevels}
use Rattle.relay.specs.declared.Levels.{Levels}
use Rattle.relay.specs.Settings.{Kind}
use Rattle.history.specs.Calls.{Call, frame, reset, change, is_accepted}
use Rattle.history.specs.Settling.{CountedIn}

-- What an accepted frame is to one channel: its sample, its enable bit and bit 6.
pub record Input : Type 0 where
  pub sample : ℤ
  pub channel_bit : Bool
  pub bit6 : Bool

-- Channel c's own levels: "a drop level for each channel and a pickup level for each current" (3, 4, 5), and Paper 8's
-- "Each current gets a restraint level r". A voltage has no pickup and no restraint.
abbrev pub own_levels : Levels → ℕ → ChannelLevels
own_levels l c =
    record {
      drop = get_or l.drop c 0;
      pickup = cond (leb 3 c) (get_or l.pickup (c - 3) 0) 0;
      restraint = cond (leb 3 c) (get_or l.restraint (c - 3) 0) 0;
      current = leb 3 c;
    }

-- What an accepted call is to one channel. "A refused call .. has no frame number and separates nothing", and a reset
-- that does not name the channel is nothing to it.
pub data Event : Type 0 where
  sampled : Input → Event
  cleared : Event  -- a reset that names it
  changed : ChannelLevels → Event  -- new levels, of which these are its own

-- "its sample is s = code − 512"
abbrev pub input_of : ℕ → List ℕ → ℕ → Input
input_of c codes enable =
    record { sample = pos (get_or codes c 0) -ℤ pos 512; channel_bit = bit_of enable c; bit6 = bit_of enable 6 }

abbrev pub events_of : ℕ → Call → List Event
events_of c (frame codes enable) =
    cond (is_accepted (frame codes enable)) (sampled (input_of c codes.list enable) ∷ []) []
events_of c (reset mask) = cond (is_accepted (reset mask) && bit_of mask c) (cleared ∷ []) []
events_of c (change new) = cond (is_accepted (change new)) (changed (own_levels new c) ∷ []) []

-- the calls as channel c meets them
abbrev pub channel_history : ℕ → List Call → List Event
channel_history c [] = []
channel_history c (call ∷ calls) = events_of c call ++ channel_history c calls

-- "Accepted frames of a fresh relay are numbered from 0": frame n stands at place n
abbrev pub inputs : List Event → List Input
inputs [] = []
inputs (sampled i ∷ es) = i ∷ inputs es
inputs (cleared ∷ es) = inputs es
inputs (changed new ∷ es) = inputs es

abbrev pub frames : List Event → ℕ
frames es = length (inputs es)

abbrev pub no_input : Input
no_input = record { sample = pos 0; channel_bit = false; bit6 = false }

abbrev pub input_at : List Event → ℕ → Input
input_at es n = get_or (inputs es) n no_input

-- the number of resets, and of those before frame n
abbrev pub resets : List Event → ℕ
resets [] = 0
resets (sampled i ∷ es) = resets es
resets (cleared ∷ es) = suc (resets es)
resets (changed new ∷ es) = resets es

abbrev pub resets_before : List Event → ℕ → ℕ
resets_before [] n = 0
resets_before (sampled i ∷ es) zero = 0
resets_before (sampled i ∷ es) (suc n) = resets_before es n
resets_before (cleared ∷ es) n = suc (resets_before es n)
resets_before (changed new ∷ es) n = resets_before es n

-- Paper 6: the channel's levels in frame n, "the one it ran under": those of the latest accepted change before the
-- frame, or those `made` with
abbrev pub levels_at : ChannelLevels → List Event → ℕ → ChannelLevels
levels_at made [] n = made
levels_at made (sampled i ∷ es) zero = made
levels_at made (sampled i ∷ es) (suc n) = levels_at made es n
levels_at made (cleared ∷ es) n = levels_at made es n
levels_at made (changed new ∷ es) n = levels_at new es n

-- how many changes before frame n gave the run's "own level another value" than it had right before the change
abbrev pub changes_before : Kind → ChannelLevels → List Event → ℕ → ℕ
changes_before kind made [] n = 0
changes_before kind made (sampled i ∷ es) zero = 0
changes_before kind made (sampled i ∷ es) (suc n) = changes_before kind made es n
changes_before kind made (cleared ∷ es) n = changes_before kind made es n
changes_before kind made (changed new ∷ es) n =
    cond (kind.same made new) (changes_before kind new es n) (suc (changes_before kind new es n))

-- the sample of the latest of the first n frames whose number mod 8 is k, "0 if there is none"
abbrev pub latest_in_slot : List Event → ℕ → ℕ → ℤ
latest_in_slot es zero k = pos 0
latest_in_slot es (suc n) k = cond (eqb (n % 8) k) (input_at es n).sample (latest_in_slot es n k)

-- the window that the first n frames leave; "at accepted frame n a channel's window has in slot k the sample of the
-- latest accepted frame up to n whose number mod 8 is k"
unfoldable pub window_of : List Event → ℕ → List ℤ
window_of es n = table 8 (latest_in_slot es n)

abbrev pub window_at : List Event → ℕ → List ℤ
window_at es n = window_of es (suc n)

-- "Counted frames in the latch history mean frames counted under this rule" (document 02, Paper 5)
abbrev pub Counted : List Event → ℕ → Type 0
Counted es n = CountedIn (λ k. (input_at es k).bit6) n

-- "A channel is enabled in a frame if its bit and bit 6 are both 1."
abbrev pub Enabled : List Event → ℕ → Type 0
Enabled es n = T ((input_at es n).channel_bit && (input_at es n).bit6)

-- P holds in each of the `len` successive frames from j on.
abbrev pub InEach : ℕ → ℕ → (ℕ → Type 0) → Type 0
InEach j len P = (n : ℕ) → j ≤ n → n < j + len → P n

module _ (kind : Kind) (made : ChannelLevels) where
  -- Frame n can stand in a full run (a term of document 01) that begins at frame j: "counted frames with the channel
  -- enabled, none separated by an accepted reset naming it"; "between the first and last frame of a full run no change
  -- gave its own level another value" (Paper 6).
  pub record InRun (es : List Event) (j n : ℕ) : Type 0 where
    pub counted : Counted es n
    pub enabled : Enabled es n
    pub not_separated : resets_before es n ≡ resets_before es j
    pub not_changed : changes_before kind made es n ≡ changes_before kind made es j

  -- The `len` successive frames from j on are a full run.
  pub record FullRun (es : List Event) (len j : ℕ) : Type 0 where
    pub within : j + len ≤ frames es
    pub each : InEach j len (InRun es j)

  -- "A full run that meets its level lies wholly after the last accepted reset naming the channel, or after the start
  -- if there is none."; "the level it meets .. is the one it ran under" (Paper 6)
  pub record FullRunMeeting (es : List Event) (j : ℕ) : Type 0 where
    pub run : FullRun es kind.len j
    pub meets : InEach j kind.len (λ n. T (kind.meets (levels_at made es n) (window_at es n)))
    pub after_last_reset : resets_before es j ≡ resets es

  -- the rule for a latch
  abbrev pub LatchOn : List Event → Type 0
  LatchOn es = (j : ℕ) × FullRunMeeting es j
