-- One phase's history is its own: document 02, Paper 14, "Testers swap wires on one phase and must trust the other
-- five." What is left of a list of calls for one channel, what the channel shows after each frame, and the law in the
-- paper's words. It is stated for any implementation, so that a wrong relay can be shown to break it; `OnePhase
-- the_relay` is the theorem. Rests on the lists of calls of demand 3 and on a channel's own levels.
use Rattle.std.specs.Prelude.{ℕ, ◌<◌, ◌≡◌, Bool, cond, List, [], ◌∷◌, map, length, get_or, replicate}
use Rattle.frames.specs.Bits.{bit_of}
use Rattle.relay.specs.declared.ChannelLevels.{ChannelLevels}
use Rattle.relay.specs.declared.Settings.{Settings}
use Rattle.relay.specs.declared.Relay.{Relay}
use Rattle.relay.specs.declared.FrameAnswer.{FrameAnswer}
use Rattle.relay.specs.Relay.{channel_at}
use Rattle.history.specs.Calls.{Call, frame, reset, change, Implementation, handed_back}
use Rattle.history.specs.History.{own_levels}

-- ---- "for each a list of accepted frames, resets and changed levels"

-- the number that a call answers, and those of a list of calls, each given the relay that the one before handed back
abbrev pub answer_of : Implementation → Relay → Call → ℕ
answer_of d r (frame codes enable) = (d.frame r codes.list enable).refusal
answer_of d r (reset mask) = (d.reset r mask).refusal
answer_of d r (change new) = (d.change r new).refusal

abbrev pub answers_of : Implementation → Relay → List Call → List ℕ
answers_of d r [] = []
answers_of d r (call ∷ calls) = answer_of d r call ∷ answers_of d (handed_back d r call) calls

-- each of them is accepted: it answers 0
abbrev pub EachAccepted : Implementation → Relay → List Call → Type 0
EachAccepted d r calls = answers_of d r calls ≡ replicate (length calls) 0

-- ---- "Strike the resets not naming it; let what is left be the same kinds of call in the same order, alike in .."

abbrev pub struck : ℕ → List Call → List Call
struck c [] = []
struck c (frame codes enable ∷ calls) = frame codes enable ∷ struck c calls
struck c (reset mask ∷ calls) = cond (bit_of mask c) (reset mask ∷ struck c calls) (struck c calls)
struck c (change new ∷ calls) = change new ∷ struck c calls

-- What is left (the paper's words) of a call for channel c: its kind; ".. that channel's codes, its own levels, its
-- enable bit and bit 6". The levels of a voltage are its drop, those of a current its drop, pickup and r (`own_levels`).
-- A reset that names the channel names it, whatever else it names. A change is never struck, not even one that leaves
-- the channel's own levels as they are: the paper strikes resets.
pub data Left : Type 0 where
  frame_left : (code : ℕ) (enable_bit bit6 : Bool) → Left
  reset_left : Left
  change_left : (own : ChannelLevels) → Left

abbrev pub left_of : ℕ → Call → Left
left_of c (frame codes enable) = frame_left (get_or codes.list c 0) (bit_of enable c) (bit_of enable 6)
left_of c (reset mask) = reset_left
left_of c (change new) = change_left (own_levels new c)

abbrev pub left : ℕ → List Call → List Left
left c calls = map (left_of c) (struck c calls)

-- ---- "Then after each frame this channel's amplitudes, runs, latches and output bits are alike in both."

-- What channel c shows (our word) after a frame: the amplitude and the output bit as the frame answers them, the runs
-- and latches as the relay holds them that it hands back.
pub record Shown : Type 0 where
  pub amplitude : ℕ
  pub loss_run : ℕ
  pub over_run : ℕ
  pub loss_latch : Bool
  pub over_latch : Bool
  pub output : Bool

abbrev pub shown_in : ℕ → FrameAnswer → Shown
shown_in c a =
    record {
      amplitude = get_or a.amplitudes c 0;
      loss_run = (channel_at a.relay c).loss_run;
      over_run = (channel_at a.relay c).over_run;
      loss_latch = (channel_at a.relay c).loss_latch;
      over_latch = (channel_at a.relay c).over_latch;
      output = bit_of a.output c;
    }

-- after each frame of a list of calls, in order
abbrev pub shown : Implementation → ℕ → Relay → List Call → List Shown
shown d c r [] = []
shown d c r (frame codes enable ∷ calls) =
    let a : FrameAnswer = d.frame r codes.list enable in
    shown_in c a ∷ shown d c a.relay calls
shown d c r (reset mask ∷ calls) = shown d c (d.reset r mask).relay calls
shown d c r (change new ∷ calls) = shown d c (d.change r new).relay calls

-- ---- the law

-- "two fresh relays with equal settings for one channel and equal run lengths, and for each a list", of which the same
-- is left for that channel
pub record Pair (c : ℕ) : Type 0 where
  pub one : Settings
  pub other : Settings
  pub own_alike : own_levels one.levels c ≡ own_levels other.levels c
  pub lengths_same : one.lengths ≡ other.lengths
  pub these : List Call
  pub those : List Call
  pub left_same : left c these ≡ left c those

module _ (d : Implementation) (c : ℕ) (p : Pair c) where
  -- The two fresh relays. That making them was accepted is no premise: where ours is refused, the all-zero relay
  -- accepts no call. Of another implementation this asks more than the paper.
  abbrev pub one_relay : Relay
  one_relay = (d.fresh p.one).relay

  abbrev pub other_relay : Relay
  other_relay = (d.fresh p.other).relay

  abbrev pub BothAccepted : Type 0
  BothAccepted = EachAccepted d one_relay p.these × EachAccepted d other_relay p.those

  abbrev pub ShownAlike : Type 0
  ShownAlike = shown d c one_relay p.these ≡ shown d c other_relay p.those

abbrev pub OnePhase : Implementation → Type 0
OnePhase d = (c : ℕ) → c < 6 → (p : Pair c) → BothAccepted d c p → ShownAlike d c p
