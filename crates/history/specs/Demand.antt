-- Demand 3 of document 01: one claim about every list of frames, resets and changes of levels (document 02, Paper 6),
-- refused ones among them, from a fresh relay. It is stated for any implementation; `Demanded the_relay` is the theorem.
-- Tests are said here anew, as levels are in History, from the levels and lengths as handed in, with 72, 10,700, 100
-- and 24 as the documents' own numbers and not by the relay's names. Said through the relay's definitions, the demand
-- would be met by a relay that reads another channel's level, or has another limit or the other length of a run, in
-- definition and code alike. Rests on the history read from the calls and on the exact amplitude.
use Rattle.std.specs.Prelude.{ℕ, ◌+◌, ◌*◌, ◌%◌, ◌≤◌, ◌<◌, min, ◌≡◌, ◌⊎◌, ◌↔◌, Bool, true, ◌&&◌, ◌||◌, List, [], ◌∷◌, ◌++◌, ℤ, pos, ◌+ℤ◌, ◌-ℤ◌, T, ltb, leb, eqb, length, get_or, replicate}
use Rattle.frames.specs.Bits.{bit_of}
use Rattle.phasor.specs.Cordic.{amplitude_of}
use Rattle.phasor.specs.Exact.{AtLeast, Below, Within}
use Rattle.relay.specs.declared.ChannelLevels.{ChannelLevels}
use Rattle.relay.specs.declared.Lengths.{Lengths}
use Rattle.relay.specs.declared.Settings.{Settings}
use Rattle.relay.specs.declared.Relay.{Relay}
use Rattle.relay.specs.declared.FrameAnswer.{FrameAnswer}
use Rattle.relay.specs.declared.RelayAnswer.{RelayAnswer}
use Rattle.relay.specs.Settings.{Kind}
use Rattle.relay.specs.Sound.{sound_of}
use Rattle.relay.specs.Relay.{channel_at}
use Rattle.history.specs.Calls.{Call, frame, reset, change, refusal_of, accepted_frames, device_bit, in_force}
use Rattle.history.specs.Calls.{Implementation, after}
use Rattle.history.specs.Settling.{latest_bit, since_rise}
use Rattle.history.specs.History.{Event, own_levels, channel_history, frames, levels_at, window_of, window_at}
use Rattle.history.specs.History.{Enabled, InEach, FullRun, LatchOn}

-- Document 02, Paper 8, the test of a frame of an over run: "r is 0 or 100 times the second-harmonic amplitude is less
-- than r times the fundamental"
abbrev pub harmonic_test : ℕ → List ℤ → Bool
harmonic_test r w = eqb r 0 || ltb (100 * amplitude_of 2 w) (r * amplitude_of 1 w)

-- the clauses on Z, for one window: Z < drop − 2, Z < drop + 2, Z ≥ pickup + 2, Z ≥ pickup − 2
abbrev pub SurelyBelowDrop : ℕ → List ℤ → Type 0
SurelyBelowDrop drop w = Below 1 w (pos drop -ℤ pos 2)

abbrev pub PossiblyBelowDrop : ℕ → List ℤ → Type 0
PossiblyBelowDrop drop w = Below 1 w (pos drop +ℤ pos 2)

abbrev pub SurelyOverPickup : ℕ → List ℤ → Type 0
SurelyOverPickup pickup w = AtLeast 1 w (pos pickup +ℤ pos 2)

abbrev pub PossiblyOverPickup : ℕ → List ℤ → Type 0
PossiblyOverPickup pickup w = AtLeast 1 w (pos pickup -ℤ pos 2)

-- Paper 8: "the clear-margin clause has it as a further premise", with the r that the run ran under; and where an over
-- latch went on, the run found there has the test in each frame
abbrev pub SurelyOver : ℕ → ℕ → List ℤ → Type 0
SurelyOver pickup r w = SurelyOverPickup pickup w × T (harmonic_test r w)

abbrev pub PossiblyOver : ℕ → ℕ → List ℤ → Type 0
PossiblyOver pickup r w = PossiblyOverPickup pickup w × T (harmonic_test r w)

-- The clauses on Z at a frame, the latest of `es`: whether the latch `was` on before it, and is on `now`. The level
-- "from which the margin of 2 is measured too, is the one it ran under" (Paper 6).
pub record Margins (kind : Kind) (made : ChannelLevels) (Surely Possibly : ChannelLevels → List ℤ → Type 0)
    (es : List Event) (was now : Bool) : Type 0 where
  -- "if Z ≥ pickup + 2 (over) or Z < drop − 2 (loss) in each frame of a full run, the latch is on after its last frame"
  pub clear_margin : (j : ℕ) → j + kind.len ≡ frames es → FullRun kind made es kind.len j
      → InEach j kind.len (λ n. Surely (levels_at made es n) (window_at es n)) → T now
  -- "where a latch went on in a frame, Z ≥ pickup − 2 or Z < drop + 2 held in each frame of the full run ending there"
  pub near_margin : ¬ T was → T now
      → (j : ℕ) × (j + kind.len ≡ frames es) × FullRun kind made es kind.len j
      × InEach j kind.len (λ n. Possibly (levels_at made es n) (window_at es n))

-- The two kinds of run. Document 01's "16 (loss)" and "4 (over)" are the lengths that the relay was made with:
-- "Wherever a rule on runs says 16 or 4 it means these" (Paper 9).
-- Frames with "m < drop (loss)"; the drop is the loss run's own level.
abbrev pub loss_of : Lengths → Kind
loss_of lengths =
    record {
      len = lengths.loss;
      meets = λ levels w. ltb (amplitude_of 1 w) levels.drop;
      same = λ old new. eqb old.drop new.drop;
    }

-- Frames with "m ≥ pickup (over)"; "The history adds that test to a full over run" (Paper 8). A voltage's over run
-- never meets its level. Its own level is the pickup, with "r too, as part of the over run's own level".
abbrev pub over_of : Lengths → Kind
over_of lengths =
    record {
      len = lengths.over;
      meets = λ levels w.
          levels.current && (leb levels.pickup (amplitude_of 1 w) && harmonic_test levels.restraint w);
      same = λ old new. eqb old.pickup new.pickup && eqb old.restraint new.restraint;
    }

module _ (settings : Settings) (c : ℕ) where
  -- the levels that channel c of the relay was made with
  abbrev pub made_with : ChannelLevels
  made_with = own_levels settings.levels c

  -- after these calls the rule has the latch on
  abbrev pub LossOn : List Call → Type 0
  LossOn calls = LatchOn (loss_of settings.lengths) made_with (channel_history c calls)

  abbrev pub OverOn : List Call → Type 0
  OverOn calls = LatchOn (over_of settings.lengths) made_with (channel_history c calls)

  -- the clauses on Z at the last of these calls, a frame
  abbrev pub LossMargins : List Call → Bool → Bool → Type 0
  LossMargins calls =
      Margins (loss_of settings.lengths) made_with (λ levels. SurelyBelowDrop levels.drop)
      (λ levels. PossiblyBelowDrop levels.drop) (channel_history c calls)

  abbrev pub OverMargins : List Call → Bool → Bool → Type 0
  OverMargins calls =
      Margins (over_of settings.lengths) made_with (λ levels. SurelyOver levels.pickup levels.restraint)
      (λ levels. PossiblyOver levels.pickup levels.restraint) (channel_history c calls)

module _ (d : Implementation) (settings : Settings) where
  -- the relay after a list of calls from the fresh one: "nothing alters the relay between two calls"
  abbrev pub relay_after : List Call → Relay
  relay_after calls = after d (d.fresh settings).relay calls

  -- channel c's two latches then
  abbrev pub loss_after : List Call → ℕ → Bool
  loss_after calls c = (channel_at (relay_after calls) c).loss_latch

  abbrev pub over_after : List Call → ℕ → Bool
  over_after calls c = (channel_at (relay_after calls) c).over_latch

  -- What the relay is after a list of calls.
  pub record RelayIs (calls : List Call) : Type 0 where
    -- "Refusal 2 never occurs in it"
    pub sound : sound_of (relay_after calls) ≡ true
    -- Paper 5: "The relay remembers whether bit 6 was on in the latest accepted frame; a fresh relay remembers on"; and
    -- its age is the number of accepted frames since the latest rise, it included, or since the start, at most 72
    pub remembered : (relay_after calls).device_on ≡ latest_bit (device_bit calls) (accepted_frames calls)
    pub age : (relay_after calls).age ≡ min 72 (since_rise (device_bit calls) (accepted_frames calls))
    -- "frame n goes to slot n mod 8"
    pub slot : (relay_after calls).slot ≡ accepted_frames calls % 8
    pub samples : (c : ℕ) → c < 6
        → (channel_at (relay_after calls) c).samples ≡ window_of (channel_history c calls) (accepted_frames calls)
    -- "A loss latch, or a current's over latch, is on exactly when .."; a voltage's over latch never is
    pub loss_latch : (c : ℕ) → c < 6 → T (loss_after calls c) ↔ LossOn settings c calls
    pub over_latch : (c : ℕ) → c < 6 → T (over_after calls c) ↔ OverOn settings c calls
    -- the levels that the relay holds are those in force (Paper 6); its lengths are "fixed when it is made" (Paper 9)
    pub held : (relay_after calls).settings
        ≡ record { levels = in_force settings.levels calls; lengths = settings.lengths }

  -- What an accepted frame after the calls `past` answers. `calls` are these and the frame, which has the number
  -- accepted_frames past.
  pub record FrameAnswered (past calls : List Call) (answer : FrameAnswer) : Type 0 where
    pub refusal : answer.refusal ≡ 0
    -- "Frame n answers the six m, each within 2 of Z"
    pub six : length answer.amplitudes ≡ 6
    pub amplitude : (c : ℕ) → c < 6
        → get_or answer.amplitudes c 0 ≡ amplitude_of 1 (window_at (channel_history c calls) (accepted_frames past))
    pub within : (c : ℕ) → c < 6
        → Within 1 (window_at (channel_history c calls) (accepted_frames past)) (get_or answer.amplitudes c 0)
    pub bounded : (c : ℕ) → c < 6 → get_or answer.amplitudes c 0 ≤ 10700
    -- "bit c is 1 exactly when channel c has a latch on by this rule after frame n and is enabled in it"
    pub output : (c : ℕ) → c < 6
        → T (bit_of answer.output c)
        ↔ ((LossOn settings c calls ⊎ OverOn settings c calls) × Enabled (channel_history c calls) (accepted_frames past))
    pub six_bits : answer.output < 64
    -- "The clauses on Z"
    pub loss_margins : (c : ℕ) → c < 6 → LossMargins settings c calls (loss_after past c) (loss_after calls c)
    pub over_margins : (c : ℕ) → 3 ≤ c → c < 6 → OverMargins settings c calls (over_after past c) (over_after calls c)

  -- What a call after the calls `past` answers. "A refused call changes nothing": its refusal, zeros, and the relay as
  -- given.
  abbrev pub CallAnswered : List Call → Call → Type 0
  CallAnswered past (frame codes enable) =
      let answer : FrameAnswer = d.frame (relay_after past) codes.list enable in
      let refusal : ℕ = refusal_of (frame codes enable) in
      (refusal ≡ 0 → FrameAnswered past (past ++ (frame codes enable ∷ [])) answer)
      × (¬ (refusal ≡ 0)
      → answer ≡ record { relay = relay_after past; refusal = refusal; amplitudes = replicate 6 0; output = 0 })
  CallAnswered past (reset mask) =
      let answer : RelayAnswer = d.reset (relay_after past) mask in
      let refusal : ℕ = refusal_of (reset mask) in
      (refusal ≡ 0 → answer.refusal ≡ 0)
      × (¬ (refusal ≡ 0) → answer ≡ record { relay = relay_after past; refusal = refusal })
  CallAnswered past (change new) =
      let answer : RelayAnswer = d.change (relay_after past) new in
      let refusal : ℕ = refusal_of (change new) in
      (refusal ≡ 0 → answer.refusal ≡ 0)
      × (¬ (refusal ≡ 0) → answer ≡ record { relay = relay_after past; refusal = refusal })

  -- Demand 3, "a single claim about a whole list": the relay after each part of it from the start, and the answer of
  -- each call in it.
  pub record Demand3 (calls : List Call) : Type 0 where
    -- the settings are accepted
    pub made : (d.fresh settings).refusal ≡ 0
    pub relay : (past rest : List Call) → calls ≡ past ++ rest → RelayIs past
    pub answers : (past : List Call) (call : Call) (rest : List Call) → calls ≡ past ++ (call ∷ rest)
        → CallAnswered past call

-- The settings that the documents accept: "a drop level for each channel and a pickup level for each current, 1 to
-- 10,700"; "a restraint level r, 1 to 100 or 0 for off"; "Loss and over lengths .. 1 to 24". A relay that refuses some
-- of them does not meet the demand (`made`).
pub record AcceptedSettings (settings : Settings) : Type 0 where
  pub drops : (c : ℕ) → c < 6
      → (1 ≤ get_or settings.levels.drop c 0) × (get_or settings.levels.drop c 0 ≤ 10700)
  pub pickups : (k : ℕ) → k < 3
      → (1 ≤ get_or settings.levels.pickup k 0) × (get_or settings.levels.pickup k 0 ≤ 10700)
  pub restraints : (k : ℕ) → k < 3 → get_or settings.levels.restraint k 0 ≤ 100
  pub loss_length : (1 ≤ settings.lengths.loss) × (settings.lengths.loss ≤ 24)
  pub over_length : (1 ≤ settings.lengths.over) × (settings.lengths.over ≤ 24)

-- Demand 3: "from a fresh relay made with accepted settings", every list, "the empty one too"; that making the relay
-- accepts them is part of it. The code's arrays hold six drops, three pickups and three restraints, and its bytes are
-- below 256; the claim is for any settings that hold at least these, and for any number in a byte's place.
abbrev pub Demanded : Implementation → Type 0
Demanded d = (settings : Settings) → AcceptedSettings settings → (calls : List Call) → Demand3 d settings calls
