-- Wrong relays: those that document 01 names under "What a promise says here", 3, two of its "Mistakes to keep out",
-- three more, and those that restrain, settle, take new levels or count runs to wrong lengths (document 02, Papers 8,
-- 5, 6 and 9). Each is said of any implementation by the one thing that it does wrong in lists from a relay made with
-- accepted settings, whatever else it does; for some of them one place where it shows is enough. Where document 01's
-- and Paper 8's are said of every list, it is every list that holds no change of levels, from a relay with lengths 16
-- and 4: they may do what they like in others. None meets demand 3. Rests on the lists of calls.
use Rattle.std.specs.Prelude.{ℕ, suc, ◌+◌, ◌*◌, ◌≤◌, ◌<◌, ◌≡◌, Bool, true, false, ◌&&◌, ◌||◌, List, [], ◌∷◌, ◌++◌, ℤ, T, ltb, leb, eqb, get_or, replicate}
use Rattle.frames.specs.Bits.{bit_of}
use Rattle.phasor.specs.Cordic.{amplitude_of}
use Rattle.relay.specs.declared.ChannelLevels.{ChannelLevels}
use Rattle.relay.specs.declared.Lengths.{Lengths}
use Rattle.relay.specs.declared.Levels.{Levels}
use Rattle.relay.specs.declared.Settings.{Settings}
use Rattle.relay.specs.declared.Relay.{Relay}
use Rattle.relay.specs.Settings.{Kind}
use Rattle.relay.specs.Relay.{channel_at, amplitude_in}
use Rattle.history.specs.Calls.{Codes, Call, frame, reset, change, refusal_of, accepted_frames, device_bit, in_force}
use Rattle.history.specs.Calls.{Implementation, handed_back}
use Rattle.history.specs.Settling.{rise_in}
use Rattle.history.specs.History.{Event, own_levels, channel_history, frames, resets, resets_before, levels_at}
use Rattle.history.specs.History.{window_at, Counted, InEach, InRun, FullRun, FullRunMeeting, LatchOn}
use Rattle.history.specs.Demand.{harmonic_test, loss_of, over_of, made_with, relay_after, loss_after, over_after}
use Rattle.history.specs.Demand.{AcceptedSettings}

-- no change of levels stands in the list, accepted or refused
abbrev pub no_change : List Call → Bool
no_change [] = true
no_change (frame codes enable ∷ calls) = no_change calls
no_change (reset mask ∷ calls) = no_change calls
no_change (change new ∷ calls) = false

-- accepted settings with document 01's lengths, "16 (loss) or 4 (over)"
pub record BenchLengths (settings : Settings) : Type 0 where
  pub accepted : AcceptedSettings settings
  pub loss_length : settings.lengths.loss ≡ 16
  pub over_length : settings.lengths.over ≡ 4

-- P holds of each accepted frame in these lists: of the relay that it is given, its codes and its enable byte
abbrev pub EachFrame : Implementation → (Relay → List ℕ → ℕ → Type 0) → Type 0
EachFrame d P = (settings : Settings) → BenchLengths settings → (past : List Call) → no_change past ≡ true
    → (codes : Codes) (enable : ℕ) → refusal_of (frame codes enable) ≡ 0
    → P (relay_after d settings past) codes.list enable

-- and the same of each accepted reset: of the relay that it is given and its mask
abbrev pub EachReset : Implementation → (Relay → ℕ → Type 0) → Type 0
EachReset d P = (settings : Settings) → BenchLengths settings → (past : List Call) → no_change past ≡ true
    → (mask : ℕ) → refusal_of (reset mask) ≡ 0 → P (relay_after d settings past) mask

-- the loss latches are the same in two relays
abbrev pub SameLatches : Relay → Relay → Type 0
SameLatches r s = (c : ℕ) → c < 6 → (channel_at r c).loss_latch ≡ (channel_at s c).loss_latch

-- of two successive accepted frames, the first of them counted, the second leaves the loss latches as the first handed
-- them back
abbrev pub FixedLatches : Implementation → Type 0
FixedLatches d =
    (settings : Settings) → BenchLengths settings → (past : List Call) → no_change past ≡ true
    → (one two : Codes) (enable_one enable_two : ℕ)
    → refusal_of (frame one enable_one) ≡ 0 → refusal_of (frame two enable_two) ≡ 0
    → (let calls : List Call = past ++ (frame one enable_one ∷ []) in
    let r : Relay = relay_after d settings calls in
    Counted (channel_history 0 calls) (accepted_frames past) → SameLatches (d.frame r two.list enable_two).relay r)

-- so many frames with such windows, under levels that are not changed
abbrev pub run_of_windows : ℕ → (List ℤ → Bool) → Kind
run_of_windows len test = record { len = len; meets = λ levels w. test w; same = λ old new. true }

-- The over latch of channel c goes on by another test than the demand's: where a full over run (document 01's term)
-- that meets the test lies after the last reset that names the channel, the latch is on.
abbrev pub TripsBy : Implementation → ℕ → (Settings → List ℤ → Bool) → Type 0
TripsBy d c test =
    (settings : Settings) → BenchLengths settings → (calls : List Call) → no_change calls ≡ true
    → LatchOn (run_of_windows 4 (test settings)) (made_with settings c) (channel_history c calls)
    → T (over_after d settings calls c)

-- tests of current k's window, channel k + 3: Paper 8's test by its own r; m ≥ pickup alone; and with the test by the r
-- of current l
abbrev pub tested_by : ℕ → Settings → List ℤ → Bool
tested_by k settings w = harmonic_test (get_or settings.levels.restraint k 0) w

abbrev pub over_pickup : ℕ → Settings → List ℤ → Bool
over_pickup k settings w = leb (get_or settings.levels.pickup k 0) (amplitude_of 1 w)

abbrev pub over_by : ℕ → ℕ → Settings → List ℤ → Bool
over_by l k settings w = over_pickup k settings w && tested_by l settings w

-- with ≤ in place of <, and with the third harmonic in place of the second
abbrev pub over_at_most : ℕ → Settings → List ℤ → Bool
over_at_most k settings w =
    let r : ℕ = get_or settings.levels.restraint k 0 in
    over_pickup k settings w && (eqb r 0 || leb (100 * amplitude_of 2 w) (r * amplitude_of 1 w))

abbrev pub over_by_third : ℕ → Settings → List ℤ → Bool
over_by_third k settings w =
    let r : ℕ = get_or settings.levels.restraint k 0 in
    over_pickup k settings w && (eqb r 0 || ltb (100 * amplitude_of 3 w) (r * amplitude_of 1 w))

-- Five successive frames that a full run could hold, the last frames after the last reset that names the channel; m ≥
-- pickup in each, and all but the fourth have the test: the latch of current k is on after them, as if the fourth had
-- left the run as it was.
abbrev pub KeepsRun : Implementation → ℕ → Type 0
KeepsRun d k =
    (settings : Settings) → BenchLengths settings → (calls : List Call) → no_change calls ≡ true → (j : ℕ)
    → (let es : List Event = channel_history (k + 3) calls in
    let fed : ℕ → Bool = λ n. over_by k k settings (window_at es n) in
    j + 5 ≡ frames es → FullRun (over_of settings.lengths) (made_with settings (k + 3)) es 5 j
    → resets_before es j ≡ resets es → InEach j 3 (λ n. T (fed n)) → T (over_pickup k settings (window_at es (j + 3)))
    → ¬ T (fed (j + 3)) → T (fed (j + 4)) → T (over_after d settings calls (k + 3)))

-- The loss latch of current k goes on only by a full run in each frame of which the test of restraint holds too.
abbrev pub loss_tested : Settings → ℕ → Kind
loss_tested settings k =
    run_of_windows 16
    (λ w. ltb (amplitude_of 1 w) (get_or settings.levels.drop (k + 3) 0) && tested_by k settings w)

abbrev pub RestrainsLoss : Implementation → ℕ → Type 0
RestrainsLoss d k =
    (settings : Settings) → BenchLengths settings → (calls : List Call) → no_change calls ≡ true
    → T (loss_after d settings calls (k + 3))
    → LatchOn (loss_tested settings k) (made_with settings (k + 3)) (channel_history (k + 3) calls)

-- A channel's two latches
pub data Latch : Type 0 where
  the_loss_latch : Latch
  the_over_latch : Latch

abbrev pub latch_in : Latch → Relay → ℕ → Bool
latch_in the_loss_latch r c = (channel_at r c).loss_latch
latch_in the_over_latch r c = (channel_at r c).over_latch

abbrev pub latch_after : Implementation → Latch → Settings → List Call → ℕ → Bool
latch_after d latch settings calls c = latch_in latch (relay_after d settings calls) c

-- its run, as a relay holds it
abbrev pub run_held : Latch → Relay → ℕ → ℕ
run_held the_loss_latch r c = (channel_at r c).loss_run
run_held the_over_latch r c = (channel_at r c).over_run

-- the frames of a full run: "Loss and over lengths" (Paper 9)
abbrev pub length_of : Latch → Lengths → ℕ
length_of the_loss_latch lengths = lengths.loss
length_of the_over_latch lengths = lengths.over

-- the latch that goes by the other length
abbrev pub other : Latch → Latch
other the_loss_latch = the_over_latch
other the_over_latch = the_loss_latch

-- its kind of run; and that two levels of a channel differ in what is its run's own level (Paper 6)
abbrev pub kind_of : Latch → Lengths → Kind
kind_of the_loss_latch = loss_of
kind_of the_over_latch = over_of

abbrev pub Differ : Latch → ChannelLevels → ChannelLevels → Type 0
Differ the_loss_latch old new = ¬ (old.drop ≡ new.drop)
Differ the_over_latch old new = ¬ ((old.pickup ≡ new.pickup) × (old.restraint ≡ new.restraint))

-- In some accepted frame, after the calls `past`, a latch goes on that was off before it.
pub record GoesOn (d : Implementation) : Type 0 where
  pub settings : Settings
  pub accepted : AcceptedSettings settings
  pub past : List Call
  pub codes : Codes
  pub enable : ℕ
  pub taken : refusal_of (frame codes enable) ≡ 0
  pub latch : Latch
  pub channel : ℕ
  pub is_channel : channel < 6
  pub was : ¬ T (latch_after d latch settings past channel)
  pub now : T (latch_after d latch settings (past ++ (frame codes enable ∷ [])) channel)

module _ {d : Implementation} (g : GoesOn d) where
  -- the number of that frame, and the calls with it
  abbrev pub number_of : ℕ
  number_of = accepted_frames g.past

  abbrev pub calls_of : List Call
  calls_of = g.past ++ (frame g.codes g.enable ∷ [])

  -- the frames of a full run of that latch, and of the other
  abbrev pub full_length : ℕ
  full_length = length_of g.latch g.settings.lengths

  abbrev pub other_length : ℕ
  other_length = length_of (other g.latch) g.settings.lengths

  -- frame t, that one or one before it, is a rise (Paper 5)
  abbrev pub Risen : ℕ → Type 0
  Risen t = (t ≤ number_of) × T (rise_in (device_bit calls_of) t)

  -- the kind of its run, the levels that its channel was made with, and the channel's history with that frame
  abbrev pub kind_in : Kind
  kind_in = kind_of g.latch g.settings.lengths

  abbrev pub made_in : ChannelLevels
  made_in = made_with g.settings g.channel

  abbrev pub events : List Event
  events = channel_history g.channel calls_of

  -- the level in force in frame n is met in it
  abbrev pub met_in : ℕ → Bool
  met_in n = kind_in.meets (levels_at made_in events n) (window_at events n)

  -- An accepted change gave the run's own level another value, and since then, that frame included, fewer frames came
  -- than a full run has (Paper 6).
  pub record ChangedLately : Type 0 where
    pub before : List Call
    pub new : Levels
    pub between : List Call
    pub is_past : g.past ≡ before ++ (change new ∷ between)
    pub accepted : refusal_of (change new) ≡ 0
    pub another : Differ g.latch (own_levels (in_force g.settings.levels before) g.channel)
        (own_levels new g.channel)
    pub few : accepted_frames between + 1 < full_length

  -- Frame n, one of the last frames that a full run ending with that frame has, did not meet the level in force in it.
  pub record Unmet (n : ℕ) : Type 0 where
    pub up_to : n ≤ number_of
    pub in_run : number_of < n + full_length
    pub fails : ¬ T (met_in n)

  -- The latch goes on by a run of so many frames, that one the last of them (Paper 9). All that is asked is that the
  -- frame before these could not stand in one run with it: it is not counted or not enabled, does not meet the level in
  -- force in it, or a reset, or a change of the own level, lies between the two.
  pub record ByRunOf (len : ℕ) : Type 0 where
    pub before : ℕ
    pub is_before : before + len ≡ number_of
    pub apart : ¬ (InRun kind_in made_in events before before × T (met_in before)
        × InRun kind_in made_in events before number_of)

-- Some accepted change of levels, after the calls `past` (Paper 6); for an implementation d, the relay that it is given
-- and the one that it hands back.
pub record Changing (d : Implementation) : Type 0 where
  pub settings : Settings
  pub accepted : AcceptedSettings settings
  pub past : List Call
  pub new : Levels
  pub taken : refusal_of (change new) ≡ 0

module _ {d : Implementation} (g : Changing d) where
  abbrev pub given : Relay
  given = relay_after d g.settings g.past

  abbrev pub changed_to : Relay
  changed_to = (d.change given g.new).relay

-- A change that leaves the own level of a channel's run as it is comes between two frames of a full run. The run meets
-- its level, and yet the latch is off.
pub record ClearsRun (d : Implementation) (latch : Latch) : Type 0 where
  pub settings : Settings
  pub accepted : AcceptedSettings settings
  pub before : List Call
  pub new : Levels
  pub between : List Call
  pub taken : refusal_of (change new) ≡ 0
  pub channel : ℕ
  pub is_channel : channel < 6
  pub own : ¬ Differ latch (own_levels (in_force settings.levels before) channel) (own_levels new channel)
  pub first : ℕ
  pub begun : first < accepted_frames before
  pub not_ended : accepted_frames before < first + length_of latch settings.lengths
  pub run : FullRunMeeting (kind_of latch settings.lengths) (made_with settings channel)
      (channel_history channel (before ++ (change new ∷ between))) first
  pub off : ¬ T (latch_after d latch settings (before ++ (change new ∷ between)) channel)

-- A full run that meets its level ends with the latest of the frames, and yet the latch is off (Paper 9).
pub record Late (d : Implementation) (latch : Latch) : Type 0 where
  pub settings : Settings
  pub accepted : AcceptedSettings settings
  pub calls : List Call
  pub channel : ℕ
  pub is_channel : channel < 6
  pub first : ℕ
  pub ends : first + length_of latch settings.lengths ≡ accepted_frames calls
  pub run : FullRunMeeting (kind_of latch settings.lengths) (made_with settings channel)
      (channel_history channel calls) first
  pub off : ¬ T (latch_after d latch settings calls channel)

pub data Wrong (d : Implementation) : Type 0 where
  -- "a relay that never trips"
  never_trips : EachFrame d (λ r codes enable. (d.frame r codes enable).output ≡ 0) → Wrong d
  -- "or hands itself back unaltered"
  unaltered : EachFrame d (λ r codes enable. (d.frame r codes enable).relay ≡ r) → Wrong d
  -- "one fixed amplitude"
  fixed_amplitude : (m : ℕ)
      → EachFrame d (λ r codes enable. (d.frame r codes enable).amplitudes ≡ replicate 6 m) → Wrong d
  -- "one that fixes its latches at the first counted frame and afterwards only repeats them", whatever its resets do
  fixed_latches : FixedLatches d → Wrong d
  -- "restarting age at a reset"
  restarts_age : EachReset d (λ r mask. (d.reset r mask).relay.age ≡ 0) → Wrong d
  -- "growing a run over a disabled frame": a latch goes on in a frame in which its channel is not enabled
  grows_disabled : (g : GoesOn d) → ¬ T (bit_of g.enable g.channel && bit_of g.enable 6) → Wrong d
  -- m + 1 in place of each m: close to Z, and yet not "the six m"
  one_too_many : EachFrame d (λ r codes enable. (c : ℕ) → c < 6
      → get_or (d.frame r codes enable).amplitudes c 0 ≡ suc (amplitude_in r.slot codes r.channels c)) → Wrong d
  -- some settings that the documents accept are refused: all of them, or drop levels above 8,192, or lengths above 16
  refuses_settings : (settings : Settings) → AcceptedSettings settings → ¬ ((d.fresh settings).refusal ≡ 0) → Wrong d
  -- some reset that document 01 accepts is refused, as one that names channel 5
  refuses_reset : (settings : Settings) → AcceptedSettings settings → (past : List Call) (mask : ℕ)
      → refusal_of (reset mask) ≡ 0 → ¬ ((d.reset (relay_after d settings past) mask).refusal ≡ 0) → Wrong d
  -- restraint ignored, in some current
  ignores_restraint : (k : ℕ) → k < 3 → TripsBy d (k + 3) (over_pickup k) → Wrong d
  -- "≤" in place of "less than"
  not_strict : (k : ℕ) → k < 3 → TripsBy d (k + 3) (over_at_most k) → Wrong d
  -- the third harmonic in place of the second
  third_harmonic : (k : ℕ) → k < 3 → TripsBy d (k + 3) (over_by_third k) → Wrong d
  -- a restrained frame leaves the run as it was
  keeps_run : (k : ℕ) → k < 3 → KeepsRun d k → Wrong d
  -- the loss run restrained too
  restrains_loss : (k : ℕ) → k < 3 → RestrainsLoss d k → Wrong d
  -- current k takes the r of another current, l
  anothers_restraint : (k l : ℕ) → k < 3 → l < 3 → ¬ (l ≡ k) → TripsBy d (k + 3) (over_by l k) → Wrong d
  -- Paper 5: never settles again; a latch goes on in one of the 72 frames from a rise on
  never_settles : (g : GoesOn d) (t : ℕ) → Risen g t → number_of g < t + 72 → Wrong d
  -- settles at the fall: a frame with bit 6 off leaves age 1 or less, where the age was 1 or more
  settles_at_fall : (settings : Settings) → AcceptedSettings settings → (past : List Call) (codes : Codes) (enable : ℕ)
      → refusal_of (frame codes enable) ≡ 0 → ¬ T (bit_of enable 6) → 1 ≤ (relay_after d settings past).age
      → (d.frame (relay_after d settings past) codes.list enable).relay.age ≤ 1 → Wrong d
  -- finds age 72 in the rising frame, so that a run has that frame too: a latch goes on after the settling, but when
  -- fewer frames were counted since than its full run has
  counts_the_rise : (g : GoesOn d) (t : ℕ) → Risen g t → t + 72 ≤ number_of g
      → number_of g + 1 < t + 72 + full_length g → Wrong d
  -- forgets at a reset: an accepted reset alters what the relay remembers
  forgets_at_reset : (settings : Settings) → AcceptedSettings settings → (past : List Call) (mask : ℕ)
      → refusal_of (reset mask) ≡ 0
      → (let r : Relay = relay_after d settings past in
      ¬ ((d.reset r mask).relay.device_on ≡ r.device_on)) → Wrong d
  -- remembers a refused frame: it alters what the relay remembers
  remembers_refused : (settings : Settings) → AcceptedSettings settings → (past : List Call) (codes : Codes)
      (enable : ℕ) → ¬ (refusal_of (frame codes enable) ≡ 0)
      → (let r : Relay = relay_after d settings past in
      ¬ ((d.frame r codes.list enable).relay.device_on ≡ r.device_on)) → Wrong d
  -- Paper 6: a change clears a latch, or turns one on, as where it judges the latest frames by the new level
  moves_latch : (g : Changing d) (latch : Latch) (c : ℕ) → c < 6
      → ¬ (latch_in latch (changed_to g) c ≡ latch_in latch (given g) c) → Wrong d
  -- keeps a run across a changed level, always or where the latest window meets the new one: a latch goes on too early
  keeps_changed : (g : GoesOn d) → ChangedLately g → Wrong d
  -- clears a run whose own level is equal: the loss run where only the pickup moved, the over run where the drop did
  clears_run : (latch : Latch) → ClearsRun d latch → Wrong d
  -- judges an old run by the new level, frames among them that did not meet the level that they ran under; such a frame
  -- is all that is asked
  judges_old : (g : GoesOn d) (n : ℕ) → Unmet g n → Wrong d
  -- a change restarts age, or alters it in another way; or it alters what the relay remembers, so that it settles anew
  ages_anew : (g : Changing d) → ¬ ((changed_to g).age ≡ (given g).age) → Wrong d
  forgets_at_change : (g : Changing d) → ¬ ((changed_to g).device_on ≡ (given g).device_on) → Wrong d
  -- forgets the change at a reset: an accepted reset alters the settings, lengths among them
  forgets_change : (settings : Settings) → AcceptedSettings settings → (past : List Call) (mask : ℕ)
      → refusal_of (reset mask) ≡ 0
      → (let r : Relay = relay_after d settings past in
      ¬ ((d.reset r mask).relay.settings ≡ r.settings)) → Wrong d
  -- refuses some levels that the documents accept
  refuses_change : (g : Changing d) → ¬ ((d.change (given g) g.new).refusal ≡ 0) → Wrong d
  -- Paper 9: lengths exchanged: a latch goes on by a run of the other's length, where that is the shorter
  exchanges_lengths : (g : GoesOn d) → other_length g < full_length g → ByRunOf g (other_length g) → Wrong d
  -- a length cut at 16: a latch goes on by a run of 16 frames, where its length is greater
  cuts_length : (g : GoesOn d) → 16 < full_length g → ByRunOf g 16 → Wrong d
  -- a latch one frame late, or later: off after the frame that makes its run full
  trips_late : (latch : Latch) → Late d latch → Wrong d
  -- a latch one frame early, or earlier: by any run of fewer frames than its length
  trips_early : (g : GoesOn d) (len : ℕ) → len < full_length g → ByRunOf g len → Wrong d
  -- a run that goes on growing past its length
  grows_on : (settings : Settings) → AcceptedSettings settings → (calls : List Call) (latch : Latch) (c : ℕ) → c < 6
      → length_of latch settings.lengths < run_held latch (relay_after d settings calls) c → Wrong d
  -- lengths that are not "fixed when it is made": some call alters them, accepted or refused
  alters_lengths : (settings : Settings) → AcceptedSettings settings → (past : List Call) (call : Call)
      → (let r : Relay = relay_after d settings past in
      ¬ ((handed_back d r call).settings.lengths ≡ r.settings.lengths)) → Wrong d
