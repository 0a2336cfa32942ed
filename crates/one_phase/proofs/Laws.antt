-- Laws of Paper 14's words, said from another side than their definitions: what is left of two lists, by an inductive definition; which calls are
-- accepted, by the documents' own numbers; what is shown after each frame; and the law itself, for one frame of each list. Rests on the definitions,
-- and on what the history's proofs say of the relay's answers.
use Prim.Native.Nat.{ℕ, suc, ◌-◌, ◌≤◌, ◌<◌}
use native.Mathlib.Decide.{ℕ_discrete}
use native.Mathlib.Omega.{arith}
use mathlib.Core.Path.{◌≡◌, refl, sym, ap, ap₂, ◌∙◌}
use mathlib.Core.Bool.{Bool, true, false, cond}
use mathlib.Core.List.{List, [], ◌∷◌, ◌++◌, map}
use mathlib.Core.Logic.{◌↔◌}
use lib.Dec.{leb}
use lib.ListN.{length, get_or}
use lib.Seq.{get_or-append_seam}
use borrow.Author.Tests.{le-leb, leb-true}
use Rattle.frames.specs.Bits.{bit_of}
use Rattle.relay.specs.declared.ChannelLevels.{ChannelLevels}
use Rattle.relay.specs.declared.Levels.{Levels}
use Rattle.relay.specs.declared.Settings.{Settings}
use Rattle.relay.specs.declared.Relay.{Relay}
use Rattle.relay.specs.declared.FrameAnswer.{FrameAnswer}
use Rattle.relay.specs.Sound.{sound_of}
use Rattle.relay.specs.Relay.{channel_at, accepted_frame, accepted_reset, accepted_change}
use Rattle.relay.proofs.Changes.{change_sound}
use Rattle.relay.proofs.Laws.{frame_sound, reset_sound}
use Rattle.history.specs.Calls.{Codes, Call, frame, reset, change, refusal_of, Implementation, the_relay, handed_back, after}
use Rattle.history.specs.History.{own_levels}
use Rattle.history.proofs.Accepted.{frame_codes, frame_accepted, frame_refused, reset_accepted, reset_refused}
use Rattle.history.proofs.Accepted.{change_refusal_lem, change_accepted, change_refused}
use Rattle.one_phase.specs.OnePhase.{answer_of, answers_of, EachAccepted, struck, Left, frame_left, reset_left, change_left, left_of, left}
use Rattle.one_phase.specs.OnePhase.{Shown, shown_in, shown, Pair, BothAccepted, OnePhase}

-- ---- what is left, by an inductive definition: alike calls stand side by side, and resets that do not name the channel are passed over

-- "its own levels": its drop and, for a current (3, 4, 5), its pickup and r
pub record SameLevels (c : ℕ) (these those : Levels) : Type 0 where
  pub drop : get_or these.drop c 0 ≡ get_or those.drop c 0
  pub pickup : 3 ≤ c → get_or these.pickup (c - 3) 0 ≡ get_or those.pickup (c - 3) 0
  pub restraint : 3 ≤ c → get_or these.restraint (c - 3) 0 ≡ get_or those.restraint (c - 3) 0

pub data Alike (c : ℕ) : List Call → List Call → Type 0 where
  nothing : Alike c [] []
  frames : (f g : Codes) (x y : ℕ) {these those : List Call} → get_or f.list c 0 ≡ get_or g.list c 0 → bit_of x c ≡ bit_of y c → bit_of x 6 ≡ bit_of y 6
      → Alike c these those → Alike c (frame f x ∷ these) (frame g y ∷ those)
  changes : (a b : Levels) {these those : List Call} → SameLevels c a b → Alike c these those → Alike c (change a ∷ these) (change b ∷ those)
  resets : (a b : ℕ) {these those : List Call} → bit_of a c ≡ true → bit_of b c ≡ true → Alike c these those
      → Alike c (reset a ∷ these) (reset b ∷ those)
  passed : (mask : ℕ) {these those : List Call} → bit_of mask c ≡ false → Alike c these those → Alike c (reset mask ∷ these) those
  passed_there : (mask : ℕ) {these those : List Call} → bit_of mask c ≡ false → Alike c these those → Alike c these (reset mask ∷ those)

-- the parts of what is left, and its kind
abbrev kind_of : Left → ℕ
kind_of (frame_left code enable_bit bit6) = 0
kind_of reset_left = 1
kind_of (change_left own) = 2

abbrev code_in : Left → ℕ
code_in (frame_left code enable_bit bit6) = code
code_in reset_left = 0
code_in (change_left own) = 0

abbrev bit_in : Left → Bool
bit_in (frame_left code enable_bit bit6) = enable_bit
bit_in reset_left = false
bit_in (change_left own) = false

abbrev bit6_in : Left → Bool
bit6_in (frame_left code enable_bit bit6) = bit6
bit6_in reset_left = false
bit6_in (change_left own) = false

abbrev own_in : Levels → ℕ → Left → ChannelLevels
own_in l c (frame_left code enable_bit bit6) = own_levels l c
own_in l c reset_left = own_levels l c
own_in l c (change_left own) = own

-- the first of what is left, and the rest
abbrev first_of : List Left → Left
first_of [] = reset_left
first_of (x ∷ more) = x

abbrev rest_of : List Left → List Left
rest_of [] = []
rest_of (x ∷ more) = more

module _ (c : ℕ) where
  -- own levels by their parts
  own_same : (a b : Levels) → SameLevels c a b → own_levels a c ≡ own_levels b c
  own_same a b s = by (leb 3 c) refl
    where
      by : (k : Bool) → leb 3 c ≡ k → own_levels a c ≡ own_levels b c
      by true q = rw (q, s.drop, s.pickup (leb-true 3 c q), s.restraint (leb-true 3 c q))
      by false q = rw (q, s.drop)

  same_own : (a b : Levels) → own_levels a c ≡ own_levels b c → SameLevels c a b
  same_own a b e =
      record {
        drop = ap (λ (l : ChannelLevels). l.drop) e;
        pickup = λ h. rw (le-leb 3 c h) at (ap (λ (l : ChannelLevels). l.pickup) e);
        restraint = λ h. rw (le-leb 3 c h) at (ap (λ (l : ChannelLevels). l.restraint) e);
      }

  -- of alike lists the same is left
  alike_left : {these those : List Call} → Alike c these those → left c these ≡ left c those
  alike_left nothing = refl
  alike_left (frames f g x y p q s rest) = rw (p, q, s, alike_left rest)
  alike_left (changes a b s rest) = rw (own_same a b s, alike_left rest)
  alike_left (resets a b p q rest) = rw (p, q, alike_left rest)
  alike_left (passed mask p rest) = rw p (alike_left rest)
  alike_left (passed_there mask p rest) = rw p (alike_left rest)

  -- and lists of which the same is left are alike: first a call that is not struck, against each that can stand opposite
  abbrev Stays : Call → Type 0
  Stays (frame codes enable) = Unit {0}
  Stays (reset mask) = bit_of mask c ≡ true
  Stays (change new) = Unit {0}

  side_by_side : (x y : Call) → Stays x → Stays y → left_of c x ≡ left_of c y → {these those : List Call} → Alike c these those
      → Alike c (x ∷ these) (y ∷ those)
  side_by_side (frame f x) (frame g y) u v e rest = frames f g x y (ap code_in e) (ap bit_in e) (ap bit6_in e) rest
  side_by_side (frame f x) (reset b) u v e rest = absurd (omega (arith, ap kind_of e))
  side_by_side (frame f x) (change b) u v e rest = absurd (omega (arith, ap kind_of e))
  side_by_side (reset a) (frame g y) u v e rest = absurd (omega (arith, ap kind_of e))
  side_by_side (reset a) (reset b) u v e rest = resets a b u v rest
  side_by_side (reset a) (change b) u v e rest = absurd (omega (arith, ap kind_of e))
  side_by_side (change a) (frame g y) u v e rest = absurd (omega (arith, ap kind_of e))
  side_by_side (change a) (reset b) u v e rest = absurd (omega (arith, ap kind_of e))
  side_by_side (change a) (change b) u v e rest = changes a b (same_own a b (ap (own_in a c) e)) rest

  opposite : (x : Call) → Stays x → (these : List Call) → ((those : List Call) → left c these ≡ left c those → Alike c these those)
      → (those : List Call) → left_of c x ∷ left c these ≡ left c those → Alike c (x ∷ these) those
  opposite x u these rest [] e = absurd (omega (arith, ap length e))
  opposite x u these rest (frame g y ∷ those) e = side_by_side x (frame g y) u tt (ap first_of e) (rest those (ap rest_of e))
  opposite x u these rest (change b ∷ those) e = side_by_side x (change b) u tt (ap first_of e) (rest those (ap rest_of e))
  opposite x u these rest (reset b ∷ those) e = by (bit_of b c) refl (λ q. opposite x u these rest those q) e
    where
      by : (k : Bool) → bit_of b c ≡ k → (left_of c x ∷ left c these ≡ left c those → Alike c (x ∷ these) those)
          → left_of c x ∷ left c these ≡ map (left_of c) (cond k (reset b ∷ struck c those) (struck c those)) → Alike c (x ∷ these) (reset b ∷ those)
      by true q on e = side_by_side x (reset b) u q (ap first_of e) (rest those (ap rest_of e))
      by false q on e = passed_there b q (on e)

  left_alike : (these those : List Call) → left c these ≡ left c those → Alike c these those
  left_alike [] [] e = nothing
  left_alike [] (frame g y ∷ those) e = absurd (omega (arith, ap length e))
  left_alike [] (change b ∷ those) e = absurd (omega (arith, ap length e))
  left_alike [] (reset b ∷ those) e = by (bit_of b c) refl (λ q. left_alike [] those q) e
    where
      by : (k : Bool) → bit_of b c ≡ k → ([] ≡ left c those → Alike c [] those)
          → [] ≡ map (left_of c) (cond k (reset b ∷ struck c those) (struck c those)) → Alike c [] (reset b ∷ those)
      by true q on e = absurd (omega (arith, ap length e))
      by false q on e = passed_there b q (on e)
  left_alike (frame f x ∷ these) those e = opposite (frame f x) tt these (left_alike these) those e
  left_alike (change a ∷ these) those e = opposite (change a) tt these (left_alike these) those e
  left_alike (reset a ∷ these) those e = by (bit_of a c) refl (left_alike these) e
    where
      by : (k : Bool) → bit_of a c ≡ k → ((those : List Call) → left c these ≡ left c those → Alike c these those)
          → map (left_of c) (cond k (reset a ∷ struck c these) (struck c these)) ≡ left c those → Alike c (reset a ∷ these) those
      by true q on e = opposite (reset a) q these on those e
      by false q on e = passed a q (on those e)

  -- so the two ways of saying it are one
  pub alike_is : (these those : List Call) → Alike c these those ↔ (left c these ≡ left c those)
  alike_is these those = (alike_left, left_alike these those)

-- ---- which calls are accepted: on a sound relay each answers the number that the documents give it, refused ones among them

-- one call, and the relay that it hands back
answer_is : (r : Relay) → sound_of r ≡ true → (call : Call) → Dec (refusal_of call ≡ 0)
    → (answer_of the_relay r call ≡ refusal_of call) × (sound_of (handed_back the_relay r call) ≡ true)
unfolding accepted_frame accepted_reset accepted_change
answer_is r s (frame codes enable) (yes e) =
    rw (answer_of, handed_back, frame_accepted r codes.list enable s e)
    (sym e, frame_sound r codes.list enable s (frame_codes codes.list enable e))
answer_is r s (frame codes enable) (no e) = rw (answer_of, handed_back, frame_refused r codes.list enable s e) (refl, s)
answer_is r s (reset mask) (yes e) = rw (answer_of, handed_back, reset_accepted r mask s e) (sym e, reset_sound r mask s)
answer_is r s (reset mask) (no e) = rw (answer_of, handed_back, reset_refused r mask s e) (refl, s)
answer_is r s (change new) (yes e) = rw (answer_of, handed_back, change_accepted r new s e) (sym e, change_sound r new s (change_refusal_lem new ∙ e))
answer_is r s (change new) (no e) = rw (answer_of, handed_back, change_refused r new s e) (refl, s)

pub answers_are : (r : Relay) → sound_of r ≡ true → (calls : List Call) → answers_of the_relay r calls ≡ map refusal_of calls
answers_are r s [] = refl
answers_are r s (call ∷ calls) =
    let one = answer_is r s call (ℕ_discrete (refusal_of call) 0) in
    ap₂ (λ (n : ℕ) (more : List ℕ). n ∷ more) one.0 (answers_are (handed_back the_relay r call) one.1 calls)

-- ---- and of whatever answers the calls: each of them answers 0 on the relay that those before it left

abbrev pub Taken : Implementation → Relay → Call → Type 0
Taken d r (frame codes enable) = (d.frame r codes.list enable).refusal ≡ 0
Taken d r (reset mask) = (d.reset r mask).refusal ≡ 0
Taken d r (change new) = (d.change r new).refusal ≡ 0

abbrev pub EachTaken : Implementation → Relay → List Call → Type 0
EachTaken d r calls = (past : List Call) (call : Call) (later : List Call) → calls ≡ past ++ (call ∷ later) → Taken d (after d r past) call

taken_answer : (d : Implementation) (r : Relay) (call : Call) → Taken d r call → answer_of d r call ≡ 0
taken_answer d r (frame codes enable) e = e
taken_answer d r (reset mask) e = e
taken_answer d r (change new) e = e

taken_accepted : (d : Implementation) (calls : List Call) (r : Relay) → EachTaken d r calls → EachAccepted d r calls
taken_accepted d [] r each = refl
taken_accepted d (call ∷ calls) r each =
    ap₂ (λ (n : ℕ) (more : List ℕ). n ∷ more) (taken_answer d r call (each [] call calls refl))
    (taken_accepted d calls (handed_back d r call)
    (λ past x later e. each (call ∷ past) x later (ap (λ (l : List Call). call ∷ l) e)))

-- ---- what is shown: as much as there are frames, and of each frame what it answers on the relay that the calls before it left

abbrev pub frames_in : List Call → ℕ
frames_in [] = 0
frames_in (frame codes enable ∷ calls) = suc (frames_in calls)
frames_in (reset mask ∷ calls) = frames_in calls
frames_in (change new ∷ calls) = frames_in calls

module _ (d : Implementation) (c : ℕ) where
  pub length_shown : (calls : List Call) (r : Relay) → length (shown d c r calls) ≡ frames_in calls
  length_shown [] r = refl
  length_shown (frame codes enable ∷ calls) r = ap suc (length_shown calls (d.frame r codes.list enable).relay)
  length_shown (reset mask ∷ calls) r = length_shown calls (d.reset r mask).relay
  length_shown (change new ∷ calls) r = length_shown calls (d.change r new).relay

  -- the frame after the calls `past`
  shown_frame : (past : List Call) (codes : Codes) (enable : ℕ) (rest : List Call) (r : Relay)
      → (let a : FrameAnswer = d.frame (after d r past) codes.list enable in
      shown d c r (past ++ (frame codes enable ∷ rest)) ≡ shown d c r past ++ (shown_in c a ∷ shown d c a.relay rest))
  shown_frame [] codes enable rest r = refl
  shown_frame (frame f x ∷ past) codes enable rest r =
      ap (λ (more : List Shown). shown_in c (d.frame r f.list x) ∷ more) (shown_frame past codes enable rest (d.frame r f.list x).relay)
  shown_frame (reset mask ∷ past) codes enable rest r = shown_frame past codes enable rest (d.reset r mask).relay
  shown_frame (change new ∷ past) codes enable rest r = shown_frame past codes enable rest (d.change r new).relay

  pub shown_at_lem : (past : List Call) (codes : Codes) (enable : ℕ) (rest : List Call) (r : Relay) (past_end : Shown)
      → get_or (shown d c r (past ++ (frame codes enable ∷ rest))) (frames_in past) past_end ≡ shown_in c (d.frame (after d r past) codes.list enable)
  shown_at_lem past codes enable rest r past_end =
      let a : FrameAnswer = d.frame (after d r past) codes.list enable in
      ap₂ (λ (l : List Shown) (n : ℕ). get_or l n past_end) (shown_frame past codes enable rest r) (sym (length_shown past r))
      ∙ get_or-append_seam (shown d c r past) (shown_in c a) (shown d c a.relay rest) past_end

-- ---- the law from the other side: what `OnePhase` gives for one frame of each list, premises and conclusions written out. A premise more in it, or
-- something less that it shows, would be missed here.

module _ (d : Implementation) (c : ℕ) (one other : Settings) (past later past' later' : List Call) (f g : Codes) (x y : ℕ) where
  abbrev these : List Call
  these = past ++ (frame f x ∷ later)

  abbrev those : List Call
  those = past' ++ (frame g y ∷ later')

  -- what the two frames answer
  abbrev here : FrameAnswer
  here = d.frame (after d (d.fresh one).relay past) f.list x

  abbrev there : FrameAnswer
  there = d.frame (after d (d.fresh other).relay past') g.list y

  pub record SameFrame : Type 0 where
    pub amplitude : get_or here.amplitudes c 0 ≡ get_or there.amplitudes c 0
    pub loss_run : (channel_at here.relay c).loss_run ≡ (channel_at there.relay c).loss_run
    pub over_run : (channel_at here.relay c).over_run ≡ (channel_at there.relay c).over_run
    pub loss_latch : (channel_at here.relay c).loss_latch ≡ (channel_at there.relay c).loss_latch
    pub over_latch : (channel_at here.relay c).over_latch ≡ (channel_at there.relay c).over_latch
    pub output : bit_of here.output c ≡ bit_of there.output c

  -- "after each frame": a frame of the one list, and the frame of the other with as many frames before it
  pub at_frame : OnePhase d → c < 6 → SameLevels c one.levels other.levels → one.lengths ≡ other.lengths
      → EachTaken d (d.fresh one).relay these → EachTaken d (d.fresh other).relay those → Alike c these those → frames_in past ≡ frames_in past'
      → SameFrame
  at_frame law h levels lengths taken taken' alike number =
      record {
        amplitude = ap (λ (s : Shown). s.amplitude) same;
        loss_run = ap (λ (s : Shown). s.loss_run) same;
        over_run = ap (λ (s : Shown). s.over_run) same;
        loss_latch = ap (λ (s : Shown). s.loss_latch) same;
        over_latch = ap (λ (s : Shown). s.over_latch) same;
        output = ap (λ (s : Shown). s.output) same;
      }
    where
      pair : Pair c
      pair =
          record {
            one = one;
            other = other;
            own_alike = own_same c one.levels other.levels levels;
            lengths_same = lengths;
            these = these;
            those = those;
            left_same = alike_left c alike;
          }

      accepted : BothAccepted d c pair
      accepted = (taken_accepted d these (d.fresh one).relay taken, taken_accepted d those (d.fresh other).relay taken')

      same : shown_in c here ≡ shown_in c there
      same =
          sym (shown_at_lem d c past f x later (d.fresh one).relay (shown_in c here))
          ∙ ap₂ (λ (l : List Shown) (n : ℕ). get_or l n (shown_in c here)) (law c h pair accepted) number
          ∙ shown_at_lem d c past' g y later' (d.fresh other).relay (shown_in c here)
