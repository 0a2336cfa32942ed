-- Lists of calls on a relay, refused ones among them, each given the relay handed back before it (document 01, demand
-- 3; document 02, Paper 6). Which calls are accepted is said here anew, with 1023, 10,700, 100 and the refusals 3, 4,
-- 5, 1 and 20 as the documents' own numbers: by a name that the relay goes by too, a limit wrong in definition and code
-- would be wrong here alike, and the demand would be met. Rests on the relay's four calls.
use Rattle.std.specs.Prelude.{ℕ, suc, ◌≡◌, Bool, false, ◌&&◌, ◌||◌, cond, List, [], ◌∷◌, leb, eqb, length, get_or}
use Rattle.lists.specs.Each.{every}
use Rattle.frames.specs.Bits.{bit_of}
use Rattle.relay.specs.declared.Levels.{Levels}
use Rattle.relay.specs.declared.Settings.{Settings}
use Rattle.relay.specs.declared.Relay.{Relay}
use Rattle.relay.specs.declared.RelayAnswer.{RelayAnswer}
use Rattle.relay.specs.declared.FrameAnswer.{FrameAnswer}
use Rattle.relay.specs.Relay.{fresh_of, frame_of, reset_of, change_of}

-- "The frame handed in is six codes, one for each channel in order"
pub record Codes : Type 0 where
  pub list : List ℕ
  pub six : length list ≡ 6

-- "The list holds frames and resets, refused ones among them"; "The history then includes changes of levels" (Paper 6)
pub data Call : Type 0 where
  frame : Codes → ℕ → Call  -- six codes and an enable byte
  reset : ℕ → Call  -- a mask
  change : Levels → Call  -- new levels

-- "codes, enable byte or mask alone decide", and of a change its levels: a call's refusal, 0 for an accepted one

-- code c is at most 1023
abbrev pub code_allowed : List ℕ → ℕ → Bool
code_allowed codes c = leb (get_or codes c 0) 1023

-- "a code above 1023" is 3, then "enable bit 7 is 1" is 4
unfoldable pub frame_refused_by : List ℕ → ℕ → ℕ
frame_refused_by codes enable = cond (every 6 (code_allowed codes)) (cond (bit_of enable 7) 4 0) 3

-- "reset mask bit 6 or 7 is 1" is 5
unfoldable pub reset_refused_by : ℕ → ℕ
reset_refused_by mask = cond (bit_of mask 6 || bit_of mask 7) 5 0

-- level k is 1 to 10,700; restraint k is at most 100
abbrev pub level_allowed : List ℕ → ℕ → Bool
level_allowed levels k = leb 1 (get_or levels k 0) && leb (get_or levels k 0) 10700

abbrev pub restraint_allowed : List ℕ → ℕ → Bool
restraint_allowed restraint k = leb (get_or restraint k 0) 100

-- "a setting outside 1 to 10,700" is 1, of six drops and three pickups; then "r above 100" is 20, of three restraints
unfoldable pub change_refused_by : Levels → ℕ
change_refused_by new =
    cond (every 6 (level_allowed new.drop) && every 3 (level_allowed new.pickup))
    (cond (every 3 (restraint_allowed new.restraint)) 0 20)
    1

abbrev pub refusal_of : Call → ℕ
refusal_of (frame codes enable) = frame_refused_by codes.list enable
refusal_of (reset mask) = reset_refused_by mask
refusal_of (change new) = change_refused_by new

abbrev pub is_accepted : Call → Bool
is_accepted call = eqb (refusal_of call) 0

-- the number of accepted frames
abbrev pub accepted_frames : List Call → ℕ
accepted_frames [] = 0
accepted_frames (frame codes enable ∷ calls) =
    cond (is_accepted (frame codes enable)) (suc (accepted_frames calls)) (accepted_frames calls)
accepted_frames (reset mask ∷ calls) = accepted_frames calls
accepted_frames (change new ∷ calls) = accepted_frames calls

-- bit 6 of each accepted frame, in order; and of frame n
abbrev pub device_bits : List Call → List Bool
device_bits [] = []
device_bits (frame codes enable ∷ calls) =
    cond (is_accepted (frame codes enable)) (bit_of enable 6 ∷ device_bits calls) (device_bits calls)
device_bits (reset mask ∷ calls) = device_bits calls
device_bits (change new ∷ calls) = device_bits calls

abbrev pub device_bit : List Call → ℕ → Bool
device_bit calls n = get_or (device_bits calls) n false

-- The levels in force after a list of calls: those of the latest accepted change in it, or those that the relay was
-- made with.
abbrev pub in_force : Levels → List Call → Levels
in_force made [] = made
in_force made (frame codes enable ∷ calls) = in_force made calls
in_force made (reset mask ∷ calls) = in_force made calls
in_force made (change new ∷ calls) = in_force (cond (is_accepted (change new)) new made) calls

-- What answers the four calls. Demand 3 is stated for any implementation, so that a wrong one can be shown not to meet
-- it.
pub record Implementation : Type 0 where
  pub fresh : Settings → RelayAnswer
  pub frame : Relay → List ℕ → ℕ → FrameAnswer
  pub reset : Relay → ℕ → RelayAnswer
  pub change : Relay → Levels → RelayAnswer

-- ours: the very functions that the contracts of `fresh`, `frame`, `reset` and `change` name
abbrev pub the_relay : Implementation
the_relay = record { fresh = fresh_of; frame = frame_of; reset = reset_of; change = change_of }

-- the relay that one call hands back, and the one after a list of calls
abbrev pub handed_back : Implementation → Relay → Call → Relay
handed_back d r (frame codes enable) = (d.frame r codes.list enable).relay
handed_back d r (reset mask) = (d.reset r mask).relay
handed_back d r (change new) = (d.change r new).relay

abbrev pub after : Implementation → Relay → List Call → Relay
after d r [] = r
after d r (call ∷ calls) = after d (handed_back d r call) calls
