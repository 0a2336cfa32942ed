-- Calls of the definitions, computed. For each channel what is left of a list, number by number, and of another list that has nothing but that in
-- common with it; what calls answer, refused ones among them; what a channel shows after each frame of two lists in which the others trip; and that
-- each thing that the law asks of two lists is needed. They do not make a wrong definition impossible. Rests on the definitions alone.
use Prim.Native.Nat.{ℕ, zero, suc, ◌+◌, ◌-◌, ◌%◌, ◌^◌}
use mathlib.Core.Path.{◌≡◌, refl}
use mathlib.Core.Bool.{Bool, true, false, ◌||◌, not, cond}
use mathlib.Core.List.{List, [], ◌∷◌, ◌++◌}
use lib.Dec.{leb, eqb}
use lib.ListN.{get_or, set, replicate}
use Rattle.frames.specs.Bits.{bit_of, bits_below}
use Rattle.relay.specs.declared.Levels.{Levels}
use Rattle.relay.specs.declared.Settings.{Settings}
use Rattle.relay.specs.Relay.{fresh_of}
use Rattle.relay.proofs.Examples.{settings_of, equal_levels}
use Rattle.history.specs.Calls.{Codes, Call, frame, reset, change, the_relay}
use Rattle.history.proofs.Computed.{computed}
use Rattle.history.proofs.HistoryCalls.{own, ones, restrained, frames512, quiet}
use Rattle.history.proofs.Restraint.{cycle}
use Rattle.one_phase.specs.OnePhase.{answers_of, EachAccepted, Left, frame_left, reset_left, change_left, left, Shown, shown, Pair, BothAccepted}

-- ---- what is left

-- six numbers of one list, but that of channel c of another
abbrev mixed : ℕ → List ℕ → List ℕ → List ℕ
mixed c these those = set those c (get_or these c 0)

abbrev six : List ℕ → Codes
six codes =
    record {
      list = get_or codes 0 0 ∷ get_or codes 1 0 ∷ get_or codes 2 0 ∷ get_or codes 3 0 ∷ get_or codes 4 0 ∷ get_or codes 5 0 ∷ [];
      six = refl;
    }

abbrev codes : Codes
codes = six (501 ∷ 502 ∷ 503 ∷ 504 ∷ 505 ∷ 506 ∷ [])

abbrev other_codes : ℕ → Codes
other_codes c = six (mixed c codes.list (601 ∷ 602 ∷ 603 ∷ 604 ∷ 605 ∷ 606 ∷ []))

-- every bit below 6 but that of channel c turned
abbrev turned : ℕ → ℕ → ℕ
turned c enable = bits_below 7 (λ k. cond (eqb k c || eqb k 6) (bit_of enable k) (not (bit_of enable k)))

abbrev levels : Levels
levels = record { drop = 11 ∷ 12 ∷ 13 ∷ 14 ∷ 15 ∷ 16 ∷ []; pickup = 24 ∷ 25 ∷ 26 ∷ []; restraint = 34 ∷ 35 ∷ 36 ∷ [] }

-- those of channel c, else all unlike
abbrev other_levels : ℕ → Levels
other_levels c =
    record {
      drop = mixed c levels.drop (41 ∷ 42 ∷ 43 ∷ 44 ∷ 45 ∷ 46 ∷ []);
      pickup = cond (leb 3 c) (mixed (c - 3) levels.pickup (54 ∷ 55 ∷ 56 ∷ [])) (54 ∷ 55 ∷ 56 ∷ []);
      restraint = cond (leb 3 c) (mixed (c - 3) levels.restraint (64 ∷ 65 ∷ 66 ∷ [])) (64 ∷ 65 ∷ 66 ∷ []);
    }

-- enable bits 0, 2, 4 and 6; a reset of all; new levels; enable bits 1, 3 and 5
abbrev these : List Call
these = frame codes 0x55 ∷ reset 0x3F ∷ change levels ∷ frame codes 0x2A ∷ []

-- the same for channel c, with resets of all but it between
abbrev those : ℕ → List Call
those c =
    reset (63 - 2 ^ c) ∷ frame (other_codes c) (turned c 0x55)
    ∷ reset (63 - 2 ^ c) ∷ reset (2 ^ c) ∷ reset (63 - 2 ^ c) ∷ change (other_levels c)
    ∷ reset 0 ∷ frame (other_codes c) (turned c 0x2A) ∷ reset (63 - 2 ^ c) ∷ []

-- of both
abbrev left_for : ℕ → Left → List Left
left_for c new =
    frame_left (501 + c) (eqb (c % 2) 0) true ∷ reset_left ∷ new ∷ frame_left (501 + c) (eqb (c % 2) 1) false ∷ []

abbrev LeftIs : ℕ → Left → Type 0
LeftIs c new = (left c these ≡ left_for c new) × (left c (those c) ≡ left_for c new)

-- ---- what is answered

abbrev made : Settings
made = settings_of levels

-- refused: code 1024, enable bit 7, mask bit 6, a drop level of 0, an r of 101
abbrev refused_ones : List Call
refused_ones =
    frame (six (0 ∷ 0 ∷ 0 ∷ 0 ∷ 0 ∷ 1024 ∷ [])) 0x80 ∷ frame codes 0xFF ∷ reset 0x40
    ∷ change (record { drop = 0 ∷ 1 ∷ 1 ∷ 1 ∷ 1 ∷ 1 ∷ []; pickup = replicate 3 1; restraint = replicate 3 101 })
    ∷ change (record { drop = replicate 6 1; pickup = replicate 3 1; restraint = replicate 3 101 })
    ∷ frame codes 0x7F ∷ []

-- ---- what is shown

-- channel 4: code 612 in slot 0, else 512, so that m = 400; a drop level of 401 and a pickup level of 400, lengths 3 and 2
abbrev wire : ℕ → ℕ
wire n = cond (eqb (n % 8) 0) 612 512

abbrev quick : Levels → Settings
quick l = record { levels = l; lengths = record { loss = 3; over = 2 } }

-- the others lie still under drop levels of 1
abbrev still_levels : ℕ → Levels
still_levels pickup = record { drop = set (replicate 6 1) 4 401; pickup = 10700 ∷ pickup ∷ 10700 ∷ []; restraint = replicate 3 0 }

abbrev still_frame : ℕ → ℕ → Call
still_frame enable n = frame (six (512 ∷ 512 ∷ 512 ∷ 512 ∷ wire n ∷ 512 ∷ [])) enable

-- voltage 2 and the currents have the same wire, over drop levels of 2 and pickup levels of 1 and 2
abbrev wild_levels : ℕ → Levels
wild_levels pickup = record { drop = set (replicate 6 2) 4 401; pickup = 1 ∷ pickup ∷ 2 ∷ []; restraint = replicate 3 0 }

abbrev wild_frame : ℕ → ℕ → Call
wild_frame enable n = frame (six (612 ∷ 511 ∷ wire n ∷ wire n ∷ wire n ∷ wire n ∷ [])) enable

abbrev numbered : (ℕ → Call) → ℕ → ℕ → List Call
numbered at zero n = []
numbered at (suc more) n = at n ∷ numbered at more (suc n)

-- Frames 0 to 74; one with enable bit 4 off; frame 76; a reset of it; frame 77; its pickup level raised to 401; frames 78 and 79.
abbrev still_list : List Call
still_list =
    numbered (still_frame 0x7F) 75 0 ++ (still_frame 0x6F 75 ∷ still_frame 0x7F 76 ∷ reset 0x3F ∷ still_frame 0x7F 77
    ∷ change (still_levels 401) ∷ reset 0x2F ∷ still_frame 0x7F 78 ∷ still_frame 0x7F 79 ∷ [])

abbrev wild_list : List Call
wild_list =
    reset 0x2F ∷ (numbered (wild_frame 0x7F) 75 0 ++ (wild_frame 0x6F 75 ∷ reset 0x08 ∷ wild_frame 0x5F 76 ∷ reset 0x10 ∷ wild_frame 0x7F 77
    ∷ change (wild_levels 401) ∷ wild_frame 0x50 78 ∷ wild_frame 0x7F 79 ∷ []))

abbrev at : ℕ → ℕ → ℕ → Bool → Bool → Bool → Shown
at amplitude loss over loss_on over_on output =
    record {
      amplitude = amplitude;
      loss_run = loss;
      over_run = over;
      loss_latch = loss_on;
      over_latch = over_on;
      output = output;
    }

-- channel 4 in both
abbrev shown4 : List Shown
shown4 =
    replicate 72 (at 400 0 0 false false false)
    ++ (at 400 1 1 false false false ∷ at 400 2 2 false true true ∷ at 400 3 2 true true true  -- 72 to 74
    ∷ at 400 0 0 true true false ∷ at 400 1 1 true true true  -- 75 and 76
    ∷ at 400 1 1 false false false  -- 77, after the reset
    ∷ at 400 2 0 false false false ∷ at 400 3 0 true false true ∷ [])  -- 78 and 79, after the change

abbrev still_and_wild : Pair 4
still_and_wild =
    record {
      one = quick (still_levels 400);
      other = quick (wild_levels 400);
      own_alike = refl;
      lengths_same = refl;
      these = still_list;
      those = wild_list;
      left_same = refl;
    }

-- what channel c shows after frame n; frame 72 is the first counted one
abbrev shown_at : ℕ → Settings → List Call → ℕ → Shown
shown_at c s calls n = get_or (shown the_relay c (fresh_of s).relay calls) n (at 0 0 0 false false false)

-- ---- what is asked of the two lists is needed: alike in all else, they do not show the same of channel 4

abbrev loss_run_at : Settings → List Call → ℕ → ℕ
loss_run_at s calls n = (shown_at 4 s calls n).loss_run

abbrev over_run_at : Settings → List Call → ℕ → ℕ
over_run_at s calls n = (shown_at 4 s calls n).over_run

-- m = 400 from frame 0 on
abbrev pub wave : List Call
wave = cycle (612 ∷ replicate 7 512) 73

-- every level 1, with lengths of their own
abbrev ones_of : ℕ → ℕ → Settings
ones_of loss over = record { levels = ones.levels; lengths = record { loss = loss; over = over } }

-- after the first counted frame of the wave new levels, with this drop level for channel 4 and else 1, and its next frame
abbrev drop_changed : ℕ → List Call
drop_changed drop =
    wave ++ (change (record { drop = set (replicate 6 1) 4 drop; pickup = replicate 3 1; restraint = replicate 3 0 }) ∷ quiet 1)

-- a frame with code 612 on channel 4 and this one on channel 0
abbrev hit : ℕ → List Call
hit code = frame (six (code ∷ 512 ∷ 512 ∷ 512 ∷ 612 ∷ 512 ∷ [])) 127 ∷ []

pub record Needed : Type 0 where
  pub code : (loss_run_at ones (quiet 73) 72 ≡ 1) × (loss_run_at ones wave 72 ≡ 0)
  pub enable_bit : loss_run_at ones (frames512 0x6F 73) 72 ≡ 0
  pub bit6 : loss_run_at ones (frames512 0x3F 73) 72 ≡ 0
  pub drop : (loss_run_at (equal_levels 401 401) wave 72 ≡ 1) × (loss_run_at (equal_levels 400 401) wave 72 ≡ 0)
  pub pickup : (over_run_at (equal_levels 1 400) wave 72 ≡ 1) × (over_run_at (equal_levels 1 401) wave 72 ≡ 0)
  pub restraint : (over_run_at (restrained (0 ∷ 0 ∷ 0 ∷ [])) wave 72 ≡ 1) × (over_run_at (restrained (0 ∷ 1 ∷ 0 ∷ [])) wave 72 ≡ 0)
  pub loss_length : ((shown_at 4 (ones_of 1 4) (quiet 73) 72).loss_latch ≡ true) × ((shown_at 4 (ones_of 2 4) (quiet 73) 72).loss_latch ≡ false)
  pub over_length : ((shown_at 4 (ones_of 16 1) wave 72).over_latch ≡ true) × ((shown_at 4 (ones_of 16 2) wave 72).over_latch ≡ false)
  pub new_level : (loss_run_at ones (drop_changed 401) 73 ≡ 1) × (loss_run_at ones (drop_changed 400) 73 ≡ 0)
  -- a frame that is refused for another channel's code shows zeros
  pub accepted : ((shown_at 4 ones (hit 612) 0).amplitude ≡ 400) × ((shown_at 4 ones (hit 1024) 0).amplitude ≡ 0)
  -- a reset that names it, in one list alone, or at another place
  pub named_reset : (loss_run_at ones (quiet 74) 73 ≡ 2) × (loss_run_at ones (quiet 73 ++ (reset 0x10 ∷ quiet 1)) 73 ≡ 1)
  pub order : loss_run_at ones (quiet 72 ++ (reset 0x10 ∷ quiet 2)) 73 ≡ 2

pub needed : Needed
unfolding computed
needed =
    record {
      code = (refl, refl);
      enable_bit = refl;
      bit6 = refl;
      drop = (refl, refl);
      pickup = (refl, refl);
      restraint = (refl, refl);
      loss_length = (refl, refl);
      over_length = (refl, refl);
      new_level = (refl, refl);
      accepted = (refl, refl);
      named_reset = (refl, refl);
      order = refl;
    }

pub record Calls : Type 0 where
  -- a voltage's own level is its drop, a current's its drop, pickup and r
  pub left0 : LeftIs 0 (change_left (own 11 0 0 false))
  pub left1 : LeftIs 1 (change_left (own 12 0 0 false))
  pub left2 : LeftIs 2 (change_left (own 13 0 0 false))
  pub left3 : LeftIs 3 (change_left (own 14 24 34 true))
  pub left4 : LeftIs 4 (change_left (own 15 25 35 true))
  pub left5 : LeftIs 5 (change_left (own 16 26 36 true))
  -- of the list for channel 4 channel 3 has neither the codes nor the enable bits, the levels or the resets of the first
  pub elsewhere : left 3 (those 4) ≡ reset_left ∷ frame_left 604 true true ∷ reset_left ∷ reset_left ∷ change_left (own 44 54 64 true)
      ∷ frame_left 604 false false ∷ reset_left ∷ []
  pub accepted : EachAccepted the_relay (fresh_of made).relay these × EachAccepted the_relay (fresh_of made).relay (those 5)
  pub answers : answers_of the_relay (fresh_of made).relay refused_ones ≡ 3 ∷ 4 ∷ 5 ∷ 1 ∷ 20 ∷ 0 ∷ []
  pub both : BothAccepted the_relay 4 still_and_wild
  pub in_still : shown the_relay 4 (fresh_of (quick (still_levels 400))).relay still_list ≡ shown4
  pub in_wild : shown the_relay 4 (fresh_of (quick (wild_levels 400))).relay wild_list ≡ shown4
  -- and voltage 2 and currents 3 and 5: in the first list they trip by loss; in the second the voltage does not trip, and the currents do by over run
  pub others : (shown_at 2 (quick (still_levels 400)) still_list 74 ≡ at 0 3 0 true false true)
      × (shown_at 3 (quick (still_levels 400)) still_list 74 ≡ at 0 3 0 true false true)
      × (shown_at 5 (quick (still_levels 400)) still_list 74 ≡ at 0 3 0 true false true)
      × (shown_at 2 (quick (wild_levels 400)) wild_list 74 ≡ at 400 0 0 false false false)
      × (shown_at 3 (quick (wild_levels 400)) wild_list 74 ≡ at 400 0 2 false true true)
      × (shown_at 5 (quick (wild_levels 400)) wild_list 74 ≡ at 400 0 2 false true true)

pub calls : Calls
unfolding computed
calls =
    record {
      left0 = (refl, refl);
      left1 = (refl, refl);
      left2 = (refl, refl);
      left3 = (refl, refl);
      left4 = (refl, refl);
      left5 = (refl, refl);
      elsewhere = refl;
      accepted = (refl, refl);
      answers = refl;
      both = (refl, refl);
      in_still = refl;
      in_wild = refl;
      others = (refl, refl, refl, refl, refl, refl);
    }
