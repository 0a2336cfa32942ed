-- Calls of the definitions, computed: unions at their limits, and presses on a made-up relay in which no two channels are alike, in both orders, at
-- once, with refused ones among them, and with a frame between. They do not make a wrong definition impossible. Rests on the definitions alone.
use Prim.Native.Nat.{ℕ, ◌+◌, ◌*◌, ◌^◌}
use mathlib.Core.Path.{◌≡◌, refl}
use mathlib.Core.Bool.{Bool, true, false}
use mathlib.Core.List.{List, [], ◌∷◌, ◌++◌}
use lib.IntN.{pos}
use lib.ListN.{length, replicate}
use Rattle.lists.specs.Each.{table}
use Rattle.relay.specs.declared.Channel.{Channel}
use Rattle.relay.specs.declared.Relay.{Relay}
use Rattle.relay.specs.Relay.{channel_at, frame_of, reset_of}
use Rattle.relay.proofs.Computed as relay
use Rattle.relay.proofs.Examples.{quiet, reset_answer}
use Rattle.strokes.specs.Strokes.{union_of, pressed, answers_of, named, union_of_all}

-- a channel whose window holds the eight samples n, n + 1, ..
abbrev channel : ℕ → ℕ → ℕ → Bool → Bool → Channel
channel n loss_count over_count loss_latch_of over_latch_of =
    record { samples = table 8 (λ k. pos (n + k)); loss_run = loss_count; over_run = over_count; loss_latch = loss_latch_of; over_latch = over_latch_of }

-- the same channel without runs and latches
abbrev idle : ℕ → Channel
idle n = channel n 0 0 false false

-- a relay with lengths and levels of its own that no list of calls leads to
abbrev relay_of : ℕ → Bool → List Channel → Relay
relay_of age on channels =
    record {
      channels = channels;
      age = age;
      slot = 5;
      device_on = on;
      settings = record {
        levels = record { drop = 10695 ∷ 10696 ∷ 10697 ∷ 10698 ∷ 10699 ∷ 10700 ∷ []; pickup = 7 ∷ 8 ∷ 9 ∷ []; restraint = 10 ∷ 11 ∷ 12 ∷ [] };
        lengths = record { loss = 20; over = 7 };
      };
    }

abbrev channels : List Channel
channels =
    channel 10 16 0 true false ∷ channel 20 7 0 false false ∷ channel 30 0 0 true false
    ∷ channel 40 3 7 true true ∷ channel 50 20 2 true false ∷ channel 60 0 4 false true ∷ []

abbrev busy : Relay
busy = relay_of 71 false channels

-- the same at age 73: not sound
abbrev old : Relay
old = relay_of 73 false channels

-- channels 3 and 4 reset; the first channel and the last
abbrev without34 : Relay
without34 =
    relay_of 71 false
    (channel 10 16 0 true false ∷ channel 20 7 0 false false ∷ channel 30 0 0 true false ∷ idle 40 ∷ idle 50 ∷ channel 60 0 4 false true ∷ [])

abbrev without05 : Relay
without05 =
    relay_of 71 false
    (idle 10 ∷ channel 20 7 0 false false ∷ channel 30 0 0 true false ∷ channel 40 3 7 true true ∷ channel 50 20 2 true false ∷ idle 60 ∷ [])

-- one frame of code 512 on each channel, all enabled
abbrev next : Relay → Relay
next r = (frame_of r quiet 127).relay

pub record Calls : Type 0 where
  -- ---- the union of two bytes, and of a list
  none : (union_of 0 0 ≡ 0) × (union_of 63 0 ≡ 63) × (union_of 0 63 ≡ 63)
  apart : (union_of 8 16 ≡ 24) × (union_of 21 42 ≡ 63) × (union_of 1 32 ≡ 33)
  overlapping : (union_of 24 16 ≡ 24) × (union_of 12 10 ≡ 14) × (union_of 63 63 ≡ 63)
  high_bits : (union_of 0xF0 0x1F ≡ 0xFF) × (union_of 128 1 ≡ 129) × (union_of 64 8 ≡ 72)
  lists : (union_of_all [] ≡ 0) × (union_of_all (32 ∷ []) ≡ 32) × (union_of_all (5 ∷ 4 ∷ 5 ∷ []) ≡ 5) × (union_of_all (table 8 (λ k. 2 ^ k)) ≡ 255)
  by_channel : table 8 (named (1 ∷ 40 ∷ 8 ∷ [])) ≡ true ∷ false ∷ false ∷ true ∷ false ∷ true ∷ false ∷ false ∷ []
  -- ---- presses
  a_then_b_lem : pressed busy (8 ∷ 16 ∷ []) ≡ without34
  b_then_a_lem : pressed busy (16 ∷ 8 ∷ []) ≡ without34
  at_once : reset_of busy 24 ≡ reset_answer without34 0
  overlap : pressed busy (24 ∷ 16 ∷ []) ≡ without34
  ends : (pressed busy (1 ∷ 32 ∷ []) ≡ without05) × (pressed busy (32 ∷ 1 ∷ []) ≡ without05) × (reset_of busy 33 ≡ reset_answer without05 0)
  each_channel : pressed busy (table 6 (λ k. 2 ^ k)) ≡ relay_of 71 false (table 6 (λ k. idle (10 + 10 * k)))
  no_press : (pressed busy [] ≡ busy) × (pressed busy (0 ∷ 0 ∷ []) ≡ busy)
  answers : answers_of busy (8 ∷ 16 ∷ 8 ∷ 0 ∷ 63 ∷ []) ≡ replicate 5 0
  -- a mask that is refused presses nothing, and a union with it is refused
  refused : (answers_of busy (8 ∷ 64 ∷ 16 ∷ 136 ∷ []) ≡ 0 ∷ 5 ∷ 0 ∷ 5 ∷ []) × (pressed busy (8 ∷ 64 ∷ 16 ∷ 136 ∷ []) ≡ without34)
  refused_union : reset_of busy (union_of 8 64) ≡ reset_answer busy 5
  unsound : (answers_of old (8 ∷ 64 ∷ []) ≡ 2 ∷ 2 ∷ []) × (pressed old (8 ∷ 64 ∷ []) ≡ old)
  -- why the length is a field of the corollaries: a list of seven is cut to six
  seven : length (reset_of (relay_of 71 false (channels ++ (idle 70 ∷ []))) 0).relay.channels ≡ 6
  -- what the law does not say: with a frame between the strokes the channel that was pressed first has run again
  frame_between : ((channel_at (pressed (next (pressed (relay_of 72 true channels) (8 ∷ []))) (16 ∷ [])) 3).loss_run ≡ 1)
      × ((channel_at (pressed (next (relay_of 72 true channels)) (24 ∷ [])) 3).loss_run ≡ 0)

pub calls : Calls
unfolding relay.computed union_of pressed answers_of named union_of_all
calls = record {
  none = (refl, refl, refl);
  apart = (refl, refl, refl);
  overlapping = (refl, refl, refl);
  high_bits = (refl, refl, refl);
  lists = (refl, refl, refl, refl);
  by_channel = refl;
  a_then_b_lem = refl;
  b_then_a_lem = refl;
  at_once = refl;
  overlap = refl;
  ends = (refl, refl, refl);
  each_channel = refl;
  no_press = (refl, refl);
  answers = refl;
  refused = (refl, refl);
  refused_union = refl;
  unsound = (refl, refl);
  seven = refl;
  frame_between = (refl, refl);
}
