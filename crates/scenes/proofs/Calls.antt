-- Computed calls of what is printed, each against the text itself, written out: runs, a reset, new levels, and steps
-- before and behind frame 72. Rests on the definitions alone.
use Prim.Native.Nat.{ℕ}
use mathlib.Core.Path.{◌≡◌, refl}
use mathlib.Core.Bool.{true, false}
use mathlib.Core.List.{List, [], ◌∷◌}
use lib.IntN.{pos}
use lib.ListN.{replicate}
use Rattle.relay.specs.declared.Channel.{Channel}
use Rattle.relay.specs.declared.Relay.{Relay}
use Rattle.relay.specs.declared.FrameAnswer.{FrameAnswer}
use Rattle.relay.specs.Relay.{fresh_relay}
use Rattle.relay.proofs.Computed as relay
use Rattle.text.specs.Text.{decimal, decimal_in, spaced, word_line}
use Rattle.text.proofs.Calls.{bytes_of}
use Rattle.scenes.specs.declared.scene.Step.{Step}
use Rattle.scenes.specs.declared.scene.Step.TheVariants.{Feed, Change}
use Rattle.scenes.specs.Scenes.{alike_levels, bench_settings}
use Rattle.scenes.specs.Lines.{runs_of, runs_line, reset_line, change_line}
use Rattle.scenes.specs.Played.{fed}
use Rattle.scenes.specs.PlayedText.{fed_text, steps_text, played_text}

abbrev channel : ℕ → ℕ → Channel
channel loss over =
    record { samples = replicate 8 (pos 0); loss_run = loss; over_run = over; loss_latch = true; over_latch = false }

abbrev fresh : Relay
fresh = fresh_relay (bench_settings (alike_levels 1 1603 0))

-- no two runs alike; those that a voltage has no place for are printed nowhere
abbrev answer : FrameAnswer
answer =
    record {
      relay = record fresh {
        channels =
            channel 1 21 ∷ channel 20 22 ∷ channel 3 23 ∷ channel 0 4 ∷ channel 255 50 ∷ channel 16 100 ∷ [];
      };
      refusal = 0;
      amplitudes = replicate 6 7;
      output = 0x0A;
    }

-- the next frame is counted
abbrev settled : Relay
settled = record fresh { age = 72 }

abbrev still : List ℕ
still = replicate 8 512

-- the codes of frames 71 and 72 alone are codes: frame 73 is refused
abbrev two_codes : List ℕ
two_codes = 512 ∷ 1024 ∷ 1024 ∷ 1024 ∷ 1024 ∷ 1024 ∷ 1024 ∷ 512 ∷ []

abbrev steps : List Step
steps =
    Feed two_codes 74 ∷ Change (alike_levels 0 1603 0) ∷ Change (alike_levels 1 1604 100) ∷ Feed still 75 ∷ []

pub record PrintedCalls : Type 0 where
  -- loss runs, then the over runs of the currents; the byte as two capitals
  pub runs : runs_of answer.relay.channels ≡ 1 ∷ 20 ∷ 3 ∷ 0 ∷ 255 ∷ 16 ∷ 4 ∷ 50 ∷ 100 ∷ []
  pub not_counted : (runs_line 0 answer ≡ []) × (runs_line 71 answer ≡ [])
  pub counted : runs_line 72 answer ≡ bytes_of "72 1 20 3 0 255 16 4 50 100 0A\n"
  pub last : runs_line 65535 answer ≡ bytes_of "65535 1 20 3 0 255 16 4 50 100 0A\n"
  -- the mask, then the refusal
  pub resets : (reset_line 255 5 ≡ bytes_of "255 answers 5\n") × (reset_line 8 0 ≡ bytes_of "8 answers 0\n")
  pub changes : (change_line 0 ≡ bytes_of "change 0\n") × (change_line 20 ≡ bytes_of "change 20\n")
  -- a wave that ends where it begins, or before, has no line; nor has a frame before frame 72
  pub no_frame : (fed_text settled still 74 0 ≡ []) × (steps_text settled 74 (Feed still 70 ∷ []) ≡ [])
  pub before_72 : fed_text settled still 71 1 ≡ []
  pub from_72 : fed_text settled still 72 1 ≡ bytes_of "72 1 1 1 1 1 1 0 0 0 00\n"
  -- frames 71 and 72 lengthen the loss runs, 73 is refused; a level of 0 is refused, and frame 74 goes on
  pub text : steps_text settled 71 steps
      ≡ bytes_of "72 2 2 2 2 2 2 0 0 0 00\n73 2 2 2 2 2 2 0 0 0 00\nchange 1\nchange 0\n74 3 3 3 3 3 3 0 0 0 00\n"
  -- the name, and a scene's frames from 0 on
  pub named : played_text (bytes_of "a name") fresh [] ≡ bytes_of "a name\n"
  pub short : played_text (bytes_of "short") fresh (Feed still 1 ∷ Change (alike_levels 1 1604 101) ∷ [])
      ≡ bytes_of "short\nchange 20\n"

pub printed_calls : PrintedCalls
unfolding relay.computed decimal decimal_in spaced word_line runs_line reset_line fed fed_text steps_text played_text
printed_calls =
    record {
      runs = refl;
      not_counted = (refl, refl);
      counted = refl;
      last = refl;
      resets = (refl, refl);
      changes = (refl, refl);
      no_frame = (refl, refl);
      before_72 = refl;
      from_72 = refl;
      text = refl;
      named = refl;
      short = refl;
    }
