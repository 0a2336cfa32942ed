-- One channel: what a frame and a reset make of it (document 01, "Frames, runs, latches, resets"), and what new levels
-- do (document 02, Paper 6). Rests on the two kinds of run, with the device's lengths (Paper 9), and on a window's
-- samples.
use Rattle.std.specs.Prelude.{ℕ, suc, min, Bool, false, ◌&&◌, ◌||◌, cond, List, [], ℤ, pos, eqb, set, replicate}
use Rattle.frames.specs.Codes.{sample_of}
use Rattle.relay.specs.declared.Channel.{Channel}
use Rattle.relay.specs.declared.ChannelLevels.{ChannelLevels}
use Rattle.relay.specs.declared.Lengths.{Lengths}
use Rattle.relay.specs.Settings.{Kind, loss, over, same_drop, same_pickup}

-- what a list of channels reads as past its end
abbrev pub no_channel : Channel
no_channel = record { samples = []; loss_run = 0; over_run = 0; loss_latch = false; over_latch = false }

-- "A fresh window is eight zeros"; a fresh channel has "all runs 0, all latches off"
unfoldable pub fresh_channel : Channel
fresh_channel =
    record {
      samples = replicate 8 (pos 0);
      loss_run = 0;
      over_run = 0;
      loss_latch = false;
      over_latch = false;
    }

-- what a reset that names the channel clears: "runs and latches .. and nothing else"
abbrev pub cleared_of : Channel → Channel
cleared_of ch =
    record {
      samples = ch.samples;
      loss_run = 0;
      over_run = 0;
      loss_latch = false;
      over_latch = false;
    }

-- the window that step 1 leaves: the frame's sample in its slot
abbrev pub window_after : ℕ → ℕ → Channel → List ℤ
window_after slot code ch = set ch.samples slot (sample_of code)

-- a run after steps 2 and 3: as it was in a frame that is not counted; otherwise grown by 1 up to its length where it
-- is met, else 0
abbrev pub run_after : Bool → Bool → ℕ → ℕ → ℕ
run_after counted met len run = cond counted (cond met (min len (suc run)) 0) run

-- it is met where the channel is enabled and the window meets the level
unfoldable pub next_run : Kind → ChannelLevels → Bool → Bool → List ℤ → ℕ → ℕ
next_run kind levels counted enabled window run =
    run_after counted (enabled && kind.meets levels window) kind.len run

-- a latch after step 4, in every accepted frame: a run at its length turns it on
abbrev pub next_latch : Kind → ℕ → Bool → Bool
next_latch kind run latch = latch || eqb run kind.len

-- a channel with the window that step 1 leaves, and what steps 2 to 4 make of the rest
abbrev pub channel_with : Lengths → ChannelLevels → Bool → Bool → List ℤ → Channel → Channel
channel_with lengths levels counted enabled window ch =
    let loss_count : ℕ = next_run (loss lengths) levels counted enabled window ch.loss_run in
    let over_count : ℕ = next_run (over lengths) levels counted enabled window ch.over_run in
    record {
      samples = window;
      loss_run = loss_count;
      over_run = over_count;
      loss_latch = next_latch (loss lengths) loss_count ch.loss_latch;
      over_latch = next_latch (over lengths) over_count ch.over_latch;
    }

-- steps 1 to 4 of a frame, for one channel
unfoldable pub channel_after : Lengths → ChannelLevels → ℕ → Bool → Bool → ℕ → Channel → Channel
channel_after lengths levels slot counted enabled code ch =
    channel_with lengths levels counted enabled (window_after slot code ch) ch

-- the channel has a latch on
abbrev pub latch_on : Channel → Bool
latch_on ch = ch.loss_latch || ch.over_latch

-- ---- new levels (Paper 6)

-- "A run carries over where its own level is equal; otherwise it becomes 0.", each run on its own
abbrev pub carried_run : Bool → ℕ → ℕ
carried_run same run = cond same run 0

-- "Windows .. latches .. carry over."
abbrev pub carried_over : ChannelLevels → ChannelLevels → Channel → Channel
carried_over old new ch =
    record {
      samples = ch.samples;
      loss_run = carried_run (same_drop old new) ch.loss_run;
      over_run = carried_run (same_pickup old new) ch.over_run;
      loss_latch = ch.loss_latch;
      over_latch = ch.over_latch;
    }
