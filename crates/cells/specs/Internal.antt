-- What the own functions of this crate ask of each other. No promise of an entry point cites this file.
use Rattle.std.specs.Prelude.{ℕ, ◌+◌, ◌*◌, ◌≤◌, ◌<◌, ◌≡◌, List, length, get_or}
use Rattle.frames.specs.Codes.{code_limit, middle_code}
use Rattle.frames.specs.Cells.{frames_in, most_frames}

-- Whole frames, at least eight and not too many, and a channel whose codes are in range.
pub record ChannelRight (cells : List ℕ) (channel : ℕ) : Type 0 where
  pub whole : 7 * frames_in cells ≡ length cells
  pub enough : 8 ≤ frames_in cells
  pub few : frames_in cells ≤ most_frames
  pub channel_is : channel ≤ 5
  pub codes : (f : ℕ) → get_or cells (7 * f + channel) 0 < code_limit

-- No squared sample is larger: that of code 0.
abbrev pub most_square : ℕ
most_square = middle_code * middle_code
