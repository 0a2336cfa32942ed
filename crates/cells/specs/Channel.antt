-- The frames of a channel that passed the checks, and its codes. No promise of an entry point cites this file.
use Rattle.std.specs.Prelude.{ℕ, List}
use Rattle.frames.specs.Cells.{frames_in}
use Rattle.cells.specs.declared.Channel.{Channel}
use Rattle.cells.specs.Strongest.{codes_of}

abbrev pub frames : Channel → ℕ
frames channel = frames_in channel.cells.now

abbrev pub codes : Channel → List ℕ
codes channel = codes_of channel.cells.now channel.number
