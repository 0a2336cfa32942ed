-- What the bench program writes, from what came in. Rests on the definition of the report.
use Rattle.std.specs.Prelude.{ℕ, ◌<◌, ◌≤◌, Option, List, length}
use Rattle.std.specs.Io.KnownBytes.{Consumes, IsAtEnd, Appends}
use Rattle.report.specs.Report.{report_of}

-- so many bytes of an input are read: one more than the longest capture, so that a longer one is seen to be longer
abbrev pub most : ℕ
most = 53254

-- These bytes came from the source: its first, and all of them where the buffer had room for more. What the sink got is
-- the report on just these.
pub record Written (source source_after sink sink_after : Option (List ℕ)) : Type 0 where
  pub bytes : List ℕ
  pub within : length bytes ≤ most
  pub came : Consumes source source_after bytes
  pub all : length bytes < most → IsAtEnd source_after
  pub report : Appends sink sink_after (report_of bytes)
