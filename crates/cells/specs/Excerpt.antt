-- Document 01, "The capture": an excerpt. Rests on frames.
use Rattle.std.specs.Prelude.{ℕ, ◌+◌, ◌*◌, ◌≡◌, Bool, cond, ◌&&◌, List, take, drop, leb}
use Rattle.frames.specs.Cells.{whole_frames, frames_in}
use Rattle.cells.specs.declared.Part.{Part}

-- "if f + n exceeds the frames, or the cells are no multiple of seven, it is the empty part at the start"
abbrev pub within : List ℕ → ℕ → ℕ → Bool
within cells f n = whole_frames cells && leb (f + n) (frames_in cells)

-- Where the excerpt stands in the cells, counted in cells: a frame is seven of them.
abbrev pub place_of : List ℕ → ℕ → ℕ → Part
place_of cells f n = record { start = cond (within cells f n) (7 * f) 0; length = cond (within cells f n) (7 * n) 0 }

-- "An excerpt hands back the caller's own cells from frame f for n frames": the values of the part, and its place, a
-- block of memory and an offset in bytes. A cell is two bytes.
pub record Excerpt (cells : List ℕ) (place : ℕ × ℕ) (f n : ℕ) (part : List ℕ) (part_place : ℕ × ℕ) : Type 0 where
  pub values : part ≡ take (place_of cells f n).length (drop (place_of cells f n).start cells)
  pub block : part_place.0 ≡ place.0
  pub offset : part_place.1 ≡ place.1 + 2 * (place_of cells f n).start
