-- Document 01, "From codes to amplitude": a channel's window of eight samples. Rests on what a sample is (frames).
-- A window is a list of integers, read by slot; a slot that the list lacks reads 0.
use Rattle.std.specs.Prelude.{ℕ, List, Bool, ℤ, pos, get_or}
use Rattle.lists.specs.Each.{every}
use Rattle.frames.specs.Codes.{sample_sound}

-- the sample in slot k
abbrev pub sample_at : List ℤ → ℕ → ℤ
sample_at w k = get_or w k (pos 0)

-- each of the eight samples is sound
unfoldable pub window_sound : List ℤ → Bool
window_sound w = every 8 (λ k. sample_sound (sample_at w k))
