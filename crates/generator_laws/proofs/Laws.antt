-- What `generate` makes is accepted by `write`, and reading it back gives it (document 02, Paper 12). Rests on the laws of the generator, of the
-- writer and of the capture.
use Prim.Native.Nat.{ℕ, ◌*◌, ◌≤◌}
use mathlib.Core.Path.{◌≡◌, ◌∙◌, ap}
use mathlib.Core.List.{List, ◌++◌}
use mathlib.Core.Logic.{◌↔◌}
use lib.ListN.{length, take, drop}
use native.Mathlib.Omega.{arith}
use Rattle.refusals.specs.Refusals.{accepted}
use Rattle.refusals.specs.Outcomes.{Outcome}
use Rattle.frames.specs.Cells.{frames_in}
use Rattle.frames.proofs.Ranges.{Sound, sound_whole, sound_range}
use Rattle.writer.specs.Writing.{capture_of, write_of}
use Rattle.writer.proofs.Bytes.{capture_size}
use Rattle.writer.proofs.Laws.{write_accepts}
use Rattle.reader.specs.Reading.{read_of}
use Rattle.capture_laws.proofs.Laws.{round_trip}
use Rattle.generator.specs.Generator.{frames_made, generate_of}
use Rattle.generator.proofs.Frames.{frames_length}
use Rattle.generator.proofs.Laws.{generate_accepts, generate_made, generate_front, made_sound}

module _ (given : List ℕ) (n : ℕ) (cells : List ℕ) (h : (generate_of given n cells).refusal ≡ accepted) where
  -- The cells that an accepted call made: those at the front, seven for each frame counted.
  abbrev pub new_cells : List ℕ
  new_cells = take (7 * (generate_of given n cells).count) (generate_of given n cells).buffer

  new_is : new_cells ≡ frames_made given n
  new_is = ap (λ (k : ℕ). take (7 * k) (generate_of given n cells).buffer) (ap (λ (o : Outcome). o.count) (generate_made given n cells h))
      ∙ generate_front given n cells h

  new_sound : Sound new_cells
  new_sound = rw new_is (made_sound given n ((generate_accepts given n cells).0 h).1)

  new_length : length new_cells ≡ 7 * n
  new_length = ap length new_is ∙ frames_length given n

  -- What it makes is accepted by writing, wherever the capture fits, and 53,253 bytes are always enough.
  pub made_is_written : (bytes : List ℕ) → ((write_of new_cells bytes).refusal ≡ accepted) ↔ (length (capture_of new_cells) ≤ length bytes)
  made_is_written bytes = (
    λ w. ((write_accepts new_cells bytes).0 w).1,
    λ r. (write_accepts new_cells bytes).1 ((sound_whole new_cells new_sound, sound_range new_cells new_sound), r),
  )

  pub made_fits : (bytes : List ℕ) → 53253 ≤ length bytes → (write_of new_cells bytes).refusal ≡ accepted
  made_fits bytes r = (made_is_written bytes).1 (omega (arith, capture_size new_cells new_sound.few))

  -- And reading it back gives it: the same cells, in every buffer that has room for them.
  pub made_reads_back : (bytes room : List ℕ) → (write_of new_cells bytes).refusal ≡ accepted → 7 * n ≤ length room
      → read_of (take (write_of new_cells bytes).count (write_of new_cells bytes).buffer) room
      ≡ record { refusal = accepted; count = n; buffer = new_cells ++ drop (7 * n) room }
  made_reads_back bytes room w r =
      let f : frames_in new_cells ≡ n = omega (arith, new_length) in
      round_trip new_cells bytes room w (omega (arith, new_length)) ∙ rw (f, new_length)
