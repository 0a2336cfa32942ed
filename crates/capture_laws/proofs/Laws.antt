-- The laws of the capture on whole calls: what is written is read back, what is accepted is what writing gives, and so one content is one file. The
-- last two except one input by name, that of no bytes (document 02, Paper 3). Rests on RoundTrip and Canonical, and on the laws of the reader and of
-- the writer.
use Prim.Native.Nat.{ℕ, ◌*◌, ◌≤◌}
use mathlib.Core.Path.{◌≡◌, refl, sym, ◌∙◌, ap}
use mathlib.Core.List.{List, [], ◌∷◌, ◌++◌}
use mathlib.Core.Logic.{◌⊎◌, inl, inr}
use lib.ListN.{length, take, drop}
use lib.Seq.{take-append_seam}
use native.Mathlib.Omega.{arith}
use borrow.Author.Tests.{le-leb}
use Rattle.refusals.specs.Refusals.{accepted}
use Rattle.frames.specs.Cells.{frames_in}
use Rattle.frames.proofs.Ranges.{sound_whole, sound_range}
use Rattle.capture.specs.Marks.{longest}
use Rattle.capture.specs.Numbers.{found}
use Rattle.capture.proofs.Widths.{Bytes}
use Rattle.writer.specs.Writing.{capture_of, write_of}
use Rattle.writer.proofs.Bytes.{capture_size}
use Rattle.writer.proofs.Laws.{write_made, write_sound, write_accepts, capture_none, write_none}
use Rattle.reader.specs.Reading.{empty_input, capture, read_of}
use Rattle.reader.proofs.NoBytes.{read_no_bytes, has_byte}
use Rattle.reader.proofs.Laws.{new_cells, read_holds, read_sound, read_front}
use Rattle.capture_laws.proofs.RoundTrip.{capture_back}
use Rattle.capture_laws.proofs.Canonical.{capture_bytes}

-- Reading what an accepted call of `write` made gives the same cells, in every buffer that has room for them.
pub round_trip : (cells bytes room : List ℕ) → (write_of cells bytes).refusal ≡ accepted → length cells ≤ length room
    → read_of (take (write_of cells bytes).count (write_of cells bytes).buffer) room
    ≡ record { refusal = accepted; count = frames_in cells; buffer = cells ++ drop (length cells) room }
unfolding read_of
round_trip cells bytes room h r =
    let c = capture_back cells (write_sound cells bytes h) in
    rw (write_made cells bytes h)
    (rw (take-append_seam (capture_of cells) (drop (length (capture_of cells)) bytes), c.1) (rw (le-leb (length cells) (length room) r)))

-- Accepted bytes are the capture of the cells that the call made. Bytes are below 256, as those of every slice.
accepted_bytes : (bytes cells : List ℕ) → Bytes bytes → (bytes ≡ empty_input → ⊥) → (h : (read_of bytes cells).refusal ≡ accepted)
    → bytes ≡ capture_of (new_cells bytes cells h)
accepted_bytes bytes cells B some h =
    let H = read_holds bytes cells h in
    capture_bytes bytes (new_cells bytes cells h) H.0 B some H.1

-- "every other accepted capture is what writing its frames gives": writing the cells that an accepted call of `read` made gives the same bytes, in
-- every buffer that has room for them.
pub canonical : (bytes cells room : List ℕ) → Bytes bytes → (bytes ≡ empty_input → ⊥) → (read_of bytes cells).refusal ≡ accepted
    → length bytes ≤ length room
    → write_of (take (7 * (read_of bytes cells).count) (read_of bytes cells).buffer) room
    ≡ record { refusal = accepted; count = length bytes; buffer = bytes ++ drop (length bytes) room }
canonical bytes cells room B some h r =
    let new = new_cells bytes cells h in
    let e : bytes ≡ capture_of new = accepted_bytes bytes cells B some h in
    let S = read_sound bytes cells h in
    let a : (write_of new room).refusal ≡ accepted = (write_accepts new room).1 ((sound_whole new S, sound_range new S), omega (arith, ap length e)) in
    rw (read_front bytes cells h) (write_made new room a ∙ rw (← e))

-- "A capture holds at most 4,096 frames, thus 53,253 bytes."
pub accepted_length : (bytes cells : List ℕ) → Bytes bytes → (read_of bytes cells).refusal ≡ accepted → length bytes ≤ longest
accepted_length [] cells B h = omega arith
accepted_length (b ∷ s) cells B h =
    let bytes = b ∷ s in
    omega (
      arith,
      ap length (accepted_bytes bytes cells B (has_byte b s) h),
      capture_size (new_cells bytes cells h) (read_sound bytes cells h).few,
    )

-- One content, one file: two captures that hold the same cells are the same bytes, neither being that of no bytes.
pub one_file : (a b cells : List ℕ) (m n : ℕ) → Bytes a → Bytes b → (a ≡ empty_input → ⊥) → (b ≡ empty_input → ⊥)
    → capture a ≡ found cells m → capture b ≡ found cells n → a ≡ b
one_file a b cells m n A B some other p q = capture_bytes a cells m A some p ∙ sym (capture_bytes b cells n B other q)

-- Both of inputs that have a byte, without a premise on that: neither law may except more than no bytes.
pub canonical_some : (b : ℕ) (s cells room : List ℕ) → Bytes (b ∷ s) → (read_of (b ∷ s) cells).refusal ≡ accepted
    → length (b ∷ s) ≤ length room
    → write_of (take (7 * (read_of (b ∷ s) cells).count) (read_of (b ∷ s) cells).buffer) room
    ≡ record { refusal = accepted; count = length (b ∷ s); buffer = (b ∷ s) ++ drop (length (b ∷ s)) room }
canonical_some b s cells room B h r = canonical (b ∷ s) cells room B (has_byte b s) h r

one_file_some : (a : ℕ) (s : List ℕ) (b : ℕ) (t cells : List ℕ) (m n : ℕ) → Bytes (a ∷ s) → Bytes (b ∷ t)
    → capture (a ∷ s) ≡ found cells m → capture (b ∷ t) ≡ found cells n → a ∷ s ≡ b ∷ t
one_file_some a s b t cells m n A B p q = one_file (a ∷ s) (b ∷ t) cells m n A B (has_byte a s) (has_byte b t) p q

-- ---- the input that is excepted

abbrev pub mark_and_zero : List ℕ
mark_and_zero = 0x50 ∷ 0x36 ∷ 0x4B ∷ 0x00 ∷ []

-- "Writing zero frames still gives the mark and a zero": also those that reading no bytes gives.
pub no_bytes_written : (cells room : List ℕ) → 4 ≤ length room
    → write_of (take (7 * (read_of empty_input cells).count) (read_of empty_input cells).buffer) room
    ≡ record { refusal = accepted; count = 4; buffer = mark_and_zero ++ drop 4 room }
no_bytes_written cells room r = rw (read_no_bytes cells) (write_none room r)

-- Zero frames have two files, both accepted (`read_no_bytes`, `round_trip`), and no third.
pub no_frames_files : (bytes : List ℕ) (size : ℕ) → Bytes bytes → capture bytes ≡ found [] size → (bytes ≡ empty_input) ⊎ (bytes ≡ mark_and_zero)
no_frames_files [] size B e = inl refl
no_frames_files (b ∷ s) size B e = inr (capture_bytes (b ∷ s) [] size B (has_byte b s) e ∙ capture_none)

other_file : (b : ℕ) (s cells : List ℕ) (m n : ℕ) → Bytes (b ∷ s) → capture empty_input ≡ found cells m → capture (b ∷ s) ≡ found cells n
    → b ∷ s ≡ mark_and_zero
unfolding capture
other_file b s cells m n B p q =
    let none : [] ≡ cells = cc in
    go (no_frames_files (b ∷ s) n B (rw none q))
  where
    go : (b ∷ s ≡ empty_input) ⊎ (b ∷ s ≡ mark_and_zero) → b ∷ s ≡ mark_and_zero
    go (inl z) = absurd (has_byte b s z)
    go (inr z) = z

-- So two files of one content are the same, or they are these two.
pub two_files : (a b cells : List ℕ) (m n : ℕ) → Bytes a → Bytes b → capture a ≡ found cells m → capture b ≡ found cells n
    → (a ≡ b) ⊎ ((a ≡ empty_input) × (b ≡ mark_and_zero)) ⊎ ((a ≡ mark_and_zero) × (b ≡ empty_input))
two_files [] [] cells m n A B p q = inl refl
two_files [] (b ∷ t) cells m n A B p q = inr (inl (refl, other_file b t cells m n B p q))
two_files (a ∷ s) [] cells m n A B p q = inr (inr (other_file a s cells n m A q p, refl))
two_files (a ∷ s) (b ∷ t) cells m n A B p q = inl (one_file_some a s b t cells m n A B p q)
