-- Loops that make frames, one a turn and four a turn: where the latest 55 numbers stand, what the next six are, and what
-- the cells hold. Rests on Numbers, Frames and the laws of `Put`.
use Rattle.std.proofs.Common.{◌≡◌, ℕ, zero, suc, ◌+◌, ◌-◌, ◌*◌, ◌/◌, ◌%◌, ◌<◌, ◌≤◌, Bool, true, false, ltb, List, map, length, get_or, take, sym, refl, ap, ◌∙◌, subst, zero-add, add-one, arith, length-take-le, get_or-take, ltb-false, ltb-true}
use lib.Seq.{sets, length-sets}
use Rattle.lists.specs.Put.{Put}
use Rattle.lists.proofs.Each.{length_table, get_d_table, table_same}
use borrow.Rule.Slice.PartMut.{put_mid}
use Rattle.lists.proofs.Lists.{sets_before, sets_inside}
use Rattle.lists.proofs.Pasted.{Pasted, pasted_all}
use Rattle.lists.proofs.Put.{put_none, put_then}
use Rattle.frames.specs.Cells.{cells_of_frame}
use Rattle.generator.specs.Generator.{top_ten_bits, code_made, codes_made, enable_byte, frames_made}
use Rattle.std.specs.List.{range_with_len}
use Rattle.lists.specs.Each.{table}
use Rattle.generator.specs.Internal.{sum_at, six_at, six_sums, code_of_six, codes_of_six, Moved}
use Rattle.generator.specs.Internal.{numbers_with_next, cells_with_next, numbers_after, cells_after, NextPut, SomePut}
use Rattle.generator.proofs.Frames.{frame_length}
use Rattle.generator.proofs.Parts.{part_from, next_back, some_back}
use Rattle.generator.proofs.Numbers.{number_at, number_given, number_made, number_sum}

-- ---- one frame more, and some

six_length : (numbers : List ℕ) (from : ℕ) → length (six_sums numbers from) ≡ 6
unfolding six_sums
six_length numbers from = length_table 6 (six_at numbers from)

-- The six numbers, as they are made one by one.
six_made : (numbers : List ℕ) → map (sum_at numbers) (range_with_len 0 6) ≡ six_sums numbers 0
unfolding six_sums table
six_made numbers = refl

module _ (old six : List ℕ) (made : six ≡ map (sum_at old) (range_with_len 0 6)) (room : 61 ≤ length old) where
  s : six ≡ six_sums old 0
  s = made ∙ six_made old

  pub next_put : (new : List ℕ) (k : ℕ) → Pasted old 55 six new k → 6 ≤ k → (codes : List ℕ) → codes ≡ codes_of_six six
      → (cells new_cells : List ℕ) → new_cells ≡ sets cells 0 (cells_of_frame codes enable_byte)
      → NextPut old 0 cells 0 new new_cells
  next_put new k P h codes d cells new_cells c =
      let six_long : length six ≡ 6 = ap length s ∙ six_length old 0 in
      record { numbers_are = pasted_all old 55 six new k P (omega arith) ∙ ap (sets old 55) s; cells_are = rw (d, s) at c }

numbers_kept : (numbers : List ℕ) (from m : ℕ) → length (numbers_after numbers from m) ≡ length numbers
unfolding numbers_after
numbers_kept numbers from zero = refl
numbers_kept numbers from (suc m) =
    length-sets (numbers_after numbers from m) (from + 6 * m + 55) (six_sums (numbers_after numbers from m) (from + 6 * m)) ∙ numbers_kept numbers from m

cells_kept : (numbers : List ℕ) (from : ℕ) (cells : List ℕ) (f m : ℕ) → length (cells_after numbers from cells f m) ≡ length cells
unfolding cells_after
cells_kept numbers from cells f zero = refl
cells_kept numbers from cells f (suc m) =
    length-sets (cells_after numbers from cells f m) (7 * (f + m))
    (cells_of_frame (codes_of_six (six_sums (numbers_after numbers from m) (from + 6 * m))) enable_byte)
    ∙ cells_kept numbers from cells f m

-- k of m frames are put.
pub record SomePutting (old : List ℕ) (from : ℕ) (old_cells : List ℕ) (f m : ℕ) (numbers cells : List ℕ) (k : ℕ) : Type 0 where
  pub within : k ≤ m
  pub room : (from + 55 + 6 * m ≤ length old) × (7 * (f + m) ≤ length old_cells)
  pub put : SomePut old from old_cells f k numbers cells

module _ (old : List ℕ) (from : ℕ) (old_cells : List ℕ) (f m : ℕ) where
  pub some_none : (from + 55 + 6 * m ≤ length old) × (7 * (f + m) ≤ length old_cells) → SomePutting old from old_cells f m old old_cells 0
  unfolding numbers_after cells_after
  some_none h = record { within = omega arith; room = h; put = record { numbers_are = refl; cells_are = refl } }

  module _ (numbers cells : List ℕ) (k : ℕ) (P : SomePutting old from old_cells f m numbers cells k) where
    pub numbers_same : length numbers ≡ length old
    numbers_same = ap length P.put.numbers_are ∙ numbers_kept old from k

    pub cells_same : length cells ≡ length old_cells
    cells_same = ap length P.put.cells_are ∙ cells_kept old from old_cells f k

    pub some_more : k < m → (new_numbers new_cells : List ℕ) → NextPut numbers (from + 6 * k) cells (f + k) new_numbers new_cells
        → SomePutting old from old_cells f m new_numbers new_cells (k + 1)
    unfolding numbers_after cells_after
    some_more h new_numbers new_cells N =
        record {
          within = omega arith;
          room = P.room;
          put = rw (add-one k)
              record {
                numbers_are = rw P.put.numbers_are at N.numbers_are;
                cells_are = rw (P.put.numbers_are, P.put.cells_are) at N.cells_are;
              };
        }

-- The same from the front of what is lent, one frame a turn, each put into a part.
module _ (old old_cells : List ℕ) (m : ℕ) where
  pub some_begin : (55 + 6 * m ≤ length old) × (7 * m ≤ length old_cells) → SomePutting old 0 old_cells 0 m old old_cells 0
  some_begin h = some_none old 0 old_cells 0 m (omega (arith, h.0), omega (arith, h.1))

  module _ (numbers cells : List ℕ) (k : ℕ) (P : SomePutting old 0 old_cells 0 m numbers cells k) where
    same_numbers : length numbers ≡ length old
    same_numbers = numbers_same old 0 old_cells 0 m numbers cells k P

    same_cells : length cells ≡ length old_cells
    same_cells = cells_same old 0 old_cells 0 m numbers cells k P

    pub some_again : k < m → (part part_cells : List ℕ) → NextPut (part_from (6 * k) numbers) 0 (part_from (7 * k) cells) 0 part part_cells
        → SomePutting old 0 old_cells 0 m (put_mid (6 * k) (length numbers - 6 * k) numbers part)
        (put_mid (7 * k) (length cells - 7 * k) cells part_cells) (k + 1)
    some_again h part part_cells N =
        let a : 6 * k ≤ length numbers = omega (arith, same_numbers, P.room.0) in
        let b : 7 * k ≤ length cells = omega (arith, same_cells, P.room.1) in
        let e : 0 + 6 * k ≡ 6 * k = omega arith in
        let z : 0 + k ≡ k = omega arith in
        some_more old 0 old_cells 0 m numbers cells k P h (put_mid (6 * k) (length numbers - 6 * k) numbers part)
        (put_mid (7 * k) (length cells - 7 * k) cells part_cells)
        (rw (e, z) (next_back numbers cells part part_cells (6 * k) k a b N))

-- ---- the latest 55 numbers

-- From `from` on stand the 55 numbers of the places p, p + 1, ..
abbrev pub Held : List ℕ → ℕ → List ℕ → ℕ → Type 0
Held given p numbers from = (k : ℕ) → k < 55 → get_or numbers (from + k) 0 ≡ number_at given (p + k)

-- At the start they are those given.
held_first : (numbers : List ℕ) → 55 ≤ length numbers → Held (take 55 numbers) 0 numbers 0
held_first numbers enough k h =
    rw (zero-add k) (sym (number_given (take 55 numbers) (length-take-le 55 numbers enough) k h ∙ get_or-take 55 numbers k 0 h))

module _ (given : List ℕ) (full : length given ≡ 55) (numbers : List ℕ) (from : ℕ) where
  -- The next six are those of the next six places.
  six_are : (p : ℕ) → Held given p numbers from → (c : ℕ) → c < 6 → get_or (six_sums numbers from) c 0 ≡ number_at given (55 + (p + c))
  unfolding six_sums
  six_are p H c h =
      let a : from + c + 31 ≡ from + (31 + c) = omega arith in
      let b : p + (31 + c) ≡ 31 + (p + c) = omega arith in
      get_d_table 6 (six_at numbers from) 0 c h ∙ rw (a, H (31 + c) (omega arith), b, H c (omega arith)) (sym (number_sum given full (p + c)))

  -- With them put behind, the latest 55 are those of six places further.
  held_next : (p : ℕ) → from + 61 ≤ length numbers → Held given p numbers from
      → Held given (p + 6) (sets numbers (from + 55) (six_sums numbers from)) (from + 6)
  held_next p room H k h = go (ltb k 49) refl
    where
      go : (t : Bool) → ltb k 49 ≡ t
          → get_or (sets numbers (from + 55) (six_sums numbers from)) (from + 6 + k) 0 ≡ number_at given (p + 6 + k)
      go true e =
          let l = ltb-true k 49 e in
          let a : from + 6 + k ≡ from + (6 + k) = omega arith in
          let b : p + 6 + k ≡ p + (6 + k) = omega arith in
          rw (a, b) (sets_before numbers (from + 55) (six_sums numbers from) (from + (6 + k)) (omega arith) ∙ H (6 + k) (omega arith))
      go false e =
          let l = ltb-false k 49 e in
          let a : from + 6 + k ≡ from + 55 + (k - 49) = omega arith in
          let b : p + 6 + k ≡ 55 + (p + (k - 49)) = omega arith in
          rw (a, b)
          (sets_inside numbers (from + 55) (six_sums numbers from) (k - 49) (omega (arith, six_length numbers from))
          (omega (arith, six_length numbers from))
          ∙ six_are p H (k - 49) (omega arith))

  -- Their codes are those of the frame.
  codes_made_lem : (f : ℕ) → Held given (6 * f) numbers from → codes_of_six (six_sums numbers from) ≡ codes_made given f
  unfolding codes_of_six codes_made
  codes_made_lem f H =
      table_same 6 (code_of_six (six_sums numbers from)) (code_made given f)
      (λ c h. ap top_ten_bits (six_are (6 * f) H c h ∙ number_made given full (6 * f + c)))

-- ---- the loop

-- f of n frames are put, and the latest 55 numbers stand at `from`.
pub record FramesPut (first old : List ℕ) (n : ℕ) (numbers cells : List ℕ) (from f : ℕ) : Type 0 where
  pub within : f ≤ n
  pub room : 7 * n ≤ length old
  pub enough : 97 ≤ length first
  pub size : length numbers ≡ length first
  pub held : Held (take 55 first) (6 * f) numbers from
  pub put : Put old 0 (frames_made (take 55 first) f) cells (7 * f)

module _ (first old : List ℕ) (n : ℕ) where
  pub frames_begin : 97 ≤ length first → 7 * n ≤ length old → FramesPut first old n first old 0 0
  unfolding frames_made
  frames_begin a b =
      record {
        within = omega arith;
        room = b;
        enough = a;
        size = refl;
        held = held_first first (omega arith);
        put = put_none old 0 (omega arith);
      }

  -- One frame more.
  frames_next : (numbers cells : List ℕ) (from f : ℕ) → FramesPut first old n numbers cells from f → f < n → from + 61 ≤ length numbers
      → FramesPut first old n (numbers_with_next numbers from) (cells_with_next numbers from cells f) (from + 6) (suc f)
  unfolding frames_made
  frames_next numbers cells from f I h r =
      record {
        within = omega arith;
        room = I.room;
        enough = I.enough;
        size = length-sets numbers (from + 55) (six_sums numbers from) ∙ I.size;
        held = rw six (held_next (take 55 first) full numbers from (6 * f) r I.held);
        put = rw seven (put_then I.put this);
      }
    where
      full : length (take 55 first) ≡ 55
      full = length-take-le 55 first (omega (arith, I.enough))

      six : 6 * suc f ≡ 6 * f + 6
      six = omega arith

      seven : 7 * suc f ≡ 7 * f + 7
      seven = omega arith

      this : Put cells (7 * f) (cells_of_frame (codes_made (take 55 first) f) enable_byte) (cells_with_next numbers from cells f) (7 * f + 7)
      this =
          record {
            fits = omega (arith, I.put.kept, I.room, frame_length (take 55 first) f);
            new_is = rw (codes_made_lem (take 55 first) full numbers from f I.held);
            next_is = omega (arith, frame_length (take 55 first) f);
            kept = length-sets cells (7 * f) (cells_of_frame (codes_of_six (six_sums numbers from)) enable_byte);
          }

  -- m frames more.
  frames_after : (numbers cells : List ℕ) (from f m : ℕ) → FramesPut first old n numbers cells from f → f + m ≤ n
      → from + 55 + 6 * m ≤ length numbers
      → FramesPut first old n (numbers_after numbers from m) (cells_after numbers from cells f m) (from + 6 * m) (f + m)
  unfolding numbers_after cells_after
  frames_after numbers cells from f zero I h r =
      let a : from + 6 * 0 ≡ from = omega arith in
      let b : f + 0 ≡ f = omega arith in
      rw (a, b) I
  frames_after numbers cells from f (suc m) I h r =
      let a : from + 6 * suc m ≡ from + 6 * m + 6 = omega arith in
      let b : f + suc m ≡ suc (f + m) = omega arith in
      rw (a, b)
      (frames_next (numbers_after numbers from m) (cells_after numbers from cells f m) (from + 6 * m) (f + m)
      (frames_after numbers cells from f m I (omega arith) (omega arith)) (omega arith) (omega (arith, numbers_kept numbers from m)))

  module _ (numbers cells : List ℕ) (from f : ℕ) (I : FramesPut first old n numbers cells from f) where
    pub moved_put : (moved : List ℕ) (place : ℕ) → Moved numbers from moved place → FramesPut first old n moved cells place f
    moved_put moved place M =
        record {
          within = I.within;
          room = I.room;
          enough = I.enough;
          size = M.kept ∙ I.size;
          held = λ k l. M.same k l ∙ I.held k l;
          put = I.put;
        }

    pub some_put : (m : ℕ) → f + m ≤ n → from + 55 + 6 * m ≤ length numbers → (new_numbers new_cells : List ℕ)
        → SomePut numbers from cells f m new_numbers new_cells → FramesPut first old n new_numbers new_cells (from + 6 * m) (f + m)
    some_put m h r new_numbers new_cells S = rw (S.numbers_are, S.cells_are) (frames_after numbers cells from f m I h r)

-- The loop's own invariant: there is room for three frames more.
pub record Going (first old : List ℕ) (n : ℕ) (numbers cells : List ℕ) (from f : ℕ) : Type 0 where
  pub so_far : FramesPut first old n numbers cells from f
  pub inside : from + 73 ≤ length numbers

module _ (first old : List ℕ) (n : ℕ) where
  pub going_begin : 97 ≤ length first → 7 * n ≤ length old → Going first old n first old 0 0
  going_begin a b = record { so_far = frames_begin first old n a b; inside = omega arith }

  module _ (numbers cells : List ℕ) (from f : ℕ) (G : Going first old n numbers cells from f) where
    pub four_cells : 4 ≤ n - f → 7 * (f + 4) ≤ length cells
    four_cells h = omega (arith, G.so_far.put.kept, G.so_far.room)

    module _ (moved : List ℕ) (place : ℕ) (M : Moved numbers from moved place) where
      pub four_numbers : place + 55 + 24 ≤ length moved
      four_numbers = omega (arith, M.room)

      pub going_again : 4 ≤ n - f → (new_numbers new_cells : List ℕ) → SomePut moved place cells f 4 new_numbers new_cells
          → Going first old n new_numbers new_cells (place + 24) (f + 4)
      going_again h new_numbers new_cells S =
          record {
            so_far = some_put first old n moved cells place f (moved_put first old n numbers cells from f G.so_far moved place M) 4
                (omega arith) four_numbers new_numbers new_cells S;
            inside = omega (arith, M.room, ap length S.numbers_are, numbers_kept moved place 4);
          }

    module _ (h : n - f < 4) where
      pub rest_numbers : from + 55 + 6 * (n - f) ≤ length numbers
      rest_numbers = omega (arith, G.inside)

      pub rest_cells : 7 * (f + (n - f)) ≤ length cells
      rest_cells = omega (arith, G.so_far.put.kept, G.so_far.room, G.so_far.within)

      module _ (new_numbers new_cells : List ℕ) (S : SomePut numbers from cells f (n - f) new_numbers new_cells) where
        all_put : FramesPut first old n new_numbers new_cells (from + 6 * (n - f)) n
        all_put =
            let e : n ≡ f + (n - f) = omega (arith, G.so_far.within) in
            let h : f + (n - f) ≤ n = omega (arith, G.so_far.within) in
            let I = some_put first old n numbers cells from f G.so_far (n - f) h rest_numbers new_numbers new_cells S in
            subst (λ (k : ℕ). FramesPut first old n new_numbers new_cells (from + 6 * (n - f)) k) (sym e) I

        pub end_put : Put old 0 (frames_made (take 55 first) n) new_cells (7 * n)
        end_put = all_put.put

-- Four frames a turn, each four put into a part; k turns are done.
module _ (first old : List ℕ) (n : ℕ) (numbers cells : List ℕ) (from k : ℕ) (G : Going first old n numbers cells from (4 * k)) where
  pub going_step : k < n / 4 → (moved : List ℕ) (place : ℕ) → Moved numbers from moved place → (part part_cells : List ℕ)
      → SomePut (part_from place moved) 0 (part_from (28 * k) cells) 0 4 part part_cells
      → Going first old n (put_mid place (length moved - place) moved part) (put_mid (28 * k) (length cells - 28 * k) cells part_cells)
      (place + 24) (4 * (k + 1))
  going_step h moved place M part part_cells S =
      let e : 28 * k ≡ 7 * (4 * k) = omega arith in
      let z : 4 * (k + 1) ≡ 4 * k + 4 = omega arith in
      let l : 4 ≤ n - 4 * k = omega arith in
      let c : 7 * (4 * k) ≤ length cells = omega (arith, four_cells first old n numbers cells from (4 * k) G l) in
      let a : place ≤ length moved = omega (arith, M.room) in
      rw (e, z)
      (going_again first old n numbers cells from (4 * k) G moved place M l (put_mid place (length moved - place) moved part)
      (put_mid (7 * (4 * k)) (length cells - 7 * (4 * k)) cells part_cells)
      (some_back moved cells part part_cells place (4 * k) a c 4 (rw e at S)))

  pub going_end : n / 4 ≤ k → k ≤ n / 4 → (part part_cells : List ℕ)
      → SomePut (part_from from numbers) 0 (part_from (7 * (n - n % 4)) cells) 0 (n - (n - n % 4)) part part_cells
      → Put old 0 (frames_made (take 55 first) n)
      (put_mid (7 * (n - n % 4)) (length cells - 7 * (n - n % 4)) cells part_cells) (7 * n)
  going_end h l part part_cells S =
      let e : n - n % 4 ≡ 4 * k = omega arith in
      let m : n - 4 * k < 4 = omega arith in
      let c : 7 * (4 * k) ≤ length cells = omega (arith, rest_cells first old n numbers cells from (4 * k) G m) in
      let a : from ≤ length numbers = omega (arith, G.inside) in
      rw e
      (end_put first old n numbers cells from (4 * k) G m (put_mid from (length numbers - from) numbers part)
      (put_mid (7 * (4 * k)) (length cells - 7 * (4 * k)) cells part_cells)
      (some_back numbers cells part part_cells from (4 * k) a c (n - 4 * k) (rw e at S)))
