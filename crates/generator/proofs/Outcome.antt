-- The outcome of a call of `generate`, case by case as the code returns. Rests on the laws of `Put` and on the outcomes of refusals.
use Rattle.std.proofs.Common.{◌≡◌, ℕ, zero, suc, ◌+◌, ◌*◌, ◌<◌, ◌≤◌, Bool, true, false, ◌&&◌, List, ◌++◌, length, take, sym, refl, ap, ◌∙◌, arith, take_all, take_at, le-leb}
use Rattle.std.specs.List.{list_all}
use Rattle.std.proofs.lemmas.List.Folds.{list_all_more}
use borrow.Author.Tests.{lt-leb}
use Rattle.lists.specs.Each.{every}
use Rattle.lists.specs.Put.{Put}
use Rattle.lists.proofs.Put.{put_front}
use Rattle.refusals.specs.Refusals.{first_fault, accepted, out_of_range, does_not_fit, all_even}
use Rattle.refusals.specs.Outcomes.{Answered}
use Rattle.refusals.proofs.Outcomes.{answered, answered_not}
use Rattle.frames.specs.Cells.{most_frames}
use Rattle.generator.specs.Generator.{frames_made, is_even, even_at, all_are_even, generate_checks, generate_of}

-- The row begins with the numbers given.
pub row_first : (given front rest : List ℕ) → length given ≡ 55 → front ≡ given → take 55 (front ++ rest) ≡ given
row_first given front rest full e = rw e (take_at given rest 55 full)

all_at : (numbers : List ℕ) (n : ℕ) → n ≤ length numbers → list_all is_even (take n numbers) ≡ every n (even_at numbers)
unfolding every
all_at numbers zero h = refl
all_at numbers (suc n) h =
    let e : n + 1 ≡ suc n = omega arith in
    let more : list_all is_even (take (n + 1) numbers) ≡ (list_all is_even (take n numbers) && even_at numbers n)
    = list_all_more is_even numbers n 0 (omega arith) in
    (rw e at more) ∙ ap (λ (t : Bool). t && even_at numbers n) (all_at numbers n (omega arith))

all_given : (given : List ℕ) → length given ≡ 55 → list_all is_even given ≡ all_are_even given
unfolding all_are_even
all_given given full = ap (list_all is_even) (sym (take_all 55 given (omega arith))) ∙ all_at given 55 (omega arith)

module _ (given : List ℕ) (n : ℕ) (cells : List ℕ) where
  abbrev first : ℕ
  first = first_fault (generate_checks given n cells)

  module _ (full : length given ≡ 55) (numbers : List ℕ) (g : take 55 numbers ≡ given) (even : Bool)
      (asked : even ≡ list_all is_even (take 55 numbers)) where
    e : even ≡ all_are_even given
    e = asked ∙ ap (list_all is_even) g ∙ all_given given full

    refused : (k r m : ℕ) → first ≡ k → 0 < k → r ≡ k → m ≡ 0 → Answered (generate_of given n cells) r m cells
    unfolding generate_of
    refused k r m f h a b = answered_not first n (frames_made given n) cells k r m f h a b

    pub even_refused : (r m : ℕ) → even ≡ true → r ≡ all_even → m ≡ 0 → Answered (generate_of given n cells) r m cells
    even_refused r m t a b = refused all_even r m (rw (sym e ∙ t)) (omega arith) a b

    module _ (odd : even ≡ false) where
      some_odd : all_are_even given ≡ false
      some_odd = sym e ∙ odd

      pub many_refused : (r m : ℕ) → most_frames < n → r ≡ out_of_range → m ≡ 0 → Answered (generate_of given n cells) r m cells
      many_refused r m h a b = refused out_of_range r m (rw (some_odd, lt-leb n most_frames h)) (omega arith) a b

      module _ (few : n ≤ most_frames) where
        pub room_refused : (r m : ℕ) → length cells < 7 * n → r ≡ does_not_fit → m ≡ 0 → Answered (generate_of given n cells) r m cells
        room_refused r m h a b =
            refused does_not_fit r m (rw (some_odd, le-leb n most_frames few, lt-leb (7 * n) (length cells) h)) (omega arith) a b

        pub generate_done : 7 * n ≤ length cells → (new : List ℕ) → Put cells 0 (frames_made (take 55 numbers) n) new (7 * n)
            → Answered (generate_of given n cells) accepted n new
        unfolding generate_of
        generate_done h new P =
            answered first n (frames_made given n) cells accepted n new
            (rw (some_odd, le-leb n most_frames few, le-leb (7 * n) (length cells) h))
            refl
            refl
            (put_front (rw g at P)).0

pub ruleset generate_cases = (row_first, even_refused, many_refused, room_refused, generate_done)
