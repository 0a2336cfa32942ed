-- What a call of `generate` answers, in the request's own words: when 0, 24, 9 and 11; the codes of whatever sequence goes on from the given
-- numbers as the request says; "making n frames equals the first n of making more"; and cells that every check of cells passes. Rests on Numbers
-- and Frames, on the outcomes of refusals and on the ranges of cells.
use Rattle.std.proofs.Common.{◌≡◌, ℕ, zero, suc, ◌+◌, ◌-◌, ◌*◌, ◌/◌, ◌%◌, ◌^◌, ◌<◌, ◌≤◌, Bool, true, false, cond, not, ltb, leb, ◌↔◌, List, ◌++◌, length, get_or, take, drop, sym, refl, ap, ◌∙◌, arith, get_or-drop, take_at, get_or-append-add, ltb-false, ltb-true, eq-eqb, eqb-true, le-leb, leb-false, leb-true}
use mathlib.Core.Bool.{false≢true}
use borrow.Author.Tests.{lt-leb, not-true}
use lib.ListN.{get_or-append, get_or-eq_default}
use lib.Seq.{take-append-le}
use Rattle.lists.proofs.Each.{every_at, every_true}
use Rattle.refusals.specs.Refusals.{first_fault, accepted, out_of_range, does_not_fit, all_even}
use Rattle.refusals.specs.Outcomes.{Outcome}
use Rattle.refusals.proofs.Outcomes.{first_held, last_failed, made, not_made}
use Rattle.frames.specs.Codes.{code_limit}
use Rattle.frames.specs.Cells.{most_frames, cell_limit}
use Rattle.frames.proofs.Ranges.{Sound, limit_code, limit_enable, limit_pos}
use Rattle.generator.specs.Generator.{next_number, top_ten_bits, code_made, frames_made, even_at, all_are_even, generate_checks, generate_of}
use Rattle.generator.proofs.Frames.{frames_length, frames_prefix, code_cell, enable_cell}
use Rattle.generator.proofs.Numbers.{number_at, number_given, number_made, number_sum}

-- ---- in the request's own words

-- "Start from 55 numbers .. that the user gives; each next number is the sum modulo 2^32 of the numbers 24 and 55 places back": a sequence that does
-- so.
pub record Sequence (given : List ℕ) (s : ℕ → ℕ) : Type 0 where
  pub starts : (k : ℕ) → k < 55 → s k ≡ get_or given k 0
  pub goes_on : (k : ℕ) → 55 ≤ k → s k ≡ (s (k - 24) + s (k - 55)) % 2 ^ 32

-- There is one, and no other.
pub is_sequence : (given : List ℕ) → length given ≡ 55 → Sequence given (number_at given)
is_sequence given full =
    record {
      starts = number_given given full;
      goes_on = λ k h. (let a : k ≡ 55 + (k - 55) = omega arith in
          let b : k - 24 ≡ 31 + (k - 55) = omega arith in
          rw b (ap (number_at given) a ∙ number_sum given full (k - 55)));
    }

below : (s t : ℕ → ℕ) (given : List ℕ) → Sequence given s → Sequence given t → (n k : ℕ) → k < n → s k ≡ t k
below s t given S T zero k h = absurd (omega arith)
below s t given S T (suc n) k h = go (below s t given S T n) (ltb k 55) refl
  where
    go : ((j : ℕ) → j < n → s j ≡ t j) → (b : Bool) → ltb k 55 ≡ b → s k ≡ t k
    go same true e = let l = ltb-true k 55 e in S.starts k l ∙ sym (T.starts k l)
    go same false e =
        let l = ltb-false k 55 e in
        S.goes_on k l ∙ rw (same (k - 24) (omega arith), same (k - 55) (omega arith)) (sym (T.goes_on k l))

pub one_sequence : (given : List ℕ) (s t : ℕ → ℕ) → Sequence given s → Sequence given t → (k : ℕ) → s k ≡ t k
one_sequence given s t S T k = below s t given S T (suc k) k (omega arith)

-- ---- what a call answers

-- "all 55 are even"; an odd one among them.
abbrev pub AllEven : List ℕ → Type 0
AllEven given = (k : ℕ) → k < 55 → get_or given k 0 % 2 ≡ 0

abbrev pub SomeOdd : List ℕ → Type 0
SomeOdd given = AllEven given → ⊥

even_all : (given : List ℕ) → all_are_even given ≡ true → AllEven given
unfolding all_are_even
even_all given e k l = eqb-true _ _ (every_at 55 (even_at given) e k l)

all_even_lem : (given : List ℕ) → AllEven given → all_are_even given ≡ true
unfolding all_are_even
all_even_lem given a = every_true 55 (even_at given) (λ k l. eq-eqb (get_or given k 0 % 2) 0 (a k l))

odd_some : (given : List ℕ) → all_are_even given ≡ false → SomeOdd given
odd_some given e a = false≢true (sym e ∙ all_even_lem given a)

some_odd : (given : List ℕ) → SomeOdd given → all_are_even given ≡ false
some_odd given o = go (all_are_even given) refl
  where
    go : (t : Bool) → all_are_even given ≡ t → t ≡ false
    go true e = absurd (o (even_all given e))
    go false e = refl

-- What the checks behind 24 come to.
abbrev behind : ℕ → ℕ → ℕ
behind n room = cond (leb n most_frames) (cond (leb (7 * n) room) accepted does_not_fit) out_of_range

not_24 : (a b : Bool) → cond a (cond b accepted does_not_fit) out_of_range ≡ 24 → ⊥
not_24 true true e = omega arith
not_24 true false e = omega arith
not_24 false b e = omega arith

is_9 : (a b : Bool) → cond a (cond b accepted does_not_fit) out_of_range ≡ 9 → a ≡ false
is_9 true true e = absurd (omega arith)
is_9 true false e = absurd (omega arith)
is_9 false b e = refl

module _ (given : List ℕ) (n : ℕ) (cells : List ℕ) where
  odd_behind : (k : ℕ) → (24 ≡ k → ⊥) → (generate_of given n cells).refusal ≡ k → SomeOdd given × (behind n (length cells) ≡ k)
  unfolding generate_of
  odd_behind k h e =
      let a = first_held (not (all_are_even given)) all_even k h e in
      (odd_some given (not-true (all_are_even given) a.0), a.1)

  -- "24 if all 55 are even", however many frames are asked for and whatever is lent; and not otherwise.
  pub generate_even : ((generate_of given n cells).refusal ≡ 24) ↔ AllEven given
  unfolding generate_of
  generate_even = (λ h. to (all_are_even given) refl h, λ a. rw (all_even_lem given a))
    where
      to : (t : Bool) → all_are_even given ≡ t → cond (not t) (behind n (length cells)) 24 ≡ 24 → AllEven given
      to true e q = even_all given e
      to false e q = absurd (not_24 (leb n most_frames) (leb (7 * n) (length cells)) q)

  -- 9 exactly where there is an odd one and more than 4,096 frames are asked for, whatever is lent.
  pub generate_range : ((generate_of given n cells).refusal ≡ 9) ↔ (SomeOdd given × (4096 < n))
  unfolding generate_of
  generate_range = (
    λ h. (let a = odd_behind 9 (λ z. omega arith) h in
        (a.0, leb-false _ _ (is_9 (leb n most_frames) (leb (7 * n) (length cells)) a.1))),
    λ r. rw (some_odd given r.0, lt-leb n most_frames r.1),
  )

  -- 11 exactly where neither of these is and the cells are too few.
  pub generate_fit : ((generate_of given n cells).refusal ≡ 11) ↔ (SomeOdd given × (n ≤ 4096) × (length cells < 7 * n))
  unfolding generate_of
  generate_fit = (
    λ h. (let a = odd_behind 11 (λ z. omega arith) h in
        let b = first_held (leb n most_frames) out_of_range 11 (λ z. omega arith) a.1 in
        (a.0, leb-true _ _ b.0, leb-false _ _ (last_failed (leb (7 * n) (length cells)) does_not_fit (λ z. omega arith) b.1))),
    λ r. rw (some_odd given r.0, le-leb n most_frames r.1, lt-leb (7 * n) (length cells) r.2),
  )

  -- "An accepted call's number is 0": exactly where no check fails.
  pub generate_accepts : ((generate_of given n cells).refusal ≡ 0) ↔ (SomeOdd given × (n ≤ 4096) × (7 * n ≤ length cells))
  unfolding generate_of
  generate_accepts = (
    λ h. (let a = odd_behind 0 (λ z. omega arith) h in
        let b = first_held (leb n most_frames) out_of_range 0 (λ z. omega arith) a.1 in
        let c = first_held (leb (7 * n) (length cells)) does_not_fit 0 (λ z. omega arith) b.1 in
        (a.0, leb-true _ _ b.0, leb-true _ _ c.0)),
    λ r. rw (some_odd given r.0, le-leb n most_frames r.1, le-leb (7 * n) (length cells) r.2),
  )

  -- "count 0 and buffer old"
  pub generate_refused : ((generate_of given n cells).refusal ≡ accepted → ⊥)
      → ((generate_of given n cells).count ≡ 0) × ((generate_of given n cells).buffer ≡ cells)
  unfolding generate_of
  generate_refused h =
      let e = not_made (first_fault (generate_checks given n cells)) n (frames_made given n) cells h in
      (ap (λ (o : Outcome). o.count) e, ap (λ (o : Outcome). o.buffer) e)

  module _ (h : (generate_of given n cells).refusal ≡ accepted) where
    -- The frames stand at the front, and what is past them is untouched.
    pub generate_made : generate_of given n cells ≡ record { refusal = accepted; count = n; buffer = frames_made given n ++ drop (7 * n) cells }
    unfolding generate_of
    generate_made =
        made (first_fault (generate_checks given n cells)) n (frames_made given n) cells h ∙ rw (frames_length given n)

    pub generate_front : take (7 * n) (generate_of given n cells).buffer ≡ frames_made given n
    generate_front = rw generate_made (take_at (frames_made given n) (drop (7 * n) cells) (7 * n) (frames_length given n))

    inside : (i : ℕ) → i < 7 * n → get_or (generate_of given n cells).buffer i 0 ≡ get_or (frames_made given n) i 0
    inside i l = rw generate_made (get_or-append (frames_made given n) (drop (7 * n) cells) 0 i (omega (arith, frames_length given n)))

    -- "The top ten bits of six successive made numbers, the given 55 not among them, are the codes of a frame, enable byte 7F hexadecimal": of
    -- whatever sequence goes on from those given.
    pub generate_codes : length given ≡ 55 → (s : ℕ → ℕ) → Sequence given s → (f c : ℕ) → f < n → c < 6
        → get_or (generate_of given n cells).buffer (7 * f + c) 0 ≡ s (55 + (6 * f + c)) / 2 ^ 22
    generate_codes full s S f c l k =
        inside (7 * f + c) (omega arith)
        ∙ code_cell given n f c l k
        ∙ ap top_ten_bits
        (sym (number_made given full (6 * f + c)) ∙ one_sequence given (number_at given) s (is_sequence given full) S (55 + (6 * f + c)))

    pub generate_enables : (f : ℕ) → f < n → get_or (generate_of given n cells).buffer (7 * f + 6) 0 ≡ 0x7F
    generate_enables f l = inside (7 * f + 6) (omega arith) ∙ enable_cell given n f l

    pub generate_past : (i : ℕ) → 7 * n ≤ i → get_or (generate_of given n cells).buffer i 0 ≡ get_or cells i 0
    generate_past i l =
        let e : i ≡ 7 * n + (i - 7 * n) = omega arith in
        rw generate_made
        (ap (λ (j : ℕ). get_or (frames_made given n ++ drop (7 * n) cells) j 0) (e ∙ ap (λ (j : ℕ). j + (i - 7 * n)) (sym (frames_length given n)))
        ∙ get_or-append-add (frames_made given n) (drop (7 * n) cells) (i - 7 * n) 0
        ∙ get_or-drop (7 * n) cells (i - 7 * n) 0
        ∙ ap (λ (j : ℕ). get_or cells j 0) (sym e))

-- "Making n frames equals the first n of making more": where making m is accepted, so is making n, into any cells that have room, and it makes the
-- first n of the m.
pub first_of_more : (given : List ℕ) (n m : ℕ) (cells room : List ℕ) → n ≤ m → (generate_of given m room).refusal ≡ accepted → 7 * n ≤ length cells
    → generate_of given n cells
    ≡ record { refusal = accepted; count = n; buffer = take (7 * n) (generate_of given m room).buffer ++ drop (7 * n) cells }
first_of_more given n m cells room h a r =
    let R = (generate_accepts given m room).0 a in
    let b : (generate_of given n cells).refusal ≡ accepted = (generate_accepts given n cells).1 (R.0, omega (arith, R.1), r) in
    let e : take (7 * n) (generate_of given m room).buffer ≡ frames_made given n =
    rw (generate_made given m room a)
    (take-append-le (7 * n) (frames_made given m) (drop (7 * m) room) (omega (arith, frames_length given m)) ∙ frames_prefix given n m h) in
    rw e (generate_made given n cells b)

-- "Two of us must make one load": whatever cells are lent.
pub one_load : (given : List ℕ) (n : ℕ) (cells room : List ℕ) → (generate_of given n cells).refusal ≡ accepted
    → (generate_of given n room).refusal ≡ accepted
    → take (7 * n) (generate_of given n cells).buffer ≡ take (7 * n) (generate_of given n room).buffer
one_load given n cells room a b = generate_front given n cells a ∙ sym (generate_front given n room b)

-- ---- what is made passes the checks of cells

code_below : (given : List ℕ) (f c : ℕ) → code_made given f c < code_limit
unfolding next_number
code_below given f c = omega arith

pub made_sound : (given : List ℕ) (n : ℕ) → n ≤ most_frames → Sound (frames_made given n)
made_sound given n h =
    record { whole = omega (arith, frames_length given n); few = omega (arith, frames_length given n); ranges = λ i. go i (ltb i (7 * n)) refl }
  where
    cell : (i : ℕ) → i < 7 * n → (t : Bool) → ltb (i % 7) 6 ≡ t → get_or (frames_made given n) i 0 < cell_limit i
    cell i l true e =
        let k = ltb-true (i % 7) 6 e in
        let a : i ≡ 7 * (i / 7) + i % 7 = omega arith in
        rw (limit_code i (λ z. omega arith), ap (λ (j : ℕ). get_or (frames_made given n) j 0) a ∙ code_cell given n (i / 7) (i % 7) (omega arith) k)
        (code_below given (i / 7) (i % 7))
    cell i l false e =
        let k = ltb-false (i % 7) 6 e in
        let a : i ≡ 7 * (i / 7) + 6 = omega arith in
        rw (limit_enable i (omega arith), ap (λ (j : ℕ). get_or (frames_made given n) j 0) a ∙ enable_cell given n (i / 7) (omega arith)) (omega arith)

    go : (i : ℕ) (t : Bool) → ltb i (7 * n) ≡ t → get_or (frames_made given n) i 0 < cell_limit i
    go i true e = cell i (ltb-true i (7 * n) e) (ltb (i % 7) 6) refl
    go i false e =
        rw (get_or-eq_default (frames_made given n) 0 {n = i} (omega (arith, ltb-false i (7 * n) e, frames_length given n))) (limit_pos i)
