-- What the promise of `write_report` comes to: the report on all that the source had, read or not. Rests on the law
-- that the first bytes decide the report (`report_first_bytes`).
use Rattle.std.proofs.Common.{◌≡◌, ℕ, ◌<◌, ◌≤◌, Option, None, Some, List, [], ◌++◌, length, take}
use Rattle.std.proofs.Common.{inl, inr, sym, ap, ◌∙◌, arith, append-nil}
use Rattle.std.proofs.lemmas.Bool.{cases_lt}
use Rattle.std.proofs.Math.Seq.{take-append_seam}
use Rattle.report.specs.Report.{report_of}
use Rattle.report.proofs.Outcome.{report_first_bytes}
use Rattle.bench.specs.Written.{most, Written}

-- The report on a full buffer is that on the whole input; where room is left the buffer has the whole input.
same_report : (bytes rest : List ℕ) → length bytes ≤ most → (length bytes < most → rest ≡ [])
    → report_of bytes ≡ report_of (bytes ++ rest)
same_report bytes rest within all =
    elim (cases_lt (length bytes) most) [
      | inl few ↦ ap report_of (sym (ap (λ l. bytes ++ l) (all few) ∙ append-nil bytes))
      | inr full ↦
          let size : 53254 ≡ length bytes = omega arith in
          let front : take 53254 (bytes ++ rest) ≡ bytes =
          ap (λ n. take n (bytes ++ rest)) size ∙ take-append_seam bytes rest in
          sym (ap report_of front) ∙ report_first_bytes (bytes ++ rest)
    ]

-- Where a source and a sink have known bytes, the sink gets the report on the whole input.
pub whole_input : (input before after : List ℕ) (rest : Option (List ℕ))
    → Written (Some input) rest (Some before) (Some after) → after ≡ before ++ report_of input
whole_input input before after None w = absurd w.came
whole_input input before after (Some rest) w =
    w.report ∙ ap (λ l. before ++ l) (same_report w.bytes rest w.within w.all ∙ ap report_of (sym w.came))
