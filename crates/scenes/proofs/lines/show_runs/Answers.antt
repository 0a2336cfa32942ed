-- A frame that is not counted has no line; the others are printed piece by piece.
use Rattle.std.proofs.Common.{arith, ◌≡◌, List, [], ◌∷◌, ◌++◌, ap, subst}
use Rattle.std.specs.Prelude.{ℕ, Option, OnOk, IfSome, Some}
use Rattle.std.specs.Fmt.{◌++?◌, styled_digits_output}
use Rattle.std.specs.Io.KnownBytes.{Appends}
use Rattle.std.proofs.KnownBytes.{Appends-nil}
use Rattle.std.proofs.lemmas.Bool.{lt-ltb, le-ltb}
use Rattle.std.proofs.lemmas.Result.{IfOk-weaker}
use Rattle.text.specs.Text.{space, newline, hex_two}
use Rattle.scenes.specs.Lines.{runs_line}
use Rattle.scenes.proofs.Digits.{number_printed, same_hex}
use Rattle.scenes.proofs.Printed.{three_printed}
use Rattle.scenes.proofs.lines.show_runs.Goals as goal

pub returns-then-n-lt-FIRST_COUNTED : goal.returns-then-n-lt-FIRST_COUNTED
unfolding runs_line
returns-then-n-lt-FIRST_COUNTED g c =
    let none = Appends-nil (g.W.Write.contents c.args.out.now) in
    rw (lt-ltb c.args.n 72 c.if-n-lt-FIRST_COUNTED.true) none

pub returns : goal.returns
unfolding runs_line
returns g c =
    let output = c.args.answer.now.output in
    let after_runs = g.W.Write.contents c.show_each_run.new.out in
    let new = g.W.Write.contents c.writeln.new.self in
    let hex : styled_digits_output c.in_radix.result c.laid_out.result ≡ Some (hex_two output) =
    rw (c.in_radix.ensures, c.laid_out.ensures) (ap Some (same_hex output (omega arith))) in
    let line = (space ∷ hex_two output) ++ (newline ∷ []) in
    let ending : Option (List ℕ) → Option (List ℕ) = λ shown. Some (space ∷ []) ++? shown ++? Some (newline ∷ []) in
    let P : Option (List ℕ) → Type 0 =
    λ shown. OnOk c.writeln.result (IfSome (ending shown) (Appends after_runs new)) in
    let number = number_printed _ _ [] c.args.n (omega arith) c.in_ok-write.ensures.bytes in
    let whole = three_printed _ _ after_runs new _ _ line number c.in_ok-show_each_run.ensures in
    rw (le-ltb c.args.n 72 c.if-n-lt-FIRST_COUNTED.false)
    (IfOk-weaker c.writeln.result _ _ (λ _ p. whole p) (subst P hex c.writeln.ensures.bytes))
