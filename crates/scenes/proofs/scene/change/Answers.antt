-- The line is what `writeln!` appends, with the refusal in the text's digits.
use Rattle.std.proofs.Common.{arith, sym, subst}
use Rattle.std.specs.Io.KnownBytes.{Appends}
use Rattle.relay.specs.declared.RelayAnswer.{RelayAnswer}
use Rattle.scenes.specs.Lines.{change_line}
use Rattle.text.specs.Text.{word_line}
use Rattle.scenes.proofs.Digits.{same_decimal}
use Rattle.scenes.proofs.scene.change.Goals as goal

pub returns-clause-text : goal.returns-clause-text
unfolding word_line
returns-clause-text g c =
    let refusal = c.change-answer.result.refusal in
    let printed = g.W.Write.contents c.writeln.new.self in
    let P : RelayAnswer → Type 0 =
    λ answer. Appends (g.W.Write.contents c.args.out.now) printed (change_line answer.refusal) in
    let digits = sym (same_decimal refusal (omega arith)) in
    subst P c.change-answer.ensures (rw digits c.in_ok-writeln.ensures.bytes)
