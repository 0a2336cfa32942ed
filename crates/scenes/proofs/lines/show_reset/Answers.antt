-- The line is what `writeln!` appends, with the mask and the refusal in the text's digits.
use Rattle.std.proofs.Common.{arith, sym, subst}
use Rattle.std.specs.Io.KnownBytes.{Appends}
use Rattle.relay.specs.declared.RelayAnswer.{RelayAnswer}
use Rattle.scenes.specs.Lines.{reset_line}
use Rattle.scenes.proofs.Digits.{same_decimal}
use Rattle.scenes.proofs.lines.show_reset.Goals as goal

pub returns-clause-text : goal.returns-clause-text
unfolding reset_line
returns-clause-text g c =
    let mask = c.args.mask in
    let refusal = c.reset-answer.result.refusal in
    let printed = g.W.Write.contents c.writeln.new.self in
    let P : RelayAnswer → Type 0 =
    λ answer. Appends (g.W.Write.contents c.args.out.now) printed (reset_line mask answer.refusal) in
    let mask_digits = sym (same_decimal mask (omega arith)) in
    let refusal_digits = sym (same_decimal refusal (omega arith)) in
    subst P c.reset-answer.ensures (rw (mask_digits, refusal_digits) c.in_ok-writeln.ensures.bytes)
