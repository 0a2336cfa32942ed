-- Each return is a case of Windows.
use Rattle.cells.proofs.Windows.{strongest_channel, strongest_cells, strongest_few, channel_right, strongest_accepted}
use Rattle.cells.proofs.strongest.Goals as goal

pub returns-then-channel-gt5 : goal.returns-then-channel-gt5
returns-then-channel-gt5 c = search strongest_channel

pub returns-in_err-check : goal.returns-in_err-check
returns-in_err-check c =
    strongest_cells c.args.cells.now c.args.channel c.from_residual.result c.in_err-check.field-0.0 c.from_residual.ensures.1
    c.if-channel-gt5.false c.in_err-check.ensures

pub returns-then-cells-lt8 : goal.returns-then-cells-lt8
returns-then-cells-lt8 c = strongest_few c.args.cells.now c.args.channel c.if-channel-gt5.false c.in_ok-check.ensures c.if-cells-lt8.true

pub invariant_of-of_channel : goal.invariant_of-of_channel
invariant_of-of_channel c = record {
  right = channel_right c.args.cells.now c.args.channel c.if-channel-gt5.false c.in_ok-check.ensures c.if-cells-lt8.false;
}

pub returns : goal.returns
returns c = strongest_accepted c.args.cells.now c.args.channel c.if-channel-gt5.false c.in_ok-check.ensures c.if-cells-lt8.false
    c.strongest.result c.strongest.ensures
