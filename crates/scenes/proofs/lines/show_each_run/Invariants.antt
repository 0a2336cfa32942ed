-- What each loop leaves to be printed: the runs from its index on, then those of the loop behind it.
use Rattle.std.proofs.Common.{[], ◌++◌, drop, map}
use Rattle.text.specs.Text.{spaced}
use Rattle.scenes.specs.Lines.{runs_of}
use Rattle.scenes.proofs.Printed.{Leaves}
use Rattle.scenes.proofs.lines.show_each_run.Given as goal

abbrev pub invariant-loop-channel : goal.invariant-loop-channel
invariant-loop-channel g l =
    let over_runs = map (λ c. c.over_run) (drop 3 l.channels) in
    Leaves (g.W.Write.contents l.fn.out) (g.W.Write.contents l.out)
    (spaced (map (λ c. c.loss_run) (drop l.channel-index l.channels) ++ over_runs)) (spaced (runs_of l.channels))

abbrev pub invariant-loop-current : goal.invariant-loop-current
invariant-loop-current g l =
    Leaves (g.W.Write.contents l.fn.out) (g.W.Write.contents l.out)
    (spaced (map (λ c. c.over_run) (drop l.current-index l.current-items) ++ [])) (spaced (runs_of l.channels))
