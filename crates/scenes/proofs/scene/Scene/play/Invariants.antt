-- The steps that are left, from the relay so far, lead where all of them lead from the fresh one, and their lines are
-- what is left to be printed.
use Rattle.std.proofs.Common.{◌≡◌, drop}
use Rattle.scenes.specs.Played.{played}
use Rattle.scenes.specs.PlayedText.{steps_text, played_text}
use Rattle.scenes.proofs.Printed.{Leaves}
use Rattle.scenes.proofs.scene.Scene.play.Given as goal

abbrev pub invariant-loop-step : goal.invariant-loop-step
invariant-loop-step g l =
    let left = drop l.step-index l.self.steps.now in
    record {
      leads : played l.relay l.first left ≡ played l.initial.relay 0 l.self.steps.now;
      printed : Leaves (g.W.Write.contents l.fn.out) (g.W.Write.contents l.out) (steps_text l.relay l.first left)
          (played_text l.self.name.now l.initial.relay l.self.steps.now);
    }
