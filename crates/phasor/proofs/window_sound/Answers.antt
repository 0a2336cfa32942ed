-- `phasor::window_sound` meets its contract. The loop's invariant: the test of the slots passed.
use native.Mathlib.Omega.{arith}
use mathlib.Core.Path.{◌≡◌}
use Rattle.std.proofs.lemmas.Grind.{common_steps}
use Rattle.lists.proofs.Tested.{tested_cases}
use Rattle.frames.specs.Codes.{sample_sound}
use Rattle.phasor.specs.Window.{sample_at, window_sound}
use Rattle.phasor.proofs.window_sound.Goals as goal

pub loop-sample-init : goal.loop-sample-init
loop-sample-init c = search tested_cases

pub loop-sample-preserved : goal.loop-sample-preserved
loop-sample-preserved c =
    let here : c.sample_sound-ok.result ≡ sample_sound (sample_at c.args.w c.loop-sample.sample-index) = grind (arith, common_steps) in
    search (tested_cases, here)

pub returns : goal.returns
unfolding window_sound
returns c = search tested_cases
