-- Each `write!` prints the first of the runs that are left.
use Rattle.std.proofs.Common.{arith, ℕ, List, ◌∷◌, ◌≤◌, [], sym, ap, ◌∙◌, subst, length, drop}
use Rattle.std.proofs.Common.{take, map, append-nil, length-drop}
use Rattle.std.proofs.lemmas.List.{take_all}
use Rattle.text.specs.Text.{space, spaced}
use Rattle.scenes.specs.Lines.{runs_of}
use Rattle.scenes.proofs.Printed.{Leaves, leaves_all, leaves_rest, leaves_none}
use Rattle.scenes.proofs.Digits.{number_printed}
use Rattle.scenes.proofs.Runs.{runs_more, runs_end}
use Rattle.scenes.proofs.lines.show_each_run.Goals as goal

pub loop-channel-init : goal.loop-channel-init
loop-channel-init g c = leaves_all _ _

pub loop-channel-preserved : goal.loop-channel-preserved
loop-channel-preserved g c =
    let channels = c.args.channels.now in
    let at = c.loop-channel in
    let now = g.W.Write.contents at.out in
    let overs = map (λ d. d.over_run) (drop 3 channels) in
    let more = runs_more (λ d. d.loss_run) channels at.channel-index _ overs (omega arith) in
    let P : List ℕ → Type 0 = λ bs. Leaves (g.W.Write.contents c.args.out.now) now bs (spaced (runs_of channels)) in
    let left = subst P more at.invariant in
    let next = g.W.Write.contents c.write.new.self in
    leaves_rest _ _ _ _ _ _ left (number_printed now next (space ∷ []) _ (omega arith) c.in_ok-write.ensures.bytes)

pub loop-current-init : goal.loop-current-init
loop-current-init g c =
    let channels = c.args.channels.now in
    let at = c.loop-channel in
    let overs = map (λ d. d.over_run) (drop 3 channels) in
    let behind = runs_end (λ d. d.loss_run) channels at.channel-index overs (omega arith) in
    let few : length (drop 3 channels) ≤ 3 = omega (arith, length-drop 3 channels) in
    let currents = ap (map (λ d. d.over_run)) (sym (take_all 3 (drop 3 channels) few)) in
    let same = behind ∙ ap spaced (currents ∙ sym (append-nil _)) in
    let now = g.W.Write.contents at.out in
    let P : List ℕ → Type 0 = λ bs. Leaves (g.W.Write.contents c.args.out.now) now bs (spaced (runs_of channels)) in
    subst P same at.invariant

pub loop-current-preserved : goal.loop-current-preserved
loop-current-preserved g c =
    let channels = c.args.channels.now in
    let currents = take 3 (drop 3 channels) in
    let at = c.loop-current in
    let now = g.W.Write.contents at.out in
    let more = runs_more (λ d. d.over_run) currents at.current-index _ [] (omega arith) in
    let P : List ℕ → Type 0 = λ bs. Leaves (g.W.Write.contents c.args.out.now) now bs (spaced (runs_of channels)) in
    let left = subst P more at.invariant in
    let next = g.W.Write.contents c.write-in-loop-current.new.self in
    leaves_rest _ _ _ _ _ _ left (number_printed now next (space ∷ []) _ (omega arith) c.in_ok-write-2.ensures.bytes)

pub returns : goal.returns
unfolding spaced
returns g c =
    let channels = c.args.channels.now in
    let at = c.loop-current in
    let none = runs_end (λ d. d.over_run) (take 3 (drop 3 channels)) at.current-index [] (omega arith) in
    let now = g.W.Write.contents at.out in
    let P : List ℕ → Type 0 = λ bs. Leaves (g.W.Write.contents c.args.out.now) now bs (spaced (runs_of channels)) in
    leaves_none _ _ _ (subst P none at.invariant)
