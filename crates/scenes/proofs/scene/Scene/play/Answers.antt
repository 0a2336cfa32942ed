-- What is left of the steps and of their lines, one step on and at the end.
use Rattle.std.proofs.Common.{arith, ◌++◌, List, [], ◌∷◌, ℕ, append_assoc, refl, subst, sym}
use Rattle.text.specs.Text.{newline}
use Rattle.scenes.specs.PlayedText.{steps_text, played_text}
use Rattle.scenes.proofs.Played.{played_feed, played_change, played_all}
use Rattle.scenes.proofs.PlayedText.{text_feed, text_change, text_end}
use Rattle.scenes.proofs.Printed.{Leaves, leaves_all, leaves_rest, leaves_none}
use Rattle.scenes.proofs.scene.Scene.play.Goals as goal
use Rattle.scenes.proofs.scene.Scene.play.Goals.{in-Feed+in_ok-relay-in-Feed, in-Change+in_ok-relay-in-Change}

pub loop-step-init : goal.loop-step-init
unfolding played_text
loop-step-init g c =
    let scene = c.args.self.now in
    let steps = steps_text c.fresh.result.relay 0 scene.steps.now in
    let old = g.W.Write.contents c.args.out.now in
    let new = g.W.Write.contents c.writeln.new.self in
    let named = append_assoc scene.name.now (newline ∷ []) steps in
    let whole = subst (Leaves old old ((scene.name.now ++ (newline ∷ [])) ++ steps)) named (leaves_all old _) in
    record {
      leads = refl;
      printed = leaves_rest old old new (scene.name.now ++ (newline ∷ [])) steps _ whole c.in_ok-writeln.ensures.bytes;
    }

pub loop-step-preserved : goal.loop-step-preserved
loop-step-preserved g c =
    let steps = c.args.self.now.steps.now in
    let at = c.loop-step in
    let old = g.W.Write.contents c.args.out.now in
    let now = g.W.Write.contents at.out in
    let whole = played_text c.args.self.now.name.now c.fresh.result.relay steps in
    let P : List ℕ → Type 0 = λ rest. Leaves old now rest whole in
    elim c.match-step.branch [
      | in-Feed+in_ok-relay-in-Feed w ↦
          let fed = w.in_ok-relay-in-Feed.ensures in
          let on = played_feed at.relay at.first steps at.step-index _ _ _ (omega arith) w.in-Feed.is in
          let text = text_feed at.relay at.first steps at.step-index _ _ _ (omega arith) w.in-Feed.is in
          record {
            leads = cc (on, fed.next, at.invariant.leads);
            printed = rw (w.out-is, w.relay-is, w.first-is, fed.next)
                (leaves_rest old now _ _ _ whole (subst P text at.invariant.printed) fed.text);
          }
      | in-Change+in_ok-relay-in-Change w ↦
          let changed = w.in_ok-relay-in-Change.ensures in
          let on = played_change at.relay at.first steps at.step-index _ _ (omega arith) w.in-Change.is in
          let text = text_change at.relay at.first steps at.step-index _ _ (omega arith) w.in-Change.is in
          record {
            leads = cc (on, changed.next, at.invariant.leads);
            printed = rw (w.out-is, w.relay-is, w.first-is, changed.next)
                (leaves_rest old now _ _ _ whole (subst P text at.invariant.printed) changed.text);
          }
    ]

pub returns : goal.returns
returns g c =
    let scene = c.args.self.now in
    let at = c.loop-step in
    let old = g.W.Write.contents c.args.out.now in
    let now = g.W.Write.contents at.out in
    let all = played_all at.relay at.first scene.steps.now at.step-index (omega arith) in
    let none = text_end at.relay at.first scene.steps.now at.step-index (omega arith) in
    let whole = played_text scene.name.now c.fresh.result.relay scene.steps.now in
    record {
      next = cc (all, at.invariant.leads, c.fresh.ensures);
      text = rw (sym c.fresh.ensures)
          (leaves_none old now whole (subst (λ rest. Leaves old now rest whole) none at.invariant.printed));
    }
