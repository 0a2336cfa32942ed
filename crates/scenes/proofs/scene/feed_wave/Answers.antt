-- Frame n is fed to the relay that the frames before it leave, and its line is behind theirs.
use Rattle.std.proofs.Common.{arith, sym, ap, subst, ◌∙◌, ◌≡◌, ◌-◌, replicate, ℕ, List}
use Rattle.std.specs.Io.KnownBytes.{Appends}
use Rattle.std.proofs.KnownBytes.{Appends-nil, Appends-trans}
use Rattle.relay.specs.declared.Relay.{Relay}
use Rattle.relay.specs.Relay.{frame_of}
use Rattle.scenes.specs.Lines.{runs_line}
use Rattle.scenes.specs.Played.{fed}
use Rattle.scenes.specs.PlayedText.{fed_line, fed_text}
use Rattle.scenes.proofs.Played.{fed_none, fed_more}
use Rattle.scenes.proofs.PlayedText.{text_none, text_more}
use Rattle.scenes.proofs.scene.feed_wave.Goals as goal

pub loop-n-init : goal.loop-n-init
loop-n-init g c =
    let out = g.W.Write.contents c.args.out.now in
    record {
      met = sym (fed_none c.args.relay c.args.wave c.args.first);
      printed = rw (text_none c.args.relay c.args.wave c.args.first) (Appends-nil out);
      within = omega arith;
    }

pub loop-n-preserved : goal.loop-n-preserved
loop-n-preserved g c =
    let at = c.loop-n in
    let r = c.args.relay in
    let wave = c.args.wave in
    let first = c.args.first in
    let more = fed_more r wave first at.n (omega arith) in
    let more_text = text_more r wave first at.n (omega arith) in
    let old = g.W.Write.contents c.args.out.now in
    let now = g.W.Write.contents at.out in
    let next = g.W.Write.contents c.feed.new.out in
    let line = c.in_ok-relay.ensures.text in
    let before = fed r wave first (at.n - first) in
    let line_of : Relay → ℕ → List ℕ = λ k code. runs_line at.n (frame_of k (replicate 6 code) 127) in
    let same : line_of at.relay c.code_in.result ≡ fed_line before wave at.n =
    ap (λ k. line_of k c.code_in.result) at.invariant.met ∙ ap (line_of before) c.code_in.ensures in
    record {
      met = cc (more, c.in_ok-relay.ensures.next, c.code_in.ensures, at.invariant.met);
      printed = rw more_text (Appends-trans old now next _ _ at.invariant.printed (subst (Appends now next) same line));
      within = omega arith;
    }

pub returns : goal.returns
returns g c =
    let at = c.loop-n in
    let same : at.n - c.args.first ≡ c.args.end - c.args.first = omega arith in
    record {
      next = at.invariant.met ∙ ap (fed c.args.relay c.args.wave c.args.first) same;
      text = subst (Appends (g.W.Write.contents c.args.out.now) (g.W.Write.contents at.out))
          (ap (fed_text c.args.relay c.args.wave c.args.first) same) at.invariant.printed;
    }
