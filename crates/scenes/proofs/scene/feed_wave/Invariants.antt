-- So far the relay has met the frames before n, and their lines are printed. Where the wave ends before it begins, n
-- stays the first.
use Rattle.std.proofs.Common.{◌≡◌, ◌≤◌, ◌-◌, max}
use Rattle.std.specs.Io.KnownBytes.{Appends}
use Rattle.scenes.specs.Played.{fed}
use Rattle.scenes.specs.PlayedText.{fed_text}
use Rattle.scenes.proofs.scene.feed_wave.Given as goal

abbrev pub invariant-loop-n : goal.invariant-loop-n
invariant-loop-n g l = record {
  met : l.relay ≡ fed l.initial.relay l.wave l.first (l.n - l.first);
  printed : Appends (g.W.Write.contents l.initial.out) (g.W.Write.contents l.out)
      (fed_text l.initial.relay l.wave l.first (l.n - l.first));
  within : l.n ≤ max l.first l.end;
}
