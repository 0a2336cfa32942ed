-- What is written is the front of the buffer, which is the line that was put.
use Rattle.std.proofs.Common.{◌≡◌, ℕ, List, take, subst}
use Rattle.std.specs.Prelude.{OnOk}
use Rattle.std.specs.Io.KnownBytes.{Appends}
use Rattle.std.proofs.Math.Seq.{take-append_seam}
use Rattle.lists.specs.Put.{Put}
use Rattle.lists.proofs.Put.{put_front}
use Rattle.scenes.proofs.lines.show_frame.Goals as goal

front_taken : {old items new : List ℕ} {next : ℕ} → Put old 0 items new next → take next new ≡ items
front_taken {old} {items} p = let f = put_front p in rw (f.0, f.1) (take-append_seam items _)

pub returns : goal.returns
returns g c =
    let old = g.W.Write.contents c.args.out.now in
    let new = g.W.Write.contents c.write_all.new.self in
    subst (λ bs. OnOk c.write_all.result (Appends old new bs)) (front_taken c.put_frame_line-m.ensures.put) c.write_all.ensures.bytes
