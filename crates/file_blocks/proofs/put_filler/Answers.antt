use Rattle.std.proofs.Common.{◌≡◌, ◌-◌, arith, length, length-drop, take, drop, replicate}
use Rattle.std.proofs.Math.Seq.{length-take-le}
use Rattle.file_blocks.proofs.Laws.{part_put}
use Rattle.file_blocks.proofs.put_filler.Goals as goal

pub returns : goal.returns
returns c =
    let a = c.args in
    let e : length (take (508 - a.from) (drop a.from a.bytes.now)) ≡ 508 - a.from
    = length-take-le (508 - a.from) (drop a.from a.bytes.now) (omega (arith, length-drop a.from a.bytes.now, c.requires)) in
    rw (c.fill.ensures.after (λ y e. e), e) (part_put a.bytes.now (replicate (508 - a.from) 0) a.from 508 c.requires.0)
