use Rattle.std.proofs.Common.{◌≡◌, arith, add-one, ◌∙◌}
use Rattle.std.proofs.Math.Seq.{paste-zero, paste-suc}
use Rattle.file_blocks.proofs.Laws.{word_bytes_are, stored}
use Rattle.file_blocks.proofs.put_word.Goals as goal

pub loop-k-init : goal.loop-k-init
loop-k-init c = paste-zero c.args.bytes.now c.args.at c.to_le_bytes.result

pub loop-k-preserved : goal.loop-k-preserved
loop-k-preserved c =
    rw (c.loop-k.invariant, add-one c.loop-k.k)
    (paste-suc c.args.bytes.now c.args.at c.to_le_bytes.result c.loop-k.k 0 (omega arith) (omega arith))

pub returns : goal.returns
returns c =
    let e : c.loop-k.k ≡ 4 = omega arith in
    c.loop-k.invariant ∙ rw e (stored c.args.bytes.now c.to_le_bytes.result c.args.at 4 c.args.x (c.to_le_bytes.ensures ∙ word_bytes_are c.args.x))
