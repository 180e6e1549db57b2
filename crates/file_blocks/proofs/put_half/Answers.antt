use Rattle.std.proofs.Common.{◌≡◌, arith, add-one, ap, ◌∙◌, length, take, length-take}
use Rattle.std.proofs.Math.Seq.{paste-zero, paste-suc}
use Rattle.rules_files.specs.Bytes.{little}
use Rattle.theory_files.proofs.Numbers.{little_length}
use Rattle.file_blocks.proofs.Laws.{half_bytes_are, stored}
use Rattle.file_blocks.proofs.put_half.Goals as goal

pub loop-k-init : goal.loop-k-init
loop-k-init c = paste-zero c.args.bytes.now c.args.at (take 2 c.to_le_bytes.result)

pub loop-k-preserved : goal.loop-k-preserved
loop-k-preserved c =
    rw (c.loop-k.invariant, add-one c.loop-k.k)
    (paste-suc c.args.bytes.now c.args.at (take 2 c.to_le_bytes.result) c.loop-k.k 0 (omega (arith, length-take 2 c.to_le_bytes.result)) (omega arith))

pub returns : goal.returns
returns c =
    let b : take 2 c.to_le_bytes.result ≡ little 2 c.args.x = ap (take 2) c.to_le_bytes.ensures ∙ half_bytes_are c.args.x in
    let e : c.loop-k.k ≡ 2 = omega (arith, ap length b, little_length 2 c.args.x) in
    c.loop-k.invariant ∙ rw e (stored c.args.bytes.now (take 2 c.to_le_bytes.result) c.args.at 2 c.args.x b)
