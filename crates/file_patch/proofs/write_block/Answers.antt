use Rattle.std.proofs.Common.{◌≡◌, ◌*◌, arith, add-one, ◌∙◌}
use Rattle.std.proofs.Math.Seq.{paste-zero, paste-suc}
use Rattle.file_patch.proofs.One.{copied}
use Rattle.file_patch.proofs.write_block.Goals as goal

pub loop-i-init : goal.loop-i-init
loop-i-init c = paste-zero c.args.memory.now (512 * c.args.k) c.args.fresh.now

pub loop-i-preserved : goal.loop-i-preserved
loop-i-preserved c =
    rw (c.loop-i.invariant, add-one c.loop-i.i)
    (paste-suc c.args.memory.now (512 * c.args.k) c.args.fresh.now c.loop-i.i 0 (omega arith) (omega arith))

pub returns : goal.returns
returns c =
    let e : c.loop-i.i ≡ 512 = omega arith in
    c.loop-i.invariant ∙ rw e (copied c.args.memory.now c.args.fresh.now (512 * c.args.k) c.requires.0.0)
