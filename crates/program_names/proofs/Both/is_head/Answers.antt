-- a head is not the last row, which is Eof
use Rattle.std.proofs.Common.{◌≡◌, true, arith}
use Rattle.program_names.specs.Both.{heads}
use Rattle.program_names.proofs.Heads.{head_if}
use Rattle.program_names.proofs.Tables.{head_inside}
use Rattle.program_names.proofs.Both.is_head.Goals as goal

pub returns-in-6-clause-inside : goal.returns-in-6-clause-inside
returns-in-6-clause-inside c _ =
    let b = c.args.self.now in
    let h : true ≡ heads b c.args.row = grind (arith, head_if) in
    head_inside b.probe.text.now b.prelude.rows.now b.prelude.count b.probe.rows.now c.args.row b.probe.count b.probe.ended h c.requires
