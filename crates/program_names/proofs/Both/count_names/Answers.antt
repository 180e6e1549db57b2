-- a row is a head, or not, and is counted so
use Rattle.std.proofs.Common.{sym, ◌∙◌, arith}
use Rattle.program_names.specs.Both.{heads, rows_of}
use Rattle.program_names.proofs.Heads.{count_here, count_past, count_all, names_length}
use Rattle.program_names.proofs.Both.count_names.Goals as goal
use Rattle.program_names.proofs.Both.count_names.Goals.{then-is_head, else-is_head}

pub loop-row-preserved : goal.loop-row-preserved
loop-row-preserved c =
    let b = c.args.self.now in
    let i = c.loop-row.row in
    let l = c.loop-row-test.true in
    let all = c.loop-row.invariant.all in
    elim c.if-is_head.branch [
      | then-is_head w ↦ record {
        few = omega arith;
        all = rw w.names-is (count_here (heads b) (rows_of b) i c.loop-row.names _ (omega arith) (sym c.is_head.ensures.value ∙ w.if-is_head.true) all);
      }
      | else-is_head w ↦ record {
        few = omega arith;
        all = rw w.names-is (count_past (heads b) (rows_of b) i c.loop-row.names _ (omega arith) (sym c.is_head.ensures.value ∙ w.if-is_head.false) all);
      }
    ]

pub returns : goal.returns
returns c prelude text =
    let b = c.args.self.now in
    count_all (heads b) (rows_of b) c.loop-row.row c.loop-row.names _ (omega arith) c.loop-row.invariant.all
    ∙ sym (names_length prelude b.prelude.rows.now b.prelude.count text b.probe.rows.now (rows_of b))
