-- a row that is passed holds no unit's keyword
use Rattle.std.proofs.Common.{sym, ◌∙◌}
use Rattle.program_names.proofs.Heads.{unit_here, unit_later, unit_none}
use Rattle.program_names.proofs.first_unit.Goals as goal

pub returns-then-rows-row-eq-UNIT : goal.returns-then-rows-row-eq-UNIT
returns-then-rows-row-eq-UNIT c =
    sym (unit_here c.args.rows.now c.args.count c.loop-row.row c.loop-row-test.true c.if-rows-row-eq-UNIT.true) ∙ c.loop-row.invariant

pub loop-row-preserved : goal.loop-row-preserved
loop-row-preserved c =
    sym (unit_later c.args.rows.now c.args.count c.loop-row.row c.loop-row-test.true c.if-rows-row-eq-UNIT.false) ∙ c.loop-row.invariant

pub returns : goal.returns
returns c = sym (unit_none c.args.rows.now c.args.count c.loop-row.row c.loop-row-test.false) ∙ c.loop-row.invariant
