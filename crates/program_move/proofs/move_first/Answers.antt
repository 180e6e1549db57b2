-- three words at most are stored, and with them the node is the moved one
use Rattle.std.proofs.Common.{sym, ap, ◌∙◌, arith}
use Rattle.theory_moved.specs.Moved.{moved_row}
use Rattle.std.proofs.Math.ListN.{length-set}
use Rattle.program_move.proofs.First.{first_long, place_fits_lem, name_fits, licence_fits, name_of, kind_of_lem, licence_of_lem, other_moved, unit_moved}
use Rattle.program_move.proofs.move_first.Goals as goal

pub bounds-nodes-1 : goal.bounds-nodes-1
bounds-nodes-1 c = omega (arith, first_long c.requires)

pub bounds-nodes-1-2 : goal.bounds-nodes-1-2
bounds-nodes-1-2 c = omega (arith, first_long c.requires)

pub bounds-nodes-2 : goal.bounds-nodes-2
bounds-nodes-2 c = simp length-set (omega (arith, first_long c.requires))

pub bounds-nodes-2-2 : goal.bounds-nodes-2-2
bounds-nodes-2-2 c = simp length-set (omega (arith, first_long c.requires))

pub bounds-nodes-0 : goal.bounds-nodes-0
bounds-nodes-0 c = simp length-set (omega (arith, first_long c.requires))

pub bounds-nodes-5 : goal.bounds-nodes-5
bounds-nodes-5 c = simp length-set (omega (arith, first_long c.requires))

pub bounds-nodes-5-then-nodes-eq-UNIT : goal.bounds-nodes-5-then-nodes-eq-UNIT
bounds-nodes-5-then-nodes-eq-UNIT c = simp length-set (omega (arith, first_long c.requires))

pub overflow_add-nodes : goal.overflow_add-nodes
overflow_add-nodes c = omega (arith, place_fits_lem c.requires)

pub move_row-requires : goal.move_row-requires
move_row-requires c = name_fits c.requires

pub move_row-requires-then-nodes-eq-UNIT : goal.move_row-requires-then-nodes-eq-UNIT
move_row-requires-then-nodes-eq-UNIT c = licence_fits c.requires c.move_row.result c.if-nodes-eq-UNIT.true

pub returns-then-nodes-eq-UNIT : goal.returns-then-nodes-eq-UNIT
returns-then-nodes-eq-UNIT c x rest e =
    let m = c.args.nodes.now in
    let k = c.args.by in
    unit_moved m x rest e k c.move_row.result c.move_row-then-nodes-eq-UNIT.result
    (c.move_row.ensures ∙ ap (moved_row k) (name_of m x rest e k))
    (sym (kind_of_lem m x rest e k c.move_row.result) ∙ c.if-nodes-eq-UNIT.true)
    (c.move_row-then-nodes-eq-UNIT.ensures ∙ ap (moved_row k) (licence_of_lem m x rest e k c.move_row.result))

pub returns-else-nodes-eq-UNIT : goal.returns-else-nodes-eq-UNIT
returns-else-nodes-eq-UNIT c x rest e =
    let m = c.args.nodes.now in
    let k = c.args.by in
    other_moved m x rest e k c.move_row.result
    (c.move_row.ensures ∙ ap (moved_row k) (name_of m x rest e k))
    (λ u. c.if-nodes-eq-UNIT.false (kind_of_lem m x rest e k c.move_row.result ∙ u))
