-- `list_tree` writes the nodes of a parse, or its refusal.
use Rattle.std.proofs.Common.{sym, ap, ◌∙◌, arith, length, ℕ}
use Rattle.lister_parts.specs.Parts.{refusal_line}
use Rattle.lister_lines.specs.Lines.{room}
use Rattle.lister_parts.proofs.Adding.{adds_same}
use Rattle.lister_lines.proofs.Rooms.{room_length, tree_nodes, tree_refused, tree_few}
use Rattle.lister_lines.proofs.list_tree.Goals as goal

pub list_nodes-requires : goal.list_nodes-requires
unfolding room
list_nodes-requires c =
    let p = c.parse in
    let few = tree_few _ _ _ p.result p.new.nodes p.ensures.told p.ensures.left c.in-Ok.count c.in-Ok.is p.auto.nodes in
    record { count_in_bounds = omega (arith, few, p.auto.nodes, room_length); count_le_most_lines = omega (arith, few) }

pub returns-in-Ok : goal.returns-in-Ok
unfolding room
returns-in-Ok c =
    let p = c.parse in
    let h = c.list_nodes.ensures in
    let e = tree_nodes _ _ _ p.result p.new.nodes p.ensures.told p.ensures.left c.in-Ok.count c.in-Ok.is in
    record { adds = adds_same (sym e) h.adds; table_len_bound = omega (arith, ap length e, h.nodes_len_bound) }

pub returns-in-Err : goal.returns-in-Err
unfolding room
returns-in-Err c =
    let p = c.parse in
    let h = c.refusal_line.ensures in
    let e = tree_refused _ _ _ p.result p.new.nodes p.ensures.told p.ensures.left c.in-Err.e.why c.in-Err.e.at c.in-Err.e.found c.in-Err.is in
    let f = ap (λ (k : ℕ). refusal_line k c.in-Err.e.at) c.reason_number.ensures ∙ sym e in
    record { adds = adds_same f h.adds; table_len_bound = omega (arith, ap length f, h.place_len_bound) }
