-- 3 where the nodes are not the text's tree, and else what is told of the program's layout.
use Rattle.std.proofs.Common.{◌≡◌, ◌&&◌, false, true, length, sym, ◌∙◌}
use Rattle.rules_layout.specs.Layout.{is_scanned}
use Rattle.layout_judge.specs.Judging.{is_parsed}
use Rattle.layout.proofs.Laying.{refused, lays}
use Rattle.layout.proofs.lay_out.Goals as goal

pub returns-then-not-is_tree : goal.returns-then-not-is_tree
returns-then-not-is_tree c =
    let a = c.args in
    let no : (is_scanned a.text.now a.rows.now a.table && is_parsed a.text.now a.rows.now a.table a.nodes.now a.count) ≡ false = cc in
    let x = refused a.text.now a.rows.now a.table a.nodes.now a.count a.room.now no in
    record { told = x.0; written = x.1; left = c.is_tree.ensures.left }

pub placed-requires : goal.placed-requires
placed-requires c =
    let a = c.args in
    let yes : (is_scanned a.text.now a.rows.now a.table && is_parsed a.text.now a.rows.now a.table a.nodes.now a.count) ≡ true = cc in
    let p = lays a.text.now a.rows.now a.table a.nodes.now a.count yes in
    record { tree = p.tree; lent = p.lent }

pub returns : goal.returns
returns c =
    let a = c.args in
    let yes : (is_scanned a.text.now a.rows.now a.table && is_parsed a.text.now a.rows.now a.table a.nodes.now a.count) ≡ true = cc in
    let p = lays a.text.now a.rows.now a.table a.nodes.now a.count yes in
    let x = c.placed.ensures p.tree p.lent in
    record { told = x.0 ∙ sym (p.told (length a.room.now)); written = x.1 ∙ sym (p.left a.room.now); left = c.is_tree.ensures.left }
