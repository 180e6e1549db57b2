-- A number's row is in the table, and its words are its value's.
use Rattle.std.proofs.Common.{◌+◌, ◌*◌, sym, refl, ◌∙◌, arith}
use Rattle.rules.specs.Kinds.{Number}
use Rattle.rules.specs.Tree.{spelling_of}
use Rattle.rules.specs.Parse.{tok_at}
use Rattle.parse_nodes.proofs.Rows.{tells_kind, word_here}
use Rattle.parse_expr.proofs.Trees.{stands_number, stands_var}
use Rattle.parse_expr.proofs.Lone.{leaf_num, leaf_var}
use Rattle.parse_expr.proofs.leaf.Goals as goal

pub returns-then-kind_at-ne-NUMBER : goal.returns-then-kind_at-ne-NUMBER
returns-then-kind_at-ne-NUMBER c = λ ts tl.
    let a = c.args in
    let e = c.kind_at.ensures ∙ tells_kind ts a.rows.now a.count tl a.row in
    rw (leaf_var (tok_at ts a.row) (λ f. c.if-kind_at-ne-NUMBER.true (e ∙ f)))
    (stands_var a.row a.node a.nodes.now c.variable.new.nodes c.variable.result (spelling_of (tok_at ts a.row)) c.variable.ensures.0 c.variable.ensures.1)

pub bounds-rows-at : goal.bounds-rows-at
bounds-rows-at c = omega (arith, word_here _ _ _ Number (sym c.kind_at.ensures ∙ c.if-kind_at-ne-NUMBER.false) refl, c.requires)

pub bounds-rows-at-2 : goal.bounds-rows-at-2
bounds-rows-at-2 c = omega (arith, word_here _ _ _ Number (sym c.kind_at.ensures ∙ c.if-kind_at-ne-NUMBER.false) refl, c.requires)

pub returns : goal.returns
returns c = λ ts tl.
    let a = c.args in
    let e = sym c.kind_at.ensures ∙ c.if-kind_at-ne-NUMBER.false in
    rw (leaf_num (tok_at ts a.row) (sym (tells_kind ts a.rows.now a.count tl a.row) ∙ e))
    (stands_number a.row a.node a.nodes.now c.number.new.nodes c.number.result ts a.rows.now a.count tl e
    (omega (arith, c.type_inv.rows (a.row * 8 + 5))) c.number.ensures.0 c.number.ensures.1)
