-- A unit whose kinds tell that it is one is what the parser gives; else `top` itself says it.
use mathlib.Core.Path.{refl, sym, ◌∙◌}
use native.Mathlib.Omega.{arith}
use Rattle.std.proofs.lemmas.Result.{err_from_is_err_and}
use Rattle.rules.specs.Parse
use Rattle.parse_nodes.proofs.Rows.{word_at_lem}
use Rattle.parse_nodes.proofs.Turn.{refused}
use Rattle.parse.proofs.Whole.{top_came}
use Rattle.parse.proofs.Passing.{passed_ok, passed_err, passed_read}
use Rattle.parse.proofs.top_passed.Goals as goal

pub unit-requires : goal.unit-requires
unit-requires c =
    let a = c.args in
    let p = c.requires in
    let b = p.0 in (
      record { lent = b.table.lent; inside = p.1.0; short = b.table.short; closed = b.closed; nest = omega arith },
      sym (word_at_lem a.rows.now a.count a.row p.1.0) ∙ sym c.kind_at.ensures ∙ c.if-kind_at-eq-UNIT.true,
    )

pub returns-in-Some : goal.returns-in-Some
returns-in-Some c ts h p = passed_read ts c.args.row c.in-Some.end (c.in-Some.ensures.read ts h.tells) p

pub returns-in_err-t : goal.returns-in_err-t
returns-in_err-t c ts h p =
    let a = c.args in
    let q = err_from_is_err_and c.from_residual.result c.from_residual.ensures.1 in
    rw (q.1, q.2)
    (passed_err (Parse.top ts a.row) _ _ _ _ (refused _ _ _ _ _ _ _ (c.top.ensures ts h) c.in_err-t.was) refl refl)

pub returns : goal.returns
returns c ts h p =
    let a = c.args in
    let g = top_came ts a.row 0 a.none.now c.in_ok-t.t c.top.new.nodes c.top.result (c.top.ensures ts h) c.in_ok-t.was in
    passed_ok _ g.tree _ g.is
