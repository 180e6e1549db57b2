-- What a body's loop has read, and an `if` with its bodies.
use Rattle.std.proofs.Common.{sym, ◌∙◌, refl}
use Rattle.rules.specs.Kinds.{LBrace}
use Rattle.rules.specs.Grammar.{Stmt, Stmts, i_no_stmts, i_stmts}
use Rattle.parse_pass_units.proofs.Parts.{past, list_none, list_more, ifs, else_told}
use Rattle.parse_pass_units.proofs.+statement.Goals as goal

pub body-loop-at-init : goal.body-loop-at-init
body-loop-at-init t c =
    list_none Stmts _ _ _ _ i_no_stmts
    (past c.requires c.args.row LBrace c.requires.inside c.in_ok-at.ensures.0 c.in_ok-at.ensures.1 refl)

pub body-loop-at-preserved : goal.body-loop-at-preserved
body-loop-at-preserved t c =
    list_more Stmts _ _ _ Stmt _ _ _ (λ l s p q. i_stmts p q) c.loop-at.invariant c.in_ok-at-2.ensures

pub branch-returns-then-kind-eq-ELSE : goal.branch-returns-then-kind-eq-ELSE
branch-returns-then-kind-eq-ELSE t c =
    else_told _ _ c.args.left c.args.row _ _ _ c.requires.1 c.in_ok-open.ensures c.in_ok-end.ensures
    (sym c.kind.ensures ∙ c.if-kind-eq-ELSE.true) c.body-then-kind-eq-ELSE.ensures

pub branch-returns : goal.branch-returns
branch-returns t c = ifs _ _ c.args.left c.args.row _ _ c.requires.1 c.in_ok-open.ensures c.in_ok-end.ensures
