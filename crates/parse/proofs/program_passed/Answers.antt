-- Declaration by declaration, as the parser reads them.
use mathlib.Core.Path.{sym, ◌∙◌}
use Prim.Native.Nat.{ℕ}
use native.Mathlib.Omega.{arith}
use borrow.Author.Rules.{rules}
use Rattle.std.proofs.lemmas.Result.{err_from_is_err_and}
use Rattle.rules.specs.Fits.{tops}
use Rattle.rules.specs.Rows.{rows_in}
use Rattle.rules.specs.Parse
use Rattle.theory_grammar.proofs.Tables.{tokens_proper}
use Rattle.parse_nodes.specs.Post.{refusal}
use Rattle.parse_nodes.specs.Fitting.{retold_at}
use Rattle.parse_nodes.proofs.Errs.{mapped_ok, mapped_err}
use Rattle.parse_nodes.proofs.Seen.{seen}
use Rattle.parse_nodes.proofs.Told.{names_told}
use Rattle.parse.proofs.Whole.{word_in, top_on}
use Rattle.parse.proofs.Passing.{reached, stopped, passing_start, passing_ends, passing_again, passing_refused}
use Rattle.parse.proofs.program_passed.Goals as goal

pub loop-from-init : goal.loop-from-init
loop-from-init c = (λ ts h p. passing_start ts, c.requires.1)

pub top_passed-requires : goal.top_passed-requires
top_passed-requires c =
    let a = c.args in
    let i = word_in a.rows.now a.count c.loop-from.at (λ e. c.loop-from-test.true (c.kind_at.ensures ∙ e)) in
    (c.requires.0, (i, c.loop-from.invariant.1))

pub returns-in_err-at : goal.returns-in_err-at
returns-in_err-at c ts h q =
    let a = c.args in
    let i : ℕ = c.loop-from.at in
    let p = err_from_is_err_and c.from_residual.result c.from_residual.ensures.1 in
    let f = mapped_err _ c.top_passed.result c.map_err.result
    (λ e. refusal (retold_at tops i e.why e.row) e.row) c.map_err.ensures.cases c.in_err-at.was (λ e y z. search rules) in
    let e = stopped (Parse.top ts i) c.top_passed.result _ (c.top_passed.ensures ts h q) f.1 in
    rw (p.1, p.2)
    (passing_refused ts i (c.loop-from.invariant.0 ts h q)
    (λ z. c.loop-from-test.true (seen ts a.rows.now a.count h.tells i _ c.kind_at.ensures ∙ z)) f.0.why f.0.row _ e f.2)

pub loop-from-smaller : goal.loop-from-smaller
loop-from-smaller c =
    let a = c.args in
    let i : ℕ = c.loop-from.at in
    let h = names_told a.text.now a.rows.now a.count in
    let q = tokens_proper a.text.now (rows_in a.count a.rows.now) in
    let m = mapped_ok _ c.top_passed.result c.map_err.result c.map_err.ensures.cases c.in_ok-at.was in
    let g = reached (Parse.top _ i) c.top_passed.result c.in_ok-at.at (c.top_passed.ensures _ h q) m in
    let n = passing_again _ i (c.loop-from.invariant.0 _ h q)
    (λ z. c.loop-from-test.true (seen _ a.rows.now a.count h.tells i _ c.kind_at.ensures ∙ z)) _ g in
    omega (arith, n.inside, top_on _ _ _ _ g.is, h.tells.long)

pub loop-from-preserved : goal.loop-from-preserved
loop-from-preserved c =
    let a = c.args in
    let i : ℕ = c.loop-from.at in
    let m = mapped_ok _ c.top_passed.result c.map_err.result c.map_err.ensures.cases c.in_ok-at.was in (
      λ ts h q. passing_again ts i (c.loop-from.invariant.0 ts h q)
          (λ z. c.loop-from-test.true (seen ts a.rows.now a.count h.tells i _ c.kind_at.ensures ∙ z)) c.in_ok-at.at
          (reached (Parse.top ts i) c.top_passed.result c.in_ok-at.at (c.top_passed.ensures ts h q) m),
      c.top_passed.auto.none ∙ c.loop-from.invariant.1,
    )

pub overflow_add-result : goal.overflow_add-result
overflow_add-result c =
    let a = c.args in
    let h = names_told a.text.now a.rows.now a.count in
    let q = tokens_proper a.text.now (rows_in a.count a.rows.now) in
    omega (arith, (c.loop-from.invariant.0 _ h q).inside, h.tells.long, c.requires.0.table.short)

pub returns : goal.returns
returns c ts h q =
    let a = c.args in
    let i : ℕ = c.loop-from.at in
    passing_ends ts i (c.loop-from.invariant.0 ts h q) (sym (seen ts a.rows.now a.count h.tells i _ c.kind_at.ensures) ∙ c.loop-from-test.false)
