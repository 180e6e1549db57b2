-- The header, and then the fields.
use mathlib.Core.Path.{refl, sym, ap, ◌∙◌, subst}
use mathlib.Core.List.{List}
use Prim.Native.Nat.{ℕ, ◌+◌}
use Rattle.std.proofs.lemmas.Result.{err_from_is_err_and}
use Rattle.rules.specs.Kinds.{LBrace}
use Rattle.rules.specs.Fits.{event_fields}
use Rattle.rules.specs.Tree.{spelling_of}
use Rattle.rules.specs.Parse
use Rattle.rules.specs.Parse.{tok_at}
use Rattle.theory_grammar.proofs.Cases.{event_is}
use Rattle.parse_nodes.specs.Post.{state_at, AsksOpen, Met}
use Rattle.parse_nodes.specs.declared.At.{At}
use Rattle.parse_nodes.proofs.Rows.{word_here}
use Rattle.parse_nodes.proofs.Turn.{met_as}
use Rattle.parse_nodes.proofs.Fitting.{header_gave, header_refused, listed_on}
use Rattle.parse_events.specs.Shapes.{fields_of}
use Rattle.parse_events.proofs.event.Goals as goal
use Rattle.parse_nodes.proofs.Errs.{met_err}

pub returns-in_err-start : goal.returns-in_err-start
returns-in_err-start c ts h =
    let a = c.args in
    let p = err_from_is_err_and c.from_residual.result c.from_residual.ensures.1 in
    rw (p.1, p.2)
    (met_err _ _ _ _ _ _ _ _ _
    (event_is ts a.row
    ∙ header_refused a.rows.now a.count a.row a.node _ ts h _ c.opened.ensures c.in_err-start.was event_fields (Parse.event_field ts) _)
    refl refl)

pub fields-requires : goal.fields-requires
fields-requires c =
    let a = c.args in
    let o = header_gave a.rows.now a.count a.row a.node c.opened.result c.in_ok-start.start c.opened.ensures c.in_ok-start.was in
    let e = sym (ap (λ (x : At). x.node) o.state) in
    record {
      at = subst (λ (x : ℕ). AsksOpen a.rows.now a.count a.row x 0) e c.requires;
      inside = word_here a.rows.now a.count (a.row + 1 + 1) LBrace o.brace refl;
      first = o.state ∙ ap (λ (x : ℕ). state_at (a.row + 1 + 1 + 1) x (a.row + 1 + 1 + 1)) e;
    }

pub returns : goal.returns
returns c ts h =
    let a = c.args in
    let o = header_gave a.rows.now a.count a.row a.node c.opened.result c.in_ok-start.start c.opened.ensures c.in_ok-start.was in
    let w : List ℕ = spelling_of (tok_at ts (a.row + 1)) in
    met_as _ _ _ _ _ _ _ (event_is ts a.row ∙ listed_on ts a.rows.now a.count h event_fields (Parse.event_field ts) _ a.row o.name o.brace)
    (subst (λ (x : ℕ). Met (fields_of ts w a.row) a.row x a.nodes.now c.fields.new.nodes c.fields.result)
    (ap (λ (x : At). x.node) o.state) (c.fields.ensures ts h w))
