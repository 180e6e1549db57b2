-- The node has the facts of what was read behind the colon.
use mathlib.Core.Path.{◌≡◌, refl, sym, ◌∙◌}
use mathlib.Core.List.{List}
use Prim.Native.Nat.{ℕ, ◌+◌}
use native.Mathlib.Omega.{arith}
use Rattle.std.specs.Prelude.{Result}
use Rattle.std.proofs.lemmas.Result.{err_from_is_err_and}
use Rattle.rules.specs.Parse
use Rattle.rules.specs.Kinds.{Identifier, Colon}
use Rattle.rules.specs.Tree.{Tok, spelling_of}
use Rattle.rules.specs.Parse.{tok_at}
use Rattle.theory_grammar.proofs.Cases.{event_field_is}
use Rattle.parse_nodes.specs.Post.{kind_word, Tells}
use Rattle.parse_nodes.specs.declared.Refusal.{Refusal}
use Rattle.parse_nodes.proofs.Rows.{word_here}
use Rattle.parse_nodes.proofs.Seen.{want_met, want_unmet, named_met, named_unmet}
use Rattle.parse_events.specs.declared.Shape.{Shape}
use Rattle.parse_events.specs.Shapes.{Found, ShapeFound}
use Rattle.parse_events.proofs.Nodes.{found_as, gave, refuses, field_met}
use Rattle.parse_events.proofs.field.Goals as goal
use Rattle.parse_nodes.proofs.Errs.{met_err}

-- what stands behind the colon is what the parser reads there
shaped : {ts : List Tok} {ws : List ℕ} {n : ℕ} (h : Tells ts ws n) (i : ℕ) (r : Result Shape Refusal) → kind_word ws n i ≡ Identifier
    → kind_word ws n (i + 1) ≡ Colon → ShapeFound ws n (i + 1 + 1) r → Found (Parse.event_field ts i) r
shaped {ts} {ws} {n} h i r e f s =
    found_as _ _ _
    (event_field_is ts i ∙ named_met ts ws n h i _ refl _ e ∙ want_met ts ws n h (i + 1) _ refl Colon _ f)
    (s ts h (spelling_of (tok_at ts i)))

pub returns-then-kind_at-ne-IDENTIFIER : goal.returns-then-kind_at-ne-IDENTIFIER
returns-then-kind_at-ne-IDENTIFIER c ts h =
    let a = c.args in
    met_err _ _ _ _ _ _ _ _ _
    (event_field_is ts a.row ∙ named_unmet ts a.rows.now a.count h a.row _ c.kind_at.ensures _ c.if-kind_at-ne-IDENTIFIER.true)
    c.wanted.ensures c.new.ensures

pub returns-then-kind_at-ne-COLON : goal.returns-then-kind_at-ne-COLON
returns-then-kind_at-ne-COLON c ts h =
    let a = c.args in
    met_err _ _ _ _ _ _ _ _ _
    (event_field_is ts a.row
    ∙ named_met ts a.rows.now a.count h a.row _ c.kind_at.ensures _ c.if-kind_at-ne-IDENTIFIER.false
    ∙ want_unmet ts a.rows.now a.count h (a.row + 1) _ c.kind_at-2.ensures Colon _ c.if-kind_at-ne-COLON.true)
    c.wanted-then-kind_at-ne-COLON.ensures c.new-then-kind_at-ne-COLON.ensures

pub shape_at-requires : goal.shape_at-requires
shape_at-requires c =
    let a = c.args in
    let p = c.requires in
    let h = word_here a.rows.now a.count (a.row + 1) Colon (sym c.kind_at-2.ensures ∙ c.if-kind_at-ne-COLON.false) refl in
    record { lent = p.lent; inside = omega arith; few = omega arith; short = p.short; nest = p.nest }

pub returns-in_err-f : goal.returns-in_err-f
returns-in_err-f c ts h =
    let a = c.args in
    let s = shaped h a.row _ (sym c.kind_at.ensures ∙ c.if-kind_at-ne-IDENTIFIER.false)
    (sym c.kind_at-2.ensures ∙ c.if-kind_at-ne-COLON.false) c.shape_at.ensures in
    let p = err_from_is_err_and c.from_residual.result c.from_residual.ensures.1 in
    rw (p.1, p.2) (met_err _ _ _ _ _ _ _ _ _ (refuses (Parse.event_field ts a.row) _ _ s c.in_err-f.was) refl refl)

pub returns : goal.returns
returns c ts h =
    let a = c.args in
    let s = shaped h a.row _ (sym c.kind_at.ensures ∙ c.if-kind_at-ne-IDENTIFIER.false)
    (sym c.kind_at-2.ensures ∙ c.if-kind_at-ne-COLON.false) c.shape_at.ensures in
    let g = gave (Parse.event_field ts a.row) _ c.in_ok-f.f s c.in_ok-f.was in
    rw c.new-2.ensures (field_met _ _ _ _ _ _ g c.store.ensures)
