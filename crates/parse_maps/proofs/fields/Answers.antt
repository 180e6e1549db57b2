-- What the loop over the fields has read, and one field more.
use mathlib.Core.Path.{◌≡◌, refl, sym, ◌∙◌, subst}
use mathlib.Core.List.{List}
use Prim.Native.Nat.{ℕ}
use native.Mathlib.Omega.{arith}
use borrow.Author.Rules.{rules}
use borrow.Author.Tests.{ne_eqb, eq-eqb}
use Rattle.std.specs.Prelude.{Result, Ok}
use Rattle.std.proofs.lemmas.Result.{err_from_is_err_and}
use Rattle.rules.specs.Parse
use Rattle.rules.specs.Kinds.{RBrace}
use Rattle.rules.specs.Fits.{map_fields}
use Rattle.rules.specs.Tree.{Tok, none, seq}
use Rattle.rules.specs.Parse.{Out, kind_at}
use Rattle.theory_grammar.proofs.Cases.{list_is}
use Rattle.theory_grammar.proofs.Runs.{all_ok}
use Rattle.parse_nodes.specs.Post.{refusal}
use Rattle.parse_nodes.specs.Names.{Names}
use Rattle.parse_nodes.specs.Fitting.{retold_at}
use Rattle.parse_nodes.specs.declared.Refusal.{Refusal}
use Rattle.parse_nodes.proofs.Seen.{seen}
use Rattle.parse_nodes.proofs.Told.{names_told}
use Rattle.parse_nodes.proofs.Errs.{mapped_ok, mapped_err}
use Rattle.parse_maps.specs.Steps.{over, listed, facts_of, Gives, FieldFound}
use Rattle.parse_maps.specs.declared.Facts.{Facts}
use Rattle.parse_maps.proofs.Answers.{Facing, answer_ok, answer_err, answer_refused, facts_gave}
use Rattle.parse_maps.proofs.Loops.{begins, ends, fails, goes_on}
use Rattle.parse_maps.proofs.Listed.{FieldEnds, field_ends, Holds, holds_none, holds_more, one_more, one_refused}
use Rattle.parse_maps.proofs.fields.Goals as goal

-- one field more, and where it ends
record Stepped (ts : List Tok) (f g : Facts) : Type 0 where
  facing : Facing (over f) (Parse.map_field ts f.row) g
  ended : FieldEnds ts f.row facing.tree g.row

stepped : (ts : List Tok) (t ws : List ℕ) (n : ℕ) (f g : Facts) (r : Result Facts Refusal) → Names ts t ws n → FieldFound t ws n f r → r ≡ Ok g
    → Stepped ts f g
stepped ts t ws n f g r h w e =
    let o : Out = Parse.map_field ts f.row in
    let x = facts_gave (over f) (λ t j. refl) o r g (w ts h) e in
    record { facing = x; ended = all_ok (FieldEnds ts f.row) o x.tree g.row (field_ends ts f.row) x.is }

pub loop-at-init : goal.loop-at-init
loop-at-init c ts h =
    let i : ℕ = c.args.row in
    let l = c.requires.0.inside in
    begins _ ts _ _ _ i none (list_is ts RBrace map_fields (Parse.map_field ts) i) (omega (arith, l, h.tells.long)) (holds_none i)

pub field-requires : goal.field-requires
field-requires c =
    let a = c.args in
    let p = c.requires.0 in
    let t = names_told a.text.now a.rows.now a.count in
    let l = (c.loop-at.invariant _ t).inside in
    (record { lent = p.lent; inside = omega (arith, l, t.tells.long); few = omega arith; short = p.short; nest = p.nest }, c.requires.1)

pub returns-in_err-f : goal.returns-in_err-f
returns-in_err-f c ts h =
    let a = c.args in
    let f = c.loop-at.f in
    let v = c.loop-at.invariant ts h in
    let p = err_from_is_err_and c.from_residual.result c.from_residual.ensures.1 in
    let x = mapped_err _ c.field.result c.map_err.result (λ e. refusal (retold_at map_fields f.row e.why e.row) e.row)
    c.map_err.ensures.cases c.in_err-f.was (λ e y z. search rules) in
    let e = answer_refused (over f) (Parse.map_field ts f.row) _ _ (c.field.ensures ts h) x.1 in
    let q = seen ts a.rows.now a.count h.tells f.row _ c.kind_at.ensures in
    rw (p.1, p.2)
    (answer_err facts_of _ _ _ _ _
    (fails _ ts _ _ _ f.row v (rw (ne_eqb (kind_at ts f.row) RBrace (λ z. c.loop-at-test.true (q ∙ z)))) _ _
    (one_refused ts v.tree f.row v.known.flat _ _ e))
    refl x.2)

pub loop-at-smaller : goal.loop-at-smaller
loop-at-smaller c =
    let a = c.args in
    let t = names_told a.text.now a.rows.now a.count in
    let m = mapped_ok _ c.field.result c.map_err.result c.map_err.ensures.cases c.in_ok-f.was in
    let e = (stepped _ a.text.now a.rows.now a.count c.loop-at.f c.in_ok-f.f c.field.result t c.field.ensures m).ended in
    omega (arith, e.up, e.inside, t.tells.long)

pub loop-at-preserved : goal.loop-at-preserved
loop-at-preserved c ts h =
    let a = c.args in
    let f = c.loop-at.f in
    let g = c.in_ok-f.f in
    let v = c.loop-at.invariant ts h in
    let m = mapped_ok _ c.field.result c.map_err.result c.map_err.ensures.cases c.in_ok-f.was in
    let s = stepped ts a.text.now a.rows.now a.count f g c.field.result h c.field.ensures m in
    let x = s.facing in
    let q = seen ts a.rows.now a.count h.tells f.row _ c.kind_at.ensures in
    goes_on _ ts _ _ _ f.row v (rw (ne_eqb (kind_at ts f.row) RBrace (λ z. c.loop-at-test.true (q ∙ z)))) (Holds g) (seq v.tree x.tree) g.row
    (one_more ts v.tree f.row x.tree g.row x.is) s.ended.up s.ended.inside
    (holds_more f g v.tree x.tree v.known x.same s.ended.flat)

pub returns : goal.returns
returns c ts h =
    let a = c.args in
    let f = c.loop-at.f in
    let v = c.loop-at.invariant ts h in
    let q = seen ts a.rows.now a.count h.tells f.row _ c.kind_at.ensures in
    let e = eq-eqb (kind_at ts f.row) RBrace (sym q ∙ c.loop-at-test.false) in
    subst (λ (x : Facts). Gives (listed ts a.row) (Ok x)) (sym v.known.facts)
    (answer_ok facts_of _ v.tree f.row (ends _ ts _ _ _ f.row v (rw e)))
