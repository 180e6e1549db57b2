-- The header, the contents, and the unit's node.
use mathlib.Core.Path.{◌≡◌, refl, sym, ap, ◌∙◌, subst}
use mathlib.Core.List.{List}
use Prim.Native.Nat.{ℕ, ◌+◌, ◌≤◌}
use native.Mathlib.Omega.{arith}
use Rattle.std.specs.Prelude.{Result}
use Rattle.std.proofs.lemmas.Result.{err_from_is_err_and}
use Rattle.rules.specs.Kinds.{LBrace}
use Rattle.rules.specs.Fits.{unit_things}
use Rattle.rules.specs.Tree.{Tok, unit, spelling_of}
use Rattle.rules.specs.Parse
use Rattle.rules.specs.Parse.{ok, then, tok_at}
use Rattle.theory_grammar.proofs.Laws.{nodes_within_rows}
use Rattle.theory_grammar.proofs.Cases.{unit_is, then_ok, then_no}
use Rattle.parse_nodes.specs.Names.{Names}
use Rattle.parse_nodes.specs.declared.At.{At}
use Rattle.parse_nodes.specs.declared.Refusal.{Refusal}
use Rattle.parse_nodes.proofs.Errs.{met_err}
use Rattle.parse_nodes.proofs.Rows.{word_here}
use Rattle.parse_nodes.proofs.Turn.{met_ok}
use Rattle.parse_nodes.proofs.Told.{names_told}
use Rattle.parse_nodes.proofs.Fitting.{Opens, header_gave, header_refused, listed_on}
use Rattle.parse_units.specs.Contents.{things_from, Holds, ItemsMet}
use Rattle.parse_units.specs.declared.Contents.{Contents}
use Rattle.parse_units.proofs.Answers.{asks_first, held, held_refused, held_ends, stands_unit}
use Rattle.parse_units.proofs.unit.Goals as goal

-- what the parser does on the way
module _ {ts : List Tok} {t ws : List ℕ} {n : ℕ} (h : Names ts t ws n) (i nd : ℕ) (s : At) (o : Opens ws n i nd s) where
  listed : Parse.unit_at ts i
      ≡ then (things_from ts (i + 1 + 1 + 1)) (λ l k. ok (unit (spelling_of (tok_at ts (i + 1))) l) (k + 1))
  listed = unit_is ts i ∙ listed_on ts ws n h.tells unit_things (Parse.item ts) _ i o.name o.brace

  -- the first thing's row is in the table
  inside : i + 1 + 1 + 1 ≤ n
  inside = omega (arith, word_here ws n (i + 1 + 1) LBrace o.brace refl)

  -- what the contents give, from the first thing on
  holds : (m m' : List ℕ) (r : Result Contents Refusal) → ItemsMet t ws n s m m' r → Holds (things_from ts (i + 1 + 1 + 1)) (i + 1 + 1 + 1) nd m m' r
  holds m m' r w = subst (λ (x : At). Holds (things_from ts x.row) x.row x.node m m' r) o.state (w ts h)

pub returns-in_err-start : goal.returns-in_err-start
returns-in_err-start c ts h =
    let a = c.args in
    let p = err_from_is_err_and c.from_residual.result c.from_residual.ensures.1 in
    rw (p.1, p.2)
    (met_err _ _ _ _ _ _ _ _ _
    (unit_is ts a.row
    ∙ header_refused a.rows.now a.count a.row a.node _ ts h.tells _ c.opened.ensures c.in_err-start.was unit_things (Parse.item ts) _)
    refl refl)

pub items-requires : goal.items-requires
items-requires c =
    let a = c.args in
    let o = header_gave a.rows.now a.count a.row a.node c.opened.result c.in_ok-start.start c.opened.ensures c.in_ok-start.was in
    asks_first a.text.now a.rows.now a.count a.row a.node _ o c.requires.0 c.requires.1

pub returns-in_err-u : goal.returns-in_err-u
returns-in_err-u c ts h =
    let a = c.args in
    let s = c.in_ok-start.start in
    let o = header_gave a.rows.now a.count a.row a.node c.opened.result s c.opened.ensures c.in_ok-start.was in
    let w = holds h a.row a.node s o a.nodes.now c.items.new.nodes c.items.result c.items.ensures in
    let p = err_from_is_err_and c.from_residual-in_err-u.result c.from_residual-in_err-u.ensures.1 in
    rw (p.1, p.2)
    (met_err _ _ _ _ _ _ _ _ _ (listed h a.row a.node s o ∙ then_no _ _ _ _ (held_refused _ _ _ _ _ _ _ w c.in_err-u.was)) refl refl)

pub unit_node-requires : goal.unit_node-requires
unit_node-requires c =
    let a = c.args in
    let s = c.in_ok-start.start in
    let o = header_gave a.rows.now a.count a.row a.node c.opened.result s c.opened.ensures c.in_ok-start.was in
    let h = names_told a.text.now a.rows.now a.count in
    let w = holds h a.row a.node s o a.nodes.now c.items.new.nodes c.items.result c.items.ensures in
    let v = held _ _ _ _ _ _ c.in_ok-u.u w c.in_ok-u.was in
    let i = inside h a.row a.node s o in
    let f = held_ends _ _ _ _ _ _ v (omega (arith, h.tells.long, i)) in
    let nodes : c.in_ok-u.u.at.node ≡ a.node + _ = ap (λ (x : Contents). x.at.node) v.same in
    omega (arith, f.0, i, nodes, nodes_within_rows v.list, h.tells.long, c.requires.0.short, c.requires.0.few)

pub returns : goal.returns
returns c ts h =
    let a = c.args in
    let s = c.in_ok-start.start in
    let u = c.in_ok-u.u in
    let o = header_gave a.rows.now a.count a.row a.node c.opened.result s c.opened.ensures c.in_ok-start.was in
    let x = holds h a.row a.node s o a.nodes.now c.items.new.nodes c.items.result c.items.ensures in
    let v = held _ _ _ _ _ _ u x c.in_ok-u.was in
    let i = inside h a.row a.node s o in
    let f = held_ends _ _ _ _ _ _ v (omega (arith, h.tells.long, i)) in
    let w : List ℕ = spelling_of (tok_at ts (a.row + 1)) in
    let r = ap (λ (x : At). x.row) c.unit_node.ensures.0 in
    met_ok _ _ _ (unit w v.list) _ _ c.unit_node.result
    (listed h a.row a.node s o ∙ then_ok _ _ v.list u.at.row v.is ∙ ap (ok (unit w v.list)) (sym r))
    (stands_unit _ a.row a.node a.nodes.now c.items.new.nodes _ u c.unit_node.result
    w v f.0.0 c.unit_node.ensures.0 c.unit_node.ensures.1)
