-- A statement is added with the state behind it.
use mathlib.Core.Path.{◌≡◌, refl, sym, ap, ◌∙◌}
use mathlib.Core.Bool.{false}
use mathlib.Core.List.{List}
use Prim.Native.Nat.{ℕ, ◌+◌}
use borrow.Author.Rules.{rules}
use Rattle.std.proofs.lemmas.Result.{err_from_is_err_and}
use Rattle.rules.specs.Tree.{Tok}
use Rattle.rules.specs.Parse
use Rattle.rules.specs.Parse.{is_text, most_open}
use Rattle.rules.specs.Grammar.{Stmt}
use Rattle.theory_grammar.proofs.Cases.{item_stmt}
use Rattle.theory_grammar.proofs.Sound.{stmt_sound}
use Rattle.parse_nodes.specs.Post.{kind_word, counted_at, Tells}
use Rattle.parse_nodes.proofs.Seen.{seen}
use Rattle.parse_nodes.proofs.Turn.{came_reads, refused}
use Rattle.parse_units.specs.Contents.{over_at}
use Rattle.parse_units.proofs.Answers.{adds_ok, adds_err, with_stmt}
use Rattle.parse_units.proofs.item.Goals as goal

-- the row i, of the kind k, begins a statement
plainly : {ts : List Tok} {ws : List ℕ} {n : ℕ} → Tells ts ws n → (i k : ℕ) → k ≡ kind_word ws n i → is_text k ≡ false
    → Parse.item ts i ≡ Parse.stmt ts most_open (Parse.body ts most_open) i
plainly {ts} {ws} {n} h i k e b = item_stmt ts i (ap is_text (sym (seen ts ws n h i k e)) ∙ b)

pub returns-in_err-t : goal.returns-in_err-t
returns-in_err-t c ts h =
    let a = c.args in
    let b : is_text c.kind_at-k.result ≡ false = search rules in
    let p = err_from_is_err_and c.from_residual.result c.from_residual.ensures.1 in
    rw (p.1, p.2)
    (adds_err a.u _ _ _ _ _ _ _
    (plainly h.tells a.u.at.row _ c.kind_at-k.ensures b ∙ refused _ _ _ _ _ _ _ (c.stmt.ensures ts h.tells) c.in_err-t.was) refl refl)

pub returns : goal.returns
returns c ts h =
    let a = c.args in
    let u = a.u in
    let t = c.in_ok-t.t in
    let b : is_text c.kind_at-k.result ≡ false = search rules in
    let g = came_reads ts Stmt most_open (Parse.stmt ts most_open (Parse.body ts most_open) u.at.row)
    u.at.row u.at.node a.nodes.now
    c.stmt.new.nodes c.stmt.result t (stmt_sound ts most_open u.at.row)
    (c.stmt.ensures ts h.tells) c.in_ok-t.was in
    let e : counted_at t u.at.place (u.at.things + 1) ≡ over_at u g.tree t.row =
    λ k. record {
      row = t.row;
      node = g.stands.nodes k;
      place = u.at.place;
      things = u.at.things + 1;
      variable = false;
      summed = g.stands.summed k;
      hanging = g.stands.hanging k;
    } in
    adds_ok u _ _ _ g.tree t.row _ (plainly h.tells u.at.row _ c.kind_at-k.ensures b ∙ g.is)
    (with_stmt u g.tree c.counted.result t.row g.known.is (c.counted.ensures ∙ e)) g.stands.mem
