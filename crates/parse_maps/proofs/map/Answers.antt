-- The header, then fields that lack nothing.
use mathlib.Core.Path.{◌≡◌, refl, sym, ap, ◌∙◌, subst}
use mathlib.Core.List.{List}
use Prim.Native.Nat.{ℕ, ◌+◌, ◌<◌}
use native.Mathlib.Omega.{arith}
use Rattle.std.specs.Prelude.{Option, Some, None, Result, Ok}
use Rattle.std.proofs.lemmas.Result.{err_from_is_err_and}
use Rattle.rules.specs.Parse
use Rattle.rules.specs.Kinds.{LBrace, KeywordKey, KeywordValue}
use Rattle.rules.specs.Fits.{map_fields}
use Rattle.rules.specs.Tree.{Tok, Tree, type_of, typed_by, limit_of, spelling_of, map_decl, lacking}
use Rattle.rules.specs.declared.Syntax.TheVariants.{MapLacks}
use Rattle.rules.specs.Parse.{then, Out, no, tok_at}
use Rattle.rules.specs.Grammar.{MapFields}
use Rattle.theory_grammar.proofs.Cases.{map_is, then_ok, then_no, map_end_whole, map_end_lacks}
use Rattle.theory_grammar.proofs.Runs.{all_ok}
use Rattle.theory_grammar.proofs.Sound.{Reads}
use Rattle.parse_nodes.specs.Names.{Names}
use Rattle.parse_nodes.specs.declared.At.{At}
use Rattle.parse_nodes.specs.declared.Refusal.{Refusal}
use Rattle.parse_nodes.proofs.Errs.{met_err}
use Rattle.parse_nodes.proofs.Rows.{word_here}
use Rattle.parse_nodes.proofs.Told.{names_told}
use Rattle.parse_nodes.proofs.Turn.{met_ok}
use Rattle.parse_nodes.proofs.Fitting.{Opens, header_gave, header_refused, listed_on}
use Rattle.parse_maps.specs.Steps.{told, Lacks, listed, facts_of, Gives, FieldsFound}
use Rattle.parse_maps.specs.declared.Facts.{Facts}
use Rattle.parse_maps.proofs.Answers.{Facing, answer_refused, facts_gave}
use Rattle.parse_maps.proofs.Limits.{told_yes, told_no}
use Rattle.parse_maps.proofs.Last.{stands_map}
use Rattle.parse_maps.proofs.Listed.{fields_read}
use Rattle.parse_maps.proofs.map.Goals as goal

-- the field that a list of fields lacks
abbrev lacking_of : Tree → ℕ
lacking_of l = lacking (type_of l) (typed_by KeywordKey l) (typed_by KeywordValue l) (limit_of l)

-- the end of the map whose word is at row i, behind fields up to row k
abbrev closing : List Tok → ℕ → Tree → ℕ → Out
closing ts i l k = Parse.map_end ts (lacking_of l) (spelling_of (tok_at ts (i + 1))) l (k + 1)

-- what the parser does on the way
module _ {ts : List Tok} {t ws : List ℕ} {n : ℕ} (h : Names ts t ws n) (i nd : ℕ) (s : At) (o : Opens ws n i nd s) where
  first_is : s.row ≡ i + 1 + 1 + 1
  first_is = ap (λ (x : At). x.row) o.state

  opened : Parse.map_at ts i ≡ then (listed ts (i + 1 + 1 + 1)) (λ l k. closing ts i l k)
  opened = map_is ts i ∙ listed_on ts ws n h.tells map_fields (Parse.map_field ts) _ i o.name o.brace

  module _ (r : Result Facts Refusal) (w : FieldsFound t ws n s.row r) where
    -- the fields' answer
    gives : Gives (listed ts (i + 1 + 1 + 1)) r
    gives = subst (λ (x : ℕ). Gives (listed ts x) r) first_is (w ts h)

    module _ (f : Facts) (e : r ≡ Ok f) where
      facing : Facing facts_of (listed ts (i + 1 + 1 + 1)) f
      facing = facts_gave facts_of (λ t j. refl) (listed ts (i + 1 + 1 + 1)) r f gives e

      -- they are fields of the grammar
      reads : Reads ts MapFields 64 (i + 1 + 1 + 1) facing.tree f.row
      reads =
          let l : i + 1 + 1 < n = word_here ws n (i + 1 + 1) LBrace o.brace refl in
          all_ok (Reads ts MapFields 64 (i + 1 + 1 + 1)) (listed ts (i + 1 + 1 + 1)) facing.tree f.row
          (fields_read ts (i + 1 + 1 + 1) (omega (arith, l, h.tells.long))) facing.is

      ended : Parse.map_at ts i ≡ closing ts i facing.tree f.row
      ended = opened ∙ then_ok _ _ facing.tree f.row facing.is

      -- what they lack
      lacked : (x : Option ℕ) → Lacks f x → x ≡ told (lacking_of facing.tree)
      lacked x w =
          let l = facing.tree in
          w (type_of l) (typed_by KeywordKey l) (typed_by KeywordValue l) (limit_of l)
          (ap (λ (y : Facts). y.maptype) facing.same) (ap (λ (y : Facts). y.key) facing.same)
          (ap (λ (y : Facts). y.value) facing.same) (ap (λ (y : Facts). y.max) facing.same)

pub returns-in_err-start : goal.returns-in_err-start
returns-in_err-start c ts h =
    let a = c.args in
    let p = err_from_is_err_and c.from_residual.result c.from_residual.ensures.1 in
    rw (p.1, p.2)
    (met_err _ _ _ _ _ _ _ _ _
    (map_is ts a.row
    ∙ header_refused a.rows.now a.count a.row a.node _ ts h.tells _ c.opened.ensures c.in_err-start.was map_fields (Parse.map_field ts) _)
    refl refl)

pub fields-requires : goal.fields-requires
fields-requires c =
    let a = c.args in
    let p = c.requires.0 in
    let o = header_gave a.rows.now a.count a.row a.node c.opened.result c.in_ok-start.start c.opened.ensures c.in_ok-start.was in
    let e : c.in_ok-start.start.row ≡ a.row + 1 + 1 + 1 = ap (λ (x : At). x.row) o.state in
    let l = word_here a.rows.now a.count (a.row + 1 + 1) LBrace o.brace refl in
    (record { lent = p.lent; inside = omega (arith, l, e); few = omega arith; short = p.short; nest = p.nest }, c.requires.1)

pub returns-in_err-f : goal.returns-in_err-f
returns-in_err-f c ts h =
    let a = c.args in
    let o = header_gave a.rows.now a.count a.row a.node c.opened.result c.in_ok-start.start c.opened.ensures c.in_ok-start.was in
    let g = gives h a.row a.node c.in_ok-start.start o c.fields.result c.fields.ensures in
    let p = err_from_is_err_and c.from_residual-in_err-f.result c.from_residual-in_err-f.ensures.1 in
    rw (p.1, p.2)
    (met_err _ _ _ _ _ _ _ _ _
    (opened h a.row a.node c.in_ok-start.start o
    ∙ then_no _ _ _ _ (answer_refused facts_of (listed ts (a.row + 1 + 1 + 1)) _ _ g c.in_err-f.was))
    refl refl)

pub overflow_add-next : goal.overflow_add-next
overflow_add-next c =
    let a = c.args in
    let o = header_gave a.rows.now a.count a.row a.node c.opened.result c.in_ok-start.start c.opened.ensures c.in_ok-start.was in
    let t = names_told a.text.now a.rows.now a.count in
    let r = reads t a.row a.node c.in_ok-start.start o c.fields.result c.fields.ensures c.in_ok-f.f c.in_ok-f.was in
    omega (arith, r.inside, t.tells.long, c.requires.0.short)

pub returns-in-Some : goal.returns-in-Some
returns-in-Some c ts h =
    let a = c.args in
    let s = c.in_ok-start.start in
    let f = c.in_ok-f.f in
    let o = header_gave a.rows.now a.count a.row a.node c.opened.result s c.opened.ensures c.in_ok-start.was in
    let g = facing h a.row a.node s o c.fields.result c.fields.ensures f c.in_ok-f.was in
    let w = lacked h a.row a.node s o c.fields.result c.fields.ensures f c.in_ok-f.was (Some c.in-Some.missing) c.in-Some.ensures in
    let y = told_yes (lacking_of g.tree) c.in-Some.missing w in
    met_err _ _ _ _ _ _ _ _ _
    (ended h a.row a.node s o c.fields.result c.fields.ensures f c.in_ok-f.was
    ∙ map_end_lacks ts _ g.tree (f.row + 1) _ y.0)
    (ap (λ (x : ℕ). MapLacks x) (sym y.1)) c.new.ensures

pub returns : goal.returns
returns c ts h =
    let a = c.args in
    let s = c.in_ok-start.start in
    let f = c.in_ok-f.f in
    let o = header_gave a.rows.now a.count a.row a.node c.opened.result s c.opened.ensures c.in_ok-start.was in
    let g = facing h a.row a.node s o c.fields.result c.fields.ensures f c.in_ok-f.was in
    let w = lacked h a.row a.node s o c.fields.result c.fields.ensures f c.in_ok-f.was None c.in_default.ensures in
    let r = (reads h a.row a.node s o c.fields.result c.fields.ensures f c.in_ok-f.was).next in
    rw c.new-2.ensures
    (met_ok _ _ _ (map_decl (spelling_of (tok_at ts (a.row + 1))) g.tree) _ _ _
    (ended h a.row a.node s o c.fields.result c.fields.ensures f c.in_ok-f.was
    ∙ map_end_whole ts _ g.tree (f.row + 1) _ (told_no (lacking_of g.tree) w))
    (stands_map a.row a.node a.nodes.now c.map_node.new.nodes _ g.tree f _ g.same r refl c.map_node.ensures))
