-- The contents of a unit: the answers over them, made of what the parser says and taken apart again, and what holds at each turn of
-- the loop that reads them.
use mathlib.Core.Path.{◌≡◌, refl, sym, ap, ◌∙◌, subst}
use mathlib.Core.Bool.{Bool, true, false, cond, ◌||◌, true≢false}
use mathlib.Core.List.{List, []}
use Prim.Native.Nat.{ℕ, ◌+◌, ◌*◌, ◌≤◌, ◌<◌}
use native.Mathlib.Omega.{arith}
use lib.Dec.{eqb}
use lib.ListN.{length}
use lib.Seq.{sets}
use borrow.Author.Tests.{eqb-true, ne_eqb}
use Rattle.rules.specs.declared.Syntax.{Syntax}
use Rattle.rules.specs.Fits.{only, unit_things, wrong}
use Rattle.rules.specs.Kinds.{KeywordSection, KeywordLicense, KeywordElse, LBrace, RBrace, StringLiteral}
use Rattle.rules.specs.Sets.{from_section}
use Rattle.rules.specs.Tree.{Tok, Tree, seq, unit, spelling_of, is_variable, is_sum, hangs, count, sections_of, section_text, unit_kind}
use Rattle.rules.specs.Nodes.{missing, node, fact_node, node_words, text_node, width, size, place_of, licence_row, tree_words}
use Rattle.rules.specs.Parse
use Rattle.rules.specs.Parse.{Out, ok, no, P, is_text, tok_at, kind_at}
use Rattle.rules.specs.Grammar.{Stmt, Is, i_decl, i_ret, i_plain, i_assign, i_if, i_if_else}
use Rattle.theory_grammar.proofs.Laws.{nodes_within_rows, place_width, sets_tree, words_text, words_unit}
use Rattle.theory_grammar.proofs.Cases.{quoted_yes}
use Rattle.theory_grammar.proofs.Runs.{all_ok}
use Rattle.theory_grammar.proofs.Ends.{Ends, ends_item, wide_item, ends_items}
use Rattle.std.specs.Prelude.{Option, Some, None, Result, Ok, Err}
use Rattle.std.specs.Option.{unwrap_or}
use Rattle.parse_nodes.specs.Post.{kind_word, Tells, state_at, behind, refusal, refused_at, Stands, AsksOpen}
use Rattle.parse_nodes.specs.Names.{Spans}
use Rattle.parse_nodes.specs.Fitting.{retold_at}
use Rattle.parse_nodes.specs.declared.At.{At}
use Rattle.parse_nodes.specs.declared.Refusal.{Refusal}
use Rattle.parse_nodes.proofs.Turn.{Came, refused}
use Rattle.parse_nodes.proofs.Steps.{stands_at, Listing, list_start, list_ends, list_fails, list_again}
use Rattle.parse_nodes.proofs.Seen.{seen, want_unmet}
use Rattle.parse_nodes.proofs.Rows.{word_here}
use Rattle.parse_nodes.proofs.Fitting.{Opens}
use Rattle.parse_sections.specs.Sections.{kind_from, first_of, row_told, last_row, spelt}
use Rattle.parse_units.specs.Contents.{over_at, over, text_at, Adds, Texted, AsksItems}
use Rattle.parse_units.specs.Contents.{things_from, contents_of, Holds}
use Rattle.parse_units.specs.declared.Contents.{Contents}
use Rattle.parse_sections.proofs.Sections.{kind_append, kind_known, first_none, first_some, row_here, or_row, last_told}

-- ---- what the code sees in a string's row

module _ (ts : List Tok) (ws : List ℕ) (n : ℕ) (tells : Tells ts ws n) (i x : ℕ) (e : x ≡ kind_word ws n i) (f : List ℕ → P) where
  pub quoted_met : x ≡ StringLiteral → Parse.quoted ts f i ≡ f (spelling_of (tok_at ts i)) (i + 1)
  quoted_met q = quoted_yes ts f i (sym (seen ts ws n tells i x e) ∙ q)

  pub quoted_unmet : (x ≡ StringLiteral → ⊥) → Parse.quoted ts f i ≡ no (wrong (only StringLiteral)) i
  unfolding Parse.quoted
  quoted_unmet h = want_unmet ts ws n tells i x e StringLiteral (f (spelling_of (tok_at ts i))) h

-- ---- one thing more

module _ (u : Contents) (o : Out) (m m' : List ℕ) where
  pub adds_ok : (t : Tree) (j : ℕ) (v : Contents) → o ≡ ok t j → v ≡ over u t j
      → m' ≡ sets m (8 * u.at.node) (tree_words u.at.row t) → Adds u o m m' (Ok v)
  adds_ok t j v e s q = subst (λ (x : Out). Adds u x m m' (Ok v)) (sym e) (ap Ok s, q)

  -- a refusal that a function made, for a reason that a function gave
  pub adds_err : (why x : Syntax) (p : ℕ) (e : Refusal) → o ≡ no why p → x ≡ why → e ≡ refusal x p → Adds u o m m' (Err e)
  adds_err why x p e q t r =
      subst (λ (y : Out). Adds u y m m' (Err e)) (sym q) (ap Err r ∙ ap (λ (y : Syntax). refused_at y p) t)

  pub adds_as : (o' : Out) (r : Result Contents Refusal) → o ≡ o' → Adds u o' m m' r → Adds u o m m' r
  adds_as o' r e h = subst (λ (x : Out). Adds u x m m' r) (sym e) h

-- what an answer says of the parser
pub record Added (u : Contents) (o : Out) (m m' : List ℕ) (v : Contents) : Type 0 where
  pub tree : Tree
  pub is : o ≡ ok tree v.at.row
  pub same : v ≡ over u tree v.at.row
  pub mem : m' ≡ sets m (8 * u.at.node) (tree_words u.at.row tree)

pub added : (u : Contents) (o : Out) (m m' : List ℕ) (r : Result Contents Refusal) (v : Contents) → Adds u o m m' r → r ≡ Ok v → Added u o m m' v
added u (ok t j) m m' r v h e =
    let q : v ≡ over u t j = cc (h.0, e) in
    let k : v.at.row ≡ j = ap (λ (x : Contents). x.at.row) q in
    record { tree = t; is = ap (λ (x : ℕ). ok t x) (sym k); same = q ∙ ap (λ (x : ℕ). over u t x) (sym k); mem = h.1 }
added u (no why p) m m' r v h e = let z : ◌≡◌ {A = ℕ} 0 1 = cc (h, e) in absurd (omega arith)

pub add_refused : (u : Contents) (o : Out) (m m' : List ℕ) (r : Result Contents Refusal) (x : Refusal)
    → Adds u o m m' r → r ≡ Err x → o ≡ no x.why x.row
add_refused u (ok t j) m m' r x h e = let z : ◌≡◌ {A = ℕ} 0 1 = cc (h.0, e) in absurd (omega arith)
add_refused u (no why p) m m' r x h e = let z : refusal why p ≡ x = cc (h, e) in ap (λ (y : Refusal). no y.why y.row) z

-- a statement is no section and no licence
stmt_sections : {d : ℕ} {t : Tree} → Is true Stmt d t → sections_of t ≡ []
unfolding sections_of
stmt_sections (i_decl b e) = refl
stmt_sections (i_ret e) = refl
stmt_sections (i_plain e) = refl
stmt_sections (i_assign b l r) = refl
stmt_sections (i_if b) = refl
stmt_sections (i_if_else b e) = refl

stmt_licence : {d : ℕ} {t : Tree} (i : ℕ) → Is true Stmt d t → licence_row i t ≡ missing
unfolding licence_row
stmt_licence i (i_decl b e) = refl
stmt_licence i (i_ret e) = refl
stmt_licence i (i_plain e) = refl
stmt_licence i (i_assign b l r) = refl
stmt_licence i (i_if b) = refl
stmt_licence i (i_if_else b e) = refl

-- a statement more
pub with_stmt : (u : Contents) (t : Tree) (s : At) (j : ℕ) {d : ℕ} → Is true Stmt d t → s ≡ over_at u t j
    → record { at = s; kind = u.kind; licence = u.licence } ≡ over u t j
unfolding kind_from
with_stmt u t s j h e =
    rw (stmt_sections h, stmt_licence u.at.row h)
    (λ k. record { at = e k; kind = sym (first_none u.kind) k; licence = u.licence })

-- a licence more, and a section more
module _ (t ws : List ℕ) (u : Contents) (k : ℕ) (m m' : List ℕ) where
  pub with_licence : k ≡ KeywordLicense → u.at.row ≤ 65534
      → m' ≡ sets m (8 * u.at.node) (node_words (node 24 (u.at.row + 1) (u.at.row + 1) 0))
      → Texted t ws u k m m' (record { at = text_at u; kind = u.kind; licence = Some (u.at.row + 1) })
  unfolding kind_from sections_of licence_row size is_sum hangs text_node
  with_licence e h q =
      rw e (
        ap Ok (λ x. record {
          at = text_at u;
          kind = sym (first_none u.kind) x;
          licence = last_row u.licence (sym (row_here u.at.row (omega arith)) x);
        }),
        q ∙ ap (sets m (8 * u.at.node)) (sym (words_text u.at.row KeywordLicense (spelt t ws (u.at.row + 1)))),
      )

  pub with_section : is_text k ≡ true → (k ≡ KeywordLicense → ⊥) → (x : ℕ)
      → x ≡ unwrap_or u.kind (from_section (section_text (spelt t ws (u.at.row + 1))))
      → m' ≡ sets m (8 * u.at.node) (node_words (node 23 (u.at.row + 1) (u.at.row + 1) 0))
      → Texted t ws u k m m' (record { at = text_at u; kind = Some x; licence = u.licence })
  unfolding kind_from sections_of licence_row size is_sum hangs text_node
  with_section b n x e q =
      rw (is_section b n) (
        ap Ok (λ y. record {
          at = text_at u;
          kind = (ap Some e ∙ sym (first_some u.kind (from_section (section_text (spelt t ws (u.at.row + 1)))))) y;
          licence = u.licence;
        }),
        q ∙ ap (sets m (8 * u.at.node)) (sym (words_text u.at.row KeywordSection (spelt t ws (u.at.row + 1)))),
      )
    where
      is_section : is_text k ≡ true → (k ≡ KeywordLicense → ⊥) → k ≡ KeywordSection
      is_section b n = go (eqb k KeywordSection) refl (rw (ne_eqb k KeywordLicense n) at b)
        where
          go : (x : Bool) → eqb k KeywordSection ≡ x → x || false ≡ true → k ≡ KeywordSection
          go true e h = eqb-true k KeywordSection e
          go false e h = absurd (true≢false (sym h))

-- ---- the loop

-- the kind and the licence are those of the list l, which begins at row i
pub record Carries (i : ℕ) (u : Contents) (l : Tree) : Type 0 where
  pub kind : u.kind ≡ kind_from (sections_of l)
  pub licence : u.licence ≡ row_told (licence_row i l)

abbrev pub Gathering : List Tok → ℕ → ℕ → List ℕ → Contents → List ℕ → Type 0
Gathering ts i n m u m' = Listing (Carries i u) ts RBrace unit_things (Parse.item ts) (things_from ts i) i n m u.at m'

pub items_start : (ts : List Tok) (s : At) (m : List ℕ) → s ≡ state_at s.row s.node s.row → s.row ≤ length ts
    → Gathering ts s.row s.node m (record { at = s; kind = None; licence = None }) m
unfolding kind_from sections_of licence_row
items_start ts s m e h =
    list_start (Carries s.row _) ts RBrace unit_things (Parse.item ts) (things_from ts s.row) s.row s.node m s refl h e
    (record { kind = refl; licence = refl })

module _ (ts : List Tok) (u : Contents) (m m' : List ℕ) (v : Contents) (g : Added u (Parse.item ts u.at.row) m m' v) where
  -- where the thing ends
  item_ends : Ends ts u.at.row g.tree v.at.row
  item_ends = all_ok (Ends ts u.at.row) (Parse.item ts u.at.row) g.tree v.at.row (ends_item ts u.at.row) g.is

  pub item_up : u.at.row < v.at.row
  item_up =
      omega (
        arith,
        item_ends.0,
        all_ok (λ t j. 1 ≤ width t) (Parse.item ts u.at.row) g.tree v.at.row
            (wide_item ts u.at.row) g.is,
      )

  pub item_inside : v.at.row ≤ length ts
  item_inside = item_ends.1

  item_came : Came (Ends ts u.at.row) ts (Parse.item ts u.at.row) u.at.row u.at.node m
      (behind u.at.row u.at.node g.tree v.at.row) m'
  item_came = record {
    tree = g.tree;
    is = g.is;
    stands = record {
      rows = item_ends.0;
      nodes = refl;
      place = refl;
      things = refl;
      variable = refl;
      summed = refl;
      hanging = refl;
      mem = g.mem;
    };
    inside = item_ends.1;
    few = nodes_within_rows g.tree;
    near = place_width u.at.row g.tree;
    counts = item_ends.2;
    known = item_ends;
  }

  -- the list with the thing
  module _ (i n : ℕ) (m₀ : List ℕ) (c : Gathering ts i n m₀ u m) where
    carried : Carries i v (seq c.tree g.tree)
    unfolding sections_of licence_row
    carried = record {
      kind =
          ap (λ (x : Contents). x.kind) g.same
          ∙ ap (λ (x : Option ℕ). first_of x (kind_from (sections_of g.tree))) c.known.known.kind
          ∙ sym (kind_append (sections_of c.tree) (sections_of g.tree));
      licence =
          ap (λ (x : Contents). x.licence) g.same
          ∙ ap (λ (x : Option ℕ). last_row x (row_told (licence_row u.at.row g.tree))) c.known.known.licence
          ∙ ap (λ (x : ℕ). last_row (row_told (licence_row i c.tree)) (row_told (licence_row x g.tree))) c.stands.rows
          ∙ last_told (licence_row i c.tree) (licence_row (i + width c.tree) g.tree);
    }

    pub items_again : (kind_at ts u.at.row ≡ RBrace → ⊥) → Gathering ts i n m₀ v m'
    unfolding item_came
    items_again e =
        list_again (Carries i u) ts RBrace unit_things (Parse.item ts) _ i n m₀ u.at m c e (Carries i v) (Ends ts u.at.row)
        (behind u.at.row u.at.node g.tree v.at.row) m' v.at item_came item_up
        (ap (λ (x : Contents). x.at) g.same) carried

module _ (ts : List Tok) (i n : ℕ) (m : List ℕ) (u : Contents) (m' : List ℕ) (c : Gathering ts i n m u m') where
  pub items_end : kind_at ts u.at.row ≡ RBrace → Holds (things_from ts i) i n m m' (Ok u)
  items_end e =
      let f = list_ends (Carries i u) ts RBrace unit_things (Parse.item ts) _ i n m u.at m' c e in
      subst (λ (x : Out). Holds x i n m m' (Ok u)) (sym f) (
        ap Ok (λ j. record {
          at = record {
            row = u.at.row;
            node = c.stands.nodes j;
            place = c.stands.place j;
            things = c.stands.things j;
            variable = c.stands.variable j;
            summed = c.stands.summed j;
            hanging = c.stands.hanging j;
          };
          kind = c.known.known.kind j;
          licence = c.known.known.licence j;
        }),
        c.stands.mem,
      )

  -- the thing at the contents' row is refused
  pub items_fail : (kind_at ts u.at.row ≡ RBrace → ⊥) → (why : Syntax) (p : ℕ) (m'' : List ℕ) → Parse.item ts u.at.row ≡ no why p
      → (x : Syntax) → x ≡ retold_at (unit_things + cond u.at.hanging (only KeywordElse) 0) u.at.row why p
      → Holds (things_from ts i) i n m m'' (refused_at x p)
  items_fail e why p m'' f x q =
      let l = list_fails (Carries i u) ts RBrace unit_things (Parse.item ts) _ i n m u.at m' c e why p m'' f in
      let r : things_from ts i ≡ no x p = refused (things_from ts i) i n m m'' _ _ l refl ∙ ap (λ (y : Syntax). no y p) (sym q) in
      subst (λ (y : Out). Holds y i n m m'' (refused_at x p)) (sym r) refl

-- ---- a unit

-- what is asked at the first thing's row, behind the header of the unit whose word is at row i
pub asks_first : (t ws : List ℕ) (n i nd : ℕ) (s : At) → Opens ws n i nd s → AsksOpen ws n i nd 64 → Spans t ws n → AsksItems t ws n s
asks_first t ws n i nd s o p h =
    let row : s.row ≡ i + 1 + 1 + 1 = ap (λ (x : At). x.row) o.state in
    let node : s.node ≡ nd = ap (λ (x : At). x.node) o.state in
    let brace = word_here ws n (i + 1 + 1) LBrace o.brace refl in
    record {
      at = record { lent = p.lent; inside = omega arith; few = omega (arith, p.few); short = p.short; nest = p.nest };
      first = o.state ∙ (λ k. state_at (sym row k) (sym node k) (sym row k));
      spans = h;
    }

-- the contents, taken apart
pub record Held (o : Out) (i n : ℕ) (m m' : List ℕ) (u : Contents) : Type 0 where
  pub list : Tree
  pub is : o ≡ ok list u.at.row
  pub same : u ≡ contents_of i n list u.at.row
  pub mem : m' ≡ sets m (8 * n) (tree_words i list)

pub held : (o : Out) (i n : ℕ) (m m' : List ℕ) (r : Result Contents Refusal) (u : Contents) → Holds o i n m m' r → r ≡ Ok u → Held o i n m m' u
held (ok l j) i n m m' r u h e =
    let q : u ≡ contents_of i n l j = cc (h.0, e) in
    let k : u.at.row ≡ j = ap (λ (x : Contents). x.at.row) q in
    record { list = l; is = ap (λ (x : ℕ). ok l x) (sym k); same = q ∙ ap (λ (x : ℕ). contents_of i n l x) (sym k); mem = h.1 }
held (no why p) i n m m' r u h e = let z : ◌≡◌ {A = ℕ} 0 1 = cc (h, e) in absurd (omega arith)

pub held_refused : (o : Out) (i n : ℕ) (m m' : List ℕ) (r : Result Contents Refusal) (x : Refusal)
    → Holds o i n m m' r → r ≡ Err x → o ≡ no x.why x.row
held_refused (ok l j) i n m m' r x h e = let z : ◌≡◌ {A = ℕ} 0 1 = cc (h.0, e) in absurd (omega arith)
held_refused (no why p) i n m m' r x h e = let z : refusal why p ≡ x = cc (h, e) in ap (λ (y : Refusal). no y.why y.row) z

-- where the contents end
pub held_ends : (ts : List Tok) (i n : ℕ) (m m' : List ℕ) (u : Contents) (v : Held (things_from ts i) i n m m' u) → i ≤ length ts
    → Ends ts i v.list u.at.row × (kind_at ts u.at.row ≡ RBrace)
held_ends ts i n m m' u v h =
    all_ok (λ l j. Ends ts i l j × (kind_at ts j ≡ RBrace)) (things_from ts i) v.list u.at.row (ends_items ts i h) v.is

pub stands_unit : (o : Out) (i n : ℕ) (m m₁ m₂ : List ℕ) (u : Contents) (s : At) (w : List ℕ) (v : Held o (i + 1 + 1 + 1) n m m₁ u)
    → u.at.row ≡ i + 1 + 1 + 1 + width v.list
    → s ≡ state_at (u.at.row + 1) (u.at.node + 1) i
    → m₂ ≡ sets m₁ (8 * u.at.node)
    (node_words (fact_node 25 i (i + 1) u.at.things (unwrap_or u.kind 10) (unwrap_or u.licence missing) 0 0))
    → Stands i n (unit w v.list) m s m₂
unfolding width size place_of is_variable is_sum hangs count unit_kind
stands_unit o i n m m₁ m₂ u s w v r e q =
    let three : i + 1 + 1 + 1 ≡ i + 3 = omega arith in
    let nodes : u.at.node ≡ n + size v.list = ap (λ (x : Contents). x.at.node) v.same in
    let things : u.at.things ≡ count v.list = ap (λ (x : Contents). x.at.things) v.same in
    let kind : u.kind ≡ kind_from (sections_of v.list) = ap (λ (x : Contents). x.kind) v.same in
    let licence : unwrap_or u.licence missing ≡ licence_row (i + 1 + 1 + 1) v.list =
    ap (λ (x : Contents). unwrap_or x.licence missing) v.same ∙ or_row (licence_row (i + 1 + 1 + 1) v.list) in
    stands_at i n (unit w v.list) m m₂ s e (omega (arith, r)) (omega (arith, nodes)) refl refl refl refl refl
    (rw (
      words_unit i w v.list,
      ← three,
      kind_known (sections_of v.list),
      ← kind,
      ← things,
      ← licence,
      sets_tree m n (i + 1 + 1 + 1) v.list,
      ← v.mem,
      ← nodes,
    ) q)
