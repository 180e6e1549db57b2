-- The faces of a text's nodes in words, as rows and nodes are lent: those that the text's tree shows. So a text and its layout have the same.
use mathlib.Core.Path.{◌≡◌, refl, sym, ap, ◌∙◌, subst}
use mathlib.Core.Bool.{Bool, true, false, cond}
use mathlib.Core.List.{List, [], ◌∷◌, ◌++◌, map}
use Prim.Native.Nat.{ℕ, zero, suc, ◌*◌, ◌≤◌, ◌<◌}
use native.Mathlib.Omega.{arith}
use lib.Dec.{eqb}
use lib.ListN.{length, get_or, take, drop, take-append-drop}
use Rattle.std.specs.declared.result.Result.TheVariants.{Ok}
use Rattle.std.specs.declared.option.Option.TheVariants.{None}
use Rattle.rules.specs.Text.{most_bytes, text_judged}
use Rattle.rules.specs.Kinds.{Identifier, StringLiteral, Number, Eof}
use Rattle.rules.specs.Rows.{Row, row_no, rows_in, words_of, spelling, value_bits}
use Rattle.rules.specs.Scan.{scan, read_rows, read_ending}
use Rattle.rules.specs.Tree.{Tok, sign, name, string, value, tok_of, Tree, yield}
use Rattle.rules.specs.Nodes.{Node, missing, nodes_of, size, node_words, words_of_nodes, tree_words}
use Rattle.rules.specs.Parse.{ok}
use Rattle.rules.specs.Calls.{tokens}
use Rattle.rules.specs.Grammar.{Program, Is}
use Rattle.laws.proofs.Rows.{rows_at}
use Rattle.laws.proofs.Valid.{fine_text}
use Rattle.theory_edits.specs.Scanned.{table_of, Scanned}
use Rattle.theory_edits.proofs.WellFormed.{scanned_rows}
use Rattle.theory_grammar.proofs.Laws.{nodes_size}
use Rattle.theory_grammar.proofs.Tables.{tokens_length}
use Rattle.rules_layout.specs.Rows.{laid}
use Rattle.rules_layout.specs.Bytes.{layout}
use Rattle.rules_layout.specs.Layout.{reading}
use Rattle.theory_layout.specs.Back.{Face, face_by, node_in, nodes_in, faces_in, tokens_of, ReadsBack}
use Rattle.theory_layout.proofs.Faces.{shown, keeps}
use Rattle.theory_layout.proofs.Among.{SpellsNames, nodes_shown}
use Rattle.theory_layout.proofs.ReadBack.{few_tokens, program_of, read_back}

-- ---- rows

module _ (t : List ℕ) (x : Row) where
  abbrev by_kind : (a b c : Bool) → Tok
  by_kind a b c = cond a (name (spelling t x)) (cond b (string (spelling t x)) (cond c (value (value_bits x)) (sign x.kind)))

  -- a row whose token is a name or a string is spelled so
  name_spelled : (w : List ℕ) → tok_of t x ≡ name w → spelling t x ≡ w
  unfolding tok_of
  name_spelled w e = go (eqb x.kind Identifier) (eqb x.kind StringLiteral) (eqb x.kind Number) e
    where
      go : (a b c : Bool) → by_kind a b c ≡ name w → spelling t x ≡ w
      go true b c e = cc
      go false true c e = absurd (let z : ◌≡◌ {A = ℕ} 0 1 = cc in omega arith)
      go false false true e = absurd (let z : ◌≡◌ {A = ℕ} 0 1 = cc in omega arith)
      go false false false e = absurd (let z : ◌≡◌ {A = ℕ} 0 1 = cc in omega arith)

  string_spelled : (w : List ℕ) → tok_of t x ≡ string w → spelling t x ≡ w
  unfolding tok_of
  string_spelled w e = go (eqb x.kind Identifier) (eqb x.kind StringLiteral) (eqb x.kind Number) e
    where
      go : (a b c : Bool) → by_kind a b c ≡ string w → spelling t x ≡ w
      go true b c e = absurd (let z : ◌≡◌ {A = ℕ} 0 1 = cc in omega arith)
      go false true c e = cc
      go false false true e = absurd (let z : ◌≡◌ {A = ℕ} 0 1 = cc in omega arith)
      go false false false e = absurd (let z : ◌≡◌ {A = ℕ} 0 1 = cc in omega arith)

tok_at : (t : List ℕ) (rows : List Row) (d : Row) (r : ℕ) → r < length (tokens t rows) → get_or (tokens t rows) r (sign Eof) ≡ tok_of t (get_or rows r d)
unfolding tokens
tok_at t [] d r h = absurd (omega arith)
tok_at t (x ∷ rows) d zero h = refl
tok_at t (x ∷ rows) d (suc r) h = tok_at t rows d r (omega arith)

module _ (t ws : List ℕ) (n : ℕ) where
  row_tok : (r : ℕ) → r < length (tokens t (rows_in n ws)) → get_or (tokens t (rows_in n ws)) r (sign Eof) ≡ tok_of t (row_no ws r)
  row_tok r h = tok_at t (rows_in n ws) (row_no ws r) r h ∙ ap (tok_of t) (rows_at n ws (row_no ws r) r (omega (arith, tokens_length t n ws)))

  rows_spelled : SpellsNames (tokens t (rows_in n ws)) (λ r. spelling t (row_no ws r))
  rows_spelled = record {
    of_name = λ r w h e. name_spelled t (row_no ws r) w (sym (row_tok r h) ∙ e);
    of_string = λ r w h e. string_spelled t (row_no ws r) w (sym (row_tok r h) ∙ e);
  }

-- ---- nodes

nodes_in_lem : (ns : List Node) (rest : List ℕ) → nodes_in (length ns) (words_of_nodes ns ++ rest) ≡ ns
unfolding nodes_in node_in words_of_nodes node_words
nodes_in_lem [] rest = refl
nodes_in_lem (n ∷ ns) rest = ap (λ (l : List Node). n ∷ l) (nodes_in_lem ns rest)

tree_in : (u : Tree) (nodes : List ℕ) → take (8 * size u) nodes ≡ tree_words 0 u → nodes_in (size u) nodes ≡ nodes_of 0 u
unfolding tree_words
tree_in u nodes e =
    let rest : List ℕ = drop (8 * size u) nodes in
    let f : nodes ≡ words_of_nodes (nodes_of 0 u) ++ rest = sym (take-append-drop (8 * size u) nodes) ∙ ap (λ (l : List ℕ). l ++ rest) e in
    ap (nodes_in (size u)) f
    ∙ ap (λ (k : ℕ). nodes_in k (words_of_nodes (nodes_of 0 u) ++ rest)) (sym (nodes_size 0 u))
    ∙ nodes_in_lem (nodes_of 0 u) rest

-- ---- the faces of a text's nodes

module _ (t ws nodes : List ℕ) (u : Tree) (long : length t ≤ most_bytes) (same : tokens_of t ≡ yield u)
    (row_words : take (8 * length (read_rows (scan t))) ws ≡ words_of (read_rows (scan t)))
    (node_words_lem : take (8 * size u) nodes ≡ tree_words 0 u) where
  rows_are : rows_in (length (read_rows (scan t))) ws ≡ read_rows (scan t)
  rows_are =
      let n : ℕ = 8 * length (read_rows (scan t)) in
      scanned_rows {t = t} {ws = ws} {table = table_of t}
      (record {
        fits = long;
        spare = drop n ws;
        words = sym (take-append-drop n ws) ∙ ap (λ (l : List ℕ). l ++ drop n ws) row_words;
        told = refl;
      })

  toks_are : tokens t (rows_in (length (read_rows (scan t))) ws) ≡ tokens_of t
  unfolding tokens_of
  toks_are = ap (tokens t) rows_are

  -- They are those that the tree shows.
  pub faces_in_lem : faces_in t ws (size u) nodes ≡ shown u
  unfolding faces_in
  faces_in_lem =
      ap (map (face_by (λ r. spelling t (row_no ws r)))) (tree_in u nodes node_words_lem)
      ∙ nodes_shown (tokens t (rows_in (length (read_rows (scan t))) ws)) (subst (λ (l : List Tok). length l ≤ missing) (sym toks_are) (few_tokens t long))
      (λ r. spelling t (row_no ws r)) (rows_spelled t ws (length (read_rows (scan t)))) u (toks_are ∙ same)

-- Rows and nodes that begin with those of a text's tree, and such as begin with those of its layout's, have the same faces.
pub same_in_words : (t : List ℕ) (u : Tree) (j : ℕ) → text_judged t ≡ Ok tt → read_ending (scan t) ≡ None → reading t ≡ ok u j
    → length (layout u) ≤ most_bytes → (ws nodes ws' nodes' : List ℕ)
    → take (8 * length (read_rows (scan t))) ws ≡ words_of (read_rows (scan t)) → take (8 * size u) nodes ≡ tree_words 0 u
    → take (8 * length (read_rows (scan (layout u)))) ws' ≡ words_of (read_rows (scan (layout u)))
    → take (8 * size (laid u)) nodes' ≡ tree_words 0 (laid u)
    → faces_in (layout u) ws' (size (laid u)) nodes' ≡ faces_in t ws (size u) nodes
same_in_words t u j fine ends e short ws nodes ws' nodes' r n r' n' =
    let b : ReadsBack t u = read_back t u j fine ends e short in
    let p = program_of t u j fine ends e in
    let q = program_of (layout u) (laid u) _ b.fine b.whole b.reads in
    faces_in_lem (layout u) ws' nodes' (laid u) short q.1 r' n'
    ∙ (keeps p.0).nodes
    ∙ sym (faces_in_lem t ws nodes u (fine_text t fine).0 p.1 r n)
