-- Reading back: "a tree with the same kinds, children, spellings and facts; only places, name rows and the licence's row number may differ".
use Rattle.std.specs.Prelude.{◌≡◌, cond, List, [], ◌∷◌, map, ℕ, zero, suc, eqb, get_or, length, drop, Ok, None}
use Rattle.rules.specs.Text.{text_judged}
use Rattle.rules.specs.Kinds.{Eof}
use Rattle.rules.specs.Rows.{row_no, spelling}
use Rattle.rules.specs.Scan.{scan, read_rows, read_ending}
use Rattle.rules.specs.Tree.{Tok, sign, spelling_of, Tree}
use Rattle.rules.specs.Nodes.{Node, words_per_node, missing, NodeUnit, nodes_of}
use Rattle.rules.specs.Parse.{ok}
use Rattle.rules.specs.Calls.{tokens}
use Rattle.rules_layout.specs.Rows.{laid}
use Rattle.rules_layout.specs.Bytes.{layout}
use Rattle.rules_layout.specs.Layout.{reading}

-- what a node says, rows aside: the spelling of its name's row, of a unit that of its licence's row
pub record Face : Type 0 where
  pub kind : ℕ
  pub children : ℕ
  pub name : List (List ℕ)
  pub licence : List (List ℕ)
  pub facts : List ℕ

-- the tokens of a text
unfoldable pub tokens_of : List ℕ → List Tok
tokens_of t = tokens t (read_rows (scan t))

-- how row r is spelled; nothing if it is missing
unfoldable pub spelled_at : List Tok → ℕ → List (List ℕ)
spelled_at ts r = cond (eqb r missing) [] (spelling_of (get_or ts r (sign Eof)) ∷ [])

unfoldable pub face_of : List Tok → Node → Face
face_of ts n =
    cond (eqb n.kind NodeUnit)
    (record {
      kind = n.kind;
      children = n.children;
      name = spelled_at ts n.name;
      licence = spelled_at ts n.fact1;
      facts = n.fact0 ∷ n.fact2 ∷ n.fact3 ∷ [];
    })
    (record {
      kind = n.kind;
      children = n.children;
      name = spelled_at ts n.name;
      licence = [];
      facts = n.fact0 ∷ n.fact1 ∷ n.fact2 ∷ n.fact3 ∷ [];
    })

-- the faces of a tree's nodes, where the tree is read from tokens from the first on
unfoldable pub faces : List Tok → Tree → List Face
faces ts u = map (face_of ts) (nodes_of 0 u)

-- ---- the same by the spelling of each row, whatever says it

-- how row r is spelled, by the spelling of each row; nothing if it is missing
unfoldable pub spelled_by : (ℕ → List ℕ) → ℕ → List (List ℕ)
spelled_by spells r = cond (eqb r missing) [] (spells r ∷ [])

unfoldable pub face_by : (ℕ → List ℕ) → Node → Face
face_by spells n =
    cond (eqb n.kind NodeUnit)
    (record {
      kind = n.kind;
      children = n.children;
      name = spelled_by spells n.name;
      licence = spelled_by spells n.fact1;
      facts = n.fact0 ∷ n.fact2 ∷ n.fact3 ∷ [];
    })
    (record {
      kind = n.kind;
      children = n.children;
      name = spelled_by spells n.name;
      licence = [];
      facts = n.fact0 ∷ n.fact1 ∷ n.fact2 ∷ n.fact3 ∷ [];
    })

-- the spelling of a row among tokens
abbrev pub spells_tok : List Tok → ℕ → List ℕ
spells_tok ts r = spelling_of (get_or ts r (sign Eof))

-- ---- in words, as rows and nodes are lent

-- the node at the front of words
unfoldable pub node_in : List ℕ → Node
node_in ws = record {
  kind = get_or ws 0 0;
  place = get_or ws 1 0;
  name = get_or ws 2 0;
  children = get_or ws 3 0;
  fact0 = get_or ws 4 0;
  fact1 = get_or ws 5 0;
  fact2 = get_or ws 6 0;
  fact3 = get_or ws 7 0;
}

-- the first n nodes of words
unfoldable pub nodes_in : ℕ → List ℕ → List Node
nodes_in zero ws = []
nodes_in (suc n) ws = node_in ws ∷ nodes_in n (drop words_per_node ws)

-- the faces of the first n nodes, whose rows are those of a text
unfoldable pub faces_in : (t ws : List ℕ) → ℕ → List ℕ → List Face
faces_in t ws n nodes = map (face_by (λ r. spelling t (row_no ws r))) (nodes_in n nodes)

-- The layout of the tree u of a text t is a text, scans to its end, reads as the tree that was written, and its nodes have the same faces.
pub record ReadsBack (t : List ℕ) (u : Tree) : Type 0 where
  pub fine : text_judged (layout u) ≡ Ok tt
  pub whole : read_ending (scan (layout u)) ≡ None
  pub reads : reading (layout u) ≡ ok (laid u) (length (tokens_of (layout u)))
  pub same : faces (tokens_of (layout u)) (laid u) ≡ faces (tokens_of t) u
