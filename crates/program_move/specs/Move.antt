-- What is asked of words that are moved, and what is promised: the words of nodes, and after them the same rest.
use Rattle.std.specs.Prelude.{◌≡◌, List, ◌++◌, map, ℕ, ◌+◌, ◌≤◌, length}
use Rattle.rules.specs.Nodes.{Node, missing, node_words, words_of_nodes}
use Rattle.theory_moved.specs.Moved.{moved}
use Rattle.theory_within.specs.Within.{Within, AllWithin}

-- ---- one node

-- a node stands first, and the last of its rows can be moved by k
pub record AsksFirst (m : List ℕ) (k : ℕ) : Type 0 where
  pub first : Node
  pub rest : List ℕ
  pub words : m ≡ node_words first ++ rest
  pub last : ℕ
  pub within : Within last first
  pub fits : last + k ≤ missing

abbrev pub FirstMoved : List ℕ → ℕ → List ℕ → Type 0
FirstMoved m k m' = (x : Node) (rest : List ℕ) → m ≡ node_words x ++ rest → m' ≡ node_words (moved k x) ++ rest

-- ---- many

pub record AsksMove (m : List ℕ) (n k : ℕ) : Type 0 where
  pub nodes : List Node
  pub rest : List ℕ
  pub words : m ≡ words_of_nodes nodes ++ rest
  pub many : length nodes ≡ n
  pub last : ℕ
  pub within : AllWithin last nodes
  pub fits : last + k ≤ missing

abbrev pub NodesMoved : List ℕ → ℕ → ℕ → List ℕ → Type 0
NodesMoved m n k m' =
    (ns : List Node) (rest : List ℕ) → length ns ≡ n → m ≡ words_of_nodes ns ++ rest → m' ≡ words_of_nodes (map (moved k) ns) ++ rest

-- ---- children

-- a node with so many more children
abbrev pub with_more : ℕ → Node → Node
with_more more n =
    record {
      kind = n.kind;
      place = n.place;
      name = n.name;
      children = n.children + more;
      fact0 = n.fact0;
      fact1 = n.fact1;
      fact2 = n.fact2;
      fact3 = n.fact3;
    }

pub record AsksChildren (m : List ℕ) (more : ℕ) : Type 0 where
  pub first : Node
  pub rest : List ℕ
  pub words : m ≡ node_words first ++ rest
  pub fits : first.children + more ≤ missing

abbrev pub ChildrenAdded : List ℕ → ℕ → List ℕ → Type 0
ChildrenAdded m more m' = (x : Node) (rest : List ℕ) → m ≡ node_words x ++ rest → m' ≡ node_words (with_more more x) ++ rest
