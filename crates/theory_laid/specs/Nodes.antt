-- What two nodes have in common that say the same, word by word.
use Rattle.std.specs.Prelude.{ℕ, ◌*◌, List, ◌≡◌, drop}
use Rattle.rules.specs.Rows.{row_no, spelling}
use Rattle.rules.specs.Nodes.{Node, NodeUnit}
use Rattle.theory_layout.specs.Back.{spelled_by, node_in}

-- node k of words
abbrev pub node_no : List ℕ → ℕ → Node
node_no nodes k = node_in (drop (8 * k) nodes)

-- how each row of a text is spelled
abbrev pub row_spells : (text rows : List ℕ) → ℕ → List ℕ
row_spells text rows r = spelling text (row_no rows r)

-- Two nodes say the same, each in its text. Their places may differ, and so may their names' rows and a unit's second fact, which is the row of
-- its licence: these rows are missing in both, or spelled alike.
pub record SameNode (spells' : ℕ → List ℕ) (n' : Node) (spells : ℕ → List ℕ) (n : Node) : Type 0 where
  pub kind : n'.kind ≡ n.kind
  pub name : spelled_by spells' n'.name ≡ spelled_by spells n.name
  pub children : n'.children ≡ n.children
  pub fact0 : n'.fact0 ≡ n.fact0
  pub fact1 : (n.kind ≡ NodeUnit → ⊥) → n'.fact1 ≡ n.fact1
  pub licence : n.kind ≡ NodeUnit → spelled_by spells' n'.fact1 ≡ spelled_by spells n.fact1
  pub fact2 : n'.fact2 ≡ n.fact2
  pub fact3 : n'.fact3 ≡ n.fact3
