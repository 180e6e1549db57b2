-- What is asked of two texts whose nodes are written, and what is promised.
use Rattle.std.specs.Prelude.{◌≡◌, List, [], ◌∷◌, ◌++◌, ℕ, ◌+◌, ◌*◌, ◌≤◌, length, drop}
use Rattle.rules.specs.Tree.{Tree}
use Rattle.rules.specs.Nodes.{Node, NodeProgram, missing, node, words_per_node, words_of_nodes}
use Rattle.rules.specs.Calls.{node_room}
use Rattle.rules_program.specs.Both.{declarations, rows_of_all, nodes_of_all, nodes_of_both}
use Rattle.rules_program.specs.Program.{tree_in}
use Rattle.parse.specs.Program.{reading_of}
use Rattle.program_names.specs.declared.Scanned.{Scanned}
use Rattle.program_names.specs.declared.Both.{Both}
use Rattle.program_alone.specs.Told.{IsProgram}
use Rattle.program_move.specs.Move.{with_more}

-- ---- one text

-- what its rows are read to
abbrev pub tree_of : List ℕ → List ℕ → ℕ → Tree
tree_of t ws n = tree_in (reading_of t ws n)

-- a text that was scanned is a program, and what it is read to
abbrev pub Reads : Scanned → Type 0
Reads s = IsProgram s.text.now s.rows.now s.count

abbrev pub tree_read : Scanned → Tree
tree_read s = tree_of s.text.now s.rows.now s.count

-- The words of some nodes, and after them what was there; told is how many.
pub record Written (ns : List Node) (m m' : List ℕ) (r : ℕ) : Type 0 where
  pub many : r ≡ length ns
  pub words : m' ≡ words_of_nodes ns ++ drop (words_per_node * r) m

-- ---- a text after other rows

-- The program node of a text whose first row is row k.
abbrev pub end_node : ℕ → Tree → Node
end_node k q = node NodeProgram (k + rows_of_all (declarations q)) missing (length (declarations q))

-- The nodes of a text whose first row is row k and whose program node has so many more children.
unfoldable pub nodes_after : (k more : ℕ) → Tree → List Node
nodes_after k more q = nodes_of_all k (declarations q) ++ (with_more more (end_node k q) ∷ [])

-- Neither rows nor children come to the number of a missing row.
pub record AsksAfter (t ws : List ℕ) (n k more : ℕ) (m : List ℕ) : Type 0 where
  pub probe : IsProgram t ws n
  pub room : n ≤ node_room m
  pub rows : k ≤ 65537
  pub children : more ≤ 65537

-- ---- both

abbrev pub nodes_of_texts : (t₀ ws₀ : List ℕ) (n₀ : ℕ) (t ws : List ℕ) (n : ℕ) → List Node
nodes_of_texts t₀ ws₀ n₀ t ws n = nodes_of_both (tree_of t₀ ws₀ n₀) (tree_of t ws n)

pub record AsksBoth (t₀ ws₀ : List ℕ) (n₀ : ℕ) (t ws : List ℕ) (n : ℕ) (m : List ℕ) : Type 0 where
  pub prelude : IsProgram t₀ ws₀ n₀
  pub probe : IsProgram t ws n
  pub room : n₀ + n ≤ node_room m

-- of a prelude and a probe
abbrev pub nodes_of_pair : Both → List Node
nodes_of_pair b = nodes_of_both (tree_read b.prelude) (tree_read b.probe)

abbrev pub AsksPair : Both → List ℕ → Type 0
AsksPair b m = AsksBoth b.prelude.text.now b.prelude.rows.now b.prelude.count b.probe.text.now b.probe.rows.now b.probe.count m
