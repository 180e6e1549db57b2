-- "The other units stay put": where a declaration stands among rows and among nodes, and what is the same of two.
use Rattle.std.specs.Prelude.{ℕ, suc, ◌-◌, List, map, ◌≡◌, take, drop}
use Rattle.rules.specs.Tree.{Tok}
use Rattle.rules.specs.Nodes.{Node}
use Rattle.rules_program.specs.Both.{Declared}
use Rattle.theory_moved.specs.Moved.{moved}

-- the rows of a declaration, from its first word to its `}`, among those of the texts: kinds, values and spellings
abbrev pub rows_of_run : Declared → List Tok → List Tok
rows_of_run d ts = take d.rows (drop d.row ts)

-- its nodes among those of the program, its own the last
abbrev pub nodes_of_run : Declared → List Node → List Node
nodes_of_run d ns = take (suc d.node - d.first) (drop d.first ns)

-- Two declarations have the same nodes but for where they stand: counted from the first row of each, they are the same list.
pub record SameNodes (d e : Declared) (ns ms : List Node) : Type 0 where
  pub base : List Node
  pub one : nodes_of_run d ns ≡ map (moved d.row) base
  pub other : nodes_of_run e ms ≡ map (moved e.row) base
  -- they declare the same name as the same kind, with as many rows and nodes
  pub kind : d.kind ≡ e.kind
  pub name : d.name ≡ e.name
  pub rows : d.rows ≡ e.rows
  pub nodes : suc d.node - d.first ≡ suc e.node - e.first
