-- "A site prelude", the call: what it tells, and what it leaves in the lent nodes and the lent index. Lent are each text with its rows and
-- table.
use Rattle.std.specs.Prelude.{cond, List, [], ◌∷◌, ◌++◌, ℕ, ◌+◌, ◌-◌, ◌*◌, ◌/◌, length, drop, ltb, Result, Ok, Err}
use Rattle.rules.specs.declared.Cursor.{Cursor}
use Rattle.rules.specs.declared.Table.{Table}
use Rattle.rules.specs.declared.Outer.TheVariants.{NoNodeRoom}
use Rattle.rules.specs.declared.Reason.TheVariants as reason
use Rattle.rules.specs.Text.{start_place}
use Rattle.rules.specs.Tree.{Tree, none}
use Rattle.rules.specs.Nodes.{words_per_node, words_of_nodes}
use Rattle.rules.specs.Parse.{Out, ok, no}
use Rattle.rules.specs.Calls.{place_of_row, node_room, reading, parse_told}
use Rattle.rules_program.specs.declared.Which.{Which}
use Rattle.rules_program.specs.declared.Which.TheVariants.{Prelude, Probe}
use Rattle.rules_program.specs.declared.Unjoined.{Unjoined}
use Rattle.rules_program.specs.declared.Unjoined.TheVariants as why
use Rattle.rules_program.specs.declared.Joined.{Joined}
use Rattle.rules_program.specs.declared.Refused.{Refused}
use Rattle.rules_program.specs.Both.{Declared, declarations, declared_in, nodes_of_both, declared_both}
use Rattle.rules_program.specs.Names.{unit_rows, named, names_of, twin_rows, rising, entry_words, words_per_entry}

-- ---- what is told of two texts: so many nodes and entries are written, or why none is

abbrev pub Told : Type 0
Told = Result Joined Refused

abbrev pub joined : (nodes entries : ℕ) → Told
joined n m = Ok (record { nodes = n; entries = m })

abbrev pub refused : Unjoined → Cursor → (found : ℕ) → Which → Told
refused y at found which = Err (record { why = y; at = at; found = found; which = which })

-- ---- rows of both: those below the prelude's count are the prelude's, the others the probe's

unfoldable pub which_text : (count row : ℕ) → Which
which_text count row = cond (ltb row count) Prelude Probe

-- the place of a row of both in its own text
unfoldable pub place_of_both : List ℕ → ℕ → List ℕ → ℕ → Cursor
place_of_both pws count ws row = cond (ltb row count) (place_of_row pws row) (place_of_row ws (row - count))

-- ---- the reading of each text

-- the tree of what was read
unfoldable pub tree_in : Out → Tree
tree_in (ok t j) = t
tree_in (no why r) = none

-- entries are two words each; a remainder is no entry
unfoldable pub entry_room : List ℕ → ℕ
entry_room index = length index / words_per_entry

-- a prelude and a probe, each with its rows and its table
module _ (prelude pws : List ℕ) (ptable : Table) (text ws : List ℕ) (table : Table) where
  abbrev pub prelude_tree : Tree
  prelude_tree = tree_in (reading prelude pws ptable)

  abbrev pub probe_tree : Tree
  probe_tree = tree_in (reading text ws table)

  abbrev pub all_declared : List Declared
  all_declared = declared_both prelude_tree probe_tree

  -- ---- what is told: each text's own refusals, those of the prelude first; then 5, 50, 51, 4

  unfoldable pub index_told : ℕ → Told
  index_told entries =
      cond (ltb entries (length (named all_declared))) (refused why.NoIndexRoom start_place 0 Prelude)
      (joined (length (nodes_of_both prelude_tree probe_tree)) (length (named all_declared)))

  -- 51, at the first name that was declared before
  unfoldable pub twin_told : List ℕ → ℕ → Told
  twin_told [] entries = index_told entries
  twin_told (row ∷ rows) entries =
      refused why.DeclaredTwice (place_of_both pws ptable.count ws row) 0 (which_text ptable.count row)

  -- 50, at the first unit of the prelude
  unfoldable pub unit_told : List ℕ → ℕ → Told
  unit_told [] entries = twin_told (twin_rows [] (names_of (named all_declared))) entries
  unit_told (row ∷ rows) entries = refused why.UnitInPrelude (place_of_row pws row) 0 Prelude

  -- 5, node room below the rows of both
  unfoldable pub room_told : (nodes entries : ℕ) → Told
  room_told nodes entries =
      cond (ltb nodes (ptable.count + table.count)) (refused (why.Own (reason.Outer NoNodeRoom)) start_place 0 Prelude)
      (unit_told (unit_rows (declared_in 0 0 (declarations prelude_tree))) entries)

  -- A text's own refusal is what a parse of it alone tells in enough room.
  unfoldable pub program_told : (nodes entries : ℕ) → Told
  program_told nodes entries =
      elim (parse_told prelude pws ptable ptable.count) [
        | Err e ↦ refused (why.Own e.why) e.at e.found Prelude
        | Ok n ↦ elim (parse_told text ws table table.count) [
          | Err e ↦ refused (why.Own e.why) e.at e.found Probe
          | Ok m ↦ room_told nodes entries
        ]
      ]

  -- ---- what is left: the nodes and the index, and after them what was there; a refusal leaves every word of both

  unfoldable pub nodes_left : Told → List ℕ → List ℕ
  nodes_left (Ok j) nodes = words_of_nodes (nodes_of_both prelude_tree probe_tree) ++ drop (words_per_node * j.nodes) nodes
  nodes_left (Err r) nodes = nodes

  unfoldable pub index_left : Told → List ℕ → List ℕ
  index_left (Ok j) index = entry_words (rising (named all_declared)) ++ drop (words_per_entry * j.entries) index
  index_left (Err r) index = index

  unfoldable pub program_leaves_nodes : (nodes index : List ℕ) → List ℕ
  program_leaves_nodes nodes index = nodes_left (program_told (node_room nodes) (entry_room index)) nodes

  unfoldable pub program_leaves_index : (nodes index : List ℕ) → List ℕ
  program_leaves_index nodes index = index_left (program_told (node_room nodes) (entry_room index)) index
