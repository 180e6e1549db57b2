-- "Lay out a probe", the call: what it tells, and what it leaves in the lent room. Lent are a text, rows and their table, nodes and their
-- count, and a room of bytes.
use Rattle.std.specs.Prelude.{Bool, true, false, cond, ◌&&◌, List, [], ◌++◌, ℕ, length, take, drop, eqb, leb, ◌*◌, Ok, Err, None, Some, Result}
use Rattle.rules.specs.Outcomes.{Ending}
use Rattle.rules.specs.declared.Table.{Table}
use Rattle.rules.specs.Text.{most_bytes, text_judged}
use Rattle.rules.specs.Kinds.{same_bytes}
use Rattle.rules.specs.Rows.{words_of}
use Rattle.rules.specs.Scan.{read_rows, read_ending, scan}
use Rattle.rules.specs.Tree.{Tree}
use Rattle.rules.specs.Nodes.{size, tree_words}
use Rattle.rules.specs.Parse.{Out, ok, no, parse}
use Rattle.rules.specs.Calls.{tokens}
use Rattle.rules_layout.specs.declared.Unlaid.{Unlaid}
use Rattle.rules_layout.specs.declared.Unlaid.TheVariants.{NotItsTree, NoRoom}
use Rattle.rules_layout.specs.Bytes.{layout}

-- ---- "the lent text's tree"

-- no refusal ends it
unfoldable pub is_whole : Ending → Bool
is_whole None = true
is_whole (Some e) = false

-- the words are those that are lent first
abbrev pub begins : List ℕ → List ℕ → Bool
begins ws lent = same_bytes ws (take (length ws) lent)

-- the table is the scan of the text, to the end, and every word of its rows is the scan's
unfoldable pub is_scan : List ℕ → List ℕ → Table → Bool
is_scan t ws tbl =
    (is_whole (read_ending (scan t)) && is_whole tbl.ending)
    && ((eqb tbl.count (length (read_rows (scan t))) && eqb tbl.length (length t)) && begins (words_of (read_rows (scan t))) ws)

-- the table of a text that is one
unfoldable pub is_scanned : List ℕ → List ℕ → Table → Bool
is_scanned t ws tbl = elim (text_judged t) [ Ok _ ↦ is_scan t ws tbl | Err e ↦ false ]

-- the nodes are a tree's, as many and every word
unfoldable pub is_tree : Tree → List ℕ → ℕ → Bool
is_tree u nodes count = eqb count (size u) && begins (tree_words 0 u) nodes

-- the nodes of what was read
unfoldable pub is_read : Out → List ℕ → ℕ → Bool
is_read (ok u j) nodes count = is_tree u nodes count
is_read (no why r) nodes count = false

-- the reading of a text
unfoldable pub reading : List ℕ → Out
reading t = parse (tokens t (read_rows (scan t)))

-- the layout of what was read
unfoldable pub laid_of : Out → List ℕ
laid_of (ok u j) = layout u
laid_of (no why r) = []

-- ---- what the call tells: "3 for nodes that aren't the lent text's tree, 4 exactly if the layout is longer than the lent room or than
-- 65,536 bytes"

unfoldable pub room_told : List ℕ → ℕ → Result ℕ Unlaid
room_told bytes room = cond (leb (length bytes) room && leb (length bytes) most_bytes) (Ok (length bytes)) (Err NoRoom)

unfoldable pub tree_told : Out → List ℕ → ℕ → ℕ → Result ℕ Unlaid
tree_told (ok u j) nodes count room = cond (is_tree u nodes count) (room_told (layout u) room) (Err NotItsTree)
tree_told (no why r) nodes count room = Err NotItsTree

unfoldable pub layout_told : List ℕ → List ℕ → Table → List ℕ → ℕ → ℕ → Result ℕ Unlaid
layout_told t ws tbl nodes count room =
    elim (text_judged t) [
      | Ok _ ↦ cond (is_scan t ws tbl) (tree_told (reading t) nodes count room) (Err NotItsTree)
      | Err e ↦ Err NotItsTree
    ]

-- ---- what it leaves: the layout, and then what was there; "the room is then untouched"

unfoldable pub layout_leaves : List ℕ → List ℕ → Table → List ℕ → ℕ → List ℕ → List ℕ
layout_leaves t ws tbl nodes count room =
    elim (layout_told t ws tbl nodes count (length room)) [
      | Ok n ↦ laid_of (reading t) ++ drop n room
      | Err why ↦ room
    ]
