-- What the layout call answers, in words: when lent nodes are the lent text's tree, and the three ways in which it answers.
use Rattle.std.specs.Prelude.{ℕ, ◌*◌, ◌≤◌, ◌<◌, List, ◌++◌, ◌⊎◌, ◌≡◌, length, take, drop, get_or}
use Rattle.rules.specs.Text.{most_bytes, start_place}
use Rattle.rules.specs.Rows.{words_of}
use Rattle.rules.specs.Tree.{Tree}
use Rattle.rules.specs.Nodes.{size, tree_words}
use Rattle.rules_layout.specs.Bytes.{layout}
use Rattle.theory_calls.specs.Demand2.{rows_of, ScansFully, ProgramOf}
use Rattle.answers.specs.Layout.{words, nowhere}

-- "the lent text's tree" is p
pub record ItsTree (text rows table nodes : List ℕ) (count : ℕ) (p : Tree) : Type 0 where
  -- the text scans to its end, and p is its program
  pub scans : ScansFully text
  pub program : ProgramOf text p
  -- the table is that of its scan: no refusal, so many rows, so many bytes; the other words of the table play no part
  pub number : get_or table 0 0 ≡ 0
  pub many : get_or table 6 0 ≡ length (rows_of text)
  pub long : get_or table 7 0 ≡ length text
  -- every word of its rows is the scan's; words behind them play no part
  pub same_rows : take (8 * length (rows_of text)) rows ≡ words_of (rows_of text)
  -- the nodes are p's, so many and every word; words behind them play no part
  pub counted : count ≡ size p
  pub same_nodes : take (8 * size p) nodes ≡ tree_words 0 p

-- Rows, a table's words, nodes and their count are as others: the three words of the table, and every word of rows and nodes.
pub record SameWords (rows table nodes : List ℕ) (count : ℕ) (rows' table' nodes' : List ℕ) (count' : ℕ) : Type 0 where
  pub number : get_or table 0 0 ≡ get_or table' 0 0
  pub many : get_or table 6 0 ≡ get_or table' 6 0
  pub long : get_or table 7 0 ≡ get_or table' 7 0
  pub same_rows : take (8 * get_or table 6 0) rows ≡ take (8 * get_or table 6 0) rows'
  pub counted : count ≡ count'
  pub same_nodes : take (8 * count) nodes ≡ take (8 * count) nodes'

-- The layout call was lent a text, rows, a table's words, nodes, their count and the bytes `room`. It told `answer` and left m.
module _ (text rows table nodes : List ℕ) (count : ℕ) (room answer m : List ℕ) where
  -- the nodes are the text's tree, and its layout has room: it is written, its length is told, and behind it the room is as it was
  pub record Laid : Type 0 where
    pub tree : Tree
    pub its : ItsTree text rows table nodes count tree
    pub in_room : length (layout tree) ≤ length room
    pub short : length (layout tree) ≤ most_bytes
    pub told : answer ≡ words 0 nowhere 0 0 0 (length (layout tree))
    pub left : m ≡ layout tree ++ drop (length (layout tree)) room

  pub data LayoutAnswer : Type 0 where
    -- 3: the nodes are not the text's tree; the room is as it was
    layout_3 : ((p : Tree) → ItsTree text rows table nodes count p → ⊥) → answer ≡ words 3 start_place 0 0 0 0 → m ≡ room → LayoutAnswer
    -- 4: they are, and its layout is longer than the room or than a text may be; the room is as it was
    layout_4 : (p : Tree) → ItsTree text rows table nodes count p → (length room < length (layout p)) ⊎ (most_bytes < length (layout p))
        → answer ≡ words 4 start_place 0 0 0 0 → m ≡ room
        → LayoutAnswer
    -- 0
    layout_0 : Laid → LayoutAnswer
