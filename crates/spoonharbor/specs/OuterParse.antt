-- Demand 2 in words: what the outer face's parse answers and leaves, lent what its scan left and told.
use Rattle.std.specs.Prelude.{ℕ, ◌*◌, ◌≤◌, ◌<◌, false, List, ◌++◌, ◌≡◌, length, drop, Some}
use Rattle.rules.specs.declared.Cursor.{Cursor}
use Rattle.rules.specs.declared.Lexical.{Lexical}
use Rattle.rules.specs.Outcomes.{halt}
use Rattle.rules.specs.declared.Syntax.{Syntax}
use Rattle.rules.specs.Text.{most_bytes, valid_bytes, valid, place_at, start_place}
use Rattle.rules.specs.Refusals.{lexical_number, syntax_number, first_told, second_told, found_told}
use Rattle.rules.specs.Rows.{Row, row_place}
use Rattle.rules.specs.Scan.{read_ending, scan, room_of, scan_told, scan_leaves}
use Rattle.rules.specs.Tree.{Tree}
use Rattle.rules.specs.Nodes.{size, tree_words}
use Rattle.rules.specs.Calls.{node_room}
use Rattle.theory_calls.specs.Demand2.{rows_of, Readable, ScansFully, ProgramOf, RefusedRow}
use Rattle.answers.specs.Layout.{words, nowhere, told_words}

-- The rows `ws` and the table's words `table` are what `spoonharbor_scan` of the text t, lent the row memory `lent`, left and told.
pub record OuterLent (t lent ws table : List ℕ) : Type 0 where
  pub told : table ≡ told_words (scan_told t (room_of lent))
  pub left : ws ≡ scan_leaves t lent

-- `spoonharbor_parse` was lent the node memory `new`, gave the words `answer` and left m.
module _ (new answer m : List ℕ) where
  -- number 0, and how many nodes the tree has; they are written, and no word behind them is touched
  pub record OuterWritten (p : Tree) : Type 0 where
    pub told : answer ≡ words 0 nowhere 0 0 (size p) 0
    pub left : m ≡ tree_words 0 p ++ drop (8 * size p) new

  -- a refusal's number, its place, the two words that it tells and the kind that was found; no word is touched
  pub record OuterRefused (number : ℕ) (at : Cursor) (x y found : ℕ) : Type 0 where
    pub told : answer ≡ words number at x y 0 found
    pub left : m ≡ new

-- The text was t, and `lent` the scan's row memory. One of seven answers, each with the case in which it is given.
module _ (t lent new answer m : List ℕ) where
  pub data OuterAnswer : Type 0 where
    outer_1 : most_bytes < length t → OuterRefused new answer m 1 start_place 0 0 0 → OuterAnswer
    outer_2 : length t ≤ most_bytes → valid t ≡ false → OuterRefused new answer m 2 (place_at t (valid_bytes t)) 0 0 0 → OuterAnswer
    -- the scan said 4, so that its words tell no table
    outer_3 : Readable t → room_of lent < length (rows_of t) → OuterRefused new answer m 3 start_place 0 0 0 → OuterAnswer
    -- 11 to 17, with which the scan ended
    outer_ending : Readable t → length (rows_of t) ≤ room_of lent → (why : Lexical) (at : Cursor) → read_ending (scan t) ≡ Some (halt why at)
        → OuterRefused new answer m (lexical_number why) at 0 0 0
        → OuterAnswer
    outer_5 : ScansFully t → length (rows_of t) ≤ room_of lent → node_room new < length (rows_of t)
        → OuterRefused new answer m 5 start_place 0 0 0
        → OuterAnswer
    -- the one program of the text
    outer_nodes : ScansFully t → length (rows_of t) ≤ room_of lent → length (rows_of t) ≤ node_room new
        → (p : Tree) → ProgramOf t p → ((q : Tree) → ProgramOf t q → q ≡ p) → OuterWritten new answer m p
        → OuterAnswer
    -- 21 to 32: 21, 22, 23, 25 and 30 with the kinds that would have fitted, 21 with the kind that was found too, 29 with its field
    outer_syntax : ScansFully t → length (rows_of t) ≤ room_of lent → length (rows_of t) ≤ node_room new → ((p : Tree) → ProgramOf t p → ⊥)
        → (why : Syntax) (row : Row) → RefusedRow t why row
        → OuterRefused new answer m (syntax_number why) (row_place row) (first_told why) (second_told why) (found_told why row.kind)
        → OuterAnswer
