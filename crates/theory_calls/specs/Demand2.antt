-- The words of demand 2: which trees are programs of a text, what a parse call is lent, and what it tells and leaves.
use Rattle.std.specs.Prelude.{ℕ, ◌*◌, ◌≤◌, ◌<◌, true, false, List, ◌∷◌, ◌++◌, ◌≡◌, length, drop, Ok, Err, None, Some}
use Rattle.rules.specs.declared.Cursor.{Cursor}
use Rattle.rules.specs.declared.Lexical.{Lexical}
use Rattle.rules.specs.Outcomes.{halt, Parsed, unparsed}
use Rattle.rules.specs.declared.Outer.TheVariants.{TextTooLong, BadByte, NoNodeRoom}
use Rattle.rules.specs.declared.Syntax.{Syntax}
use Rattle.rules.specs.declared.Reason.{Reason}
use Rattle.rules.specs.declared.Reason.TheVariants as reason
use Rattle.rules.specs.declared.Table.{Table}
use Rattle.rules.specs.Text.{most_bytes, valid_bytes, valid, place_at, start_place}
use Rattle.rules.specs.Refusals.{syntax_number, found_told}
use Rattle.rules.specs.Rows.{Row, row_place}
use Rattle.rules.specs.Scan.{read_rows, read_ending, scan}
use Rattle.rules.specs.Tree.{Tok, Tree, yield}
use Rattle.rules.specs.Nodes.{size, tree_words}
use Rattle.rules.specs.Grammar.{Program, Is}
use Rattle.rules.specs.Parse.{no, parse}
use Rattle.rules.specs.Calls.{tokens, node_room}
use Rattle.theory_edits.specs.Scanned.{Scanned}
use Rattle.theory_grammar.specs.Lost.{is_misfit, First}
use Rattle.theory_grammar.specs.Fitting.{ToldExactly}

-- ---- texts and their programs

-- the rows of a text, and their tokens
abbrev pub rows_of : List ℕ → List Row
rows_of t = read_rows (scan t)

abbrev pub tokens_of : List ℕ → List Tok
tokens_of t = tokens t (rows_of t)

-- a text that can be scanned
pub record Readable (t : List ℕ) : Type 0 where
  -- it has at most 65,536 bytes
  pub fits : length t ≤ most_bytes
  -- and is valid UTF-8
  pub good : valid t ≡ true

-- a text that scans fully
pub record ScansFully (t : List ℕ) : Type 0 where
  pub readable : Readable t
  -- no lexical refusal ends its rows
  pub ends : read_ending (scan t) ≡ None

-- a program of a text
pub record ProgramOf (t : List ℕ) (p : Tree) : Type 0 where
  -- the tree is a program of the grammar, within the checks and with at most 64 constructs open
  pub is : Is true Program 64 p
  -- its tokens are the text's
  pub same : yield p ≡ tokens_of t

-- why a text that scans fully is no program, and at which of its rows that shows
pub record RefusedRow (t : List ℕ) (why : Syntax) (row : Row) : Type 0 where
  -- a refusal of 21 to 32
  pub number : (21 ≤ syntax_number why) × (syntax_number why ≤ 32)
  -- the row stands between these
  pub before : ℕ
  pub behind : List Row
  pub stands : drop before (rows_of t) ≡ row ∷ behind
  -- and it is there that reading order leads to the refusal
  pub reads : parse (tokens_of t) ≡ no why before
  -- The row that the refusal is about is the first with which no program goes on. It is this row, or stands to it as
  -- `lost` says.
  pub first : First (tokens_of t) why before
  -- of 21, 22, 23, 25 and 30 the set that is told is exactly the kinds that would have fitted
  pub exactly : is_misfit why ≡ true → ToldExactly (tokens_of t) why before

-- ---- what a parse call is lent

-- the words and the table that are lent with a text
pub record Lent (t ws : List ℕ) (table : Table) : Type 0 where
  -- They are what a scan of it left and told. Of a text that gets 1 or 2 there is no table, and nothing is asked of what is lent.
  pub scanned : Readable t → Scanned t ws table

-- ---- what it answers

-- The call was lent the node memory `new`, told r and left m.
module _ (new : List ℕ) (r : Parsed) (m : List ℕ) where
  -- the tree's nodes are told and written, and no word behind them is touched
  pub record Written (p : Tree) : Type 0 where
    pub told : r ≡ Ok (size p)
    pub left : m ≡ tree_words 0 p ++ drop (8 * size p) new

  -- why and where is told, and the kind that was found (0 but for 21), and no word is touched
  pub record Refused (why : Reason) (at : Cursor) (found : ℕ) : Type 0 where
    pub told : r ≡ Err (unparsed why at found)
    pub left : m ≡ new

-- The text was t. One of six answers, each with the case in which it is given: no two of these cases hold together.
module _ (t new : List ℕ) (r : Parsed) (m : List ℕ) where
  pub data Answer : Type 0 where
    -- 1 and 2
    too_long : most_bytes < length t → Refused new r m (reason.Outer TextTooLong) start_place 0 → Answer
    bad_byte : length t ≤ most_bytes → valid t ≡ false → Refused new r m (reason.Outer BadByte) (place_at t (valid_bytes t)) 0 → Answer
    -- 11 to 17, with which the scan ended
    ends_refused : Readable t → (why : Lexical) (at : Cursor) → read_ending (scan t) ≡ Some (halt why at)
        → Refused new r m (reason.Lexical why) at 0
        → Answer
    -- 5
    few_nodes : ScansFully t → node_room new < length (rows_of t) → Refused new r m (reason.Outer NoNodeRoom) start_place 0 → Answer
    -- the one program of the text
    accepted : ScansFully t → length (rows_of t) ≤ node_room new → (p : Tree) → ProgramOf t p → ((q : Tree) → ProgramOf t q → q ≡ p)
        → Written new r m p
        → Answer
    -- 21 to 32
    no_program : ScansFully t → length (rows_of t) ≤ node_room new → ((p : Tree) → ProgramOf t p → ⊥)
        → (why : Syntax) (row : Row) → RefusedRow t why row
        → Refused new r m (reason.Syntax why) (row_place row) (found_told why row.kind)
        → Answer
