-- "The lister": its lines, byte for byte.
use Rattle.std.specs.Prelude.{ℕ, zero, suc, List, [], ◌∷◌, ◌++◌, take, drop}
use Rattle.rules.specs.declared.Cursor.{Cursor}
use Rattle.rules_decimal.specs.Decimal.{decimal, signed}
use Rattle.rules.specs.Text.{bytes}
use Rattle.rules.specs.Rows.{row_in, value_bits}
use Rattle.lister_parts.specs.declared.Listed.{Listed}
use Rattle.lister_parts.specs.declared.Listed.TheVariants.{Row, Node}

-- ---- lines

-- each number behind a blank
unfoldable pub spaced : List ℕ → List ℕ
spaced [] = []
spaced (n ∷ ns) = bytes " " ++ decimal n ++ spaced ns

-- "rows 9", "nodes 5"
unfoldable pub heading : List ℕ → ℕ → List ℕ
heading name n = name ++ spaced (n ∷ []) ++ bytes "\n"

-- Row lines: row, kind, start, end, line, column, value. A row is given by its words.
unfoldable pub row_line : ℕ → List ℕ → List ℕ
row_line i ws =
    let r = row_in ws in
    decimal i ++ spaced (r.kind ∷ r.start ∷ r.end ∷ r.line ∷ r.column ∷ []) ++ (bytes " " ++ signed (value_bits r)) ++ bytes "\n"

-- Node lines: node, then its words.
unfoldable pub node_line : ℕ → List ℕ → List ℕ
node_line i ws = decimal i ++ spaced ws ++ bytes "\n"

-- `refused`, number, offset, line, column
unfoldable pub refusal_line : ℕ → Cursor → List ℕ
refusal_line number p = bytes "refused" ++ spaced (number ∷ p.offset.0 ∷ p.line.0 ∷ p.column.0 ∷ []) ++ bytes "\n"

-- the line of a row, or of a node
abbrev pub line_of : Listed → ℕ → List ℕ → List ℕ
line_of Row = row_line
line_of Node = node_line

-- n lines, the first of them for row or node i, each of eight of the words
unfoldable pub lines : (ℕ → List ℕ → List ℕ) → ℕ → ℕ → List ℕ → List ℕ
lines line i zero ws = []
lines line i (suc n) ws = line i (take 8 ws) ++ lines line (suc i) n (drop 8 ws)

-- ---- rows and nodes

-- at most 2,000 rows, or 2,000 nodes
abbrev pub most_lines : ℕ
most_lines = 2000

-- the rows there are, headed
unfoldable pub listed_rows : ℕ → List ℕ → List ℕ
listed_rows n ws = heading (bytes "rows") n ++ lines row_line 0 n ws

-- the nodes there are, headed
unfoldable pub listed_nodes : ℕ → List ℕ → List ℕ
listed_nodes n ns = heading (bytes "nodes") n ++ lines node_line 0 n ns
