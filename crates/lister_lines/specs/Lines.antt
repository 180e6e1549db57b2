-- "The lister": what it writes of a text, byte for byte.
use Rattle.std.specs.Prelude.{cond, List, ◌++◌, ℕ, ◌*◌, ltb, length, replicate, Ok, Err}
use Rattle.rules.specs.Outcomes.{Told, Parsed}
use Rattle.rules.specs.declared.Table.{Table}
use Rattle.rules.specs.Text.{start_place}
use Rattle.rules.specs.Scan.{scan_told, scan_leaves}
use Rattle.rules.specs.Refusals.{outer_number, reason_number}
use Rattle.rules.specs.Calls.{parse_told, parse_leaves}
use Rattle.lister_parts.specs.Parts.{refusal_line, most_lines, listed_rows, listed_nodes}

-- ---- a text

-- room for 2,000 rows, or 2,000 nodes
unfoldable pub room : List ℕ
room = replicate (most_lines * 8) 0

-- what is written of a parse that tells so and leaves such nodes
unfoldable pub listed_parse : Parsed → List ℕ → List ℕ
listed_parse (Ok n) ns = listed_nodes n ns
listed_parse (Err e) ns = refusal_line (reason_number e.why) e.at

-- what is written of a text's rows and their table, behind the rows
unfoldable pub listed_tree : List ℕ → List ℕ → Table → List ℕ
listed_tree t ws tbl = listed_parse (parse_told t ws tbl most_lines) (parse_leaves t ws tbl room)

-- what is written of a text whose scan tells so and leaves such rows
unfoldable pub listed_scan : List ℕ → Told → List ℕ → List ℕ
listed_scan t (Ok tbl) ws = listed_rows tbl.count ws ++ listed_tree t ws tbl
listed_scan t (Err e) ws = listed_rows e.rows ws ++ refusal_line (outer_number e.why) e.at

-- what is written of a text that is short enough
unfoldable pub listed_text : List ℕ → List ℕ
listed_text t = listed_scan t (scan_told t most_lines) (scan_leaves t room)

-- the longest text that is listed
abbrev pub most_text : ℕ
most_text = 16384

-- "a longer input prints only that line, with 1"
unfoldable pub listed : List ℕ → List ℕ
listed t = cond (ltb most_text (length t)) (refusal_line 1 start_place) (listed_text t)
