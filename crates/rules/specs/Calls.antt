-- What the calls over a lent table answer and leave in lent memory: the table test, spelling, the method sets, and the parse.
use Rattle.std.specs.Prelude.{Result, Ok, Err, cond, ◌&&◌, List, [], ◌++◌, map, ℕ, ◌*◌, ◌/◌, length, drop, eqb, leb, ltb, None, Some}
use Rattle.rules.specs.declared.Cursor.{Cursor}
use Rattle.rules.specs.Outcomes.{Ending, Judged, unfit, Parsed, unparsed}
use Rattle.rules.specs.declared.Table.{Table}
use Rattle.rules.specs.declared.Outer.{Outer}
use Rattle.rules.specs.declared.Outer.TheVariants.{NotWellFormed, NoNodeRoom}
use Rattle.rules.specs.declared.Reason.TheVariants as reason
use Rattle.rules.specs.Text.{start_place, text_judged}
use Rattle.rules.specs.Refusals.{found_told}
use Rattle.rules.specs.Rows.{Row, row_no, rows_in, row_place, well_formed, spelling}
use Rattle.rules.specs.Sets.{Unknown, ProbeReadKernelStr, allows, set_size}
use Rattle.rules.specs.Tree.{Tok, tok_of}
use Rattle.rules.specs.Nodes.{words_per_node, size, tree_words}
use Rattle.rules.specs.Parse.{Out, ok, no, parse}

-- ---- a text and its table

-- 1, 2, 3; a table length other than the text's is 3
unfoldable pub judged : List ℕ → List ℕ → Table → Judged
judged t ws tbl =
    elim (text_judged t) [
      | Ok _ ↦ cond (well_formed ws tbl && eqb tbl.length (length t)) (Ok tt) (Err (unfit NotWellFormed start_place))
      | Err e ↦ Err e
    ]

-- ---- spelling: 1, 2, 3, a row number from the count on being 3

unfoldable pub spelling_judged : List ℕ → List ℕ → Table → ℕ → Judged
spelling_judged t ws tbl row =
    elim (judged t ws tbl) [
      | Ok _ ↦ cond (ltb row tbl.count) (Ok tt) (Err (unfit NotWellFormed start_place))
      | Err e ↦ Err e
    ]

-- refusals hand back the empty part at 0
unfoldable pub spelling_part : List ℕ → List ℕ → Table → ℕ → List ℕ
spelling_part t ws tbl row =
    elim (spelling_judged t ws tbl row) [ Ok _ ↦ spelling t (row_no ws row) | Err e ↦ [] ]

-- ---- sets: kind over 10 or method over 15 answers 3

unfoldable pub member_asked : ℕ → ℕ → Result ℕ Outer
member_asked kind method =
    cond (leb kind Unknown && leb method ProbeReadKernelStr) (Ok (cond (allows kind method) 1 0)) (Err NotWellFormed)

unfoldable pub size_asked : ℕ → Result ℕ Outer
size_asked kind = cond (leb kind Unknown) (Ok (set_size kind)) (Err NotWellFormed)

-- ---- parse

unfoldable pub tokens : List ℕ → List Row → List Tok
tokens t rows = map (tok_of t) rows

-- the place of row r
unfoldable pub place_of_row : List ℕ → ℕ → Cursor
place_of_row ws r = row_place (row_no ws r)

-- nodes are eight words each; a remainder is no node
unfoldable pub node_room : List ℕ → ℕ
node_room new = length new / words_per_node

-- the reading of rows that stand in ws
unfoldable pub out_told : List ℕ → Out → Parsed
out_told ws (ok t j) = Ok (size t)
out_told ws (no why r) = Err (unparsed (reason.Syntax why) (place_of_row ws r) (found_told why (row_no ws r).kind))

-- the nodes, and then what was there; a refusal leaves node memory untouched
unfoldable pub out_leaves : Out → List ℕ → List ℕ
out_leaves (ok t j) new = tree_words 0 t ++ drop (words_per_node * size t) new
out_leaves (no why r) new = new

unfoldable pub reading : List ℕ → List ℕ → Table → Out
reading t ws tbl = parse (tokens t (rows_in tbl.count ws))

-- A refused ending is answered between 3 and 5. 5: node room below row count.
unfoldable pub ending_told : List ℕ → List ℕ → Table → Ending → ℕ → Parsed
ending_told t ws tbl None room =
    cond (ltb room tbl.count) (Err (unparsed (reason.Outer NoNodeRoom) start_place 0)) (out_told ws (reading t ws tbl))
ending_told t ws tbl (Some e) room = Err (unparsed (reason.Lexical e.why) e.at 0)

unfoldable pub ending_leaves : List ℕ → List ℕ → Table → Ending → List ℕ → List ℕ
ending_leaves t ws tbl None new = cond (ltb (node_room new) tbl.count) new (out_leaves (reading t ws tbl) new)
ending_leaves t ws tbl (Some e) new = new

-- Parse order: 1, 2, 3, the table's own refused ending, 5, then reading order.
unfoldable pub parse_told : List ℕ → List ℕ → Table → ℕ → Parsed
parse_told t ws tbl room =
    elim (judged t ws tbl) [
      | Ok _ ↦ ending_told t ws tbl tbl.ending room
      | Err e ↦ Err (unparsed (reason.Outer e.why) e.at 0)
    ]

unfoldable pub parse_leaves : List ℕ → List ℕ → Table → List ℕ → List ℕ
parse_leaves t ws tbl new =
    elim (judged t ws tbl) [ Ok _ ↦ ending_leaves t ws tbl tbl.ending new | Err e ↦ new ]
