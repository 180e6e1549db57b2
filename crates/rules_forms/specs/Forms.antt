-- Files of either form with the text at hand: judged, read beside the text, and moved from one form to the other.
use Rattle.std.specs.Prelude.{Bool, true, false, cond, not, ◌&&◌, ◌||◌, List, [], ◌∷◌, ◌++◌, ℕ, ◌*◌, length, drop, eqb, ltb, Result, Ok, Err, None, Some}
use Rattle.rules.specs.declared.Cursor.{Cursor}
use Rattle.rules.specs.Outcomes.{Ending}
use Rattle.rules.specs.declared.Outer.TheVariants.{NoRowRoom}
use Rattle.rules.specs.declared.Table.{Table}
use Rattle.rules.specs.Text.{line_at, column_at, place_at}
use Rattle.rules.specs.Rows.{words_per_row, row_place, rows_in, every}
use Rattle.rules.specs.Scan.{room_of}
use Rattle.rules_files.specs.declared.Fault.TheVariants.{Outer, OtherForm}
use Rattle.rules_files.specs.Blocks.{file_length}
use Rattle.rules_files.specs.Files.{row_bytes, form_number, fault_number, block_told, form_said, count_said, row_words_in, load_told, encode}
use Rattle.rules_forms.specs.declared.Apart.{Apart}
use Rattle.rules_forms.specs.declared.Apart.TheVariants.{File, OtherText}
use Rattle.rules_forms.specs.Short.{short_number, short_bytes, short_words_in, placed, placed_ending, short_encode, short_judged}
use Rattle.rules_files.specs.declared.Fault.{Fault}

-- the number of each refusal, and the block that it tells
abbrev pub apart_number : Apart → ℕ
apart_number (File why) = fault_number why
apart_number OtherText = 45

abbrev pub apart_block : Apart → ℕ
apart_block (File why) = block_told why
apart_block OtherText = 0

-- ---- a file of either form

abbrev pub is_short : List ℕ → Bool
is_short file = eqb (form_said file) short_number

-- The file alone: "42 for under 512, 41 for block 0, 44, 42, 41 for the first other bad block, 43".
-- "44 now means neither 1 nor 2, its place as before":
-- a file that does not say 2 is judged as a reading of form 1 judges it, in room for all of its rows.
unfoldable pub judged : List ℕ → Result Table Fault
judged file = cond (is_short file) (short_judged file) (load_told file (count_said file))

-- "lines and columns follow from the text": the rows and the table of a file beside a text
unfoldable pub rows_beside : List ℕ → List ℕ → List ℕ
rows_beside text file = cond (is_short file) (placed (place_at text) (count_said file) (short_words_in file)) (row_words_in file)

unfoldable pub table_beside : List ℕ → List ℕ → Table → Table
table_beside text file t =
    record { count = t.count; length = t.length; ending = cond (is_short file) (placed_ending (place_at text) t.ending) t.ending }

-- a place has the line and column of its offset in the text
unfoldable pub is_place_in : List ℕ → Cursor → Bool
is_place_in text p = eqb p.line.0 (line_at text p.offset.0) && eqb p.column.0 (column_at text p.offset.0)

unfoldable pub ending_agrees : List ℕ → Ending → Bool
ending_agrees text None = true
ending_agrees text (Some e) = is_place_in text e.at

-- "text length or a line or column doesn't agree with the text"
unfoldable pub agrees : List ℕ → List ℕ → Table → Bool
agrees text ws t =
    eqb (length text) t.length && (every (λ r. is_place_in text (row_place r)) (rows_in t.count ws) && ending_agrees text t.ending)

abbrev pub agrees_beside : List ℕ → List ℕ → Table → Bool
agrees_beside text file t = agrees text (rows_beside text file) (table_beside text file t)

-- ---- a file read beside its text

-- "4", and "45 .. last of all"
unfoldable pub beside_judged : List ℕ → List ℕ → ℕ → Result Table Fault → Result Table Apart
beside_judged text file room (Err why) = Err (File why)
beside_judged text file room (Ok t) =
    cond (ltb room t.count) (Err (File (Outer NoRowRoom)))
    (cond (not (agrees_beside text file t)) (Err OtherText) (Ok (table_beside text file t)))

unfoldable pub beside_told : List ℕ → List ℕ → ℕ → Result Table Apart
beside_told text file room = beside_judged text file room (judged file)

-- the rows, and then what was there; lent memory is untouched by each refusal
unfoldable pub beside_leaves : List ℕ → List ℕ → List ℕ → List ℕ
beside_leaves text file ws =
    elim (beside_told text file (room_of ws)) [
      | Ok t ↦ rows_beside text file ++ drop (words_per_row * t.count) ws
      | Err why ↦ ws
    ]

-- ---- a file moved to a form

abbrev pub is_form : ℕ → Bool
is_form form = eqb form form_number || eqb form short_number

abbrev pub row_bytes_in : ℕ → ℕ
row_bytes_in form = cond (eqb form short_number) short_bytes row_bytes

-- the one file of a form of a table whose rows stand in ws
unfoldable pub encode_in : ℕ → List ℕ → Table → List ℕ
encode_in form ws t = cond (eqb form short_number) (short_encode ws t) (encode ws t)

-- "4", and "45 .. last of all"
unfoldable pub move_judged : List ℕ → List ℕ → ℕ → ℕ → Result Table Fault → Result ℕ Apart
move_judged text file form room (Err why) = Err (File why)
move_judged text file form room (Ok t) =
    cond (ltb room (file_length (row_bytes_in form) t.count)) (Err (File (Outer NoRowRoom)))
    (cond (not (agrees_beside text file t)) (Err OtherText) (Ok (file_length (row_bytes_in form) t.count)))

-- "or such a form asked for, first of all"
unfoldable pub move_told : List ℕ → List ℕ → ℕ → ℕ → Result ℕ Apart
move_told text file form room =
    cond (not (is_form form)) (Err (File OtherForm)) (move_judged text file form room (judged file))

-- the file in the form asked for
unfoldable pub moved_from : List ℕ → List ℕ → ℕ → Result Table Fault → List ℕ
moved_from text file form (Err why) = []
moved_from text file form (Ok t) = encode_in form (rows_beside text file) (table_beside text file t)

abbrev pub moved_file : List ℕ → List ℕ → ℕ → List ℕ
moved_file text file form = moved_from text file form (judged file)

-- that file, and then what was there; lent memory is untouched by each refusal
unfoldable pub move_leaves : List ℕ → List ℕ → ℕ → List ℕ → List ℕ
move_leaves text file form lent =
    elim (move_told text file form (length lent)) [
      | Ok n ↦ moved_file text file form ++ drop n lent
      | Err why ↦ lent
    ]
