-- Files of form 1: what block 0 says, a table into a file, the order in which a file is judged, and what the two calls tell and leave.
use Rattle.std.specs.Prelude.{Bool, true, false, cond, not, ◌&&◌, List, [], ◌∷◌, ◌++◌, ℕ, ◌+◌, ◌*◌, ◌/◌, length, take, drop, eqb, leb, ltb, Result, Ok, Err, Option, Some, None}
use Rattle.rules.specs.declared.Cursor.{Cursor}
use Rattle.rules.specs.Outcomes.{Ending, halt}
use Rattle.rules.specs.declared.Outer.TheVariants.{NotWellFormed, NoRowRoom}
use Rattle.rules.specs.declared.Table.{Table}
use Rattle.rules.specs.Text.{place}
use Rattle.rules.specs.Rows.{words_per_row, well_formed}
use Rattle.rules.specs.Scan.{room_of}
use Rattle.rules.specs.Refusals.{outer_number, lexical_number}
use Rattle.rules.specs.Back.{is_lexical, lexical_of}
use Rattle.rules_files.specs.declared.Fault.{Fault}
use Rattle.rules_files.specs.declared.Fault.TheVariants.{Outer, TooManyRows, BadBlock, WrongLength, NoTable, OtherForm}
use Rattle.rules_files.specs.Bytes.{number_at, bytes_of, words_in, word_bytes}
use Rattle.rules_files.specs.Blocks.{block_bytes, checked_bytes, at_content, per_block, blocks_for, file_length, file_of, sound, sound_from, body_from}

-- ---- numbers

-- "rows of eight words"
abbrev pub row_bytes : ℕ
row_bytes = words_per_row * word_bytes

-- "in four bytes each, the form number 1, text length, row count, ending number, and the ending's offset, line and column"
abbrev pub form_number : ℕ
form_number = 1

abbrev pub said_bytes : ℕ
said_bytes = 7 * word_bytes

abbrev pub most_rows : ℕ
most_rows = 65535

-- the numbers that the code has names for too, in the order in which it lists them
abbrev pub numbers : List ℕ
numbers =
    block_bytes ∷ checked_bytes ∷ at_content ∷ word_bytes ∷ row_bytes ∷ said_bytes ∷ per_block row_bytes ∷ (per_block row_bytes * words_per_row) ∷ form_number
    ∷ most_rows ∷ []

-- the number of each refusal, and the block that it tells
abbrev pub fault_number : Fault → ℕ
fault_number (Outer why) = outer_number why
fault_number TooManyRows = 40
fault_number (BadBlock k) = 41
fault_number WrongLength = 42
fault_number NoTable = 43
fault_number OtherForm = 44

abbrev pub block_told : Fault → ℕ
block_told (Outer why) = 0
block_told TooManyRows = 0
block_told (BadBlock k) = k
block_told WrongLength = 0
block_told NoTable = 0
block_told OtherForm = 0

-- ---- a table into a file

-- "all four zero if none"
abbrev pub ending_said : Ending → List ℕ
ending_said None = 0 ∷ 0 ∷ 0 ∷ 0 ∷ []
ending_said (Some e) = lexical_number e.why ∷ e.at.offset.0 ∷ e.at.line.0 ∷ e.at.column.0 ∷ []

abbrev pub said : Table → List ℕ
said t = form_number ∷ t.length ∷ t.count ∷ ending_said t.ending

-- the one file of a table whose rows stand in ws
unfoldable pub encode : List ℕ → Table → List ℕ
encode ws t = file_of row_bytes (bytes_of (said t)) t.count (bytes_of ws)

-- "3, 40, then 4 when writing"
unfoldable pub store_told : List ℕ → Table → ℕ → Result ℕ Fault
store_told ws t room =
    cond (not (well_formed ws t)) (Err (Outer NotWellFormed))
    (cond (ltb most_rows t.count) (Err TooManyRows)
    (cond (ltb room (file_length row_bytes t.count)) (Err (Outer NoRowRoom))
    (Ok (file_length row_bytes t.count))))

-- the file, and then what was there; "lent memory is untouched by each" refusal
unfoldable pub store_leaves : List ℕ → Table → List ℕ → List ℕ
store_leaves ws t file =
    elim (store_told ws t (length file)) [ Ok n ↦ encode ws t ++ drop n file | Err why ↦ file ]

-- ---- a file into a table

-- the ending of a lexical refusal's number
unfoldable pub read_refused : ℕ → Cursor → Option Ending
read_refused number p = cond (is_lexical number) (Some (Some (halt (lexical_of number) p))) None

-- none has number 0, and then offset, line and column are 0
unfoldable pub read_ending : ℕ → Cursor → Option Ending
read_ending number p =
    cond (eqb number 0)
    (cond (eqb p.offset.0 0 && (eqb p.line.0 0 && eqb p.column.0 0)) (Some None) None)
    (read_refused number p)

-- word i of what block 0 says
abbrev pub said_at : ℕ → List ℕ → ℕ
said_at i file = number_at word_bytes (at_content + word_bytes * i) file

abbrev pub form_said : List ℕ → ℕ
form_said file = said_at 0 file

abbrev pub length_said : List ℕ → ℕ
length_said file = said_at 1 file

abbrev pub count_said : List ℕ → ℕ
count_said file = said_at 2 file

unfoldable pub ending_in : List ℕ → Option Ending
ending_in file = read_ending (said_at 3 file) (place (said_at 4 file) (said_at 5 file) (said_at 6 file))

-- what stands behind block 0: the words of all rows, and how many blocks are sound before one is not
unfoldable pub row_words_in : List ℕ → List ℕ
row_words_in file =
    words_in (words_per_row * count_said file) (body_from row_bytes (blocks_for row_bytes (count_said file)) (count_said file) (drop block_bytes file))

unfoldable pub sound_in : List ℕ → ℕ
sound_in file = sound_from row_bytes (blocks_for row_bytes (count_said file)) 1 (count_said file) (drop block_bytes file)

-- "over 65,535 rows, an ending not as said or a table not well formed", then 4
unfoldable pub rows_told : List ℕ → ℕ → Table → Result Table Fault
rows_told ws room t =
    cond (ltb most_rows t.count) (Err NoTable)
    (cond (not (well_formed ws t)) (Err NoTable)
    (cond (ltb room t.count) (Err (Outer NoRowRoom)) (Ok t)))

unfoldable pub read_told : List ℕ → ℕ → ℕ → ℕ → Option Ending → Result Table Fault
read_told ws room count length None = Err NoTable
read_told ws room count length (Some e) = rows_told ws room (record { count = count; length = length; ending = e })

-- "41 for the first other bad block, 43, then 4"
unfoldable pub blocks_told : List ℕ → ℕ → Result Table Fault
blocks_told file room =
    cond (ltb (sound_in file) (blocks_for row_bytes (count_said file))) (Err (BadBlock (1 + sound_in file)))
    (read_told (row_words_in file) room (count_said file) (length_said file) (ending_in file))

-- "44, 42" in front of it
unfoldable pub said_told : List ℕ → ℕ → Result Table Fault
said_told file room =
    cond (not (eqb (form_said file) form_number)) (Err OtherForm)
    (cond (not (eqb (length file) (file_length row_bytes (count_said file)))) (Err WrongLength) (blocks_told file room))

-- "when reading, 42 for under 512, 41 for block 0" in front of that
unfoldable pub load_told : List ℕ → ℕ → Result Table Fault
load_told file room =
    cond (ltb (length file) block_bytes) (Err WrongLength)
    (cond (not (sound 0 0 said_bytes (take block_bytes file))) (Err (BadBlock 0)) (said_told file room))

-- the rows, and then what was there
unfoldable pub load_leaves : List ℕ → List ℕ → List ℕ
load_leaves file ws =
    elim (load_told file (room_of ws)) [ Ok t ↦ row_words_in file ++ drop (words_per_row * t.count) ws | Err why ↦ ws ]
