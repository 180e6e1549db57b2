-- Files of form 2: what block 0 says, rows without line and column, a table into such a file, and the order in which such a file is judged.
use Rattle.std.specs.Prelude.{Bool, cond, not, List, [], ◌∷◌, ◌++◌, ℕ, zero, suc, ◌+◌, ◌*◌, ◌/◌, min, length, take, drop, get_or, eqb, ltb, Result, Err, Option, None, Some}
use Rattle.rules.specs.declared.Cursor.{Cursor}
use Rattle.rules.specs.Outcomes.{Ending, halt}
use Rattle.rules.specs.declared.Table.{Table}
use Rattle.rules.specs.Text.{most_bytes, place}
use Rattle.rules.specs.Rows.{Row, words_per_row, row_in}
use Rattle.rules.specs.Refusals.{lexical_number}
use Rattle.rules_files.specs.declared.Fault.TheVariants.{BadBlock, WrongLength}
use Rattle.rules_files.specs.Bytes.{bytes_of, words_in, word_bytes}
use Rattle.rules_files.specs.Blocks.{block_bytes, per_block, blocks_for, file_length, file_of, sound, sound_from, body_from}
use Rattle.rules_files.specs.Files.{said_at, count_said, length_said, read_refused, read_ending, read_told}
use Rattle.rules_files.specs.declared.Fault.{Fault}

-- ---- numbers

-- "Form 2 has rows of 24 bytes: kind, start, end, value low, value high, comments"
abbrev pub short_words : ℕ
short_words = 6

abbrev pub short_bytes : ℕ
short_bytes = short_words * word_bytes

-- "block 0 says 2 and drops the ending's line and column"
abbrev pub short_number : ℕ
short_number = 2

abbrev pub short_said_bytes : ℕ
short_said_bytes = 5 * word_bytes

-- the numbers that the code has names for too, in the order in which it lists them; the third is "21 rows to a block"
abbrev pub numbers : List ℕ
numbers = short_bytes ∷ short_said_bytes ∷ per_block short_bytes ∷ (per_block short_bytes * short_words) ∷ short_number ∷ []

-- ---- lines and columns dropped, and put back

-- the six words of a row
unfoldable pub short_row : Row → List ℕ
short_row r = r.kind ∷ r.start ∷ r.end ∷ r.low ∷ r.high ∷ r.comments ∷ []

-- the words of n rows without their lines and columns
unfoldable pub shortened : ℕ → List ℕ → List ℕ
shortened zero ws = []
shortened (suc n) ws = short_row (row_in ws) ++ shortened n (drop words_per_row ws)

-- the eight words of the row whose six stand in front, at the place that its start has
unfoldable pub placed_row : (ℕ → Cursor) → List ℕ → List ℕ
placed_row at ws =
    get_or ws 0 0 ∷ get_or ws 1 0 ∷ get_or ws 2 0 ∷ (at (get_or ws 1 0)).line.0 ∷ (at (get_or ws 1 0)).column.0
    ∷ get_or ws 3 0 ∷ get_or ws 4 0 ∷ get_or ws 5 0 ∷ []

-- the words of n rows with the lines and columns of their places
unfoldable pub placed : (ℕ → Cursor) → ℕ → List ℕ → List ℕ
placed at zero ws = []
placed at (suc n) ws = placed_row at ws ++ placed at n (drop short_words ws)

abbrev pub placed_ending : (ℕ → Cursor) → Ending → Ending
placed_ending at None = None
placed_ending at (Some e) = Some (halt e.why (at e.at.offset.0))

-- Where an offset lies in a text of one line, as long as a text may be. Lines and columns of such a text keep every rule of a well-formed table.
unfoldable pub on_one_line : ℕ → Cursor
on_one_line k = place k 1 (1 + min k most_bytes)

-- ---- a table into a file

abbrev pub short_ending_said : Ending → List ℕ
short_ending_said None = 0 ∷ 0 ∷ []
short_ending_said (Some e) = lexical_number e.why ∷ e.at.offset.0 ∷ []

abbrev pub short_said : Table → List ℕ
short_said t = short_number ∷ t.length ∷ t.count ∷ short_ending_said t.ending

-- the one file of form 2 of a table whose rows stand in ws
unfoldable pub short_encode : List ℕ → Table → List ℕ
short_encode ws t = file_of short_bytes (bytes_of (short_said t)) t.count (bytes_of (shortened t.count ws))

-- ---- a file into a table

-- the ending that block 0 tells, at the place that its offset has; none has number 0 and offset 0
unfoldable pub short_ending : (ℕ → Cursor) → List ℕ → Option Ending
short_ending at file =
    cond (eqb (said_at 3 file) 0) (read_ending 0 (place (said_at 4 file) 0 0)) (read_refused (said_at 3 file) (at (said_at 4 file)))

-- what stands behind block 0: the words of all rows, and how many blocks are sound before one is not
unfoldable pub short_words_in : List ℕ → List ℕ
short_words_in file =
    words_in (short_words * count_said file)
    (body_from short_bytes (blocks_for short_bytes (count_said file)) (count_said file) (drop block_bytes file))

unfoldable pub short_sound_in : List ℕ → ℕ
short_sound_in file = sound_from short_bytes (blocks_for short_bytes (count_said file)) 1 (count_said file) (drop block_bytes file)

-- 43, of a table whose lines and columns are not there: they are those of a text of one line. There is room for all rows.
unfoldable pub short_table : List ℕ → Result Table Fault
short_table file =
    read_told (placed on_one_line (count_said file) (short_words_in file)) (count_said file) (count_said file) (length_said file)
    (short_ending on_one_line file)

-- "42, 41 for the first other bad block" in front of it
unfoldable pub short_blocks : List ℕ → Result Table Fault
short_blocks file =
    cond (not (eqb (length file) (file_length short_bytes (count_said file)))) (Err WrongLength)
    (cond (ltb (short_sound_in file) (blocks_for short_bytes (count_said file))) (Err (BadBlock (1 + short_sound_in file)))
    (short_table file))

-- "42 for under 512, 41 for block 0" in front of that; what block 0 does not say is filler, which begins at byte 24
unfoldable pub short_judged : List ℕ → Result Table Fault
short_judged file =
    cond (ltb (length file) block_bytes) (Err WrongLength)
    (cond (not (sound 0 0 short_said_bytes (take block_bytes file))) (Err (BadBlock 0)) (short_blocks file))
