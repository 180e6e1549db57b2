-- What each form has for itself: its number, the bytes of a row and of what block 0 says, and the eight words of a row in it.
use Rattle.std.specs.Prelude.{cond, List, [], ℕ, ◌+◌, ◌*◌, take, drop, ltb, Result, Err, Option}
use Rattle.rules.specs.declared.Table.{Table}
use Rattle.rules.specs.Rows.{words_per_row}
use Rattle.rules_files.specs.declared.Fault.TheVariants.{BadBlock}
use Rattle.rules_files.specs.Blocks.{block_bytes, blocks_for, sound_from}
use Rattle.rules_files.specs.Files.{row_bytes, said_bytes, form_number, said, count_said, length_said, row_words_in, ending_in, read_told}
use Rattle.rules_forms.specs.declared.Form.{Form}
use Rattle.rules_forms.specs.declared.Form.TheVariants.{Full, Short}
use Rattle.rules_forms.specs.Short.{short_number, short_bytes, short_said_bytes, short_said, shortened, short_words_in, placed, on_one_line, short_ending}
use Rattle.rules_forms.specs.Forms.{is_short}
use Rattle.rules_files.specs.declared.Fault.{Fault}
use Rattle.rules.specs.Outcomes.{Ending}

abbrev pub number_of : Form → ℕ
number_of Full = form_number
number_of Short = short_number

abbrev pub row_bytes_of : Form → ℕ
row_bytes_of Full = row_bytes
row_bytes_of Short = short_bytes

abbrev pub said_bytes_of : Form → ℕ
said_bytes_of Full = said_bytes
said_bytes_of Short = short_said_bytes

-- the form by which a file is judged: a file that does not say 2 as one of form 1
abbrev pub form_of : List ℕ → Form
form_of file = cond (is_short file) Short Full

-- ---- a table into a file

-- what block 0 says of a table, and the words of its first n rows
abbrev pub said_in : Form → Table → List ℕ
said_in Full t = said t
said_in Short t = short_said t

abbrev pub body_of : Form → ℕ → List ℕ → List ℕ
body_of Full n ws = take (words_per_row * n) ws
body_of Short n ws = shortened n ws

-- ---- a file into a table

-- The eight words of all rows, and the ending: lines and columns that are not there are those of a text of one line.
abbrev pub row_words_of : Form → List ℕ → List ℕ
row_words_of Full file = row_words_in file
row_words_of Short file = placed on_one_line (count_said file) (short_words_in file)

abbrev pub ending_of : Form → List ℕ → Option Ending
ending_of Full file = ending_in file
ending_of Short file = short_ending on_one_line file

-- how many blocks behind block 0 are sound before one is not
unfoldable pub sound_of : Form → List ℕ → ℕ
sound_of form file = sound_from (row_bytes_of form) (blocks_for (row_bytes_of form) (count_said file)) 1 (count_said file) (drop block_bytes file)

-- "41 for the first other bad block, 43, then 4"
unfoldable pub blocks_in : Form → List ℕ → ℕ → Result Table Fault
blocks_in form file room =
    cond (ltb (sound_of form file) (blocks_for (row_bytes_of form) (count_said file))) (Err (BadBlock (1 + sound_of form file)))
    (read_told (row_words_of form file) room (count_said file) (length_said file) (ending_of form file))
