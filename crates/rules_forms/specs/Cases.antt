-- Worked cases: a small table in both forms byte by byte, how long files of form 2 are, and what a reading beside the text and a move
-- tell and leave where
-- an easy misreading would tell another thing. Each table is under one theorem that the checker computes.
use Rattle.std.specs.Prelude.{◌≡◌, refl, Bool, true, false, cond, List, [], ◌∷◌, ◌++◌, map, ℕ, ◌+◌, length, take, drop, set, replicate, Result, Ok, Err, Some}
use Rattle.rules.specs.Outcomes.{halt}
use Rattle.rules.specs.declared.Lexical.TheVariants.{NoRowBegins}
use Rattle.rules.specs.declared.Outer.TheVariants.{NoRowRoom}
use Rattle.rules.specs.declared.Table.{Table}
use Rattle.rules.specs.Text
use Rattle.rules.specs.Text.{bytes, place}
use Rattle.rules.specs.Kinds
use Rattle.rules.specs.Rows
use Rattle.rules.specs.Back
use Rattle.rules_files.specs.declared.Fault.{Fault}
use Rattle.rules_files.specs.declared.Fault.TheVariants.{Outer, BadBlock, WrongLength, NoTable, OtherForm}
use Rattle.rules_files.specs.Bytes
use Rattle.rules_files.specs.Blocks
use Rattle.rules_files.specs.Blocks.{per_block, blocks_for, file_length}
use Rattle.rules_files.specs.Files
use Rattle.rules_files.specs.Files.{encode, load_told}
use Rattle.rules_files.specs.Cases
use Rattle.rules_files.specs.Cases.{Byte, changed, sealed}
use Rattle.rules_forms.specs.declared.Apart.TheVariants.{File, OtherText}
use Rattle.rules_forms.specs.Short
use Rattle.rules_forms.specs.Short.{short_bytes, short_encode}
use Rattle.rules_forms.specs.Forms
use Rattle.rules_forms.specs.Forms.{beside_told, move_told, moved_file}
use Rattle.rules_forms.specs.declared.Apart.{Apart}

-- ---- sizes

-- 21 rows of 24 bytes to a block; 0, 1, 21, 22 and 65,535 rows in blocks, and how many blocks and bytes the last file has
pub sizes : (per_block short_bytes ∷ blocks_for short_bytes 0 ∷ blocks_for short_bytes 1 ∷ blocks_for short_bytes 21 ∷ blocks_for short_bytes 22
    ∷ (1 + blocks_for short_bytes 65535) ∷ file_length short_bytes 65535 ∷ []) ≡ (21 ∷ 0 ∷ 1 ∷ 1 ∷ 2 ∷ 3122 ∷ 1598464 ∷ [])
unfolding Blocks.blocks_for Blocks.file_length
sizes = refl

-- ---- one table in both forms

-- the text of a newline, a letter and an at-sign: an identifier on line 2, refused behind it
abbrev pub text : List ℕ
text = bytes "\na@"

abbrev pub table : Table
table = record { count = 1; length = 3; ending = Some (halt NoRowBegins (place 2 2 2)) }

abbrev pub words : List ℕ
words = 48 ∷ 1 ∷ 2 ∷ 2 ∷ 1 ∷ 0 ∷ 0 ∷ 0 ∷ []

-- the same number of bytes with the newline elsewhere
abbrev pub other_text : List ℕ
other_text = bytes "a\n@"

abbrev pub long_file : List ℕ
long_file =
    changed
    (record { at = 4; to = 1 } ∷ record { at = 8; to = 3 } ∷ record { at = 12; to = 1 } ∷ record { at = 16; to = 11 }
    ∷ record { at = 20; to = 2 }
    ∷ record { at = 24; to = 2 } ∷ record { at = 28; to = 2 } ∷ record { at = 508; to = 126 } ∷ record { at = 509; to = 1 }
    ∷ record { at = 512; to = 1 } ∷ record { at = 514; to = 1 } ∷ record { at = 516; to = 48 } ∷ record { at = 520; to = 1 }
    ∷ record { at = 524; to = 2 } ∷ record { at = 528; to = 2 } ∷ record { at = 532; to = 1 } ∷ record { at = 1020; to = 78 }
    ∷ record { at = 1021; to = 1 } ∷ [])
    (replicate 1024 0)

abbrev pub short_file : List ℕ
short_file =
    changed
    (record { at = 4; to = 2 } ∷ record { at = 8; to = 3 } ∷ record { at = 12; to = 1 } ∷ record { at = 16; to = 11 }
    ∷ record { at = 20; to = 2 }
    ∷ record { at = 508; to = 23 } ∷ record { at = 509; to = 1 }
    ∷ record { at = 512; to = 1 } ∷ record { at = 514; to = 1 } ∷ record { at = 516; to = 48 } ∷ record { at = 520; to = 1 }
    ∷ record { at = 524; to = 2 } ∷ record { at = 1020; to = 23 } ∷ record { at = 1021; to = 1 } ∷ [])
    (replicate 1024 0)

pub files : (encode words table ∷ short_encode words table ∷ []) ≡ (long_file ∷ short_file ∷ [])
unfolding Bytes.little Bytes.bytes_of Blocks.sum_from Blocks.check Blocks.checked Blocks.block Blocks.blocks_for Blocks.blocks_from Blocks.file_of Files.encode Rows.row_in Short.short_row Short.shortened Short.short_encode
files = refl

-- ---- moved

-- 1 to 2 and back, 2 to 1 and back, and to the form it has
pub moves : (moved_file text long_file 2 ∷ moved_file text short_file 1 ∷ moved_file text long_file 1 ∷ moved_file text short_file 2 ∷ [])
    ≡ (short_file ∷ long_file ∷ long_file ∷ short_file ∷ [])
unfolding Cases.sealed Bytes.little Bytes.number Bytes.number_at Bytes.bytes_of Bytes.words_in Blocks.sum_from Blocks.check Blocks.checked Blocks.block Blocks.content_of Blocks.zeros Blocks.sound Blocks.blocks_for Blocks.blocks_from Blocks.file_of Blocks.file_length Blocks.sound_from Blocks.body_from Files.encode Back.lexical_of Files.read_refused Files.read_ending Files.ending_in Files.row_words_in Files.sound_in Files.rows_told Files.read_told Files.blocks_told Files.said_told Files.load_told Text.front Text.newlines Text.line_at Text.column_at Text.place_at Rows.row_in Rows.rows_in Rows.value_bits Rows.row_place Rows.every Rows.chained Rows.length_fits Rows.spans_fit Rows.value_fits Rows.place_fits Rows.lines_fit Rows.row_fits Rows.follows Rows.gap_fits Rows.gaps_fit Rows.last_row Rows.ends_behind Rows.is_eof Rows.eof_last Rows.ending_fits Rows.rows_fit Rows.well_formed Kinds.is_made Kinds.length_in Short.short_row Short.shortened Short.placed_row Short.placed Short.on_one_line Short.short_encode Short.short_ending Short.short_words_in Short.short_sound_in Short.short_table Short.short_blocks Short.short_judged Forms.judged Forms.rows_beside Forms.table_beside Forms.is_place_in Forms.ending_agrees Forms.agrees Forms.beside_judged Forms.beside_told Forms.encode_in Forms.move_judged Forms.move_told Forms.moved_from
moves = refl

-- A file with some bytes changed, the checks of both blocks made anew or not, and cut at a length, and a text.
pub record Case : Type 0 where
  pub file : List ℕ
  pub bytes : List Byte
  pub anew : Bool
  pub cut : ℕ
  pub beside : List ℕ

pub file_of : Case → List ℕ
unfolding Cases.sealed
file_of c =
    let s = changed c.bytes c.file in
    take c.cut (cond c.anew (sealed (take 512 s) ++ sealed (take 512 (drop 512 s))) s)

-- the file as it was written, beside a text
abbrev pub plain : List ℕ → List ℕ → Case
plain file t = record { file = file; bytes = []; anew = false; cut = 1024; beside = t }

-- one byte of it changed, with right checks, beside its text
abbrev pub but : List ℕ → ℕ → ℕ → Case
but file at to = record { file = file; bytes = record { at = at; to = to } ∷ []; anew = true; cut = 1024; beside = text }

-- ---- what a move tells

pub record Move : Type 0 where
  pub of : Case
  pub form : ℕ
  pub room : ℕ
  pub told : Result ℕ Apart

abbrev pub refused : Case → ℕ → ℕ → Fault → Move
refused c form room why = record { of = c; form = form; room = room; told = Err (File why) }

abbrev pub cases : List Move
cases =
    -- into just enough room, and into one byte less
    record { of = plain long_file text; form = 2; room = 1024; told = Ok 1024 }
    ∷ refused (plain long_file text) 2 1023 (Outer NoRowRoom)
    -- a form asked for that there is not, before all else: of no file, without room
    ∷ refused (record { file = []; bytes = []; anew = false; cut = 0; beside = [] }) 0 0 OtherForm
    ∷ refused (plain long_file text) 3 1024 OtherForm
    -- under 512 bytes; not as long as block 0 says in its form
    ∷ refused (record { file = short_file; bytes = []; anew = false; cut = 511; beside = text }) 1 1024 WrongLength
    ∷ refused (record { file = short_file; bytes = []; anew = false; cut = 512; beside = text }) 1 1024 WrongLength
    -- 65,537 rows that are not there: 42 before 43
    ∷ refused (but short_file 14 1) 1 1024 WrongLength
    -- a form that there is not, in a block 0 whose check is wrong: 41 before 44
    ∷ refused (record { file = long_file; bytes = record { at = 4; to = 3 } ∷ []; anew = false; cut = 1024; beside = text }) 1 1024 (BadBlock 0)
    -- filler of block 0: form 2 from byte 24 on, and any other form from 32 on
    ∷ refused (but short_file 24 1) 1 1024 (BadBlock 0)
    ∷ refused (but short_file 31 1) 1 1024 (BadBlock 0)
    ∷ refused (but short_file 32 1) 1 1024 (BadBlock 0)
    ∷ refused (but long_file 4 3) 1 1024 OtherForm
    -- filler of block 1 behind its one row, which is shorter in form 2
    ∷ refused (but short_file 540 1) 1 1024 (BadBlock 1)
    -- a kind that there is not, an ending that there is not: before room and text
    ∷ refused (but short_file 516 53) 1 0 NoTable
    ∷ refused (but short_file 16 10) 1 0 NoTable
    ∷ refused (but long_file 516 53) 2 0 NoTable
    -- 45 is last of all: no room, and the text one byte longer
    ∷ refused (plain long_file (text ++ text)) 2 0 (Outer NoRowRoom)
    ∷ refused (plain short_file (text ++ text)) 1 0 (Outer NoRowRoom)
    ∷ record { of = plain long_file (text ++ text); form = 2; room = 1024; told = Err OtherText }
    ∷ record { of = plain short_file (text ++ text); form = 1; room = 1024; told = Err OtherText }
    -- a text as long, whose lines are others: form 1 has them, form 2 has none; to the form it has as well
    ∷ record { of = plain long_file other_text; form = 2; room = 1024; told = Err OtherText }
    ∷ record { of = plain long_file other_text; form = 1; room = 1024; told = Err OtherText }
    ∷ record { of = plain short_file other_text; form = 1; room = 1024; told = Ok 1024 }
    ∷ record { of = plain short_file other_text; form = 2; room = 1024; told = Ok 1024 }
    -- the ending's line in the file is not the text's
    ∷ record { of = but long_file 24 3; form = 2; room = 1024; told = Err OtherText }
    ∷ []

pub right : map (λ c. move_told c.of.beside (file_of c.of) c.form c.room) cases ≡ map (λ c. c.told) cases
unfolding file_of Cases.sealed Bytes.little Bytes.number Bytes.number_at Bytes.bytes_of Bytes.words_in Blocks.sum_from Blocks.check Blocks.checked Blocks.block Blocks.content_of Blocks.zeros Blocks.sound Blocks.blocks_for Blocks.blocks_from Blocks.file_of Blocks.file_length Blocks.sound_from Blocks.body_from Files.encode Back.lexical_of Files.read_refused Files.read_ending Files.ending_in Files.row_words_in Files.sound_in Files.rows_told Files.read_told Files.blocks_told Files.said_told Files.load_told Text.front Text.newlines Text.line_at Text.column_at Text.place_at Rows.row_in Rows.rows_in Rows.value_bits Rows.row_place Rows.every Rows.chained Rows.length_fits Rows.spans_fit Rows.value_fits Rows.place_fits Rows.lines_fit Rows.row_fits Rows.follows Rows.gap_fits Rows.gaps_fit Rows.last_row Rows.ends_behind Rows.is_eof Rows.eof_last Rows.ending_fits Rows.rows_fit Rows.well_formed Kinds.is_made Kinds.length_in Short.short_row Short.shortened Short.placed_row Short.placed Short.on_one_line Short.short_encode Short.short_ending Short.short_words_in Short.short_sound_in Short.short_table Short.short_blocks Short.short_judged Forms.judged Forms.rows_beside Forms.table_beside Forms.is_place_in Forms.ending_agrees Forms.agrees Forms.beside_judged Forms.beside_told Forms.encode_in Forms.move_judged Forms.move_told Forms.moved_from
right = refl

-- ---- what a reading beside the text tells

-- both forms alike, with room for the row and without; lines counted from 1, over the text that is lent
pub readings : (beside_told text long_file 1 ∷ beside_told text short_file 1 ∷ beside_told text short_file 0 ∷ beside_told other_text short_file 1
    ∷ beside_told other_text long_file 1 ∷ beside_told (text ++ text) short_file 1 ∷ beside_told (text ++ text) short_file 0 ∷ [])
    ≡ (Ok table ∷ Ok table ∷ Err (File (Outer NoRowRoom))
    ∷ Ok (record { count = 1; length = 3; ending = Some (halt NoRowBegins (place 2 2 1)) })
    ∷ Err OtherText ∷ Err OtherText ∷ Err (File (Outer NoRowRoom)) ∷ [])
unfolding Cases.sealed Bytes.little Bytes.number Bytes.number_at Bytes.bytes_of Bytes.words_in Blocks.sum_from Blocks.check Blocks.checked Blocks.block Blocks.content_of Blocks.zeros Blocks.sound Blocks.blocks_for Blocks.blocks_from Blocks.file_of Blocks.file_length Blocks.sound_from Blocks.body_from Files.encode Back.lexical_of Files.read_refused Files.read_ending Files.ending_in Files.row_words_in Files.sound_in Files.rows_told Files.read_told Files.blocks_told Files.said_told Files.load_told Text.front Text.newlines Text.line_at Text.column_at Text.place_at Rows.row_in Rows.rows_in Rows.value_bits Rows.row_place Rows.every Rows.chained Rows.length_fits Rows.spans_fit Rows.value_fits Rows.place_fits Rows.lines_fit Rows.row_fits Rows.follows Rows.gap_fits Rows.gaps_fit Rows.last_row Rows.ends_behind Rows.is_eof Rows.eof_last Rows.ending_fits Rows.rows_fit Rows.well_formed Kinds.is_made Kinds.length_in Short.short_row Short.shortened Short.placed_row Short.placed Short.on_one_line Short.short_encode Short.short_ending Short.short_words_in Short.short_sound_in Short.short_table Short.short_blocks Short.short_judged Forms.judged Forms.rows_beside Forms.table_beside Forms.is_place_in Forms.ending_agrees Forms.agrees Forms.beside_judged Forms.beside_told Forms.encode_in Forms.move_judged Forms.move_told Forms.moved_from
readings = refl

-- A reading without the text refuses form 2 by name, even where its block 0 is bad by form 2's filler.
pub older : (load_told short_file 1 ∷ load_told (file_of (but short_file 24 1)) 1 ∷ load_told (file_of (but short_file 32 1)) 1 ∷ [])
    ≡ (Err OtherForm ∷ Err OtherForm ∷ Err (BadBlock 0) ∷ [])
unfolding file_of Cases.sealed Bytes.little Bytes.number Bytes.number_at Bytes.bytes_of Bytes.words_in Blocks.sum_from Blocks.check Blocks.checked Blocks.block Blocks.content_of Blocks.zeros Blocks.sound Blocks.blocks_for Blocks.blocks_from Blocks.file_of Blocks.file_length Blocks.sound_from Blocks.body_from Files.encode Back.lexical_of Files.read_refused Files.read_ending Files.ending_in Files.row_words_in Files.sound_in Files.rows_told Files.read_told Files.blocks_told Files.said_told Files.load_told Text.front Text.newlines Text.line_at Text.column_at Text.place_at Rows.row_in Rows.rows_in Rows.value_bits Rows.row_place Rows.every Rows.chained Rows.length_fits Rows.spans_fit Rows.value_fits Rows.place_fits Rows.lines_fit Rows.row_fits Rows.follows Rows.gap_fits Rows.gaps_fit Rows.last_row Rows.ends_behind Rows.is_eof Rows.eof_last Rows.ending_fits Rows.rows_fit Rows.well_formed Kinds.is_made Kinds.length_in Short.short_row Short.shortened Short.placed_row Short.placed Short.on_one_line Short.short_encode Short.short_ending Short.short_words_in Short.short_sound_in Short.short_table Short.short_blocks Short.short_judged Forms.judged Forms.rows_beside Forms.table_beside Forms.is_place_in Forms.ending_agrees Forms.agrees Forms.beside_judged Forms.beside_told Forms.encode_in Forms.move_judged Forms.move_told Forms.moved_from
older = refl
