-- Worked cases: the files of two small tables byte by byte, and what is read of the second where some of its bytes are changed. Each table is under one theorem
-- that the checker computes.
use Rattle.std.specs.Prelude.{◌≡◌, refl, Bool, true, false, cond, List, [], ◌∷◌, ◌++◌, map, ℕ, ◌+◌, ◌*◌, length, take, drop, set, replicate, Result, Ok, Err, None, Some}
use Rattle.rules.specs.Outcomes.{Ending, halt}
use Rattle.rules.specs.declared.Lexical.TheVariants.{NoRowBegins}
use Rattle.rules.specs.declared.Outer.TheVariants.{NotWellFormed, NoRowRoom}
use Rattle.rules.specs.declared.Table.{Table}
use Rattle.rules.specs.Text.{place}
use Rattle.rules.specs.Kinds
use Rattle.rules.specs.Rows
use Rattle.rules.specs.Scan
use Rattle.rules.specs.Back
use Rattle.rules_files.specs.declared.Fault.TheVariants.{Outer, TooManyRows, BadBlock, WrongLength, NoTable, OtherForm}
use Rattle.rules_files.specs.Bytes
use Rattle.rules_files.specs.Bytes.{little}
use Rattle.rules_files.specs.Blocks
use Rattle.rules_files.specs.Blocks.{check, per_block, blocks_for, file_length}
use Rattle.rules_files.specs.Files
use Rattle.rules_files.specs.Files.{row_bytes, encode, store_told, store_leaves, rows_told, load_told, load_leaves}
use Rattle.rules_files.specs.declared.Fault.{Fault}

-- ---- files byte by byte

-- a byte at an index
pub record Byte : Type 0 where
  pub at : ℕ
  pub to : ℕ

abbrev pub changed : List Byte → List ℕ → List ℕ
changed [] s = s
changed (b ∷ bs) s = changed bs (set s b.at b.to)

-- the table of a lone at-sign, which is refused at 0 and has no row
abbrev pub bare : Table
bare = record { count = 0; length = 1; ending = Some (halt NoRowBegins (place 0 1 1)) }

-- the table of the text "a": an identifier and Eof
abbrev pub letter : Table
letter = record { count = 2; length = 1; ending = None }

abbrev pub letter_words : List ℕ
letter_words = 48 ∷ 0 ∷ 1 ∷ 1 ∷ 1 ∷ 0 ∷ 0 ∷ 0 ∷ 52 ∷ 1 ∷ 1 ∷ 1 ∷ 2 ∷ 0 ∷ 0 ∷ 0 ∷ []

abbrev pub bare_file : List ℕ
bare_file =
    changed
    (record { at = 4; to = 1 } ∷ record { at = 8; to = 1 } ∷ record { at = 16; to = 11 } ∷ record { at = 24; to = 1 } ∷ record { at = 28; to = 1 }
    ∷ record { at = 508; to = 255 } ∷ [])
    (replicate 512 0)

abbrev pub letter_file : List ℕ
letter_file =
    changed
    (record { at = 4; to = 1 } ∷ record { at = 8; to = 1 } ∷ record { at = 12; to = 2 } ∷ record { at = 508; to = 40 }
    ∷ record { at = 512; to = 1 } ∷ record { at = 514; to = 2 } ∷ record { at = 516; to = 48 } ∷ record { at = 524; to = 1 }
    ∷ record { at = 528; to = 1 } ∷ record { at = 532; to = 1 } ∷ record { at = 548; to = 52 } ∷ record { at = 552; to = 1 }
    ∷ record { at = 556; to = 1 } ∷ record { at = 560; to = 1 } ∷ record { at = 564; to = 2 } ∷ record { at = 1020; to = 159 }
    ∷ record { at = 1021; to = 9 } ∷ [])
    (replicate 1024 0)

pub files : (encode [] bare ∷ encode letter_words letter ∷ []) ≡ (bare_file ∷ letter_file ∷ [])
unfolding Bytes.little Bytes.bytes_of Blocks.sum_from Blocks.check Blocks.checked Blocks.block Blocks.blocks_for Blocks.blocks_from Blocks.file_of Files.encode
files = refl

-- 15 rows of 32 bytes to a block, 21 of 24; 0, 1, 15, 16 and 65,535 rows in blocks, and how long the last file is
pub sizes : (per_block row_bytes ∷ per_block 24 ∷ blocks_for row_bytes 0 ∷ blocks_for row_bytes 1 ∷ blocks_for row_bytes 15 ∷ blocks_for row_bytes 16
    ∷ blocks_for row_bytes 65535 ∷ blocks_for 24 65535 ∷ file_length row_bytes 65535 ∷ []) ≡ (15 ∷ 21 ∷ 0 ∷ 1 ∷ 1 ∷ 2 ∷ 4369 ∷ 3121 ∷ 2237440 ∷ [])
unfolding Blocks.blocks_for Blocks.file_length
sizes = refl

-- what a writer tells: into just enough room and into one byte less, of rows that are not lent, and of a table without rows
pub stores : (store_told letter_words letter 1024 ∷ store_told letter_words letter 1023 ∷ store_told (take 15 letter_words) letter 1024 ∷ store_told [] bare 512 ∷ [])
    ≡ (Ok 1024 ∷ Err (Outer NoRowRoom) ∷ Err (Outer NotWellFormed) ∷ Ok 512 ∷ [])
unfolding Blocks.blocks_for Blocks.file_length Files.store_told Rows.row_in Rows.rows_in Rows.value_bits Rows.row_place Rows.every Rows.chained Rows.length_fits Rows.spans_fit Rows.value_fits Rows.place_fits Rows.lines_fit Rows.row_fits Rows.follows Rows.gap_fits Rows.gaps_fit Rows.last_row Rows.ends_behind Rows.is_eof Rows.eof_last Rows.ending_fits Rows.rows_fit Rows.well_formed Kinds.is_made Kinds.length_in
stores = refl

-- ---- what is read of a file

-- The file of the text "a" with some bytes changed, the checks of both blocks made anew or not, and cut at a length: what is told with so much room.
pub record Case : Type 0 where
  pub bytes : List Byte
  pub anew : Bool
  pub cut : ℕ
  pub room : ℕ
  pub told : Result Table Fault

-- one block with its check made anew
unfoldable pub sealed : List ℕ → List ℕ
unfolding Bytes.little Blocks.check Blocks.sum_from
sealed s = take 508 s ++ little 4 (check (take 508 s))

pub file_of : Case → List ℕ
unfolding sealed
file_of c =
    let s = changed c.bytes letter_file in
    take c.cut (cond c.anew (sealed (take 512 s) ++ (sealed (take 512 (drop 512 s)) ++ drop 1024 s)) s)

abbrev pub cases : List Case
cases =
    -- as it was written, with room for both rows and for one
    record { bytes = []; anew = false; cut = 1024; room = 2; told = Ok letter }
    ∷ record { bytes = []; anew = false; cut = 1024; room = 1; told = Err (Outer NoRowRoom) }
    -- under 512 bytes; not as long as block 0 says
    ∷ record { bytes = []; anew = false; cut = 511; room = 2; told = Err WrongLength }
    ∷ record { bytes = []; anew = false; cut = 512; room = 2; told = Err WrongLength }
    ∷ record { bytes = []; anew = false; cut = 1023; room = 2; told = Err WrongLength }
    -- block 0's number, row count, filler and check
    ∷ record { bytes = record { at = 0; to = 1 } ∷ []; anew = true; cut = 1024; room = 2; told = Err (BadBlock 0) }
    ∷ record { bytes = record { at = 2; to = 2 } ∷ []; anew = true; cut = 1024; room = 2; told = Err (BadBlock 0) }
    ∷ record { bytes = record { at = 507; to = 1 } ∷ []; anew = true; cut = 1024; room = 2; told = Err (BadBlock 0) }
    ∷ record { bytes = record { at = 4; to = 2 } ∷ []; anew = false; cut = 1024; room = 2; told = Err (BadBlock 0) }
    -- another form, whatever stands behind it; but block 0 is judged first, and its filler begins at 32 whatever the form
    ∷ record { bytes = record { at = 4; to = 2 } ∷ []; anew = true; cut = 512; room = 2; told = Err OtherForm }
    ∷ record { bytes = record { at = 4; to = 2 } ∷ record { at = 28; to = 9 } ∷ []; anew = true; cut = 1024; room = 0; told = Err OtherForm }
    ∷ record { bytes = record { at = 4; to = 2 } ∷ record { at = 32; to = 1 } ∷ []; anew = true; cut = 1024; room = 2; told = Err (BadBlock 0) }
    -- another form before whatever is wrong with block 1
    ∷ record { bytes = record { at = 4; to = 2 } ∷ record { at = 512; to = 2 } ∷ []; anew = true; cut = 1024; room = 2; told = Err OtherForm }
    -- block 0 tells 65,536 rows, which are not there: 42 goes before 43, in one block and in two
    ∷ record { bytes = record { at = 12; to = 0 } ∷ record { at = 14; to = 1 } ∷ []; anew = true; cut = 512; room = 2; told = Err WrongLength }
    ∷ record { bytes = record { at = 12; to = 0 } ∷ record { at = 14; to = 1 } ∷ []; anew = true; cut = 1024; room = 2; told = Err WrongLength }
    -- block 1's number, row count, filler and check, before whatever is wrong with its rows
    ∷ record { bytes = record { at = 512; to = 2 } ∷ []; anew = true; cut = 1024; room = 2; told = Err (BadBlock 1) }
    ∷ record { bytes = record { at = 514; to = 1 } ∷ []; anew = true; cut = 1024; room = 2; told = Err (BadBlock 1) }
    ∷ record { bytes = record { at = 580; to = 1 } ∷ []; anew = true; cut = 1024; room = 2; told = Err (BadBlock 1) }
    ∷ record { bytes = record { at = 516; to = 53 } ∷ []; anew = false; cut = 1024; room = 0; told = Err (BadBlock 1) }
    -- an ending that there is not, beside a block 1 that is not sound: 41 goes before 43
    ∷ record { bytes = record { at = 16; to = 10 } ∷ record { at = 512; to = 2 } ∷ []; anew = true; cut = 1024; room = 2; told = Err (BadBlock 1) }
    -- a kind that there is not, without room, so 43 goes before 4; a text too long; an ending with a place, and one that there is not
    ∷ record { bytes = record { at = 516; to = 53 } ∷ []; anew = true; cut = 1024; room = 0; told = Err NoTable }
    ∷ record { bytes = record { at = 10; to = 2 } ∷ []; anew = true; cut = 1024; room = 2; told = Err NoTable }
    ∷ record { bytes = record { at = 20; to = 1 } ∷ []; anew = true; cut = 1024; room = 2; told = Err NoTable }
    ∷ record { bytes = record { at = 16; to = 10 } ∷ []; anew = true; cut = 1024; room = 2; told = Err NoTable }
    -- a byte of filler whose change the check does not show
    ∷ record { bytes = record { at = 583; to = 1 } ∷ record { at = 1020; to = 231 } ∷ []; anew = false; cut = 1024; room = 2; told = Err (BadBlock 1) }
    ∷ []

pub right : map (λ c. load_told (file_of c) c.room) cases ≡ map (λ c. c.told) cases
unfolding file_of sealed Bytes.little Bytes.number Bytes.number_at Bytes.words_in Blocks.sum_from Blocks.check Blocks.content_of Blocks.zeros Blocks.sound Blocks.blocks_for Blocks.file_length Blocks.sound_from Blocks.body_from Back.lexical_of Files.read_refused Files.read_ending Files.ending_in Files.row_words_in Files.sound_in Files.rows_told Files.read_told Files.blocks_told Files.said_told Files.load_told Rows.row_in Rows.rows_in Rows.value_bits Rows.row_place Rows.every Rows.chained Rows.length_fits Rows.spans_fit Rows.value_fits Rows.place_fits Rows.lines_fit Rows.row_fits Rows.follows Rows.gap_fits Rows.gaps_fit Rows.last_row Rows.ends_behind Rows.is_eof Rows.eof_last Rows.ending_fits Rows.rows_fit Rows.well_formed Kinds.is_made Kinds.length_in
right = refl

-- Where no file is small enough to be computed: over 65,535 rows, all of them there, are 43, and 43 before 4.
pub many : (ws : List ℕ) (room size : ℕ) (e : Ending)
    → rows_told ws room (record { count = 65536; length = size; ending = e }) ≡ Err NoTable
unfolding Files.rows_told
many ws room size e = refl
