-- A whole file, over the words of a row and the words that block 0 says: what it says, the words of its rows, and when all of its
-- blocks are sound.
use Rattle.std.specs.Prelude.{◌≡◌, Bool, true, cond, not, List, [], ◌∷◌, ℕ, zero, suc, ◌+◌, ◌*◌, ◌≤◌, ◌<◌, length, take, drop, eqb, ltb, Result, Err}
use Rattle.rules_files.specs.declared.Fault.TheVariants.{BadBlock, WrongLength, OtherForm}
use Rattle.rules_files.specs.Bytes.{bytes_of, words_in, word_bytes}
use Rattle.rules_files.specs.Blocks.{block_bytes, content_room, sound, blocks_for, file_length, file_of, sound_from, body_from}
use Rattle.rules_files.specs.Files.{most_rows, said_at}
use Rattle.laws.specs.Bounds.{Words}
use Rattle.rules.specs.declared.Table.{Table}
use Rattle.rules_files.specs.declared.Fault.{Fault}

-- a block has room for a row, and block 0 for what it says
pub record Fits (row said : ℕ) : Type 0 where
  pub some : 0 < row
  pub here : row * word_bytes ≤ content_room
  pub first : said * word_bytes ≤ content_room

-- the one file that says these words, in front of n rows
abbrev pub file_with : ℕ → List ℕ → List ℕ → ℕ → List ℕ
file_with row says rows n = file_of (row * word_bytes) (bytes_of says) n (bytes_of rows)

-- n of the words that block 0 says, from word i on
unfoldable pub said_from : ℕ → ℕ → List ℕ → List ℕ
said_from zero i file = []
said_from (suc n) i file = said_at i file ∷ said_from n (suc i) file

-- what stands behind block 0: the words of n rows
unfoldable pub words_of : ℕ → ℕ → List ℕ → List ℕ
words_of row n file =
    words_in (row * n) (body_from (row * word_bytes) (blocks_for (row * word_bytes) n) n (drop block_bytes file))

-- and how many of their blocks are sound before one is not
unfoldable pub sound_of : ℕ → ℕ → List ℕ → ℕ
sound_of row n file = sound_from (row * word_bytes) (blocks_for (row * word_bytes) n) 1 n (drop block_bytes file)

-- the file has the blocks of n rows, all of them sound
pub record Whole (row said n : ℕ) (file : List ℕ) : Type 0 where
  pub long : block_bytes ≤ length file
  pub first : sound 0 0 (said * word_bytes) (take block_bytes file) ≡ true
  pub whole : length file ≡ file_length (row * word_bytes) n
  pub others : blocks_for (row * word_bytes) n ≤ sound_of row n file

-- what a file can hold: the words that block 0 says, and n rows
pub record Holds (row said : ℕ) (says rows : List ℕ) (n : ℕ) : Type 0 where
  pub size : length says ≡ said
  pub said_fit : Words says
  pub few : n ≤ most_rows
  pub all : row * n ≤ length rows
  pub rows_fit : Words rows

-- "42 for under 512, 41 for block 0, 44, 42, 41 for the first other bad block": the tests in front of what is told of the rows,
-- where it is known whether block 0 says another form
unfoldable pub whole_told : ℕ → ℕ → ℕ → List ℕ → Bool → Result Table Fault → Result Table Fault
whole_told row said n file other rest =
    cond (ltb (length file) block_bytes) (Err WrongLength)
    (cond (not (sound 0 0 (said * word_bytes) (take block_bytes file))) (Err (BadBlock 0))
    (cond other (Err OtherForm)
    (cond (not (eqb (length file) (file_length (row * word_bytes) n))) (Err WrongLength)
    (cond (ltb (sound_of row n file) (blocks_for (row * word_bytes) n)) (Err (BadBlock (1 + sound_of row n file))) rest))))
