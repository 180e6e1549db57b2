-- What is known of a file whose blocks are judged, and what the judging of them tells.
use Rattle.std.specs.Prelude.{◌≡◌, Bool, true, cond, List, [], ◌∷◌, ℕ, ◌+◌, ◌-◌, length, ltb, Result, Ok, Err, Option, Some, None}
use Rattle.rules.specs.Outcomes.{Ending}
use Rattle.rules.specs.Rows.{Row, row_in, rows_in}
use Rattle.rules_files.specs.declared.Fault.{Fault}
use Rattle.rules_files.specs.declared.Fault.TheVariants.{BadBlock}
use Rattle.rules_files.specs.Blocks.{blocks_for, file_length}
use Rattle.rules_files.specs.Files.{count_said}
use Rattle.rules_forms.specs.declared.Form.{Form}
use Rattle.rules_forms.specs.Shapes.{row_bytes_of, row_words_of, sound_of}
use Rattle.file_blocks.specs.Standing.{stand}

-- the file is as long as block 0 says, in a form, and says so many rows
pub record Framed (form : Form) (count : ℕ) (file : List ℕ) : Type 0 where
  pub count_is : count ≡ count_said file
  pub whole : length file ≡ file_length (row_bytes_of form) count

-- the last of some rows, or the row before them
unfoldable pub last_of : Row → List Row → Row
last_of r [] = r
last_of r (q ∷ qs) = last_of q qs

-- all rows must stand one behind the other, but the last where the ending is none
abbrev pub plain_by : Ending → ℕ → ℕ
plain_by None count = count - 1
plain_by (Some e) count = count

abbrev pub plain_rows : Option Ending → ℕ → ℕ
plain_rows None count = 0
plain_rows (Some e) count = plain_by e count

-- the first n rows of a file stand
unfoldable pub stand_upto : Form → ℕ → List ℕ → Bool
stand_upto form n file = stand (row_in []) (rows_in n (row_words_of form file))

unfoldable pub standing : Form → Ending → List ℕ → Bool
standing form e file = stand_upto form (plain_by e (count_said file)) file

-- the first block that is not sound, or whether n rows stand
unfoldable pub blocks_judged : Form → ℕ → List ℕ → Result Bool Fault
blocks_judged form n file =
    cond (ltb (sound_of form file) (blocks_for (row_bytes_of form) (count_said file))) (Err (BadBlock (1 + sound_of form file)))
    (Ok (stand_upto form n file))
