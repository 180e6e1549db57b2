-- What is claimed of moved files, and of a reader that knows form 1 alone.
use Rattle.std.specs.Prelude.{◌≡◌, true, List, ◌++◌, ℕ, ◌≤◌, length, take, drop, Ok, Err}
use Rattle.rules_files.specs.declared.Fault.TheVariants.{OtherForm}
use Rattle.rules_files.specs.Blocks.{block_bytes, sound}
use Rattle.rules_files.specs.Files.{form_said, load_told}
use Rattle.rules_forms.specs.Short.{short_number, short_said_bytes}
use Rattle.rules_forms.specs.Forms.{beside_told, beside_leaves, move_told, move_leaves}

-- "Older consoles must refuse 2 by name": in every room, whatever stands behind a sound block 0 of form 2
pub record RefusedByName (file : List ℕ) : Type 0 where
  pub told : (room : ℕ) → load_told file room ≡ Err OtherForm

-- a file that says 2, with a block 0 that is sound as form 2 has it
pub record SaysShort (file : List ℕ) : Type 0 where
  pub long : block_bytes ≤ length file
  pub first : sound 0 0 short_said_bytes (take block_bytes file) ≡ true
  pub form : form_said file ≡ short_number

-- A file was moved to a form, beside a text, into lent memory: n bytes were told.
pub record IsMoved (text file : List ℕ) (form : ℕ) (lent : List ℕ) (n : ℕ) : Type 0 where
  pub told : move_told text file form (length lent) ≡ Ok n

-- the bytes that such a move wrote
abbrev pub written : (text file : List ℕ) → ℕ → List ℕ → ℕ → List ℕ
written text file form lent n = take n (move_leaves text file form lent)

-- "moving to the form it has changes nothing"
pub record SameBytes (text file : List ℕ) (form : ℕ) (lent : List ℕ) (n : ℕ) : Type 0 where
  pub size : n ≡ length file
  pub bytes : written text file form lent n ≡ file

-- "a file moves from 1 to 2 and back to the same bytes, and from 2 to 1 and back": in any memory that the file fits into
pub record ThereAndBack (text file : List ℕ) (form : ℕ) (lent : List ℕ) (n : ℕ) : Type 0 where
  pub told : (back : List ℕ) → length file ≤ length back
      → move_told text (written text file form lent n) (form_said file) (length back) ≡ Ok (length file)
  pub bytes : (back : List ℕ) → length file ≤ length back
      → move_leaves text (written text file form lent n) (form_said file) back ≡ file ++ drop (length file) back

-- what a reading beside the text tells and leaves of the moved file is what it tells and leaves of the other
pub record ReadAlike (text file : List ℕ) (form : ℕ) (lent : List ℕ) (n : ℕ) : Type 0 where
  pub told : (room : ℕ) → beside_told text (written text file form lent n) room ≡ beside_told text file room
  pub rows : (ws : List ℕ) → beside_leaves text (written text file form lent n) ws ≡ beside_leaves text file ws
