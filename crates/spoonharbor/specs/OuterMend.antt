-- How many blocks a mending lists, in words: what the outer face's call asks of the list that it is lent.
use Rattle.std.specs.Prelude.{ℕ, ◌+◌, ◌/◌, ◌≤◌, List, ◌≡◌, true, get_or, Ok}
use Rattle.rules.specs.Text.{text_judged}
use Rattle.rules_files.specs.Blocks.{block_bytes}
use Rattle.rules_files.specs.Files.{most_rows}
use Rattle.rules_forms.specs.Forms.{is_form}
use Rattle.rules_mend.specs.Mend.{fresh_table}
use Rattle.theory_mend.specs.Mended.{HasRoom}

-- `spoonharbor_mend` told `answer`: SH_COUNT blocks are listed, at most SH_LENGTH / 512 + 1.
pub record OuterListed (answer : List ℕ) : Type 0 where
  pub few : get_or answer 6 0 ≤ get_or answer 7 0 / block_bytes + 1

-- A form that there is, a text that can be scanned and stored, memory for both files, and so many words for the list.
pub record OuterRoom (text : List ℕ) (form : ℕ) (memory : List ℕ) (n : ℕ) (list : List ℕ) : Type 0 where
  pub known : is_form form ≡ true
  pub fine : text_judged text ≡ Ok tt
  pub few : (fresh_table text).count ≤ most_rows
  pub room : HasRoom text form memory n list
