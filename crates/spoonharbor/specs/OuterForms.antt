-- Files with their text at hand, in words: what the outer face's moves give there and back, and what a mended file is read as.
use Rattle.std.specs.Prelude.{ℕ, List, ◌≡◌, length, get_or}
use Rattle.rules.specs.Scan.{room_of, scan_told, scan_leaves}
use Rattle.rules_forms.specs.Forms.{beside_told, beside_leaves, move_told, move_leaves}
use Rattle.rules_mend.specs.Mend.{mend_told, mend_leaves, list_leaves}
use Rattle.answers.specs.Layout.{told_words}
use Rattle.file_answers.specs.Layout.{beside_words, moved_words, mended_words}

-- `spoonharbor_move`, lent a text, a file, a form and the bytes `lent`, told `answer`, which is no refusal, and left m.
pub record OuterMoved (text file : List ℕ) (form : ℕ) (lent answer m : List ℕ) : Type 0 where
  pub told : answer ≡ moved_words (move_told text file form (length lent))
  pub left : m ≡ move_leaves text file form lent
  pub moved : get_or answer 0 0 ≡ 0

-- `spoonharbor_load_beside` told `answer` and left `rows` of the moved file: what it tells and leaves of the file itself.
pub record OuterAlike (text file new answer rows : List ℕ) : Type 0 where
  pub told : answer ≡ beside_words (beside_told text file (room_of new))
  pub left : rows ≡ beside_leaves text file new

-- `spoonharbor_mend`, lent a text, a form, memory of which n bytes are the file, and a list, told `answer`, which is no refusal, and left
-- m and `blocks`.
pub record OuterMended (text : List ℕ) (form : ℕ) (memory : List ℕ) (n : ℕ) (list answer m blocks : List ℕ) : Type 0 where
  pub told : answer ≡ mended_words (mend_told text form memory n list)
  pub left : m ≡ mend_leaves text form memory n list
  pub listed : blocks ≡ list_leaves text form memory n list
  pub mended : get_or answer 0 0 ≡ 0

-- `spoonharbor_load_beside` of what was mended, lent the words `new`, told `answer` and left `rows`: what `spoonharbor_scan` of the text
-- tells and leaves in them.
pub record OuterFresh (text new answer rows : List ℕ) : Type 0 where
  pub told : answer ≡ told_words (scan_told text (room_of new))
  pub left : rows ≡ scan_leaves text new
