-- Fewer rows of a table are asked no more than all of them; a row's part of its text.
use Prim.Native.Nat.{ℕ, ◌+◌, ◌-◌, ◌*◌, ◌≤◌, ◌<◌}
use mathlib.Core.List.{List}
use native.Mathlib.Omega.{arith}
use mathlib.Core.Path.{◌≡◌, ◌∙◌}
use mathlib.Core.Bool.{true, false, true≢false}
use lib.ListN.{take, drop, get_or}
use borrow.Author.Tests.{lt-ltb, le-ltb}
use Rattle.laws.proofs.Rows.{start_word, end_word}
use Rattle.rules.specs.Rows.{row_no, spelling}
use Rattle.rules_program.specs.Find.{spelling_of_both}
use Rattle.rules.specs.Kinds.{Eof}
use Rattle.parse.specs.Program.{AsksEnded}
use Rattle.program_names.specs.Heads.{kind_of_both, is_head}
use Rattle.program_names.proofs.Heads.{kind_later}

-- the part of a text between a row's start and end
pub part_says : (t ws : List ℕ) (row : ℕ) →
    take (get_or ws (row * 8 + 2) 0 - get_or ws (row * 8 + 1) 0) (drop (get_or ws (row * 8 + 1) 0) t) ≡ spelling t (row_no ws row)
unfolding spelling
part_says t ws row = rw (start_word ws row, end_word ws row)

-- a row of both in its own text
module _ (prelude pws : List ℕ) (count : ℕ) (text ws : List ℕ) (row : ℕ) where
  pub spelled_front : row < count → spelling_of_both prelude pws count text ws row ≡ spelling prelude (row_no pws row)
  unfolding spelling_of_both
  spelled_front l = rw (lt-ltb row count l)

  pub spelled_later : count ≤ row → spelling_of_both prelude pws count text ws row ≡ spelling text (row_no ws (row - count))
  unfolding spelling_of_both
  spelled_later l = rw (le-ltb row count l)

-- no head is the last row of both, which is Eof
last_no_head : (pws : List ℕ) (count : ℕ) (ws : List ℕ) (row : ℕ) → kind_of_both pws count ws row ≡ Eof → is_head pws count ws row ≡ false
unfolding is_head
last_no_head pws count ws row e = rw e

pub head_inside : (text pws : List ℕ) (count : ℕ) (ws : List ℕ) (row most : ℕ) → AsksEnded text ws most → true ≡ is_head pws count ws row →
    row < count + most → row + 1 < count + most
head_inside text pws count ws row most a h l =
    let some : 0 < most = a.some in
    let ne : row + 1 ≡ count + most → ⊥ =
    λ e. true≢false
    (h ∙ last_no_head pws count ws row (kind_later pws count ws row (omega arith) ∙ a.closed (row - count) (omega arith))) in
    omega arith
