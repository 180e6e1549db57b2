-- What a laying out tells, in the eight words of every answer: 0 and how many bytes are written, or 3 or 4 at the start.
use Rattle.std.specs.Prelude.{List, ℕ, Result, Ok, Err}
use Rattle.rules.specs.Text.{start_place}
use Rattle.answers.specs.Layout.{words, nowhere}
use Rattle.rules_layout.specs.declared.Unlaid.{Unlaid}
use Rattle.rules_layout.specs.declared.Unlaid.TheVariants.{NotItsTree, NoRoom}

abbrev pub unlaid_number : Unlaid → ℕ
unlaid_number NotItsTree = 3
unlaid_number NoRoom = 4

abbrev pub laid_words : Result ℕ Unlaid → List ℕ
laid_words (Ok n) = words 0 nowhere 0 0 0 n
laid_words (Err why) = words (unlaid_number why) start_place 0 0 0 0
