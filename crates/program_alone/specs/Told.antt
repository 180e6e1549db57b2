-- What a parse of a text alone tells in enough room, but for the number of nodes; and what holds of a text that is a
-- program.
use Rattle.std.specs.Prelude.{◌≡◌, true, List, ℕ, Result, Ok, Err}
use Rattle.rules.specs.declared.Unparsed.{Unparsed}
use Rattle.rules.specs.declared.Table.{Table}
use Rattle.rules.specs.Outcomes.{Parsed}
use Rattle.rules.specs.Rows.{rows_in}
use Rattle.rules.specs.Tree.{Tree}
use Rattle.rules.specs.Nodes.{width}
use Rattle.rules.specs.Parse.{ok}
use Rattle.rules.specs.Grammar.{Program, Is}
use Rattle.rules.specs.Calls.{tokens, parse_told}
use Rattle.theory_grammar.specs.Tokens.{Whole}
use Rattle.parse.specs.Program.{AsksEnded, reading_of}

unfoldable pub alone_of : Parsed → Result (Unit {0}) Unparsed
alone_of (Ok n) = Ok tt
alone_of (Err e) = Err e

-- Room for a node for each row is enough.
unfoldable pub alone_told : List ℕ → List ℕ → Table → Result (Unit {0}) Unparsed
alone_told t ws tbl = alone_of (parse_told t ws tbl tbl.count)

-- A text that is a program: its table of n rows is sound, and what is read of all of them is a program of the grammar.
pub record IsProgram (t ws : List ℕ) (n : ℕ) : Type 0 where
  pub ended : AsksEnded t ws n
  pub whole : Whole (tokens t (rows_in n ws))
  pub tree : Tree
  pub reads : reading_of t ws n ≡ ok tree n
  pub is : Is true Program 64 tree
  pub wide : width tree ≡ n
