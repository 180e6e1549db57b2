-- What the functions over a program ask and promise.
use Rattle.std.specs.Prelude.{◌≡◌, List, ℕ, suc, ◌*◌, ◌≤◌, ◌<◌, length, get_or, Result, Ok}
use Rattle.rules.specs.Outcomes.{Parsed}
use Rattle.rules.specs.Kinds.{Eof}
use Rattle.rules.specs.Rows.{rows_in, words_per_row}
use Rattle.rules.specs.Tree.{Tok, Tree}
use Rattle.rules.specs.Parse
use Rattle.rules.specs.Parse.{Out, ok, no}
use Rattle.rules.specs.Calls.{tokens, node_room, out_told, out_leaves}
use Rattle.parse_nodes.specs.Post.{Met, refused_at}
use Rattle.parse_nodes.specs.Names.{Names, Spans}
use Rattle.parse_nodes.specs.declared.At.{At}
use Rattle.parse_nodes.specs.declared.Refusal.{Refusal}
use Rattle.theory_grammar.specs.Tokens.{Proper}

-- the map, the unit or the event at row i
abbrev pub TopMet : List ℕ → List ℕ → ℕ → ℕ → ℕ → List ℕ → List ℕ → Result At Refusal → Type 0
TopMet t ws n i nd m m' r = (ts : List Tok) → Names ts t ws n → Met (Parse.top ts i) i nd m m' r

-- all of the rows
abbrev pub ProgramMet : List ℕ → List ℕ → ℕ → List ℕ → List ℕ → Result At Refusal → Type 0
ProgramMet t ws n m m' r = (ts : List Tok) → Names ts t ws n → Met (Parse.parse ts) 0 0 m m' r

-- what is asked of a table of n rows: its rows are lent and not too many, and their spellings lie inside the text
pub record AsksTable (t ws : List ℕ) (n : ℕ) : Type 0 where
  pub lent : n * 8 ≤ length ws
  pub short : n ≤ 65537
  pub spans : Spans t ws n

-- the same, with Eof its last row
pub record AsksEnded (t ws : List ℕ) (n : ℕ) : Type 0 where
  pub table : AsksTable t ws n
  pub some : 0 < n
  pub closed : (i : ℕ) → suc i ≡ n → get_or ws (i * words_per_row) 0 ≡ Eof

-- the same, with room for a node for each row
pub record AsksWhole (t ws : List ℕ) (n : ℕ) (m : List ℕ) : Type 0 where
  pub ended : AsksEnded t ws n
  pub room : n ≤ node_room m

-- what a first pass answers where the parser answers o
abbrev pub PassedAs : Out → Result ℕ Refusal → Type 0
PassedAs (ok t j) r = r ≡ Ok j
PassedAs (no why p) r = r ≡ refused_at why p

-- over the map, the unit or the event at row i
abbrev pub TopPassed : List ℕ → List ℕ → ℕ → ℕ → Result ℕ Refusal → Type 0
TopPassed t ws n i r = (ts : List Tok) → Names ts t ws n → Proper ts → PassedAs (Parse.top ts i) r

-- over all of the rows
abbrev pub ProgramPassed : List ℕ → List ℕ → ℕ → Result ℕ Refusal → Type 0
ProgramPassed t ws n r = (ts : List Tok) → Names ts t ws n → Proper ts → PassedAs (Parse.parse ts) r

-- what the reading of n rows that stand in ws tells and leaves
abbrev pub reading_of : List ℕ → List ℕ → ℕ → Out
reading_of t ws n = Parse.parse (tokens t (rows_in n ws))

abbrev pub Final : List ℕ → Out → List ℕ → List ℕ → Parsed → Type 0
Final ws o m m' r = (r ≡ out_told ws o) × (m' ≡ out_leaves o m)

-- what is read is a program
pub record Accepted (o : Out) : Type 0 where
  pub tree : Tree
  pub behind : ℕ
  pub is : o ≡ ok tree behind
