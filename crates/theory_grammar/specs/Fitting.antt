-- What would have fitted: the kinds with which some program goes on behind the rows in front of one.
use Rattle.std.specs.Prelude.{◌≡◌, Bool, true, false, not, ◌&&◌, List, ℕ, ◌<◌, length, take}
use Rattle.rules.specs.declared.Syntax.{Syntax}
use Rattle.rules.specs.Text.{within}
use Rattle.rules.specs.Kinds.{MinusEquals, PercentEquals, is_made}
use Rattle.rules.specs.Fits.{has, set_told}
use Rattle.rules.specs.Tree.{Tok, Tree, yield}
use Rattle.rules.specs.Parse.{kind_at}
use Rattle.rules.specs.Grammar.{Program, Is}
use Rattle.theory_grammar.specs.Lost.{lost}

-- Some program of the grammar, of any nesting and with the checks aside, begins with the first s rows and then a row of kind k.
pub record Fitting (ts : List Tok) (s k : ℕ) : Type 0 where
  pub nested : ℕ
  pub tree : Tree
  pub is : Is false Program nested tree
  pub begins : take s (yield tree) ≡ take s ts
  pub there : s < length (yield tree)
  pub next : kind_at (yield tree) s ≡ k

-- A refusal at row r tells exactly the kinds that would have fitted in place of the row that it is about: r, or for 25 the row that should
-- have been the type.
pub record ToldExactly (ts : List Tok) (why : Syntax) (r : ℕ) : Type 0 where
  pub told_fits : (k : ℕ) → has (set_told why) k ≡ true → Fitting ts (lost ts why r) k
  pub fits_told : (k : ℕ) → Fitting ts (lost ts why r) k → has (set_told why) k ≡ true

-- The kinds that the grammar's lines have: all that are made but `-=`, `*=`, `/=` and `%=`.
unfoldable pub in_grammar : ℕ → Bool
in_grammar k = is_made k && not (within MinusEquals PercentEquals k)
