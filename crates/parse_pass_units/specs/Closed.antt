-- What stands behind an expression, an `if` and a brace.
use Rattle.std.specs.Prelude.{◌≡◌, Option, IfSome, List, ℕ, suc, ◌+◌, ◌<◌}
use Rattle.rules.specs.Kinds.{KeywordGuard, LBrace, RBrace, LParen, RParen, Semicolon, Identifier}
use Rattle.rules.specs.Tree.{Tok}
use Rattle.rules.specs.Grammar.{Add, Stmts}
use Rattle.parse_nodes.specs.Post.{Tells}
use Rattle.parse_pass_expr.specs.Seen.{kind_in, Read, Seen}

-- an expression from row i up to the `;` at row r
abbrev pub SeesClosed : ℕ → List ℕ → ℕ → ℕ → Option ℕ → Type 0
SeesClosed d ws n i o = IfSome o (λ r. Seen Add d ws n i r × (kind_in ws r ≡ Semicolon))

-- `guard ( name )` behind row i, and row r behind it
pub record SeenHead (ws : List ℕ) (n i r : ℕ) : Type 0 where
  pub next : r ≡ i + 5
  pub inside : r < n
  pub guard : kind_in ws (i + 1) ≡ KeywordGuard
  pub paren : kind_in ws (i + 2) ≡ LParen
  pub name : kind_in ws (i + 3) ≡ Identifier
  pub close : kind_in ws (i + 4) ≡ RParen

abbrev pub SeesHead : List ℕ → ℕ → ℕ → Option ℕ → Type 0
SeesHead ws n i o = IfSome o (λ r. SeenHead ws n i r)

-- statements in the braces at row i, row r behind the second, with d constructs left in front of them
pub record SeenBody (d : ℕ) (ws : List ℕ) (n i r : ℕ) : Type 0 where
  pub up : i < r
  pub inside : r < n
  pub brace : kind_in ws i ≡ LBrace
  pub under : ℕ
  pub deep : d ≡ suc under
  pub last : ℕ
  pub next : r ≡ last + 1
  pub close : kind_in ws last ≡ RBrace
  pub read : (ts : List Tok) → Tells ts ws n → Read ts Stmts under (i + 1) last

abbrev pub SeesBody : ℕ → List ℕ → ℕ → ℕ → Option ℕ → Type 0
SeesBody d ws n i o = IfSome o (λ r. SeenBody d ws n i r)
