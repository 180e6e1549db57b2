-- What the first pass asks and promises: rows that are the tokens of some tree of a nonterminal.
use Rattle.std.specs.Prelude.{◌≡◌, Option, IfSome, Bool, true, not, ◌&&◌, ◌||◌, List, ◌++◌, ℕ, suc, ◌+◌, ◌*◌, ◌≤◌, ◌<◌, eqb, length, get_or, drop}
use Rattle.rules.specs.Rows.{words_per_row}
use Rattle.rules.specs.Kinds.{Dot, Identifier, Number, Eof}
use Rattle.rules.specs.Tree.{Tok, Tree, yield}
use Rattle.rules.specs.Nodes.{width}
use Rattle.rules.specs.Parse.{kind_at}
use Rattle.rules.specs.Grammar.{Nt, Basic, Is}
use Rattle.theory_grammar.specs.Tokens.{Proper}
use Rattle.parse_nodes.specs.Post.{Tells}

-- the kind of row i of the rows that stand in ws
abbrev pub kind_in : List ℕ → ℕ → ℕ
kind_in ws i = get_or ws (i * words_per_row) 0

-- The rows from i up to j are the tokens of a tree of a nonterminal, with at most d constructs open. None of them is Eof.
pub record Read (ts : List Tok) (N : Nt) (d i j : ℕ) : Type 0 where
  pub tree : Tree
  pub is : Is true N d tree
  pub next : j ≡ i + width tree
  pub inside : j ≤ length ts
  pub clear : (r : ℕ) → i ≤ r → r < j → kind_at ts r ≡ Eof → ⊥
  pub same : Proper ts → drop i ts ≡ yield tree ++ drop j ts

-- what is asked: the rows are lent and not too many, the row is one of them, the last of them is Eof, the nesting is not over its limit
pub record Looks (ws : List ℕ) (n i d : ℕ) : Type 0 where
  pub lent : n * 8 ≤ length ws
  pub inside : i < n
  pub short : n ≤ 65537
  pub closed : (j : ℕ) → suc j ≡ n → kind_in ws j ≡ Eof
  pub nest : d ≤ 64

-- from row i up to row r, which is in the table, such a tree is read, for every list of tokens that the rows tell
pub record Seen (N : Nt) (d : ℕ) (ws : List ℕ) (n i r : ℕ) : Type 0 where
  pub up : i < r
  pub inside : r < n
  pub read : (ts : List Tok) → Tells ts ws n → Read ts N d i r

-- what is answered: where such a tree ends, if it is told
abbrev pub Sees : Nt → ℕ → List ℕ → ℕ → ℕ → Option ℕ → Type 0
Sees N d ws n i o = IfSome o (λ r. Seen N d ws n i r)

-- behind what ends at row j, more of it is read up to row r
pub record SeenOn (ws : List ℕ) (n j r : ℕ) : Type 0 where
  pub up : j ≤ r
  pub inside : r < n
  pub read : (ts : List Tok) → Tells ts ws n → (d i : ℕ) → Read ts Basic d i j → Read ts Basic d i r

abbrev pub SeesOn : List ℕ → ℕ → ℕ → Option ℕ → Type 0
SeesOn ws n j o = IfSome o (λ r. SeenOn ws n j r)

-- a variable or a number, and no dot behind it
unfoldable pub is_alone : List ℕ → ℕ → Bool
is_alone ws i = (eqb (kind_in ws i) Identifier || eqb (kind_in ws i) Number) && not (eqb (kind_in ws (i + 1)) Dot)
