-- A variable or a number that stands alone: which rows begin one, and what the function that reads it promises.
use Rattle.std.specs.Prelude.{Bool, cond, not, ◌&&◌, ◌||◌, List, ℕ, eqb}
use Rattle.rules.specs.Kinds.{Dot, Identifier, Number}
use Rattle.rules.specs.Tree.{Tok, kind_of, spelling_of, bits_in, Tree, num, var}
use Rattle.rules.specs.Parse.{is_mul, tok_at}
use Rattle.parse_nodes.specs.Post.{Tells, Stands}
use Rattle.parse_nodes.specs.declared.At.{At}

-- k: the row's kind; next: the kind of the row behind it
unfoldable pub is_lone : (k next : ℕ) → Bool
is_lone k next = (eqb k Identifier || eqb k Number) && not (eqb next Dot || is_mul next)

-- a number, or else a variable
unfoldable pub leaf_of : Tok → Tree
leaf_of x = cond (eqb (kind_of x) Number) (num (bits_in x)) (var (spelling_of x))

-- the state and the memory behind it, for every list of tokens that the rows tell
abbrev pub Leaf : List ℕ → ℕ → ℕ → ℕ → List ℕ → List ℕ → At → Type 0
Leaf ws n i nd m m' s = (ts : List Tok) → Tells ts ws n → Stands i nd (leaf_of (tok_at ts i)) m s m'
