-- What refusals tell would have fitted, over the words of rows; and the header of a declaration.
use Rattle.std.specs.Prelude.{◌≡◌, Bool, cond, ◌&&◌, List, ℕ, ◌+◌, ◌-◌, eqb, Result, Ok}
use Rattle.rules.specs.declared.Syntax.{Syntax}
use Rattle.rules.specs.Kinds.{Identifier, Dot, LBrace, LParen}
use Rattle.rules.specs.Fits.{only, ons, shifts, wrong, retold}
use Rattle.parse_nodes.specs.declared.At.{At}
use Rattle.parse_nodes.specs.declared.Refusal.{Refusal}
use Rattle.parse_nodes.specs.Post.{kind_word, state_at, refused_at}

-- a refusal at a row, where the set s is told if that is the first row
unfoldable pub retold_at : (s first : ℕ) → Syntax → ℕ → Syntax
retold_at s first why r = cond (eqb r first) (retold s why) why

-- the row in front of row i is a name behind a dot
unfoldable pub dotted_words : List ℕ → ℕ → ℕ → Bool
dotted_words ws n i = eqb (kind_word ws n (i - 1)) Identifier && eqb (kind_word ws n (i - 2)) Dot

-- what goes on with an expression in front of row i, a sum or not
unfoldable pub onward_words : List ℕ → ℕ → Bool → ℕ → ℕ
onward_words ws n summed i = ons + cond summed 0 shifts + cond (dotted_words ws n i) (only LParen) 0

-- the header of the declaration whose word is at row i, its first node at nd
pub data Header (ws : List ℕ) (n i nd : ℕ) (r : Result At Refusal) : Type 0 where
  no_name : (kind_word ws n (i + 1) ≡ Identifier → ⊥) → r ≡ refused_at (wrong (only Identifier)) (i + 1) → Header ws n i nd r
  no_brace : kind_word ws n (i + 1) ≡ Identifier → (kind_word ws n (i + 1 + 1) ≡ LBrace → ⊥) → r ≡ refused_at (wrong (only LBrace)) (i + 1 + 1)
      → Header ws n i nd r
  opens : kind_word ws n (i + 1) ≡ Identifier → kind_word ws n (i + 1 + 1) ≡ LBrace
      → r ≡ Ok (state_at (i + 1 + 1 + 1) nd (i + 1 + 1 + 1)) → Header ws n i nd r
