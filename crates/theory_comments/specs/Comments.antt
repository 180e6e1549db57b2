-- A text's comments, from the left: `//` up to the newline or the end and `/*` up to `*/` are one comment each, a string up to its closing
-- quote is passed over (a backslash takes the next byte along), any other byte alone.
use Rattle.std.specs.Prelude.{Bool, true, false, ◌&&◌, List, [], ◌∷◌, ℕ, suc, ◌+◌, get_or, eqb}
use Rattle.rules.specs.Text.{byte}
use Rattle.rules.specs.Rows.{Row}

-- what a byte stands in: neither a comment nor a string; a line comment; a block comment, at the star that opens it, behind that, or at
-- the slash that closes it; a string, or a string behind a backslash
pub data Inside : Type 0 where
  code line star block slash string escaped : Inside

-- b is x, and y stands behind it
abbrev pub pair : ℕ → ℕ → ℕ → List ℕ → Bool
pair x y b s = eqb b x && eqb (get_or s 0 0) y

unfoldable pub comments : Inside → List ℕ → ℕ
comments line [] = 1
comments code [] = 0
comments star [] = 0
comments block [] = 0
comments slash [] = 0
comments string [] = 0
comments escaped [] = 0
comments code (b ∷ s) =
    elim (pair (byte "/") (byte "/") b s) [
      | true ↦ comments line s
      | false ↦ elim (pair (byte "/") (byte "*") b s) [
        | true ↦ comments star s
        | false ↦ elim (eqb b (byte "\"")) [ true ↦ comments string s | false ↦ comments code s ]
      ]
    ]
comments line (b ∷ s) = elim (eqb b (byte "\n")) [ true ↦ suc (comments code s) | false ↦ comments line s ]
comments star (b ∷ s) = comments block s
comments block (b ∷ s) = elim (pair (byte "*") (byte "/") b s) [ true ↦ comments slash s | false ↦ comments block s ]
comments slash (b ∷ s) = suc (comments code s)
comments string (b ∷ s) =
    elim (eqb b (byte "\"")) [
      | true ↦ comments code s
      | false ↦ elim (eqb b (byte "\\")) [ true ↦ comments escaped s | false ↦ comments string s ]
    ]
comments escaped (b ∷ s) = comments string s

unfoldable pub comments_in : List ℕ → ℕ
comments_in t = comments code t

-- the comments that rows tell of
unfoldable pub counted : List Row → ℕ
counted [] = 0
counted (r ∷ rs) = r.comments + counted rs
