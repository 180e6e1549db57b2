-- "Lay out a probe", the bytes of the rows that are written: "a newline after each `{`, `}` and `;`, one blank between other neighbouring
-- rows, nothing else", "numbers in decimal".
use Rattle.std.specs.Prelude.{ℕ, Bool, cond, ◌||◌, List, [], ◌∷◌, ◌++◌, eqb}
use Rattle.rules.specs.Text.{byte}
use Rattle.rules.specs.Kinds.{reserved, signs, LBrace, RBrace, Semicolon, Eof}
use Rattle.rules.specs.Tree.{Tree, Tok, sign, name, string, value, kind_of, yield}
use Rattle.rules_decimal.specs.Decimal.{signed}
use Rattle.rules_layout.specs.Rows.{spelling_in, laid}

-- a row's spelling: names and strings as they are spelled, numbers by their value
unfoldable pub spelled : Tok → List ℕ
spelled (sign k) = spelling_in signs (spelling_in reserved [] k) k
spelled (name w) = w
spelled (string w) = w
spelled (value v) = signed v

abbrev pub ends_line : ℕ → Bool
ends_line k = (eqb k LBrace || eqb k RBrace) || eqb k Semicolon

-- the byte behind a row
unfoldable pub behind : ℕ → ℕ
behind k = cond (ends_line k) (byte "\n") (byte " ")

-- A program ends in `}`, so a byte behind each row is a byte between neighbours and a newline at the end. Eof has no bytes.
unfoldable pub row_bytes : Tok → List ℕ
row_bytes x = cond (eqb (kind_of x) Eof) [] (spelled x ++ (behind (kind_of x) ∷ []))

unfoldable pub rows_bytes : List Tok → List ℕ
rows_bytes [] = []
rows_bytes (x ∷ xs) = row_bytes x ++ rows_bytes xs

-- the layout of a tree
unfoldable pub layout : Tree → List ℕ
layout t = rows_bytes (yield (laid t))
