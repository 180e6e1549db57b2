-- Rows in bytes, and whether rows fit one behind the other.
use Rattle.std.specs.Prelude.{Bool, true, ◌&&◌, List, [], ◌∷◌, ℕ, zero, suc, drop}
use Rattle.rules.specs.Rows.{Row, row_in, words_per_row}
use Rattle.rows.specs.Shape.{stands_on}
use Rattle.rules_files.specs.Bytes.{words_in}
use Rattle.rules_forms.specs.declared.Form.{Form}
use Rattle.rules_forms.specs.declared.Form.TheVariants.{Full, Short}
use Rattle.rules_forms.specs.Short.{short_words, placed_row, on_one_line}
use Rattle.rules_forms.specs.Shapes.{row_bytes_of}

-- the row whose bytes stand at the front, in a form, and the first n rows
unfoldable pub row_from : Form → List ℕ → Row
row_from Full s = row_in (words_in words_per_row s)
row_from Short s = row_in (placed_row on_one_line (words_in short_words s))

unfoldable pub rows_from : Form → ℕ → List ℕ → List Row
rows_from form zero s = []
rows_from form (suc n) s = row_from form s ∷ rows_from form n (drop (row_bytes_of form) s)

-- rows stand, each on the one before it
unfoldable pub stand : Row → List Row → Bool
stand r [] = true
stand r (q ∷ qs) = stands_on r q && stand q qs
