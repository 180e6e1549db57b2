-- Texts with their comments, once over the bytes and once as the rows of the scan tell them, as one table under one theorem.
use Rattle.std.specs.Prelude.{◌≡◌, refl, List, [], ◌∷◌, map, ℕ}
use Rattle.rules.specs.Text
use Rattle.rules.specs.Text.{bytes}
use Rattle.rules.specs.Kinds
use Rattle.rules.specs.Rows
use Rattle.rules.specs.Lex
use Rattle.rules.specs.Scan
use Rattle.rules.specs.Scan.{scan, read_rows}
use Rattle.theory_comments.specs.Comments
use Rattle.theory_comments.specs.Comments.{comments_in, counted}

pub record Case : Type 0 where
  pub text : List ℕ
  pub comments : ℕ
  pub told : ℕ

pub answer : List ℕ → Case
answer t = record { text = t; comments = comments_in t; told = counted (read_rows (scan t)) }

abbrev pub cases : List Case
cases =
    record { text = []; comments = 0; told = 0 }
    -- a line comment that the end closes, and one that a newline does
    ∷ record { text = bytes "//"; comments = 1; told = 1 }
    ∷ record { text = bytes "//\n//"; comments = 2; told = 2 }
    -- none stands in a string, whatever is escaped in it
    ∷ record { text = bytes "\"//\""; comments = 0; told = 0 }
    ∷ record { text = bytes "\"\\\"//\""; comments = 0; told = 0 }
    ∷ record { text = bytes "\"\\\\\"//\""; comments = 1; told = 1 }
    -- none stands in another, nor a string
    ∷ record { text = bytes "/* // */"; comments = 1; told = 1 }
    ∷ record { text = bytes "// /*"; comments = 1; told = 1 }
    ∷ record { text = bytes "/*\"*/\"//\""; comments = 1; told = 1 }
    -- a star in front opens nothing, and the star that opens a comment does not close it
    ∷ record { text = bytes "*//"; comments = 1; told = 1 }
    ∷ record { text = bytes "/*/*/"; comments = 1; told = 1 }
    ∷ record { text = bytes "/***/"; comments = 1; told = 1 }
    -- one behind another, and with rows between
    ∷ record { text = bytes "/**//**/"; comments = 2; told = 2 }
    ∷ record { text = bytes "/=//"; comments = 1; told = 1 }
    ∷ record { text = bytes "/**/a/**/+//"; comments = 3; told = 3 }
    -- a comment that stays open is none
    ∷ record { text = bytes "/*/"; comments = 0; told = 0 }
    -- of a text that does not scan fully nothing is said: the comment in front of a refusal is in no row
    ∷ record { text = bytes "/**/@"; comments = 1; told = 0 }
    ∷ []

pub right : map (λ (c : Case). answer c.text) cases ≡ cases
unfolding answer Text.front Text.is_blank Text.newlines Text.line_at Text.column_at Text.place_at Kinds.reserved Kinds.signs Kinds.same_bytes Kinds.kind_in Rows.row_at Rows.eof_row Lex.line_comment Lex.before_close Lex.block_comment Lex.is_digit Lex.is_letter Lex.is_word Lex.word Lex.is_escape Lex.string Lex.maybe_two Lex.single Lex.sign Lex.slashed Lex.beginning Lex.piece Scan.read_rows Scan.read Scan.scan Comments.comments Comments.comments_in Comments.counted
right = refl
