-- What a byte begins, as one number: `Letter` is a letter or `_`, `Double` a sign that may be the first byte of two (+ * % < >), `Sign` any
-- other. The order of the cases is that of the rules' `beginning`.
use Rattle.std.specs.Prelude.{◌≡◌, cond, List, [], ◌∷◌, ℕ, ◌+◌, ◌<◌, get_or, eqb}
use Rattle.rules.specs.Text.{is_blank, byte}
use Rattle.rules.specs.Kinds
use Rattle.rules.specs.Kinds.{signs, kind_in}
use Rattle.rules.specs.Lex.{is_letter, is_digit, maybe_two}

abbrev pub Letter : ℕ
Letter = 0

abbrev pub Digit : ℕ
Digit = 1

abbrev pub Nothing : ℕ
Nothing = 2

abbrev pub Blank : ℕ
Blank = 3

abbrev pub Slash : ℕ
Slash = 4

abbrev pub Dash : ℕ
Dash = 5

abbrev pub Quote : ℕ
Quote = 6

abbrev pub Double : ℕ
Double = 7

abbrev pub Sign : ℕ
Sign = 8

-- in the table signs are counted from here
abbrev pub signs_from : ℕ
signs_from = 32

-- all of them, as the code lists its own
abbrev pub classes : List ℕ
classes = Letter ∷ Digit ∷ Nothing ∷ Blank ∷ Slash ∷ Dash ∷ Quote ∷ Double ∷ Sign ∷ signs_from ∷ []

unfoldable pub class_of : ℕ → ℕ
class_of b =
    cond (is_blank b) Blank
    (cond (eqb b (byte "/")) Slash
    (cond (is_letter b) Letter
    (cond (is_digit b) Digit
    (cond (eqb b (byte "-")) Dash
    (cond (eqb b (byte "\"")) Quote
    (cond (maybe_two b) Double
    (cond (eqb (kind_in signs Kinds.Eof (b ∷ [])) Kinds.Eof) Nothing Sign)))))))

-- the same in one table: a sign that is the first byte of no other has its kind
unfoldable pub mark_of : ℕ → ℕ
mark_of b = cond (eqb (class_of b) Sign) (signs_from + kind_in signs Kinds.Eof (b ∷ [])) (class_of b)

-- a table that has the class of each byte
pub record Classes (t : List ℕ) : Type 0 where
  pub mark : (b : ℕ) → b < 256 → get_or t b 0 ≡ mark_of b
