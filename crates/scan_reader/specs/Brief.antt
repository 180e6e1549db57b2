-- What stands at the front of some bytes, told in three numbers: a row's size, kind and value's bits, or a code above all kinds.
use Rattle.std.specs.Prelude.{Bool, cond, ◌||◌, List, [], ◌∷◌, ◌≡◌, ℕ, ◌+◌, length, get_or, drop, eqb, ltb}
use Rattle.rules.specs.Text.{byte}
use Rattle.rules.specs.Lex.{Piece, blank, comment, row, refused, decided_at, Item, known, end, unknown}
use Rattle.rules.specs.declared.Lexical.{Lexical}
use Rattle.rules.specs.declared.Lexical.TheVariants.{NoRowBegins, LoneSign, NoHexDigit, OpenComment, OpenString, BadEscape, NumberTooLarge}
use Rattle.scan_words.specs.Class as class
use Rattle.scan_reader.specs.declared.Brief.{Brief}

-- ---- codes

abbrev pub Blank : ℕ
Blank = 64

-- a comment to the end of its line, and one to its closing bytes
abbrev pub Line : ℕ
Line = 65

abbrev pub Block : ℕ
Block = 66

-- the text's end, and that more bytes must be shown
abbrev pub End : ℕ
End = 67

abbrev pub Unknown : ℕ
Unknown = 68

-- refusals, from here on
abbrev pub Refused : ℕ
Refused = 69

unfoldable pub refusal_code : Lexical → ℕ
refusal_code NoRowBegins = Refused
refusal_code LoneSign = Refused + 1
refusal_code NoHexDigit = Refused + 2
refusal_code OpenComment = Refused + 3
refusal_code OpenString = Refused + 4
refusal_code BadEscape = Refused + 5
refusal_code NumberTooLarge = Refused + 6

-- all of them, as the code lists its own
abbrev pub codes : List ℕ
codes =
    Blank ∷ Line ∷ Block ∷ End ∷ Unknown ∷ Refused ∷ (Refused + 1) ∷ (Refused + 2) ∷ (Refused + 3) ∷ (Refused + 4) ∷ (Refused + 5)
    ∷ (Refused + 6) ∷ []

-- ---- what is told of an item at the front of s

unfoldable pub told : List ℕ → Item → Brief
told s (known blank) = record { size = 1; kind = Blank; bits = 0 }
told s (known (comment n d)) = record { size = n; kind = cond (eqb (get_or s 1 0) (byte "/")) Line Block; bits = 0 }
told s (known (row kind n bits d)) = record { size = n; kind = kind; bits = bits }
told s (known (refused why p d)) = record { size = p; kind = refusal_code why; bits = 0 }
told s end = record { size = 0; kind = End; bits = 0 }
told s unknown = record { size = 0; kind = Unknown; bits = 0 }

-- a piece at an index of a text: known where its deciding byte is shown, or where the bytes end the text
unfoldable pub settled : (whole : Bool) → List ℕ → ℕ → Piece → Brief
settled whole t at p = cond (whole || ltb (at + decided_at p) (length t)) (told (drop at t) (known p)) (told (drop at t) unknown)

-- a class that is none of a word, a number without a sign, or a sign that opens neither a comment nor a number
pub record Rare (k : ℕ) : Type 0 where
  pub no_word : k ≡ class.Letter → ⊥
  pub no_number : k ≡ class.Digit → ⊥
  pub no_double : k ≡ class.Double → ⊥
  pub no_sign : k ≡ class.Sign → ⊥
