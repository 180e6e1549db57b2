-- "Scan rules": what stands at the front of a text that is not empty. Every definition looks at a suffix of the text alone.
-- `decided` counts the bytes before the one that settles it; where that is the text's length, only the text's end settles it.
use Rattle.std.specs.Prelude.{Bool, true, false, cond, ◌&&◌, ◌||◌, List, [], ◌∷◌, ℕ, suc, ◌+◌, ◌-◌, ◌*◌, length, take, drop, get_or, eqb, leb, ltb}
use Rattle.rules.specs.declared.Lexical.{Lexical}
use Rattle.rules.specs.declared.Lexical.TheVariants.{NoRowBegins, LoneSign, NoHexDigit, OpenComment, OpenString, BadEscape, NumberTooLarge}
use Rattle.rules.specs.Text.{byte, front, within, is_blank, not_newline}
use Rattle.rules.specs.Kinds
use Rattle.rules.specs.Kinds.{Identifier, StringLiteral, Number, reserved, signs, kind_in}
use Rattle.rules.specs.Rows.{bits_of}

-- A blank; a comment of so many bytes; a row: its kind, length and value's bits; a refusal, so many bytes on.
pub data Piece : Type 0 where
  blank : Piece
  comment : (length decided : ℕ) → Piece
  row : (kind length bits decided : ℕ) → Piece
  refused : (why : Lexical) (place decided : ℕ) → Piece

-- ---- a gap: blanks, `//` to newline or end, `/*` to the next `*/` after those two bytes

-- The newline is taken with its comment.
unfoldable pub line_comment : List ℕ → Piece
line_comment s =
    cond (ltb (front not_newline s) (length s)) (comment (front not_newline s + 1) (front not_newline s))
    (comment (length s) (length s))

-- how many bytes stand before the next `*/`, or all
unfoldable pub before_close : List ℕ → ℕ
before_close [] = 0
before_close (b ∷ s) = elim (eqb b (byte "*") && eqb (get_or s 0 0) (byte "/")) [ true ↦ 0 | false ↦ suc (before_close s) ]

unfoldable pub block_comment : List ℕ → Piece
block_comment s =
    cond (ltb (before_close (drop 2 s)) (length (drop 2 s)))
    (comment (before_close (drop 2 s) + 4) (before_close (drop 2 s) + 3))
    (refused OpenComment 2 (length s))

-- ---- identifier: letter or `_`, then letters, digits, `_`

unfoldable pub is_digit : ℕ → Bool
is_digit b = within (byte "0") (byte "9") b

unfoldable pub is_letter : ℕ → Bool
is_letter b = (within (byte "A") (byte "Z") b || within (byte "a") (byte "z") b) || eqb b (byte "_")

unfoldable pub is_word : ℕ → Bool
is_word b = is_letter b || is_digit b

unfoldable pub word : List ℕ → Piece
word s = row (kind_in reserved Identifier (take (front is_word s) s)) (front is_word s) 0 (front is_word s)

-- ---- number: digits, or `0x` and at least one hex digit; a `-` directly before a digit belongs to it

unfoldable pub is_hex_digit : ℕ → Bool
is_hex_digit b = (is_digit b || within (byte "A") (byte "F") b) || within (byte "a") (byte "f") b

unfoldable pub digit_value : ℕ → ℕ
digit_value b = cond (is_digit b) (b - byte "0") (cond (within (byte "A") (byte "F") b) (b - (byte "A" - 10)) (b - (byte "a" - 10)))

-- what digits spell in a base, behind digits that spell v
unfoldable pub spelt : ℕ → ℕ → List ℕ → ℕ
spelt base v [] = v
spelt base v (b ∷ s) = spelt base (v * base + digit_value b) s

abbrev pub largest : ℕ
largest = 9223372036854775807

-- a number of n bytes whose digits spell v
unfoldable pub number_of : Bool → ℕ → ℕ → Piece
number_of negative n v = cond (leb v largest) (row Number n (bits_of negative v) n) (refused NumberTooLarge 0 n)

-- m bytes of the number stand before s: its sign, and in hex `0x`
unfoldable pub decimal : Bool → ℕ → List ℕ → Piece
decimal negative m s = number_of negative (m + front is_digit s) (spelt 10 0 (take (front is_digit s) s))

unfoldable pub hex : Bool → ℕ → List ℕ → Piece
hex negative m s =
    cond (eqb (front is_hex_digit s) 0) (refused NoHexDigit m m)
    (number_of negative (m + front is_hex_digit s) (spelt 16 0 (take (front is_hex_digit s) s)))

unfoldable pub number : Bool → ℕ → List ℕ → Piece
number negative m s =
    cond (eqb (get_or s 0 0) (byte "0") && eqb (get_or s 1 0) (byte "x")) (hex negative (m + 2) (drop 2 s)) (decimal negative m s)

-- ---- string: `\"`, `\\`, `\n` are the only escapes; no newline inside

unfoldable pub is_escape : ℕ → Bool
is_escape b = (eqb b (byte "\"") || eqb b (byte "\\")) || eqb b (byte "n")

-- n bytes of the string stand before s; escaped: the last of them is a backslash
unfoldable pub string : (escaped : Bool) → ℕ → List ℕ → Piece
string escaped n [] = refused OpenString n n
string false n (b ∷ s) =
    elim (eqb b (byte "\"")) [
      | true ↦ row StringLiteral (n + 1) 0 n
      | false ↦ elim (eqb b (byte "\n")) [
        | true ↦ refused OpenString n n
        | false ↦ elim (eqb b (byte "\\")) [ true ↦ string true (suc n) s | false ↦ string false (suc n) s ]
      ]
    ]
string true n (b ∷ s) = elim (is_escape b) [ true ↦ string false (suc n) s | false ↦ refused BadEscape (n - 1) n ]

-- ---- `+= -= *= /= %= << >>` before single signs

abbrev pub is_lone : ℕ → Bool
is_lone b = eqb b (byte "<") || eqb b (byte ">")

-- the signs that may be the first byte of two: + - * / % < >
unfoldable pub maybe_two : ℕ → Bool
maybe_two b =
    ((((eqb b (byte "+") || eqb b (byte "-")) || eqb b (byte "*")) || eqb b (byte "/")) || eqb b (byte "%")) || is_lone b

-- a sign of one byte, which the byte at `decided` settles; a lone `<` or `>` is refused
unfoldable pub single : ℕ → ℕ → Piece
single b decided =
    cond (is_lone b) (refused LoneSign 0 decided)
    (cond (eqb (kind_in signs Kinds.Eof (b ∷ [])) Kinds.Eof) (refused NoRowBegins 0 decided)
    (row (kind_in signs Kinds.Eof (b ∷ [])) 1 0 decided))

-- the two bytes at the front; 0 where the text has ended, which is in no sign
abbrev pub front_two : List ℕ → List ℕ
front_two s = get_or s 0 0 ∷ get_or s 1 0 ∷ []

unfoldable pub sign : List ℕ → Piece
sign s =
    cond (maybe_two (get_or s 0 0))
    (cond (eqb (kind_in signs Kinds.Eof (front_two s)) Kinds.Eof) (single (get_or s 0 0) 1) (row (kind_in signs Kinds.Eof (front_two s)) 2 0 1))
    (single (get_or s 0 0) 0)

-- ---- all of it

unfoldable pub slashed : List ℕ → Piece
slashed s =
    cond (eqb (get_or s 1 0) (byte "/")) (line_comment s) (cond (eqb (get_or s 1 0) (byte "*")) (block_comment s) (sign s))

unfoldable pub dashed : List ℕ → Piece
dashed s = cond (is_digit (get_or s 1 0)) (number true 1 (drop 1 s)) (sign s)

unfoldable pub beginning : ℕ → List ℕ → Piece
beginning b s =
    cond (is_blank b) blank
    (cond (eqb b (byte "/")) (slashed s)
    (cond (is_letter b) (word s)
    (cond (is_digit b) (number false 0 s)
    (cond (eqb b (byte "-")) (dashed s)
    (cond (eqb b (byte "\"")) (string false 1 (drop 1 s))
    (sign s))))))

unfoldable pub piece : List ℕ → Piece
piece s = beginning (get_or s 0 0) s

unfoldable pub decided_at : Piece → ℕ
decided_at blank = 0
decided_at (comment n d) = d
decided_at (row k n v d) = d
decided_at (refused w p d) = d

-- ---- where the bytes may stop short of the text's end

-- known: the piece at the front; end: the text ends; unknown: more bytes must be shown
pub data Item : Type 0 where
  known : Piece → Item
  end unknown : Item

-- whole: s ends the text
unfoldable pub item : Bool → List ℕ → Item
item whole [] = cond whole end unknown
item whole (b ∷ s) = cond (whole || ltb (decided_at (piece (b ∷ s))) (length (b ∷ s))) (known (piece (b ∷ s))) unknown
