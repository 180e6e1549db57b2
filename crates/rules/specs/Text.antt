-- "Text and rows": how long a text may be, which bytes it may hold, blanks, and the position before a byte.
use Rattle.std.specs.Prelude.{Bool, true, false, cond, not, ◌&&◌, ◌||◌, List, [], ◌∷◌, reverse, ℕ, zero, suc, ◌+◌, ◌^◌, ◌<◌, length, take, drop, eqb, leb, ltb, Ok, Err}
use Prim.Native.Char.{Char, code}
use Prim.Native.String.{String, [] as []ˢ, ◌∷◌ as ◌∷ˢ◌}
use Rattle.rules.specs.declared.Cursor.{Cursor}
use Rattle.rules.specs.declared.Outer.TheVariants.{TextTooLong, BadByte}
use Rattle.rules.specs.Outcomes.{Judged, unfit}

-- the byte of a character, and the bytes of a spelling
abbrev pub byte : Char → ℕ
byte c = code c

abbrev pub bytes : String → List ℕ
bytes []ˢ = []
bytes (c ∷ˢ s) = code c ∷ bytes s

-- A text has 0 to 65,536 bytes.
abbrev pub most_bytes : ℕ
most_bytes = 65536

-- how many bytes at the front of a list meet a test
unfoldable pub front : (ℕ → Bool) → List ℕ → ℕ
front p [] = 0
front p (b ∷ s) = elim (p b) [ true ↦ suc (front p s) | false ↦ 0 ]

abbrev pub within : ℕ → ℕ → ℕ → Bool
within lo hi b = leb lo b && leb b hi

-- ---- which bytes a text may hold: characters by the table of RFC 3629, section 4

pub record Range : Type 0 where
  pub lo : ℕ
  pub hi : ℕ

abbrev pub range : ℕ → ℕ → Range
range lo hi = record { lo = lo; hi = hi }

abbrev pub tail : Range
tail = range 0x80 0xBF

abbrev pub is_tail : ℕ → Bool
is_tail b = within tail.lo tail.hi b

-- a line for each way to make a character: a range for each of its bytes
unfoldable pub utf8 : List (List Range)
utf8 =
    -- UTF8-1
    (range 0x00 0x7F ∷ [])
    -- UTF8-2
    ∷ (range 0xC2 0xDF ∷ tail ∷ [])
    -- UTF8-3
    ∷ (range 0xE0 0xE0 ∷ range 0xA0 0xBF ∷ tail ∷ [])
    ∷ (range 0xE1 0xEC ∷ tail ∷ tail ∷ [])
    ∷ (range 0xED 0xED ∷ range 0x80 0x9F ∷ tail ∷ [])
    ∷ (range 0xEE 0xEF ∷ tail ∷ tail ∷ [])
    -- UTF8-4
    ∷ (range 0xF0 0xF0 ∷ range 0x90 0xBF ∷ tail ∷ tail ∷ [])
    ∷ (range 0xF1 0xF3 ∷ tail ∷ tail ∷ tail ∷ [])
    ∷ (range 0xF4 0xF4 ∷ range 0x80 0x8F ∷ tail ∷ tail ∷ [])
    ∷ []

-- how many bytes at the front of a list lie in ranges, one in each
unfoldable pub met : List Range → List ℕ → ℕ
met [] s = 0
met (r ∷ rs) [] = 0
met (r ∷ rs) (b ∷ s) = cond (within r.lo r.hi b) (suc (met rs s)) 0

-- the line that a first byte lies in; none is the empty one. No byte lies in two.
unfoldable pub line_in : List (List Range) → ℕ → List Range
line_in [] b = []
line_in (rs ∷ lines) b = cond (eqb (met rs (b ∷ [])) 1) rs (line_in lines b)

abbrev pub line_of : ℕ → List Range
line_of b = line_in utf8 b

-- how many bytes the character at the front has: as many as its line; 0 if none stands there
unfoldable pub char_at : List ℕ → ℕ
char_at [] = 0
char_at (b ∷ s) = cond (eqb (met (line_of b) (b ∷ s)) (length (line_of b))) (length (line_of b)) 0

-- a list that is a proper beginning of some character
unfoldable pub is_cut : List ℕ → Bool
is_cut [] = true
is_cut (b ∷ s) = eqb (met (line_of b) (b ∷ s)) (length (b ∷ s)) && ltb (length (b ∷ s)) (length (line_of b))

-- How long the longest beginning is that consists of characters; the first n bytes belong to the character that was read last.
unfoldable pub valid_from : ℕ → List ℕ → ℕ
valid_from n [] = 0
valid_from (suc n) (b ∷ s) = suc (valid_from n s)
valid_from zero (b ∷ s) = elim (char_at (b ∷ s)) [ zero ↦ 0 | suc n ↦ suc (valid_from n s) ]

unfoldable pub valid_bytes : List ℕ → ℕ
valid_bytes t = valid_from 0 t

unfoldable pub valid : List ℕ → Bool
valid t = eqb (valid_bytes t) (length t)

-- the same of a part of a text whose end may cut a character: such a beginning of one belongs to it
unfoldable pub cut_bytes : List ℕ → ℕ
cut_bytes t = cond (is_cut (drop (valid_bytes t) t)) (length t) (valid_bytes t)

-- Blanks are 9 to 13 and 32.
unfoldable pub is_blank : ℕ → Bool
is_blank b = within 9 13 b || eqb b 32

unfoldable pub newlines : List ℕ → ℕ
newlines [] = 0
newlines (b ∷ s) = cond (eqb b (byte "\n")) (suc (newlines s)) (newlines s)

abbrev pub not_newline : ℕ → Bool
not_newline b = not (eqb b (byte "\n"))

-- The position before byte k is line 1 + newlines before k, column 1 + bytes since the last newline.
unfoldable pub line_at : List ℕ → ℕ → ℕ
line_at t k = 1 + newlines (take k t)

unfoldable pub column_at : List ℕ → ℕ → ℕ
column_at t k = 1 + front not_newline (reverse (take k t))

abbrev pub place : ℕ → ℕ → ℕ → Cursor
place offset line column = record { offset = record { 0 = offset }; line = record { 0 = line }; column = record { 0 = column } }

unfoldable pub place_at : List ℕ → ℕ → Cursor
place_at t k = place k (line_at t k) (column_at t k)

abbrev pub start_place : Cursor
start_place = place 0 1 1

-- 1, then 2 where the longest valid beginning ends
unfoldable pub text_judged : List ℕ → Judged
text_judged t =
    cond (ltb most_bytes (length t)) (Err (unfit TextTooLong start_place)) (cond (not (valid t)) (Err (unfit BadByte (place_at t (valid_bytes t)))) (Ok tt))

-- The cursor behind byte b, and behind a list of bytes.
unfoldable pub moved : Cursor → ℕ → Cursor
moved c b =
    place (c.offset.0 + 1) (cond (eqb b (byte "\n")) (c.line.0 + 1) c.line.0)
    (cond (eqb b (byte "\n")) 1 (c.column.0 + 1))

unfoldable pub over : Cursor → List ℕ → Cursor
over c [] = c
over c (b ∷ s) = over (moved c b) s

-- the cursor behind n bytes of its line
unfoldable pub along : Cursor → ℕ → Cursor
along c n = place (c.offset.0 + n) c.line.0 (c.column.0 + n)

-- n bytes more, and no counter has passed its type
pub record Roomy (n : ℕ) (c : Cursor) : Type 0 where
  pub offset : c.offset.0 + n < 2 ^ 32
  pub line : c.line.0 + n < 2 ^ 32
  pub column : c.column.0 + n < 2 ^ 32
