-- "Text and rows": a row's eight words, tables, and when a table is well formed. Spelling.
use Rattle.std.specs.Prelude.{Bool, true, false, cond, not, ◌&&◌, ◌||◌, List, [], ◌∷◌, ◌++◌, ℕ, zero, suc, ◌+◌, ◌-◌, ◌*◌, ◌/◌, ◌%◌, ◌^◌, length, take, drop, get_or, eqb, leb, None, Some}
use Rattle.rules.specs.declared.Cursor.{Cursor}
use Rattle.rules.specs.Outcomes.{Ending}
use Rattle.rules.specs.declared.Table.{Table}
use Rattle.rules.specs.Text.{most_bytes, place}
use Rattle.rules.specs.Kinds.{Identifier, StringLiteral, Number, Eof, is_made, signs, reserved, length_in}

-- A row is eight u32 words.
abbrev pub words_per_row : ℕ
words_per_row = 8

pub record Row : Type 0 where
  pub kind : ℕ
  pub start : ℕ
  pub end : ℕ
  pub line : ℕ
  pub column : ℕ
  pub low : ℕ
  pub high : ℕ
  pub comments : ℕ

-- the index of each word but the first
abbrev pub at_start : ℕ
at_start = 1

abbrev pub at_end : ℕ
at_end = 2

abbrev pub at_line : ℕ
at_line = 3

abbrev pub at_column : ℕ
at_column = 4

abbrev pub at_low : ℕ
at_low = 5

abbrev pub at_high : ℕ
at_high = 6

abbrev pub at_comments : ℕ
at_comments = 7

unfoldable pub row_words : Row → List ℕ
row_words r =
    r.kind ∷ r.start ∷ r.end ∷ r.line ∷ r.column ∷ r.low ∷ r.high ∷ r.comments ∷ []

-- the row that stands at the front of a list of words
unfoldable pub row_in : List ℕ → Row
row_in ws = record {
  kind = get_or ws 0 0;
  start = get_or ws at_start 0;
  end = get_or ws at_end 0;
  line = get_or ws at_line 0;
  column = get_or ws at_column 0;
  low = get_or ws at_low 0;
  high = get_or ws at_high 0;
  comments = get_or ws at_comments 0;
}

-- row i of a list of words
abbrev pub row_no : List ℕ → ℕ → Row
row_no ws i = row_in (drop (words_per_row * i) ws)

-- the first n rows of a list of words, and the words of a list of rows
unfoldable pub rows_in : ℕ → List ℕ → List Row
rows_in zero ws = []
rows_in (suc n) ws = row_in ws ∷ rows_in n (drop words_per_row ws)

unfoldable pub words_of : List Row → List ℕ
words_of [] = []
words_of (r ∷ rs) = row_words r ++ words_of rs

-- Value is two's complement: the 64 bits of a number, and of a row's value.
unfoldable pub bits_of : Bool → ℕ → ℕ
bits_of negative v = cond negative ((2 ^ 64 - v) % 2 ^ 64) v

unfoldable pub value_bits : Row → ℕ
value_bits r = r.high * 2 ^ 32 + r.low

-- the row of a kind and value that starts at a place, with c comments in the gap before it, and ends at e
unfoldable pub row_at : Cursor → (c kind e bits : ℕ) → Row
row_at p c kind e bits = record {
  kind = kind;
  start = p.offset.0;
  end = e;
  line = p.line.0;
  column = p.column.0;
  low = bits % 2 ^ 32;
  high = bits / 2 ^ 32;
  comments = c;
}

unfoldable pub eof_row : Cursor → ℕ → Row
eof_row p c = row_at p c Eof p.offset.0 0

-- where a row starts
unfoldable pub row_place : Row → Cursor
row_place r = place r.start r.line r.column

-- ---- well formed

unfoldable pub every : (Row → Bool) → List Row → Bool
every p [] = true
every p (r ∷ rs) = p r && every p rs

-- each row and the next
unfoldable pub chained : (Row → Row → Bool) → List Row → Bool
chained p [] = true
chained p (r ∷ []) = true
chained p (r ∷ q ∷ rs) = p r q && chained p (q ∷ rs)

-- fixed spellings have their length, identifiers and numbers 1 or more, strings 2 or more
unfoldable pub length_fits : ℕ → ℕ → Bool
length_fits kind n =
    cond (eqb kind Identifier) (leb 1 n)
    (cond (eqb kind Number) (leb 1 n)
    (cond (eqb kind StringLiteral) (leb 2 n)
    (cond (eqb kind Eof) (eqb n 0)
    (eqb n (length_in signs (length_in reserved 0 kind) kind)))))

unfoldable pub spans_fit : Row → Bool
spans_fit r = leb r.start r.end && length_fits r.kind (r.end - r.start)

-- values lie within 2^63 - 1 either way, zero unless Number
unfoldable pub value_fits : Row → Bool
value_fits r =
    cond (eqb r.kind Number) (not (eqb (value_bits r) (2 ^ 63))) (eqb r.low 0 && eqb r.high 0)

-- lines and columns are 1 or more; line and column never exceed offset + 1
unfoldable pub place_fits : Cursor → Bool
place_fits p =
    (leb 1 p.line.0 && leb 1 p.column.0) && (leb p.line.0 (p.offset.0 + 1) && leb p.column.0 (p.offset.0 + 1))

-- lines don't fall; on one line column differences equal offset differences
unfoldable pub lines_fit : Cursor → Cursor → Bool
lines_fit p q =
    leb p.line.0 q.line.0
    && (not (eqb p.line.0 q.line.0) || eqb (q.column.0 + p.offset.0) (p.column.0 + q.offset.0))

unfoldable pub row_fits : Row → Bool
row_fits r =
    (is_made r.kind && value_fits r) && (spans_fit r && place_fits (row_place r))

-- in order without overlap
unfoldable pub follows : Row → Row → Bool
follows r q = leb r.end q.start && lines_fit (row_place r) (row_place q)

-- A row's comments are at most half of its gap's length: the gap lies between the end of the row before it, or 0, and its start.
unfoldable pub gap_fits : ℕ → Row → Bool
gap_fits e r = leb r.comments ((r.start - e) / 2)

unfoldable pub gaps_fit : ℕ → List Row → Bool
gaps_fit e [] = true
gaps_fit e (r ∷ rs) = gap_fits e r && gaps_fit r.end rs

-- A refused ending's place is between the last row's end and the length, under the same line rules. `last_row` has the last row, if there is one.
unfoldable pub last_row : List Row → List Row
last_row [] = []
last_row (r ∷ []) = r ∷ []
last_row (r ∷ q ∷ rs) = last_row (q ∷ rs)

unfoldable pub ends_behind : List Row → Cursor → Bool
ends_behind [] p = true
ends_behind (r ∷ rs) p = leb r.end p.offset.0 && lines_fit (row_place r) p

-- Eof is last, at the length, exactly when the ending is none.
unfoldable pub is_eof : Row → Bool
is_eof r = eqb r.kind Eof

unfoldable pub eof_last : ℕ → List Row → Bool
eof_last n [] = false
eof_last n (r ∷ []) = is_eof r && eqb r.start n
eof_last n (r ∷ q ∷ rs) = not (is_eof r) && eof_last n (q ∷ rs)

unfoldable pub ending_fits : ℕ → List Row → Ending → Bool
ending_fits n rows None = eof_last n rows
ending_fits n rows (Some e) =
    every (λ r. not (is_eof r)) rows && ((leb e.at.offset.0 n && place_fits e.at) && ends_behind (last_row rows) e.at)

-- the rows and ending of a table over so many bytes
unfoldable pub rows_fit : ℕ → List Row → Ending → Bool
rows_fit n rows ending = every row_fits rows && (chained follows rows && (gaps_fit 0 rows && ending_fits n rows ending))

-- "It is well formed if the count's rows are lent .."
unfoldable pub well_formed : List ℕ → Table → Bool
well_formed ws t =
    (leb (t.count * words_per_row) (length ws) && leb t.length most_bytes) && rows_fit t.length (rows_in t.count ws) t.ending

-- ---- spelling

-- "A row's spelling is handed back as that part of the lent text."
unfoldable pub spelling : List ℕ → Row → List ℕ
spelling t r = take (r.end - r.start) (drop r.start t)
