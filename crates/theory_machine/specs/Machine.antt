-- The scan rules as a machine that reads one byte at a time. A row ends with the byte just read (`over`) or before it (`back`), so no
-- row looks further than the one byte behind it: that is in the types, and nothing else need be known of `step`.
use Rattle.std.specs.Prelude.{ℕ, zero, suc, ◌+◌, ◌-◌, ◌*◌, min, Bool, true, false, cond, List, [], ◌∷◌, ◌++◌, eqb, leb}
use Rattle.rules.specs.declared.Cursor.{Cursor}
use Rattle.rules.specs.declared.Lexical.{Lexical}
use Rattle.rules.specs.declared.Lexical.TheVariants.{NoRowBegins, LoneSign, NoHexDigit, OpenComment, OpenString, BadEscape, NumberTooLarge}
use Rattle.rules.specs.Text.{is_blank, place_at, byte}
use Rattle.rules.specs.Kinds
use Rattle.rules.specs.Kinds.{Identifier, StringLiteral, Number, SlashEquals, Slash, MinusEquals, Minus, reserved, signs, kind_in}
use Rattle.rules.specs.Rows.{bits_of, row_at, eof_row}
use Rattle.rules.specs.Lex.{is_digit, is_letter, is_word, is_hex_digit, digit_value, largest, is_escape, is_lone, maybe_two}
use Rattle.rules.specs.Scan.{Reading, put, ends, stops}

pub record Token : Type 0 where
  pub kind : ℕ
  pub bits : ℕ

abbrev pub tok : ℕ → Token
tok k = record { kind = k; bits = 0 }

-- What has been read of the row (or comment) that began at the mark.
pub data St : Type 0 where
  gap slash line block star minus str esc : St
  two : ℕ → St
  name : List ℕ → St
  zer hex0 : Bool → St
  dec hex : Bool → ℕ → St

-- Where a refusal stands: at the mark; behind the two bytes at the mark; at the byte being read (or the end); one before that.
pub data Spot : Type 0 where
  mark opened here before : Spot

-- A byte that is taken: more to come; the gap goes on behind it; it is the row's last; refused.
pub data First : Type 0 where
  go : St → First
  clear : First
  over : Token → First
  bad : Lexical → Spot → First

-- `fresh`: the byte stands where a row may begin. `back`: a row ended before the byte, which then stands so.
pub data Move : Type 0 where
  fresh : Move
  on : First → Move
  back : Token → Move

-- At the text's end: behind a gap; behind a row; refused.
pub data Last : Type 0 where
  clean : Last
  ended : Token → Last
  cut : Lexical → Spot → Last

-- that place, counted from the mark, with k bytes behind the mark
unfoldable pub spot : Spot → ℕ → ℕ
spot mark k = 0
spot opened k = min 2 k
spot here k = k
spot before k = k - 1

abbrev pub word : List ℕ → Token
word w = tok (kind_in reserved Identifier w)

unfoldable pub number : Bool → ℕ → Move
number negative v =
    cond (leb v largest) (back (record { kind = Number; bits = bits_of negative v })) (on (bad NumberTooLarge mark))

unfoldable pub number_end : Bool → ℕ → Last
number_end negative v =
    cond (leb v largest) (ended (record { kind = Number; bits = bits_of negative v })) (cut NumberTooLarge mark)

-- a sign of one byte
abbrev pub one_sign : ℕ → ℕ
one_sign b = kind_in signs Kinds.Eof (b ∷ [])

abbrev pub two_sign : ℕ → ℕ → ℕ
two_sign b x = kind_in signs Kinds.Eof (b ∷ x ∷ [])

unfoldable pub begin : ℕ → First
begin b =
    cond (is_blank b) clear
    (cond (eqb b (byte "/")) (go slash)
    (cond (is_letter b) (go (name (b ∷ [])))
    (cond (eqb b (byte "0")) (go (zer false))
    (cond (is_digit b) (go (dec false (b - byte "0")))
    (cond (eqb b (byte "-")) (go minus)
    (cond (eqb b (byte "\"")) (go str)
    (cond (maybe_two b) (go (two b))
    (cond (eqb (one_sign b) Kinds.Eof) (bad NoRowBegins here)
    (over (tok (one_sign b)))))))))))

-- the state, the bytes read since the mark, and the next byte
unfoldable pub step : St → ℕ → ℕ → Move
step gap k b = fresh
step slash k b =
    cond (eqb b (byte "/")) (on (go line)) (cond (eqb b (byte "*")) (on (go block)) (cond (eqb b (byte "=")) (on (over (tok SlashEquals))) (back (tok Slash))))
step line k b = cond (eqb b (byte "\n")) (on clear) (on (go line))
step block k b = cond (eqb b (byte "*")) (on (go star)) (on (go block))
step star k b = cond (eqb b (byte "/")) (on clear) (cond (eqb b (byte "*")) (on (go star)) (on (go block)))
step minus k b =
    cond (eqb b (byte "0")) (on (go (zer true)))
    (cond (is_digit b) (on (go (dec true (b - byte "0")))) (cond (eqb b (byte "=")) (on (over (tok MinusEquals))) (back (tok Minus))))
step str k b =
    cond (eqb b (byte "\"")) (on (over (tok StringLiteral))) (cond (eqb b (byte "\n")) (on (bad OpenString here)) (cond (eqb b (byte "\\")) (on (go esc)) (on (go str))))
step esc k b = cond (is_escape b) (on (go str)) (on (bad BadEscape before))
step (two x) k b =
    cond (eqb (two_sign x b) Kinds.Eof) (cond (is_lone x) (on (bad LoneSign mark)) (back (tok (one_sign x)))) (on (over (tok (two_sign x b))))
step (name w) k b = cond (is_word b) (on (go (name (w ++ b ∷ [])))) (back (word w))
step (zer n) k b = cond (eqb b (byte "x")) (on (go (hex0 n))) (cond (is_digit b) (on (go (dec n (b - byte "0")))) (number n 0))
step (hex0 n) k b = cond (is_hex_digit b) (on (go (hex n (digit_value b)))) (on (bad NoHexDigit here))
step (dec n v) k b = cond (is_digit b) (on (go (dec n (v * 10 + digit_value b)))) (number n v)
step (hex n v) k b = cond (is_hex_digit b) (on (go (hex n (v * 16 + digit_value b)))) (number n v)

unfoldable pub finish : St → ℕ → Last
finish gap k = clean
finish slash k = ended (tok Slash)
finish line k = clean
finish block k = cut OpenComment opened
finish star k = cut OpenComment opened
finish minus k = ended (tok Minus)
finish str k = cut OpenString here
finish esc k = cut OpenString here
finish (two x) k = cond (is_lone x) (cut LoneSign mark) (ended (tok (one_sign x)))
finish (name w) k = ended (word w)
finish (zer n) k = number_end n 0
finish (hex0 n) k = cut NoHexDigit here
finish (dec n v) k = number_end n v
finish (hex n v) k = number_end n v

-- ---- the machine run over a text

-- the comments of a gap that is passed with k bytes of its last piece read, c comments standing before that: with none it is a blank, or
-- nothing, and with any it is one comment more
unfoldable pub passed : (c k : ℕ) → ℕ
passed c zero = c
passed c (suc k) = suc c

-- c comments stand in the gap behind the last row, t is the mark, k bytes of the row have been read, the scan stands at t + k
module _ (pos : ℕ → Cursor) where
  unfoldable pub after : ((c t k : ℕ) → St → Reading) → (c t k : ℕ) → First → Reading
  after r c t k (go st) = r c t (suc k) st
  after r c t k clear = r (passed c k) (t + suc k) 0 gap
  after r c t k (over x) = put (row_at (pos t) c x.kind (t + suc k) x.bits) (r 0 (t + suc k) 0 gap)
  after r c t k (bad why x) = stops why (pos (t + spot x k)) (t + k)

  unfoldable pub move : ((c t k : ℕ) → St → Reading) → (b c t k : ℕ) → Move → Reading
  move r b c t k fresh = after r (passed c k) (t + k) 0 (begin b)
  move r b c t k (on f) = after r c t k f
  move r b c t k (back x) = put (row_at (pos t) c x.kind (t + k) x.bits) (after r 0 (t + k) 0 (begin b))

  unfoldable pub close : (c t k : ℕ) → Last → Reading
  close c t k clean = put (eof_row (pos (t + k)) (passed c k)) ends
  close c t k (ended x) = put (row_at (pos t) c x.kind (t + k) x.bits) (put (eof_row (pos (t + k)) 0) ends)
  close c t k (cut why x) = stops why (pos (t + spot x k)) (t + k)

  unfoldable pub run : List ℕ → (c t k : ℕ) → St → Reading
  run [] c t k st = close c t k (finish st k)
  run (b ∷ s) c t k st = move (run s) b c t k (step st k b)

-- the scan of a text, byte by byte
unfoldable pub scan_bytes : List ℕ → Reading
scan_bytes t = run (place_at t) t 0 0 0 gap
