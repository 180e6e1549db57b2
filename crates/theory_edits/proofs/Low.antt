-- Bytes of 128 or more stand in comments and strings alone: the first and the last byte of a row are below 128. So in a valid text rows
-- start and end between characters, and reading restarts between two.
use Prim.Native.Nat.{ℕ, suc, ◌+◌, ◌<◌}
use native.Mathlib.Numerals.{add-one}
use native.Mathlib.Omega.{arith}
use mathlib.Core.Bool.{Bool, true, false, cond, ◌&&◌, true≢false}
use mathlib.Core.List.{List, [], ◌∷◌, ◌++◌}
use mathlib.Core.Path.{◌≡◌, refl, ap, sym, ◌∙◌}
use lib.Dec.{eqb, leb, ltb}
use lib.ListN.{length, take, take-append-drop}
use lib.Seq.{take-length, take-add}
use borrow.Author.Tests.{eqb-true, eq-eqb, leb-true, lt-leb, ltb-true}
use Rattle.rules.specs.declared.Cursor.{Cursor}
use Rattle.rules.specs.declared.Lexical.{Lexical}
use Rattle.rules.specs.Text.{is_tail, is_blank, place_at, start_place, valid}
use Rattle.rules.specs.Kinds
use Rattle.rules.specs.Kinds.{Spelt, signs, same_bytes, kind_in}
use Rattle.rules.specs.Lex.{is_digit, is_letter, is_word, is_hex_digit, is_escape, largest, is_lone, maybe_two}
use Rattle.rules.specs.Rows.{Row, row_at, eof_row}
use Rattle.rules.specs.Scan.{Reading, put, ends, stops, read_rows, scan}
use Rattle.rules.specs.Edit.{kept, end_place, last_end, restart}
use Rattle.laws.proofs.Tests.{both_true, either}
use Rattle.laws.proofs.Spelled.{same_eq}
use Rattle.laws.proofs.Valid.{valid_both, valid_sides, valid_nil, valid_one}
use Rattle.theory_machine.specs.Machine.{Token, St, gap, slash, line, block, star, minus, str, esc, two, name, zer, hex0, dec, hex, Spot, First, go, clear, over, bad, Move, fresh, on, back, Last, clean, ended, cut, number, number_end, one_sign, two_sign, begin, step, finish, passed, after, move, close, run, scan_bytes}
use Rattle.theory_machine.proofs.Same.{same_scan}
use Rattle.theory_edits.proofs.Stand.{At, at_next, at_same}

-- ---- bytes that meet a test of the scan are below 128

low_is : (c b : ℕ) → ltb c 128 ≡ true → eqb b c ≡ true → b < 128
low_is c b l e = omega (arith, ltb-true c 128 l, eqb-true b c e)

low_within : (lo hi b : ℕ) → ltb hi 128 ≡ true → (leb lo b && leb b hi) ≡ true → b < 128
low_within lo hi b l e = omega (arith, ltb-true hi 128 l, leb-true b hi (both_true (leb lo b) (leb b hi) e).1)

low_digit : (b : ℕ) → is_digit b ≡ true → b < 128
unfolding is_digit
low_digit b e = low_within 48 57 b refl e

low_letter : (b : ℕ) → is_letter b ≡ true → b < 128
unfolding is_letter
low_letter b e =
    either _ (eqb b 95) e
    (λ e. either _ _ e (low_within 65 90 b refl) (low_within 97 122 b refl)) (low_is 95 b refl)

low_word : (b : ℕ) → is_word b ≡ true → b < 128
unfolding is_word
low_word b e = either (is_letter b) (is_digit b) e (low_letter b) (low_digit b)

low_hex : (b : ℕ) → is_hex_digit b ≡ true → b < 128
unfolding is_hex_digit
low_hex b e = either _ _ e (λ e. either (is_digit b) _ e (low_digit b) (low_within 65 70 b refl)) (low_within 97 102 b refl)

-- and so are those of signs
low_bytes : List ℕ → Bool
low_bytes [] = true
low_bytes (b ∷ s) = ltb b 128 && low_bytes s

low_spelt : List Spelt → Bool
low_spelt [] = true
low_spelt (e ∷ es) = low_bytes e.spelling && low_spelt es

same_low : (s w : List ℕ) → same_bytes s w ≡ true → low_bytes s ≡ true → low_bytes w ≡ true
same_low s w e h = rw (← same_eq s w e) h

kind_low : (es : List Spelt) (d : ℕ) (w : List ℕ) → low_spelt es ≡ true → eqb (kind_in es d w) d ≡ false → low_bytes w ≡ true
unfolding kind_in low_spelt
kind_low [] d w h f = absurd (true≢false (sym (eq-eqb d d refl) ∙ f))
kind_low (e ∷ es) d w h f = by (same_bytes e.spelling w) refl f (kind_low es d w (both_true (low_bytes e.spelling) (low_spelt es) h).1)
  where
    by : (q : Bool) → same_bytes e.spelling w ≡ q → eqb (kind_in (e ∷ es) d w) d ≡ false
        → (eqb (kind_in es d w) d ≡ false → low_bytes w ≡ true) → low_bytes w ≡ true
    by true q f ih = same_low e.spelling w q (both_true (low_bytes e.spelling) (low_spelt es) h).0
    by false q f ih = ih (rw (kind_in, q) at f)

sign_low : (w : List ℕ) → eqb (kind_in signs Kinds.Eof w) Kinds.Eof ≡ false → low_bytes w ≡ true
unfolding signs low_spelt low_bytes
sign_low w f = kind_low signs Kinds.Eof w refl f

low_one : (b : ℕ) → eqb (one_sign b) Kinds.Eof ≡ false → b < 128
unfolding low_bytes
low_one b f = ltb-true b 128 (both_true (ltb b 128) true (sign_low (b ∷ []) f)).0

low_two : (x b : ℕ) → eqb (two_sign x b) Kinds.Eof ≡ false → b < 128
unfolding low_bytes
low_two x b f = ltb-true b 128 (both_true (ltb b 128) true (both_true (ltb x 128) _ (sign_low (x ∷ b ∷ []) f)).1).0

low_maybe : (b : ℕ) → maybe_two b ≡ true → b < 128
unfolding maybe_two
low_maybe b e =
    either _ (is_lone b) e
    (λ e. either _ _ e
    (λ e. either _ _ e (λ e. either _ _ e (λ e. either _ _ e (low_is 43 b refl) (low_is 45 b refl)) (low_is 42 b refl)) (low_is 47 b refl))
    (low_is 37 b refl))
    (λ e. either _ _ e (low_is 60 b refl) (low_is 62 b refl))

-- ---- the machine

-- inside of these no row ends before a byte
unfoldable held : St → Bool
held gap = true
held slash = false
held line = true
held block = true
held star = true
held minus = false
held str = true
held esc = true
held (two x) = false
held (name w) = false
held (zer n) = false
held (hex0 n) = false
held (dec n v) = false
held (hex n v) = false

-- a byte that is taken: it is below 128, or in a comment or string
data LowFirst (b : ℕ) : First → Type 0 where
  low_go : {st : St} → b < 128 → LowFirst b (go st)
  held_go : {st : St} → held st ≡ true → LowFirst b (go st)
  low_clear : LowFirst b clear
  low_over : {x : Token} → b < 128 → LowFirst b (over x)
  low_bad : {why : Lexical} {x : Spot} → LowFirst b (bad why x)

data LowMove (st : St) (b : ℕ) : Move → Type 0 where
  low_fresh : LowMove st b fresh
  low_on : {x : First} → LowFirst b x → LowMove st b (on x)
  low_back : {x : Token} → held st ≡ false → LowMove st b (back x)

data LowLast (st : St) : Last → Type 0 where
  low_clean : LowLast st clean
  low_ended : {x : Token} → held st ≡ false → LowLast st (ended x)
  low_cut : {why : Lexical} {x : Spot} → LowLast st (cut why x)

-- where a row begins there is no other way
data LowBegin (b : ℕ) : First → Type 0 where
  begin_go : {st : St} → b < 128 → LowBegin b (go st)
  begin_clear : LowBegin b clear
  begin_over : {x : Token} → b < 128 → LowBegin b (over x)
  begin_bad : {why : Lexical} {x : Spot} → LowBegin b (bad why x)

if_begin : {b : ℕ} (t : Bool) {x y : First} → (t ≡ true → LowBegin b x) → (t ≡ false → LowBegin b y) → LowBegin b (cond t x y)
if_begin true p q = p refl
if_begin false p q = q refl

if_move : {st : St} {b : ℕ} (t : Bool) {x y : Move} → (t ≡ true → LowMove st b x) → (t ≡ false → LowMove st b y) → LowMove st b (cond t x y)
if_move true p q = p refl
if_move false p q = q refl

if_last : {st : St} (t : Bool) {x y : Last} → LowLast st x → LowLast st y → LowLast st (cond t x y)
if_last true p q = p
if_last false p q = q

begin_low : (b : ℕ) → LowBegin b (begin b)
unfolding begin
begin_low b =
    if_begin (is_blank b) (λ h. begin_clear) (λ h.
    if_begin (eqb b 47) (λ h. begin_go (low_is 47 b refl h)) (λ h.
    if_begin (is_letter b) (λ h. begin_go (low_letter b h)) (λ h.
    if_begin (eqb b 48) (λ h. begin_go (low_is 48 b refl h)) (λ h.
    if_begin (is_digit b) (λ h. begin_go (low_digit b h)) (λ h.
    if_begin (eqb b 45) (λ h. begin_go (low_is 45 b refl h)) (λ h.
    if_begin (eqb b 34) (λ h. begin_go (low_is 34 b refl h)) (λ h.
    if_begin (maybe_two b) (λ h. begin_go (low_maybe b h)) (λ h.
    if_begin (eqb (one_sign b) Kinds.Eof) (λ h. begin_bad) (λ h. begin_over (low_one b h))))))))))

number_low : (st : St) (b : ℕ) (n : Bool) (v : ℕ) → held st ≡ false → LowMove st b (number n v)
unfolding number
number_low st b n v h = if_move (leb v largest) (λ l. low_back h) (λ l. low_on low_bad)

step_low : (st : St) (k b : ℕ) → LowMove st b (step st k b)
unfolding step held
step_low gap k b = low_fresh
step_low slash k b =
    if_move (eqb b 47) (λ h. low_on (held_go refl)) (λ h.
    if_move (eqb b 42) (λ h. low_on (held_go refl)) (λ h.
    if_move (eqb b 61) (λ h. low_on (low_over (low_is 61 b refl h))) (λ h. low_back refl)))
step_low line k b = if_move (eqb b 10) (λ h. low_on low_clear) (λ h. low_on (held_go refl))
step_low block k b = if_move (eqb b 42) (λ h. low_on (held_go refl)) (λ h. low_on (held_go refl))
step_low star k b =
    if_move (eqb b 47) (λ h. low_on low_clear) (λ h. if_move (eqb b 42) (λ h. low_on (held_go refl)) (λ h. low_on (held_go refl)))
step_low minus k b =
    if_move (eqb b 48) (λ h. low_on (low_go (low_is 48 b refl h))) (λ h.
    if_move (is_digit b) (λ h. low_on (low_go (low_digit b h))) (λ h.
    if_move (eqb b 61) (λ h. low_on (low_over (low_is 61 b refl h))) (λ h. low_back refl)))
step_low str k b =
    if_move (eqb b 34) (λ h. low_on (low_over (low_is 34 b refl h))) (λ h.
    if_move (eqb b 10) (λ h. low_on low_bad) (λ h. if_move (eqb b 92) (λ h. low_on (held_go refl)) (λ h. low_on (held_go refl))))
step_low esc k b = if_move (is_escape b) (λ h. low_on (held_go refl)) (λ h. low_on low_bad)
step_low (two x) k b =
    if_move (eqb (two_sign x b) Kinds.Eof) (λ h. if_move (is_lone x) (λ l. low_on low_bad) (λ l. low_back refl)) (λ h.
    low_on (low_over (low_two x b h)))
step_low (name w) k b = if_move (is_word b) (λ h. low_on (low_go (low_word b h))) (λ h. low_back refl)
step_low (zer n) k b =
    if_move (eqb b 120) (λ h. low_on (low_go (low_is 120 b refl h))) (λ h.
    if_move (is_digit b) (λ h. low_on (low_go (low_digit b h))) (λ h. number_low (zer n) b n 0 refl))
step_low (hex0 n) k b = if_move (is_hex_digit b) (λ h. low_on (low_go (low_hex b h))) (λ h. low_on low_bad)
step_low (dec n v) k b = if_move (is_digit b) (λ h. low_on (low_go (low_digit b h))) (λ h. number_low (dec n v) b n v refl)
step_low (hex n v) k b = if_move (is_hex_digit b) (λ h. low_on (low_go (low_hex b h))) (λ h. number_low (hex n v) b n v refl)

number_end_low : (st : St) (n : Bool) (v : ℕ) → held st ≡ false → LowLast st (number_end n v)
unfolding number_end
number_end_low st n v h = if_last (leb v largest) (low_ended h) low_cut

finish_low : (st : St) (k : ℕ) → LowLast st (finish st k)
unfolding finish held
finish_low gap k = low_clean
finish_low slash k = low_ended refl
finish_low line k = low_clean
finish_low block k = low_cut
finish_low star k = low_cut
finish_low minus k = low_ended refl
finish_low str k = low_cut
finish_low esc k = low_cut
finish_low (two x) k = if_last (is_lone x) low_cut (low_ended refl)
finish_low (name w) k = low_ended refl
finish_low (zer n) k = number_end_low (zer n) n 0 refl
finish_low (hex0 n) k = low_cut
finish_low (dec n v) k = number_end_low (dec n v) n v refl
finish_low (hex n v) k = number_end_low (hex n v) n v refl

-- ---- the scan

module _ (T : List ℕ) where
  -- a byte below 128 stands at m
  pub record Low (m : ℕ) : Type 0 where
    pub byte : ℕ
    pub rest : List ℕ
    pub at : At T (byte ∷ rest) m
    pub low : byte < 128

  -- one stands at a row's start, and one before its end; or the row is Eof
  pub data Closed : Reading → Type 0 where
    closed_row : {r : Row} {l : Reading} {m : ℕ} → Low r.start → Low m → r.end ≡ suc m → Closed l → Closed (put r l)
    closed_eof : {r : Row} → r.start ≡ length T → r.end ≡ length T → Closed (put r ends)
    closed_stops : {why : Lexical} {p : Cursor} {d : ℕ} → Closed (stops why p d)

  -- what the byte behind k bytes since the mark t leads to
  data Taken (t b : ℕ) : First → Type 0 where
    taken_go : {st : St} → Low t → (held st ≡ false → b < 128) → Taken t b (go st)
    taken_clear : Taken t b clear
    taken_over : {x : Token} → Low t → b < 128 → Taken t b (over x)
    taken_bad : {why : Lexical} {x : Spot} → Taken t b (bad why x)

  of_first : {t b : ℕ} {x : First} → Low t → LowFirst b x → Taken t b x
  of_first l (low_go h) = taken_go l (λ e. h)
  of_first l (held_go h) = taken_go l (λ e. absurd (true≢false (sym h ∙ e)))
  of_first l low_clear = taken_clear
  of_first l (low_over h) = taken_over l h
  of_first l low_bad = taken_bad

  of_begin : {t b : ℕ} {x : First} → (b < 128 → Low t) → LowBegin b x → Taken t b x
  of_begin l (begin_go h) = taken_go (l h) (λ e. h)
  of_begin l begin_clear = taken_clear
  of_begin l (begin_over h) = taken_over (l h) h
  of_begin l begin_bad = taken_bad

  -- in a gap; or behind suc k bytes since the mark, of which the last is below 128 unless it is in a comment or string
  data Marked (t : ℕ) : St → ℕ → Type 0 where
    none : Marked t gap 0
    grown : {st : St} {k : ℕ} → Low t → (held st ≡ false → Low (t + k)) → Marked t st (suc k)

  closed_token : (c : ℕ) (x : Token) (t k : ℕ) (l : Reading) → Low t → Low (t + k) → Closed l
      → Closed (put (row_at (place_at T t) c x.kind (t + suc k) x.bits) l)
  unfolding row_at place_at
  closed_token c x t k l f g y =
      let e : t + suc k ≡ suc (t + k) = omega arith in
      closed_row {r = row_at (place_at T t) c x.kind (t + suc k) x.bits} f g e y

  closed_end : (c n : ℕ) → n ≡ length T → Closed (put (eof_row (place_at T n) c) ends)
  unfolding eof_row row_at place_at
  closed_end c n e = closed_eof {r = eof_row (place_at T n) c} e e

  module _ (s : List ℕ) (r : (c t k : ℕ) → St → Reading)
      (ih : (c t k : ℕ) (st : St) → t + k + length s ≡ length T → At T s (t + k) → Marked t st k → Closed (r c t k st)) where
    -- behind a piece whose last byte is b
    next_closed : (c n k b : ℕ) → n + k + suc (length s) ≡ length T → At T (b ∷ s) (n + k) → Closed (r c (n + suc k) 0 gap)
    next_closed c n k b e d = ih c (n + suc k) 0 gap (omega arith) (at_next d (omega arith)) none

    after_closed : (c t k b : ℕ) (x : First) → t + k + suc (length s) ≡ length T → At T (b ∷ s) (t + k) → Taken t b x
        → Closed (after (place_at T) r c t k x)
    unfolding after
    after_closed c t k b (go st) e d (taken_go l h) =
        ih c t (suc k) st (omega arith) (at_next d (omega arith)) (grown l (λ f. record { byte = b; rest = s; at = d; low = h f }))
    after_closed c t k b clear e d taken_clear = next_closed (passed c k) t k b e d
    after_closed c t k b (over x) e d (taken_over l h) =
        closed_token c x t k _ l (record { byte = b; rest = s; at = d; low = h }) (next_closed 0 t k b e d)
    after_closed c t k b (bad why x) e d taken_bad = closed_stops

    begin_closed : (b c n : ℕ) → n + suc (length s) ≡ length T → At T (b ∷ s) n → Closed (after (place_at T) r c n 0 (begin b))
    begin_closed b c n e d =
        after_closed c n 0 b (begin b) (omega arith) (at_same d (omega arith))
        (of_begin (λ h. record { byte = b; rest = s; at = d; low = h }) (begin_low b))

    move_closed : (b c t k : ℕ) (st : St) (m : Move) → t + suc k + suc (length s) ≡ length T → At T (b ∷ s) (t + suc k) → Low t
        → (held st ≡ false → Low (t + k)) → LowMove st b m
        → Closed (move (place_at T) r b c t (suc k) m)
    unfolding move
    move_closed b c t k st fresh e d l h low_fresh = begin_closed b (passed c (suc k)) (t + suc k) e d
    move_closed b c t k st (on x) e d l h (low_on f) = after_closed c t (suc k) b x e d (of_first l f)
    move_closed b c t k st (back x) e d l h (low_back f) = closed_token c x t k _ l (h f) (begin_closed b 0 (t + suc k) e d)

  close_closed : (c t k : ℕ) (st : St) (x : Last) → t + suc k ≡ length T → Low t → (held st ≡ false → Low (t + k)) → LowLast st x
      → Closed (close (place_at T) c t (suc k) x)
  unfolding close
  close_closed c t k st clean e l h low_clean = closed_end (passed c (suc k)) (t + suc k) e
  close_closed c t k st (ended x) e l h (low_ended f) = closed_token c x t k _ l (h f) (closed_end 0 (t + suc k) e)
  close_closed c t k st (cut why x) e l h low_cut = closed_stops

  run_closed : (s : List ℕ) (c t k : ℕ) (st : St) → t + k + length s ≡ length T → At T s (t + k) → Marked t st k
      → Closed (run (place_at T) s c t k st)
  unfolding run move close step finish
  run_closed [] c t k st e d none = closed_end (passed c 0) (t + 0) (omega arith)
  run_closed [] c t k st e d (grown {k = j} l h) = close_closed c t j st (finish st (suc j)) (omega arith) l h (finish_low st (suc j))
  run_closed (b ∷ s) c t k st e d none = begin_closed s (run (place_at T) s) (run_closed s) b (passed c 0) (t + 0) (omega arith) d
  run_closed (b ∷ s) c t k st e d (grown {k = j} l h) =
      move_closed s (run (place_at T) s) (run_closed s) b c t j st (step st (suc j) b) e d l h (step_low st (suc j) b)

  bytes_closed : Closed (scan_bytes T)
  unfolding scan_bytes
  bytes_closed = run_closed T 0 0 0 gap (omega arith) (record { text = refl }) none

  pub scan_closed : Closed (scan T)
  scan_closed = rw (same_scan T) at bytes_closed

-- ---- in a valid text

-- a place between characters: what stands before it is valid
abbrev pub Between : List ℕ → ℕ → Type 0
Between t m = valid (take m t) ≡ true

not_tail : (b : ℕ) → b < 128 → is_tail b ≡ false
not_tail b h = rw (lt-leb 0x80 b h)

module _ (t : List ℕ) (v : valid t ≡ true) where
  between_all : Between t (length t)
  between_all = rw (take-length t) v

  low_text : {m : ℕ} (l : Low t m) → t ≡ take m t ++ (l.byte ∷ l.rest)
  low_text {m} l = sym (take-append-drop m t) ∙ ap (λ (s : List ℕ). take m t ++ s) l.at.text

  low_before : {m : ℕ} → Low t m → Between t m
  low_before {m} l = (valid_sides (take m t) l.byte l.rest (not_tail l.byte l.low) (rw (low_text l) at v)).0

  low_behind : {m : ℕ} → Low t m → Between t (suc m)
  low_behind {m} l =
      let e : take (suc m) t ≡ take m t ++ (l.byte ∷ []) = rw (← add-one m, take-add m 1 t, l.at.text) in
      rw e (valid_both (take m t) (l.byte ∷ []) (low_before l) (valid_one l.byte l.low))

  -- Rows start and end between characters.
  pub data Parts : Reading → Type 0 where
    part : {r : Row} {l : Reading} → Between t r.start → Between t r.end → Parts l → Parts (put r l)
    parts_end : Parts ends
    parts_stop : {why : Lexical} {p : Cursor} {d : ℕ} → Parts (stops why p d)

  closed_parts : {l : Reading} → Closed t l → Parts l
  closed_parts (closed_row {r} f g e c) = part {r = r} (low_before f) (rw e (low_behind g)) (closed_parts c)
  closed_parts (closed_eof {r} e f) = part {r = r} (rw e between_all) (rw f between_all) parts_end
  closed_parts closed_stops = parts_stop

  pub rows_between : Parts (scan t)
  rows_between = closed_parts (scan_closed t)

  -- Reading restarts between two, wherever the edit stands.
  last_between : (a : ℕ) (c : Cursor) {l : Reading} → Between t c.offset.0 → Parts l
      → Between t (last_end c (kept a (read_rows l))).offset.0
  unfolding last_end kept end_place read_rows
  last_between a c h (part {r} {l} f g p) = by (ltb r.end a) (last_between a (end_place r) g p)
    where
      by : (q : Bool) → Between t (last_end (end_place r) (kept a (read_rows l))).offset.0
          → Between t (last_end c (cond q (r ∷ kept a (read_rows l)) [])).offset.0
      by true ih = ih
      by false ih = h
  last_between a c h parts_end = h
  last_between a c h parts_stop = h

  pub restart_between : (a : ℕ) → Between t (restart (read_rows (scan t)) a).offset.0
  unfolding restart
  restart_between a = last_between a start_place valid_nil rows_between
