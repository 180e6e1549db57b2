-- Laws of a row: the range of its kind, its value, differences around 2^64, its test behind another row, and its words in memory.
use Rattle.std.proofs.Common.{◌≡◌, ℕ, ◌+◌, ◌-◌, ◌*◌, ◌/◌, ◌%◌, ◌^◌, ◌<◌, ◌≤◌, Bool, true, false, not, ◌&&◌, ◌||◌, eqb, ltb, leb, List, get_or, drop, sym, refl, ◌∙◌, arith, get_or-drop, le-ltb, eq-eqb, ne_eqb, eqb-true, le-leb, leb-true}
use mathlib.Core.Bool.{and-true, and-false}
use native.Mathlib.Decide.{ℕ_discrete, dec_le}
use borrow.Author.Tests.{lt-leb, not-true}
use Rattle.rules.specs.Text.{within}
use Rattle.rules.specs.Kinds.{Number, Eof, is_made}
use Rattle.rules.specs.Rows.{Row, row_in, row_place, length_fits, spans_fit, value_fits, value_bits, place_fits, lines_fit, row_fits, follows, gap_fits, is_eof}
use Rattle.rows.specs.Shape.{LengthTable, fits_after, stands_on}
use Rattle.laws.proofs.Tests.{false_by, both_true, same_bool}
use Rattle.rows.proofs.Inside.{sound, plain_kind}
use Rattle.rows.proofs.Lengths.{span_fits}

pub made_le : (k : ℕ) → is_made k ≡ true → k ≤ 52
unfolding is_made
made_le k e = leb-true k 52 (both_true (leb k 52) (not (within 16 20 k)) e).0

-- both words are zero
no_bits : (h l : ℕ) → eqb (h * 4294967296 + l) 0 ≡ (eqb l 0 && eqb h 0)
no_bits h l = go (ℕ_discrete l 0) (ℕ_discrete h 0)
  where
    go : Dec (l ≡ 0) → Dec (h ≡ 0) → eqb (h * 4294967296 + l) 0 ≡ (eqb l 0 && eqb h 0)
    go (yes p) (yes q) = rw (p, q)
    go (yes p) (no q) = rw (ne_eqb (h * 4294967296 + l) 0 (λ r. q (omega arith)), ne_eqb h 0 q, eq-eqb l 0 p)
    go (no p) q = rw (ne_eqb (h * 4294967296 + l) 0 (λ r. p (omega arith)), ne_eqb l 0 p)

-- zero is not the least value
not_least : (b : ℕ) → (not (eqb b 9223372036854775808) && eqb b 0) ≡ eqb b 0
not_least b = go (ℕ_discrete b 9223372036854775808)
  where
    go : Dec (b ≡ 9223372036854775808) → (not (eqb b 9223372036854775808) && eqb b 0) ≡ eqb b 0
    go (yes p) = rw p
    go (no p) = rw (ne_eqb b 9223372036854775808 p)

pub value_fits_lem : (r : Row) →
    let b = r.high * 4294967296 + r.low in
    (not (eqb b 9223372036854775808) && (eqb r.kind Number || eqb b 0)) ≡ value_fits r
unfolding value_fits value_bits
value_fits_lem r = go (ℕ_discrete r.kind Number)
  where
    b : ℕ
    b = r.high * 4294967296 + r.low

    go : Dec (r.kind ≡ Number) → (not (eqb b 9223372036854775808) && (eqb r.kind Number || eqb b 0)) ≡ value_fits r
    go (yes p) = rw (eq-eqb r.kind Number p) (and-true (not (eqb b 9223372036854775808)))
    go (no p) = rw (ne_eqb r.kind Number p) (not_least b ∙ no_bits r.high r.low)

-- ---- differences around 2^64

-- r is what y added to wraps back to x: the difference where there is one, and else larger than every word
module _ (x y r : ℕ) (small : x < 2 ^ 33) (lesser : y < 2 ^ 33) (word : r < 2 ^ 64) (wraps : (r + y) % 2 ^ 64 ≡ x) where
  over_is : y ≤ x → r ≡ x - y
  over_is h = omega arith

  over_large : x < y → 2 ^ 63 ≤ r
  over_large h = omega arith

  module _ (z : ℕ) (bound : z < 2 ^ 63) where
    pub over_le : leb r z ≡ (leb y x && leb (x - y) z)
    over_le = go (dec_le y x)
      where
        go : Dec (y ≤ x) → leb r z ≡ (leb y x && leb (x - y) z)
        go (yes p) = rw (le-leb y x p, over_is p)
        go (no p) = rw (lt-leb y x (omega arith), lt-leb r z (omega (arith, over_large (omega arith))))

    pub over_lt : ltb r z ≡ (leb y x && ltb (x - y) z)
    over_lt = go (dec_le y x)
      where
        go : Dec (y ≤ x) → ltb r z ≡ (leb y x && ltb (x - y) z)
        go (yes p) = rw (le-leb y x p, over_is p)
        go (no p) = rw (lt-leb y x (omega arith), le-ltb r z (omega (arith, over_large (omega arith))))

-- a difference around 2^64 and what was taken away make up what it was taken from
pub wraps : (x y : ℕ) → x < 2 ^ 64 → y < 2 ^ 64 → ((x + (2 ^ 64 - y)) % 2 ^ 64 + y) % 2 ^ 64 ≡ x
wraps x y h k = omega arith

-- a difference from 1, not over z, tells that a word is 1 or more and at most z + 1
pub from_one : (x r z : ℕ) → x < 2 ^ 32 → z < 2 ^ 32 → r < 2 ^ 64 → (r + 1) % 2 ^ 64 ≡ x → leb r z ≡ (leb 1 x && leb x (z + 1))
from_one x r z small bound word wraps =
    over_le x 1 r (omega arith) (omega arith) word wraps z (omega arith) ∙ go (dec_le 1 x)
  where
    go : Dec (1 ≤ x) → (leb 1 x && leb (x - 1) z) ≡ (leb 1 x && leb x (z + 1))
    go (yes p) =
        rw (le-leb 1 x p)
        (same_bool (leb (x - 1) z) (leb x (z + 1)) (λ a. le-leb x (z + 1) (omega (arith, leb-true (x - 1) z a)))
        (λ a. le-leb (x - 1) z (omega (arith, leb-true x (z + 1) a))))
    go (no p) = rw (lt-leb 1 x (omega arith))

-- two differences are one just where the sums crosswise are one
pub over_same : (x y r u v s : ℕ) → x < 2 ^ 32 → y < 2 ^ 32 → u < 2 ^ 32 → v < 2 ^ 32 → r < 2 ^ 64 → s < 2 ^ 64 →
    (r + y) % 2 ^ 64 ≡ x → (s + v) % 2 ^ 64 ≡ u → eqb r s ≡ eqb (x + v) (u + y)
over_same x y r u v s hx hy hu hv hr hs e f =
    same_bool (eqb r s) (eqb (x + v) (u + y)) (λ a. eq-eqb (x + v) (u + y) (sums (eqb-true r s a)))
    (λ a. eq-eqb r s (ones (eqb-true (x + v) (u + y) a)))
  where
    sums : r ≡ s → x + v ≡ u + y
    sums a = omega arith

    ones : x + v ≡ u + y → r ≡ s
    ones a = omega arith

-- ---- a row behind row r

pub eqb_swap : (x y : ℕ) → eqb x y ≡ eqb y x
eqb_swap x y = go (ℕ_discrete x y)
  where
    go : Dec (x ≡ y) → eqb x y ≡ eqb y x
    go (yes p) = rw p
    go (no p) = rw (ne_eqb x y p, ne_eqb y x (λ q. p (sym q)))

-- the parts of both tests, in the order in which they are made
regroup : (v m s l a c b g o j k : Bool) → g ≡ (o && k) →
    (((((v && (m && s)) && (l && a)) && (c && b)) && g) && j) ≡ (((m && v) && (s && ((l && c) && (a && b)))) && ((o && j) && k))
regroup false false s l a c b g o j k f = refl
regroup false true s l a c b g o j k f = refl
regroup true false s l a c b g o j k f = refl
regroup true true false l a c b g o j k f = refl
regroup true true true false a c b g o j k f = refl
regroup true true true true false false b g o j k f = refl
regroup true true true true false true b g o j k f = refl
regroup true true true true true false b g o j k f = refl
regroup true true true true true true false g o j k f = refl
regroup true true true true true true true g o j k f = rw f (go o j)
  where
    go : (o j : Bool) → ((o && k) && j) ≡ ((o && j) && k)
    go false j = refl
    go true false = and-false k
    go true true = and-true k

-- the gap between e and s has room for c comments, of two bytes each or more
gap_fits_lem : (e c s : ℕ) → leb (e + c * 2) s ≡ (leb e s && leb c ((s - e) / 2))
gap_fits_lem e c s = go (dec_le e s)
  where
    go : Dec (e ≤ s) → leb (e + c * 2) s ≡ (leb e s && leb c ((s - e) / 2))
    go (yes p) =
        rw (le-leb e s p)
        (same_bool (leb (e + c * 2) s) (leb c ((s - e) / 2)) (λ a. le-leb c ((s - e) / 2) (omega (arith, leb-true (e + c * 2) s a)))
        (λ a. le-leb (e + c * 2) s (omega (arith, leb-true c ((s - e) / 2) a))))
    go (no p) = rw (lt-leb (e + c * 2) s (omega arith), lt-leb e s (omega arith))

-- over, line and column are what the row's end has over its shortest one, and its line and its column over 1, around 2^64
pub row_stands : {ls ss : List ℕ} → LengthTable ls ss → (r q : Row) (over line column : ℕ) →
    let low = get_or ls q.kind 0 in
    let span = get_or ss q.kind 0 in
    q.kind ≤ 52 → q.start < 2 ^ 32 → q.end < 2 ^ 32 → q.line < 2 ^ 32 → q.column < 2 ^ 32 → low < 2 ^ 32 → span < 2 ^ 32 →
    over < 2 ^ 64 → line < 2 ^ 64 → column < 2 ^ 64 →
    (over + (q.start + low)) % 2 ^ 64 ≡ q.end → (line + 1) % 2 ^ 64 ≡ q.line → (column + 1) % 2 ^ 64 ≡ q.column →
    (((((value_fits q && ltb over span) && leb line q.start) && leb column q.start) && leb (r.end + q.comments * 2) q.start)
    && lines_fit (row_place r) (row_place q))
    ≡ (row_fits q && fits_after r q)
unfolding row_fits spans_fit place_fits row_place follows fits_after gap_fits
row_stands {ls} {ss} t r q over line column k hs he hl hc lo sp wo wl wc eo el ec =
    let low = get_or ls q.kind 0 in
    let span = get_or ss q.kind 0 in
    rw (
      over_lt q.end (q.start + low) over (omega arith) (omega arith) wo eo span (omega arith),
      span_fits t q.kind q.start q.end k he,
      from_one q.line line q.start hl hs wl el,
      from_one q.column column q.start hc hs wc ec,
    )
    (regroup (value_fits q) (is_made q.kind) (leb q.start q.end && length_fits q.kind (q.end - q.start))
    (leb 1 q.line) (leb q.line (q.start + 1)) (leb 1 q.column) (leb q.column (q.start + 1))
    (leb (r.end + q.comments * 2) q.start) (leb r.end q.start)
    (lines_fit (row_place r) (row_place q)) (leb q.comments ((q.start - r.end) / 2)) (gap_fits_lem r.end q.comments q.start))

-- a kind over Eof is not made, and Eof is no kind of a row that stands
pub stands_on_out : (r q : Row) → Eof ≤ q.kind → stands_on r q ≡ false
unfolding stands_on
stands_on_out r q h = false_by (stands_on r q) out
  where
    out : stands_on r q ≡ true → ⊥
    out s =
        let a = both_true (not (is_eof q)) (row_fits q && fits_after r q) s in
        let f = (both_true (row_fits q) (fits_after r q) a.1).0 in
        plain_kind q (not-true (is_eof q) a.0) (omega (arith, made_le q.kind (sound q f).made))

pub stands_on_plain : (r q : Row) → q.kind < Eof → (row_fits q && fits_after r q) ≡ stands_on r q
unfolding stands_on is_eof
stands_on_plain r q h = rw (ne_eqb q.kind Eof (λ e. omega arith))

-- ---- the words of row i

module _ (ws : List ℕ) (i : ℕ) where
  word : (k m : ℕ) → 8 * i + k ≡ m → get_or ws m 0 ≡ get_or (drop (8 * i) ws) k 0
  word k m e = rw (← e) (sym (get_or-drop (8 * i) ws k 0))

  -- the eight words of row i
  pub row_words : record {
    kind = get_or ws (i * 8 + 0) 0;
    start = get_or ws (i * 8 + 1) 0;
    end = get_or ws (i * 8 + 2) 0;
    line = get_or ws (i * 8 + 3) 0;
    column = get_or ws (i * 8 + 4) 0;
    low = get_or ws (i * 8 + 5) 0;
    high = get_or ws (i * 8 + 6) 0;
    comments = get_or ws (i * 8 + 7) 0;
  } ≡ row_in (drop (8 * i) ws)
  unfolding row_in
  row_words j = record {
    kind = word 0 (i * 8 + 0) (omega arith) j;
    start = word 1 (i * 8 + 1) (omega arith) j;
    end = word 2 (i * 8 + 2) (omega arith) j;
    line = word 3 (i * 8 + 3) (omega arith) j;
    column = word 4 (i * 8 + 4) (omega arith) j;
    low = word 5 (i * 8 + 5) (omega arith) j;
    high = word 6 (i * 8 + 6) (omega arith) j;
    comments = word 7 (i * 8 + 7) (omega arith) j;
  }
