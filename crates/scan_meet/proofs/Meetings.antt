-- The old rows from a start on, by a pointer that only moves forward.
use mathlib.Core.Path.{◌≡◌, refl, sym, ap, ◌∙◌}
use mathlib.Core.Bool.{true, false, ◌&&◌, and-false}
use Rattle.std.specs.Prelude.{Ok, Err}
use mathlib.Core.List.{List, [], ◌∷◌}
use Prim.Native.Nat.{ℕ, zero, suc, ◌+◌, ◌-◌, ◌≤◌, ◌<◌}
use native.Mathlib.Nat.{le_of_suc-le-suc}
use native.Mathlib.Decide.{dec_le, ℕ_discrete}
use native.Mathlib.Omega.{arith}
use lib.ListN.{length, drop, get_or, length-drop}
use lib.Seq.{drop-cons, get_or-drop}
use lib.Dec.{eqb, ltb}
use borrow.Author.Tests.{eq-eqb, ne_eqb, eqb-false, le-leb, lt-leb, lt-ltb, le-ltb}
use Rattle.rules.specs.Rows.{Row, row_in, rows_in}
use Rattle.rules.specs.Edit.{from, some, opens}
use Rattle.rows.specs.Shape.{row_no}
use Rattle.laws.proofs.Rows.{rows_length, rows_at}
use Rattle.scan_meet.specs.Meeting.{Rising, Passed, Sought, meets_at, stops_at, Finds}

-- one row more starts below x
pub below_step : (ws : List ℕ) (row x i : ℕ) → ((j : ℕ) → row ≤ j → j < i → (row_no ws j).start < x) → (row_no ws i).start < x →
    (j : ℕ) → row ≤ j → j < i + 1 → (row_no ws j).start < x
below_step ws row x i f e j h l = pick (ℕ_discrete j i)
  where
    pick : Dec (j ≡ i) → (row_no ws j).start < x
    pick (yes p) = rw p e
    pick (no p) = f j h (lt_of_ne p)
      where
        lt_of_ne : (j ≡ i → ⊥) → j < i
        lt_of_ne p = omega arith

-- ---- the rows from a start on

-- rows that start elsewhere are passed
from_passed : (m : ℕ) (d : Row) (j : ℕ) (rs : List Row) → j ≤ length rs → ((i : ℕ) → i < j → (get_or rs i d).start ≡ m → ⊥) → from m rs ≡ from m (drop j rs)
unfolding from
from_passed m d zero rs h f = refl
from_passed m d (suc j) [] h f = refl
from_passed m d (suc j) (r ∷ rs) h f =
    rw (ne_eqb r.start m (f 0 (omega arith))) (from_passed m d j rs (le_of_suc-le-suc h) (λ i l. f (suc i) (omega arith)))

-- none starts there
from_none : (m : ℕ) (d : Row) (rs : List Row) → ((i : ℕ) → i < length rs → (get_or rs i d).start ≡ m → ⊥) → from m rs ≡ []
unfolding from
from_none m d [] f = refl
from_none m d (r ∷ rs) f = rw (ne_eqb r.start m (f 0 (omega arith))) (from_none m d rs (λ i l. f (suc i) (omega arith)))

-- the first starts there
from_first : (m : ℕ) (r : Row) (rs : List Row) → r.start ≡ m → from m (r ∷ rs) ≡ r ∷ rs
unfolding from
from_first m r rs e = rw (eq-eqb r.start m e)

abbrev no_row : Row
no_row = row_in []

module _ (ws : List ℕ) (count : ℕ) (m r : ℕ) (high : r ≤ count) (below : (j : ℕ) → j < r → (row_no ws j).start < m) where
  rows : List Row
  rows = rows_in count ws

  at : (i : ℕ) → i < count → get_or rows i no_row ≡ row_no ws i
  unfolding rows
  at i h = rows_at count ws no_row i h

  many : length rows ≡ count
  unfolding rows
  many = rows_length count ws

  not_before : (i : ℕ) → i < r → (get_or rows i no_row).start ≡ m → ⊥
  not_before i h e = omega (arith, below i h, ap (λ (x : Row). x.start) (at i (omega arith)))

  to_row : from m rows ≡ from m (drop r rows)
  to_row = from_passed m no_row r rows (omega (arith, many)) not_before

  -- row r starts there
  pub from_row : r < count → (row_no ws r).start ≡ m → from m (rows_in count ws) ≡ drop r (rows_in count ws)
  unfolding rows
  from_row h e =
      let l : r < length rows = omega (arith, many) in
      let s : (get_or rows r no_row).start ≡ m = ap (λ (x : Row). x.start) (at r h) ∙ e in
      to_row ∙ rw (drop-cons rows r no_row l) (from_first m (get_or rows r no_row) (drop (suc r) rows) s)

  -- no row starts there
  pub from_no_row : Rising ws count → (r < count → m < (row_no ws r).start) → from m (rows_in count ws) ≡ []
  unfolding rows
  from_no_row rising above = to_row ∙ from_none m no_row (drop r rows) later
    where
      later : (i : ℕ) → i < length (drop r rows) → (get_or (drop r rows) i no_row).start ≡ m → ⊥
      later i h e =
          let l : r + i < count = omega (arith, h, length-drop r rows, many) in
          let s : (row_no ws (r + i)).start ≡ m = ap (λ (x : Row). x.start) (sym (at (r + i) l) ∙ sym (get_or-drop r rows i no_row)) ∙ e in
          omega (arith, rising.rises r (r + i) (omega arith) l, above (omega arith))

-- ---- a turn of the pointer

some_drop : (rs : List Row) (i : ℕ) → i < length rs → some (drop i rs) ≡ true
unfolding some
some_drop rs i h = rw (drop-cons rs i no_row h)

lt_of : {x y : ℕ} → x ≤ y → (y ≡ x → ⊥) → x < y
lt_of {x} {y} h e = pick (dec_le y x)
  where
    pick : Dec (y ≤ x) → x < y
    pick (yes p) = absurd (e (omega arith))
    pick (no p) = omega arith

not_lt : {x y : ℕ} → x < y → y ≤ x → ⊥
not_lt h e = omega arith

module _ (ws : List ℕ) (count least b row k : ℕ) (u : List ℕ) (passed : Passed ws least b row k) where
  -- nothing meets
  stays : row ≤ count → stops_at (rows_in count ws) least b k u ≡ false → Finds ws count least b row k u (Err row)
  stays h e =
      record {
        low = omega arith;
        high = h;
        passed = passed;
        tells = sym e;
        there = λ e. absurd (let z : ◌≡◌ {A = ℕ} 0 1 = cc in omega arith);
      }

  -- before least nothing meets
  pub finds_early : row ≤ count → k < least → Finds ws count least b row k u (Err row)
  unfolding meets_at stops_at
  finds_early h l = stays h (rw (lt-leb least k l) (and-false (ltb 0 (length u))))

  -- nor behind the bytes
  pub finds_late : row ≤ count → length u ≤ 0 → Finds ws count least b row k u (Err row)
  unfolding stops_at
  finds_late h l = stays h (rw (le-ltb 0 (length u) l))

  module _ (l : least ≤ k) (v : 0 < length u) (r : ℕ) (s : Sought ws count row (k + b - least) r) where
    all_below : (j : ℕ) → j < r → (row_no ws j).start < k + b - least
    all_below j h = go (dec_le row j)
      where
        go : Dec (row ≤ j) → (row_no ws j).start < k + b - least
        go (yes p) = s.below j p h
        go (no p) = omega (arith, passed.below j k (not_le p) (omega arith) l)
          where
            not_le : (row ≤ j → ⊥) → j < row
            not_le p = omega arith

    passed_on : Passed ws least b r k
    passed_on = record { below = λ j m h e f. omega (arith, all_below j h) }

    -- a gap goes on
    pub finds_gap : opens u ≡ true → Finds ws count least b row k u (Err r)
    unfolding stops_at
    finds_gap o =
        record {
          low = s.low;
          high = s.high;
          passed = passed_on;
          tells = rw (o, lt-ltb 0 (length u) v) (sym (and-false (meets_at (rows_in count ws) least b k)));
          there = λ e. absurd (let z : ◌≡◌ {A = ℕ} 0 1 = cc in omega arith);
        }

    module _ (o : opens u ≡ false) (rising : Rising ws count) where
      -- row r meets
      pub finds_there : r < count → (row_no ws r).start ≡ k + b - least → Finds ws count least b row k u (Ok r)
      unfolding meets_at stops_at
      finds_there h e =
          let q = from_row ws count (k + b - least) r s.high all_below h e in
          record {
            low = s.low;
            high = s.high;
            passed = passed_on;
            tells = rw (o, q, lt-ltb 0 (length u) v, le-leb least k l, some_drop (rows_in count ws) r (rw (rows_length count ws) h));
            there = λ z. q;
          }

      -- no row does
      finds_none : (r < count → k + b - least < (row_no ws r).start) → Finds ws count least b row k u (Err r)
      unfolding meets_at stops_at some
      finds_none h =
          record {
            low = s.low;
            high = s.high;
            passed = passed_on;
            tells = rw (o, from_no_row ws count (k + b - least) r s.high all_below rising h, lt-ltb 0 (length u) v, le-leb least k l);
            there = λ z. absurd (let y : ◌≡◌ {A = ℕ} 0 1 = cc in omega arith);
          }

      -- no gap goes on, and row r is not there or starts elsewhere
      pub finds_no_row : (ltb r count && eqb (row_no ws r).start (k + b - least)) ≡ false → Finds ws count least b row k u (Err r)
      finds_no_row e = finds_none above
        where
          above : r < count → k + b - least < (row_no ws r).start
          above f =
              lt_of (s.stop f) (eqb-false (row_no ws r).start (k + b - least) (rw (lt-ltb r count f) at e))
