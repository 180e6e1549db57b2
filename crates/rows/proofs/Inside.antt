-- What a well-formed table has: its parts for each number of a row, and that its rows lie inside its length.
use Rattle.std.proofs.Common.{◌≡◌, ℕ, zero, suc, ◌+◌, ◌-◌, ◌*◌, ◌<◌, ◌≤◌, Bool, true, false, not, ◌&&◌, eqb, leb, List, [], length, get_or, sym, refl, ap, true≢false, add-zero, arith, ne_eqb, eqb-true, le-leb, leb-true}
use native.Mathlib.Decide.{dec_le}
use borrow.Author.Tests.{not-true}
use Rattle.rules.specs.declared.Cursor.{Cursor}
use Rattle.rules.specs.declared.Lexical.{Lexical}
use Rattle.rules.specs.Outcomes.{Ending, halt}
use Rattle.std.specs.declared.option.Option.TheVariants.{None, Some}
use Rattle.rules.specs.declared.Table.{Table}
use Rattle.rules.specs.Text
use Rattle.rules.specs.Text.{most_bytes}
use Rattle.rules.specs.Kinds.{Eof, is_made, signs, reserved, length_in}
use Rattle.rules.specs.Rows.{Row, row_in, rows_in, row_place, every, chained, gap_fits, gaps_fit, rows_fit, well_formed, length_fits, spans_fit, value_fits, place_fits, lines_fit, row_fits, follows, last_row, ends_behind, is_eof, ending_fits}
use Rattle.rows.specs.Shape.{row_no, behind}
use Rattle.laws.specs.Tests.{all_below}
use Rattle.laws.proofs.Outcomes.{halt_same}
use Rattle.laws.proofs.Tests.{both_true, true_both, false_by, below}
use Rattle.laws.proofs.Rows.{rows_length, rows_at}
use Rattle.rows.proofs.Lists.{every_at, every_by, chained_at, chained_by, gap_first, gaps_chain, gaps_by, Closed, closed, closes, behind_at, behind_by}

-- ---- a row and its kind

pub plain_kind : (r : Row) → is_eof r ≡ false → r.kind ≡ Eof → ⊥
unfolding is_eof
plain_kind r e = borrow.Author.Tests.eqb-false r.kind Eof e

pub eof_kind : (r : Row) → is_eof r ≡ true → r.kind ≡ Eof
unfolding is_eof
eof_kind r e = eqb-true r.kind Eof e

-- ---- a well-formed table, row by row

-- the ending none: Eof is the last row, at the length n, and no other row
pub record Clean (ws : List ℕ) (count n : ℕ) : Type 0 where
  pub some : 0 < count
  pub middle : (i : ℕ) → suc i < count → is_eof (row_no ws i) ≡ false
  pub last : (i : ℕ) → suc i ≡ count → is_eof (row_no ws i) ≡ true
  pub start : (i : ℕ) → suc i ≡ count → (row_no ws i).start ≡ n

-- a refused ending at p: no row is Eof, and p stands behind the last row, within the length n
pub record Broken (ws : List ℕ) (count n : ℕ) (p : Cursor) : Type 0 where
  pub plain : (i : ℕ) → i < count → is_eof (row_no ws i) ≡ false
  pub within : p.offset.0 ≤ n
  pub place : place_fits p ≡ true
  pub last : (i : ℕ) → suc i ≡ count → behind (row_no ws i) p ≡ true

pub data Ends (ws : List ℕ) (count n : ℕ) : Ending → Type 0 where
  clean : Clean ws count n → Ends ws count n None
  broken : {why : Lexical} {p : Cursor} → Broken ws count n p → Ends ws count n (Some (halt why p))

pub record Fine (ws : List ℕ) (t : Table) : Type 0 where
  pub lent : t.count * 8 ≤ length ws
  pub short : t.length ≤ most_bytes
  pub fit : (i : ℕ) → i < t.count → row_fits (row_no ws i) ≡ true
  pub chain : (i : ℕ) → suc i < t.count → follows (row_no ws i) (row_no ws (suc i)) ≡ true
  pub first : 0 < t.count → gap_fits 0 (row_no ws 0) ≡ true
  pub gaps : (i : ℕ) → suc i < t.count → gap_fits (row_no ws i).end (row_no ws (suc i)) ≡ true
  pub ends : Ends ws t.count t.length t.ending

no_row : Row
no_row = row_in []

-- a fact of each row of the list is one of each number
module _ (ws : List ℕ) (count : ℕ) where
  below_list : {i : ℕ} → i < count → i < length (rows_in count ws)
  below_list h = rw rows_length h

  list_below : {i : ℕ} → i < length (rows_in count ws) → i < count
  list_below h = rw rows_length at h

  last_list : {i : ℕ} → suc i ≡ count → suc i ≡ length (rows_in count ws)
  last_list h = rw rows_length h

  list_last : {i : ℕ} → suc i ≡ length (rows_in count ws) → suc i ≡ count
  list_last h = rw rows_length at h

  at_list : (i : ℕ) → i < count → get_or (rows_in count ws) i no_row ≡ row_no ws i
  at_list i h = rows_at count ws no_row i h

  every_no : (p : Row → Bool) → every p (rows_in count ws) ≡ true → (i : ℕ) → i < count → p (row_no ws i) ≡ true
  every_no p e i h = rw (at_list i h) at (every_at p no_row (rows_in count ws) e i (below_list h))

  no_every : (p : Row → Bool) → ((i : ℕ) → i < count → p (row_no ws i) ≡ true) → every p (rows_in count ws) ≡ true
  no_every p f = every_by p no_row (rows_in count ws) (λ i h. rw (at_list i (list_below h)) (f i (list_below h)))

  chained_no : (p : Row → Row → Bool) → chained p (rows_in count ws) ≡ true → (i : ℕ) → suc i < count → p (row_no ws i) (row_no ws (suc i)) ≡ true
  chained_no p e i h =
      rw (at_list i (omega arith), at_list (suc i) h) at (chained_at p no_row (rows_in count ws) e i (below_list h))

  no_chained : (p : Row → Row → Bool) → ((i : ℕ) → suc i < count → p (row_no ws i) (row_no ws (suc i)) ≡ true) → chained p (rows_in count ws) ≡ true
  no_chained p f =
      chained_by p no_row (rows_in count ws) (λ i h.
      let l = list_below h in
      rw (at_list i (omega arith), at_list (suc i) l) (f i l))

  first_no : gaps_fit 0 (rows_in count ws) ≡ true → 0 < count → gap_fits 0 (row_no ws 0) ≡ true
  first_no e h = rw (at_list 0 h) at (gap_first no_row 0 (rows_in count ws) e (below_list h))

  no_gaps : (0 < count → gap_fits 0 (row_no ws 0) ≡ true) → ((i : ℕ) → suc i < count → gap_fits (row_no ws i).end (row_no ws (suc i)) ≡ true) →
      gaps_fit 0 (rows_in count ws) ≡ true
  no_gaps f g =
      gaps_by no_row 0 (rows_in count ws) (λ h. rw (at_list 0 (list_below h)) (f (list_below h)))
      (no_chained (λ r q. gap_fits r.end q) g)

  closed_no : (n : ℕ) → Closed n no_row (rows_in count ws) → Clean ws count n
  closed_no n c =
      record {
        some = list_below c.some;
        middle = λ i h. rw (at_list i (omega arith)) at (c.middle i (below_list h));
        last = λ i h. rw (at_list i (omega arith)) at (c.last i (last_list h));
        start = λ i h. rw (at_list i (omega arith)) at (c.start i (last_list h));
      }

  no_closed : (n : ℕ) → Clean ws count n → Closed n no_row (rows_in count ws)
  no_closed n c =
      record {
        some = below_list c.some;
        middle = λ i h. let l = list_below h in rw (at_list i (omega arith)) (c.middle i l);
        last = λ i h. let l = list_last h in rw (at_list i (omega arith)) (c.last i l);
        start = λ i h. let l = list_last h in rw (at_list i (omega arith)) (c.start i l);
      }

  -- the ending

  ends_of : (n : ℕ) (e : Ending) → ending_fits n (rows_in count ws) e ≡ true → Ends ws count n e
  unfolding ending_fits
  ends_of n None e = clean (closed_no n (closed n no_row (rows_in count ws) e))
  ends_of n (Some refusal) e =
      let a = both_true (every (λ r. not (is_eof r)) (rows_in count ws)) ((leb refusal.at.offset.0 n && place_fits refusal.at) && ends_behind (last_row (rows_in count ws)) refusal.at) e in
      let b = both_true (leb refusal.at.offset.0 n && place_fits refusal.at) (ends_behind (last_row (rows_in count ws)) refusal.at) a.1 in
      let d = both_true (leb refusal.at.offset.0 n) (place_fits refusal.at) b.0 in
      broken (record {
        plain = λ i h. not-true (is_eof (row_no ws i)) (every_no (λ r. not (is_eof r)) a.0 i h);
        within = leb-true refusal.at.offset.0 n d.0;
        place = d.1;
        last = λ i h. rw (at_list i (omega arith)) at (behind_at refusal.at no_row (rows_in count ws) b.1 i (last_list h));
      })

  of_ends : (n : ℕ) (e : Ending) → Ends ws count n e → ending_fits n (rows_in count ws) e ≡ true
  unfolding ending_fits
  of_ends n None (clean c) = closes n no_row (rows_in count ws) (no_closed n c)
  of_ends n (Some e) (broken b) =
      true_both (no_every (λ r. not (is_eof r)) (λ i h. ap not (b.plain i h)))
      (true_both (true_both (le-leb e.at.offset.0 n b.within) b.place)
      (behind_by e.at no_row (rows_in count ws) (λ i h.
      let l = list_last h in
      rw (at_list i (omega arith)) (b.last i l))))

module _ (ws : List ℕ) (t : Table) where
  pub fine : well_formed ws t ≡ true → Fine ws t
  unfolding well_formed rows_fit
  fine e =
      let rows = rows_in t.count ws in
      let fit = rows_fit t.length rows t.ending in
      let a = both_true (leb (t.count * 8) (length ws) && leb t.length most_bytes) fit e in
      let b = both_true (leb (t.count * 8) (length ws)) (leb t.length most_bytes) a.0 in
      let ends = ending_fits t.length rows t.ending in
      let c = both_true (every row_fits rows) (chained follows rows && (gaps_fit 0 rows && ends)) a.1 in
      let d = both_true (chained follows rows) (gaps_fit 0 rows && ends) c.1 in
      let g = both_true (gaps_fit 0 rows) ends d.1 in
      record {
        lent = leb-true (t.count * 8) (length ws) b.0;
        short = leb-true t.length most_bytes b.1;
        fit = every_no ws t.count row_fits c.0;
        chain = chained_no ws t.count follows d.0;
        first = first_no ws t.count g.0;
        gaps = chained_no ws t.count (λ r q. gap_fits r.end q) (gaps_chain no_row 0 rows g.0);
        ends = ends_of ws t.count t.length t.ending g.1;
      }

  pub well : Fine ws t → well_formed ws t ≡ true
  unfolding well_formed rows_fit
  well f =
      let rows = rows_in t.count ws in
      let fit = rows_fit t.length rows t.ending in
      true_both (true_both (le-leb (t.count * 8) (length ws) f.lent) (le-leb t.length most_bytes f.short))
      (true_both (no_every ws t.count row_fits f.fit)
      (true_both (no_chained ws t.count follows f.chain)
      (true_both (no_gaps ws t.count f.first f.gaps)
      (of_ends ws t.count t.length t.ending f.ends))))

-- ---- a row that fits

-- the row's own fields: its kind is made, it starts before its end, at a line and a column of 1 or more and at most its start + 1
pub record Sound (r : Row) : Type 0 where
  pub made : is_made r.kind ≡ true
  pub value : value_fits r ≡ true
  pub ordered : r.start ≤ r.end
  pub long : length_fits r.kind (r.end - r.start) ≡ true
  pub line_low : 1 ≤ r.line
  pub column_low : 1 ≤ r.column
  pub line_high : r.line ≤ r.start + 1
  pub column_high : r.column ≤ r.start + 1

pub sound : (r : Row) → row_fits r ≡ true → Sound r
unfolding row_fits spans_fit place_fits row_place
sound r e =
    let span = leb r.start r.end && length_fits r.kind (r.end - r.start) in
    let low = leb 1 r.line && leb 1 r.column in
    let high = leb r.line (r.start + 1) && leb r.column (r.start + 1) in
    let a = both_true (is_made r.kind && value_fits r) (span && (low && high)) e in
    let b = both_true (is_made r.kind) (value_fits r) a.0 in
    let d = both_true span (low && high) a.1 in
    let s = both_true (leb r.start r.end) (length_fits r.kind (r.end - r.start)) d.0 in
    let p = both_true low high d.1 in
    let l = both_true (leb 1 r.line) (leb 1 r.column) p.0 in
    let h = both_true (leb r.line (r.start + 1)) (leb r.column (r.start + 1)) p.1 in
    record {
      made = b.0;
      value = b.1;
      ordered = leb-true r.start r.end s.0;
      long = s.1;
      line_low = leb-true 1 r.line l.0;
      column_low = leb-true 1 r.column l.1;
      line_high = leb-true r.line (r.start + 1) h.0;
      column_high = leb-true r.column (r.start + 1) h.1;
    }

-- Eof has no bytes
eof_empty : (r : Row) → Sound r → r.kind ≡ Eof → r.end ≡ r.start
unfolding length_fits
eof_empty r s e =
    let z : r.end - r.start ≡ 0 = eqb-true (r.end - r.start) 0 (rw e at s.long) in
    omega (arith, s.ordered)

-- every row but Eof has a byte or more
has_bytes : ℕ → Bool
has_bytes k = not ((is_made k && not (eqb k Eof)) && length_fits k 0)

all_bytes : all_below has_bytes 53 ≡ true
unfolding has_bytes is_made length_fits signs reserved length_in
all_bytes = refl

long_row : (r : Row) → Sound r → (r.kind ≡ Eof → ⊥) → r.start < r.end
unfolding has_bytes is_made
long_row r s e = pick (dec_le r.end r.start)
  where
    made : r.kind ≤ 52
    made = leb-true r.kind 52 (both_true (leb r.kind 52) (not (Text.within 16 20 r.kind)) s.made).0

    empty : r.end ≤ r.start → length_fits r.kind 0 ≡ true
    empty h = let z : r.end - r.start ≡ 0 = omega arith in rw z at s.long

    never : (is_made r.kind && not (eqb r.kind Eof)) ≡ true → length_fits r.kind 0 ≡ true → not ((is_made r.kind && not (eqb r.kind Eof)) && length_fits r.kind 0) ≡ true → ⊥
    never f g h = true≢false (sym (rw (f, g) at h))

    pick : Dec (r.end ≤ r.start) → r.start < r.end
    pick (yes h) = absurd (never (rw (s.made, ne_eqb r.kind Eof e)) (empty h) (below has_bytes 53 all_bytes r.kind (omega (arith, made))))
    pick (no h) = omega arith

follow_ends : (r q : Row) → follows r q ≡ true → r.end ≤ q.start
unfolding follows
follow_ends r q e = leb-true r.end q.start (both_true (leb r.end q.start) (lines_fit (row_place r) (row_place q)) e).0

pub behind_ends : (r : Row) (p : Cursor) → behind r p ≡ true → r.end ≤ p.offset.0
unfolding behind
behind_ends r p e = leb-true r.end p.offset.0 (both_true (leb r.end p.offset.0) (lines_fit (row_place r) p) e).0

-- ---- the rows of a well-formed table

module _ {ws : List ℕ} {t : Table} (f : Fine ws t) where
  pub row_sound : (i : ℕ) → i < t.count → Sound (row_no ws i)
  row_sound i h = sound (row_no ws i) (f.fit i h)

  -- rows stand in order
  pub in_order : (i k : ℕ) → suc (i + k) < t.count → (row_no ws i).end ≤ (row_no ws (suc (i + k))).start
  in_order i zero h = rw add-zero (follow_ends (row_no ws i) (row_no ws (suc i)) (f.chain i (omega arith)))
  in_order i (suc k) h =
      let e : i + suc k ≡ suc (i + k) = omega arith in
      rw e
      (omega (arith, in_order i k (omega arith), (row_sound (suc (i + k)) (omega arith)).ordered, follow_ends (row_no ws (suc (i + k))) (row_no ws (suc (suc (i + k)))) (f.chain (suc (i + k)) (omega arith))))

  last_within : (i : ℕ) → suc i ≡ t.count → (row_no ws i).end ≤ t.length
  last_within i h = go t.ending f.ends
    where
      go : (e : Ending) → Ends ws t.count t.length e → (row_no ws i).end ≤ t.length
      go None (clean c) =
          omega (arith, eof_empty (row_no ws i) (row_sound i (omega arith)) (eof_kind (row_no ws i) (c.last i h)), c.start i h)
      go (Some e) (broken b) = omega (arith, b.within, behind_ends (row_no ws i) e.at (b.last i h))

  -- every row ends within the length
  pub within : (i : ℕ) → i < t.count → (row_no ws i).end ≤ t.length
  within i h = go (t.count - suc i) (omega arith)
    where
      go : (k : ℕ) → suc i + k ≡ t.count → (row_no ws i).end ≤ t.length
      go zero e = last_within i (omega arith)
      go (suc k) e =
          omega (arith, in_order i k (omega arith), (row_sound (suc (i + k)) (omega arith)).ordered, last_within (suc (i + k)) (omega arith))

  -- no row but the last is Eof
  pub middle_plain : (i : ℕ) → suc i < t.count → (row_no ws i).kind ≡ Eof → ⊥
  middle_plain i h = go t.ending f.ends
    where
      go : (e : Ending) → Ends ws t.count t.length e → (row_no ws i).kind ≡ Eof → ⊥
      go None (clean c) = plain_kind (row_no ws i) (c.middle i h)
      go (Some e) (broken b) = plain_kind (row_no ws i) (b.plain i (omega arith))

  -- each row but the last has a byte, so row i starts at i or later
  start_least : (i : ℕ) → i < t.count → i ≤ (row_no ws i).start
  start_least zero h = omega arith
  start_least (suc i) h =
      omega (arith, start_least i (omega arith), long_row (row_no ws i) (row_sound i (omega arith)) (middle_plain i h), rw add-zero at (in_order i 0 (rw add-zero h)))

  -- there are no more rows than bytes, and one
  pub few_rows : t.count ≤ t.length + 1
  few_rows = pick t.count refl
    where
      pick : (n : ℕ) → t.count ≡ n → n ≤ t.length + 1
      pick zero e = omega arith
      pick (suc n) e = omega (arith, start_least n (omega arith), (row_sound n (omega arith)).ordered, within n (omega arith))

  -- where the ending is none: there is a row, the last row is Eof, at the length
  pub clean_of : t.ending ≡ None → Clean ws t.count t.length
  clean_of e = go t.ending e f.ends
    where
      go : (x : Ending) → x ≡ None → Ends ws t.count t.length x → Clean ws t.count t.length
      go None q (clean c) = c
      go (Some e) q b = absurd (let z : ◌≡◌ {A = ℕ} 0 1 = cc in omega arith)

  -- where the ending is refused at p: no row is Eof, and p stands behind the rows
  pub broken_of : {why : Lexical} {p : Cursor} → t.ending ≡ Some (halt why p) → Broken ws t.count t.length p
  broken_of {why} {p} e = go t.ending e f.ends
    where
      go : (x : Ending) → x ≡ Some (halt why p) → Ends ws t.count t.length x → Broken ws t.count t.length p
      go None q c = absurd (let z : ◌≡◌ {A = ℕ} 0 1 = cc in omega arith)
      go (Some e) q (broken b) = rw (halt_same q).1 at b

  pub last_eof : t.ending ≡ None → (i : ℕ) → suc i ≡ t.count → (row_no ws i).kind ≡ Eof
  last_eof e i h = eof_kind (row_no ws i) ((clean_of e).last i h)

-- the two directions decide the test
pub not_well : (ws : List ℕ) (t : Table) → (Fine ws t → ⊥) → well_formed ws t ≡ false
not_well ws t h = false_by (well_formed ws t) (λ e. h (fine ws t e))
