-- A table stays well formed where its lines and columns are counted anew, over any text of its length or over one line.
use mathlib.Core.Path.{◌≡◌, refl, sym, ap, ◌∙◌}
use mathlib.Core.Bool.{Bool, true, not, ◌&&◌}
use mathlib.Core.List.{List, [], ◌∷◌, map}
use Prim.Native.Nat.{ℕ, zero, suc, ◌+◌, ◌*◌, ◌≤◌, min}
use native.Mathlib.Omega.{arith}
use lib.ListN.{length, drop}
use lib.Dec.{eqb, leb}
use borrow.Author.Tests.{eqb-true, eq-eqb, leb-true, le-leb}
use Rattle.laws.proofs.Tests.{both_true, true_both}
use Rattle.laws.proofs.Places.{place_eq}
use Rattle.rules.specs.declared.Cursor.{Cursor}
use Rattle.rules.specs.Outcomes.{Ending}
use Rattle.std.specs.declared.option.Option.TheVariants.{None, Some}
use Rattle.rules.specs.declared.Table.{Table}
use Rattle.rules.specs.Text.{most_bytes, place_at}
use Rattle.rules.specs.Kinds.{is_made}
use Rattle.rules.specs.Rows.{Row, row_in, rows_in, row_place, every, chained, value_bits, value_fits, spans_fit, place_fits, lines_fit, row_fits, follows, gap_fits, gaps_fit, last_row, ends_behind, is_eof, eof_last, ending_fits, rows_fit, well_formed, words_per_row}
use Rattle.rules_forms.specs.Short.{short_row, shortened, placed_row, placed, placed_ending, on_one_line}
use Rattle.theory_edits.proofs.Lines.{place_fits_lem, places_fit}
use Rattle.theory_forms.proofs.Short.{placed_length, placed_table}

-- places of the offsets up to n that keep the line rules
pub record Lined (n : ℕ) (at : ℕ → Cursor) : Type 0 where
  pub offset : (k : ℕ) → (at k).offset.0 ≡ k
  pub fits : (k : ℕ) → place_fits (at k) ≡ true
  pub lines : (j k : ℕ) → j ≤ k → k ≤ n → lines_fit (at j) (at k) ≡ true

-- places counted over a text are such places
pub text_lined : (t : List ℕ) → Lined (length t) (place_at t)
unfolding place_at
text_lined t = record { offset = λ k. refl; fits = place_fits_lem t; lines = places_fit t }

-- and so are places on one line
pub one_lined : (n : ℕ) → n ≤ most_bytes → Lined n on_one_line
unfolding on_one_line place_fits lines_fit
one_lined n few = record {
  offset = λ k. refl;
  fits = λ k. true_both (le-leb 1 (1 + min k most_bytes) (omega arith))
      (true_both (le-leb 1 (k + 1) (omega arith)) (le-leb (1 + min k most_bytes) (k + 1) (omega arith)));
  lines = λ j k h l. eq-eqb (1 + min k most_bytes + j) (1 + min j most_bytes + k) (omega arith);
}

-- ---- rows with their places counted anew

unfoldable relined : (ℕ → Cursor) → Row → Row
relined at r = record {
  kind = r.kind;
  start = r.start;
  end = r.end;
  line = (at r.start).line.0;
  column = (at r.start).column.0;
  low = r.low;
  high = r.high;
  comments = r.comments;
}

rows_relined : (at : ℕ → Cursor) (n : ℕ) (ws : List ℕ) → rows_in n (placed at n (shortened n ws)) ≡ map (relined at) (rows_in n ws)
unfolding rows_in row_in placed placed_row shortened short_row relined
rows_relined at zero ws = refl
rows_relined at (suc n) ws = ap (λ (rs : List Row). relined at (row_in ws) ∷ rs) (rows_relined at n (drop words_per_row ws))

-- the last row starts at n at most
data LastBelow (n : ℕ) : List Row → Type 0 where
  nil : LastBelow n []
  one : {r : Row} → r.start ≤ n → LastBelow n (r ∷ [])
  more : {r q : Row} {rs : List Row} → LastBelow n (q ∷ rs) → LastBelow n (r ∷ q ∷ rs)

eof_below : (n : ℕ) (rows : List Row) → eof_last n rows ≡ true → LastBelow n rows
unfolding eof_last
eof_below n [] e = nil
eof_below n (r ∷ []) e = let h = eqb-true r.start n (both_true (is_eof r) (eqb r.start n) e).1 in one {r = r} (omega arith)
eof_below n (r ∷ q ∷ rs) e = more (eof_below n (q ∷ rs) (both_true (not (is_eof r)) (eof_last n (q ∷ rs)) e).1)

span_of : (r : Row) → row_fits r ≡ true → r.start ≤ r.end
unfolding row_fits spans_fit
span_of r e =
    let a = both_true (is_made r.kind && value_fits r) (spans_fit r && place_fits (row_place r)) e in
    let b = both_true (spans_fit r) (place_fits (row_place r)) a.1 in
    leb-true r.start r.end (both_true (leb r.start r.end) _ b.0).0

behind_below : (n : ℕ) (rows : List Row) (p : Cursor) → p.offset.0 ≤ n → every row_fits rows ≡ true → ends_behind (last_row rows) p ≡ true
    → LastBelow n rows
unfolding every last_row ends_behind
behind_below n [] p h f e = nil
behind_below n (r ∷ []) p h f e =
    let a = leb-true r.end p.offset.0 (both_true (leb r.end p.offset.0) (lines_fit (row_place r) p) e).0 in
    let b = span_of r (both_true (row_fits r) true f).0 in
    one {r = r} (omega arith)
behind_below n (r ∷ q ∷ rs) p h f e = more (behind_below n (q ∷ rs) p h (both_true (row_fits r) (every row_fits (q ∷ rs)) f).1 e)

module _ (n : ℕ) (at : ℕ → Cursor) (l : Lined n at) where
  place_is : (r : Row) → row_place (relined at r) ≡ at r.start
  unfolding row_place relined
  place_is r = place_eq _ _ (sym (l.offset r.start)) refl refl

  fits_relined : (r : Row) → row_fits r ≡ true → row_fits (relined at r) ≡ true
  unfolding row_fits value_fits value_bits spans_fit relined
  fits_relined r e =
      let a = both_true (is_made r.kind && value_fits r) (spans_fit r && place_fits (row_place r)) e in
      let b = both_true (spans_fit r) (place_fits (row_place r)) a.1 in
      let p : place_fits (row_place (relined at r)) ≡ true = rw (place_is r) (l.fits r.start) in
      true_both a.0 (true_both b.0 p)

  every_relined : (rows : List Row) → every row_fits rows ≡ true → every row_fits (map (relined at) rows) ≡ true
  unfolding every
  every_relined [] e = refl
  every_relined (r ∷ rs) e =
      let a = both_true (row_fits r) (every row_fits rs) e in true_both (fits_relined r a.0) (every_relined rs a.1)

  follows_relined : (r q : Row) → r.start ≤ r.end → q.start ≤ n → follows r q ≡ true → follows (relined at r) (relined at q) ≡ true
  unfolding follows relined
  follows_relined r q s h e =
      let a = both_true (leb r.end q.start) (lines_fit (row_place r) (row_place q)) e in
      let b = leb-true r.end q.start a.0 in
      let c : lines_fit (row_place (relined at r)) (row_place (relined at q)) ≡ true =
      rw (place_is r, place_is q) (l.lines r.start q.start (omega arith) h) in
      true_both a.0 c

  -- each row's start is at most that of the next, and so n
  first_below : (r : Row) (rs : List Row) → every row_fits (r ∷ rs) ≡ true → chained follows (r ∷ rs) ≡ true → LastBelow n (r ∷ rs)
      → r.start ≤ n
  unfolding every chained follows
  first_below r [] f c (one h) = h
  first_below r (q ∷ rs) f c (more b) =
      let a = both_true (row_fits r) (every row_fits (q ∷ rs)) f in
      let d = both_true (follows r q) (chained follows (q ∷ rs)) c in
      let x = span_of r a.0 in
      let y = leb-true r.end q.start (both_true (leb r.end q.start) (lines_fit (row_place r) (row_place q)) d.0).0 in
      let z = first_below q rs a.1 d.1 b in
      omega arith

  chain_relined : (rows : List Row) → every row_fits rows ≡ true → chained follows rows ≡ true → LastBelow n rows
      → chained follows (map (relined at) rows) ≡ true
  unfolding every chained
  chain_relined [] f c b = refl
  chain_relined (r ∷ []) f c b = refl
  chain_relined (r ∷ q ∷ rs) f c (more b) =
      let a = both_true (row_fits r) (every row_fits (q ∷ rs)) f in
      let d = both_true (follows r q) (chained follows (q ∷ rs)) c in
      true_both (follows_relined r q (span_of r a.0) (first_below q rs a.1 d.1 b) d.0) (chain_relined (q ∷ rs) a.1 d.1 b)

  -- gaps, and which row is Eof, have no line
  gaps_relined : (e : ℕ) (rows : List Row) → gaps_fit e (map (relined at) rows) ≡ gaps_fit e rows
  unfolding gaps_fit gap_fits relined
  gaps_relined e [] = refl
  gaps_relined e (r ∷ rs) = ap (λ (b : Bool). gap_fits e r && b) (gaps_relined r.end rs)

  eof_relined : (rows : List Row) → eof_last n (map (relined at) rows) ≡ eof_last n rows
  unfolding eof_last is_eof relined
  eof_relined [] = refl
  eof_relined (r ∷ []) = refl
  eof_relined (r ∷ q ∷ rs) = ap (λ (b : Bool). not (is_eof r) && b) (eof_relined (q ∷ rs))

  plain_relined : (rows : List Row) → every (λ r. not (is_eof r)) (map (relined at) rows) ≡ every (λ r. not (is_eof r)) rows
  unfolding every is_eof relined
  plain_relined [] = refl
  plain_relined (r ∷ rs) = ap (λ (b : Bool). not (is_eof r) && b) (plain_relined rs)

  behind_relined : (rows : List Row) (p : Cursor) → p.offset.0 ≤ n → every row_fits rows ≡ true → ends_behind (last_row rows) p ≡ true
      → ends_behind (last_row (map (relined at) rows)) (at p.offset.0) ≡ true
  unfolding every last_row ends_behind relined
  behind_relined [] p h f e = refl
  behind_relined (r ∷ []) p h f e =
      let a = both_true (leb r.end p.offset.0) (lines_fit (row_place r) p) e in
      let b = leb-true r.end p.offset.0 a.0 in
      let s = span_of r (both_true (row_fits r) true f).0 in
      let x : leb r.end (at p.offset.0).offset.0 ≡ true = rw (l.offset p.offset.0) a.0 in
      let y : lines_fit (row_place (relined at r)) (at p.offset.0) ≡ true =
      rw (place_is r) (l.lines r.start p.offset.0 (omega arith) h) in
      true_both x y
  behind_relined (r ∷ q ∷ rs) p h f e = behind_relined (q ∷ rs) p h (both_true (row_fits r) (every row_fits (q ∷ rs)) f).1 e

  ending_relined : (rows : List Row) (e : Ending) → every row_fits rows ≡ true → ending_fits n rows e ≡ true
      → (LastBelow n rows) × (ending_fits n (map (relined at) rows) (placed_ending at e) ≡ true)
  unfolding ending_fits
  ending_relined rows None f q = (eof_below n rows q, eof_relined rows ∙ q)
  ending_relined rows (Some e) f q =
      let a = both_true (every (λ r. not (is_eof r)) rows) ((leb e.at.offset.0 n && place_fits e.at) && ends_behind (last_row rows) e.at) q in
      let b = both_true (leb e.at.offset.0 n && place_fits e.at) (ends_behind (last_row rows) e.at) a.1 in
      let c = both_true (leb e.at.offset.0 n) (place_fits e.at) b.0 in
      let h = leb-true e.at.offset.0 n c.0 in
      let x : leb (at e.at.offset.0).offset.0 n ≡ true = rw (l.offset e.at.offset.0) c.0 in
      let y = true_both (true_both x (l.fits e.at.offset.0)) (behind_relined rows e.at h f b.1) in
      (behind_below n rows e.at h f b.1, true_both (plain_relined rows ∙ a.0) y)

  rows_fit_lem : (rows : List Row) (e : Ending) → rows_fit n rows e ≡ true → rows_fit n (map (relined at) rows) (placed_ending at e) ≡ true
  unfolding rows_fit
  rows_fit_lem rows e q =
      let a = both_true (every row_fits rows) (chained follows rows && (gaps_fit 0 rows && ending_fits n rows e)) q in
      let b = both_true (chained follows rows) (gaps_fit 0 rows && ending_fits n rows e) a.1 in
      let c = both_true (gaps_fit 0 rows) (ending_fits n rows e) b.1 in
      let d = ending_relined rows e a.0 c.1 in
      true_both (every_relined rows a.0)
      (true_both (chain_relined rows a.0 b.0 d.0) (true_both (gaps_relined 0 rows ∙ c.0) d.1))

-- the text of a well-formed table is no longer than a text may be
pub well_few : (ws : List ℕ) (t : Table) → well_formed ws t ≡ true → t.length ≤ most_bytes
unfolding well_formed
well_few ws t e =
    let n = t.count in
    let a = both_true (leb (n * words_per_row) (length ws) && leb t.length most_bytes) (rows_fit t.length (rows_in n ws) t.ending) e in
    leb-true t.length most_bytes (both_true (leb (n * words_per_row) (length ws)) (leb t.length most_bytes) a.0).1

-- a well-formed table, with its lines and columns counted anew
pub well_placed : (at : ℕ → Cursor) (ws : List ℕ) (t : Table) → Lined t.length at → well_formed ws t ≡ true
    → well_formed (placed at t.count (shortened t.count ws)) (placed_table at t) ≡ true
unfolding well_formed
well_placed at ws t l e =
    let n = t.count in
    let w : List ℕ = placed at n (shortened n ws) in
    let a = both_true (leb (n * words_per_row) (length ws) && leb t.length most_bytes) (rows_fit t.length (rows_in n ws) t.ending) e in
    let b = both_true (leb (n * words_per_row) (length ws)) (leb t.length most_bytes) a.0 in
    let x : leb (n * words_per_row) (length w) ≡ true =
    le-leb (n * words_per_row) (length w) (omega (arith, placed_length at n (shortened n ws))) in
    let y : rows_fit t.length (rows_in n w) (placed_ending at t.ending) ≡ true =
    rw (rows_relined at n ws) (rows_fit_lem t.length at l (rows_in n ws) t.ending a.1) in
    true_both (true_both x b.1) y
