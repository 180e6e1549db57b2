-- What a scan gives is a well-formed table.
use Prim.Native.Nat.{ℕ, ◌+◌, ◌-◌, ◌*◌, ◌/◌, ◌≤◌}
use native.Mathlib.Omega.{arith}
use mathlib.Core.Bool.{Bool, true, false, not, true≢false}
use mathlib.Core.List.{List, [], ◌∷◌, ◌++◌}
use mathlib.Core.Path.{◌≡◌, refl, ap, sym, ◌∙◌, subst}
use lib.Dec.{leb}
use lib.ListN.{length, drop, length-append}
use borrow.Author.Tests.{eq-eqb, le-leb, leb-true}
use Rattle.rules.specs.declared.Cursor.{Cursor}
use Rattle.rules.specs.declared.Lexical.{Lexical}
use Rattle.rules.specs.Outcomes.{Ending, halt, Judged, Told, unread}
use Rattle.std.specs.declared.option.Option.TheVariants.{None, Some}
use Rattle.rules.specs.declared.Table.{Table}
use Rattle.rules.specs.declared.Outer.TheVariants.{TextTooLong, BadByte, NoRowRoom}
use Rattle.std.specs.declared.result.Result.TheVariants.{Ok, Err}
use Rattle.rules.specs.Kinds
use Rattle.rules.specs.Kinds.{is_made}
use Rattle.rules.specs.Text.{most_bytes, valid_bytes, valid, place_at, start_place, text_judged}
use Rattle.rules.specs.Rows.{Row, row_words, row_in, rows_in, words_of, row_at, eof_row, row_place, every, chained, length_fits, spans_fit, value_fits, row_fits, follows, gap_fits, gaps_fit, last_row, ends_behind, is_eof, eof_last, ending_fits, rows_fit, well_formed}
use Rattle.rules.specs.Scan.{Reading, put, read_rows, read_ending, scan, room_of, told, scan_told, scan_leaves}
use Rattle.theory_machine.specs.Machine.{Token}
use Rattle.theory_edits.specs.Scanned.{table_of, Scanned}
use Rattle.laws.proofs.Outcomes.{halt_same}
use Rattle.laws.proofs.Tests.{true_both}
use Rattle.laws.proofs.Valid.{text_fine, TextJudged, long, bad, fine, text_judged_lem}
use Rattle.laws.proofs.Rows.{words_length, laid_all, scan_told_refused, scan_told_lem, scan_leaves_lem}
use Rattle.theory_edits.proofs.Lines.{place_fits_lem, places_fit}
use Rattle.theory_edits.proofs.Tokens.{Fit}
use Rattle.theory_edits.proofs.Well.{Well, well_row, well_eof, well_stops, scan_well}

module _ (T : List ℕ) where
  -- ---- each row

  row_fits_lem : (c t k : ℕ) (x : Token) → Fit x k → row_fits (row_at (place_at T t) c x.kind (t + k) x.bits) ≡ true
  unfolding row_fits spans_fit row_place row_at place_at
  row_fits_lem c t k x f =
      let e : t + k - t ≡ k = omega arith in
      true_both (true_both f.made (f.value (place_at T t) c (t + k)))
      (true_both (true_both (le-leb t (t + k) (omega arith)) (rw e f.long)) (place_fits_lem T t))

  eof_fits : (c n : ℕ) → row_fits (eof_row (place_at T n) c) ≡ true
  unfolding row_fits spans_fit row_place eof_row row_at place_at is_made length_fits value_fits
  eof_fits c n = true_both refl (true_both (true_both (le-leb n n (omega arith)) (eq-eqb (n - n) 0 (omega arith))) (place_fits_lem T n))

  every_fits : {lo : ℕ} {l : Reading} → Well T lo l → every row_fits (read_rows l) ≡ true
  unfolding every read_rows
  every_fits (well_row {t = t} {k = k} {x = x} c a h f w) = true_both (row_fits_lem c t k x f) (every_fits w)
  every_fits (well_eof {n = n} c a h) = true_both (eof_fits c n) refl
  every_fits (well_stops a h) = refl

  -- ---- each row and the next

  pair_fits : (c t lo j : ℕ) (x : Token) (c' kind end bits : ℕ) → t ≤ lo → lo ≤ j → j ≤ length T
      → follows (row_at (place_at T t) c x.kind lo x.bits) (row_at (place_at T j) c' kind end bits) ≡ true
  unfolding follows row_place row_at place_at
  pair_fits c t lo j x c' kind end bits a h l = true_both (le-leb lo j h) (places_fit T t j (omega arith) l)

  chained_put : (c t k : ℕ) (x : Token) {l : Reading} → Well T (t + k) l → chained follows (read_rows l) ≡ true
      → chained follows (read_rows (put (row_at (place_at T t) c x.kind (t + k) x.bits) l)) ≡ true
  unfolding chained read_rows eof_row
  chained_put c t k x (well_row {t = j} {k = i} {x = y} c' a h f w) g =
      true_both (pair_fits c t (t + k) j x c' y.kind (j + i) y.bits (omega arith) (omega arith) (omega arith)) g
  chained_put c t k x (well_eof {n = n} c' a h) g =
      true_both (pair_fits c t (t + k) n x c' Kinds.Eof _ 0 (omega arith) (omega arith) (omega arith)) g
  chained_put c t k x (well_stops a h) g = refl

  chained_fits : {lo : ℕ} {l : Reading} → Well T lo l → chained follows (read_rows l) ≡ true
  unfolding chained read_rows
  chained_fits (well_row {t = t} {k = k} {x = x} c a h f w) = chained_put c t k x w (chained_fits w)
  chained_fits (well_eof c a h) = refl
  chained_fits (well_stops a h) = refl

  -- ---- each gap

  gap_fits_lem : (lo c t kind e bits : ℕ) → lo + 2 * c ≤ t → gap_fits lo (row_at (place_at T t) c kind e bits) ≡ true
  unfolding gap_fits row_at place_at
  gap_fits_lem lo c t kind e bits h = le-leb c ((t - lo) / 2) (omega arith)

  gaps_fit_lem : {lo : ℕ} {l : Reading} → Well T lo l → gaps_fit lo (read_rows l) ≡ true
  unfolding gaps_fit read_rows row_at eof_row place_at
  gaps_fit_lem {lo} (well_row {t = t} {k = k} {x = x} c a h f w) = true_both (gap_fits_lem lo c t x.kind (t + k) x.bits a) (gaps_fit_lem w)
  gaps_fit_lem {lo} (well_eof {n = n} c a h) = true_both (gap_fits_lem lo c n Kinds.Eof n 0 a) refl
  gaps_fit_lem (well_stops a h) = refl

  -- ---- the ending

  not_eof : (c t e : ℕ) (x : Token) {k : ℕ} → Fit x k → not (is_eof (row_at (place_at T t) c x.kind e x.bits)) ≡ true
  unfolding is_eof row_at
  not_eof c t e x f = rw f.proper

  eof_put : (r : Row) (n : ℕ) (rs : List Row) → not (is_eof r) ≡ true → eof_last n rs ≡ true → eof_last n (r ∷ rs) ≡ true
  unfolding eof_last
  eof_put r n [] e h = absurd (true≢false (sym h))
  eof_put r n (q ∷ rs) e h = true_both e h

  eof_last_lem : {lo : ℕ} {l : Reading} → Well T lo l → read_ending l ≡ None → eof_last (length T) (read_rows l) ≡ true
  unfolding read_rows read_ending eof_last is_eof eof_row row_at place_at
  eof_last_lem (well_row {t = t} {k = k} {x = x} {l = l} c a h f w) e =
      eof_put (row_at (place_at T t) c x.kind (t + k) x.bits) (length T) (read_rows l) (not_eof c t (t + k) x f) (eof_last_lem w e)
  eof_last_lem (well_eof {n = n} c a h) e = eq-eqb n (length T) h
  eof_last_lem (well_stops a h) e = absurd (let z : ◌≡◌ {A = ℕ} 0 1 = cc in let y : ⊥ = omega arith in y)

  -- a refused ending: it stands at a place of the text, behind the rows, of which none is Eof
  record Stopped (lo : ℕ) (rs : List Row) (p : Cursor) : Type 0 where
    far : lo ≤ p.offset.0
    inside : p.offset.0 ≤ length T
    place : p ≡ place_at T p.offset.0
    rows : every (λ (r : Row). not (is_eof r)) rs ≡ true
    last : ends_behind (last_row rs) p ≡ true

  last_put : (r : Row) (rs : List Row) (p : Cursor) → ends_behind (r ∷ []) p ≡ true → ends_behind (last_row rs) p ≡ true
      → ends_behind (last_row (r ∷ rs)) p ≡ true
  unfolding last_row
  last_put r [] p e h = e
  last_put r (q ∷ rs) p e h = h

  stopped_row : (lo c t k : ℕ) (x : Token) (rs : List Row) (p : Cursor) → lo ≤ t → Fit x k → Stopped (t + k) rs p
      → Stopped lo (row_at (place_at T t) c x.kind (t + k) x.bits ∷ rs) p
  unfolding every ends_behind row_place row_at place_at
  stopped_row lo c t k x rs p a f s =
      let g : t + k ≤ p.offset.0 = s.far in
      record {
        far = omega arith;
        inside = s.inside;
        place = s.place;
        rows = true_both (not_eof c t (t + k) x f) s.rows;
        last = last_put _ rs p
            (true_both (le-leb (t + k) p.offset.0 g) (rw s.place (places_fit T t p.offset.0 (omega arith) s.inside))) s.last;
      }

  stopped : {lo : ℕ} {l : Reading} → Well T lo l → (why : Lexical) (p : Cursor) → read_ending l ≡ Some (halt why p) → Stopped lo (read_rows l) p
  unfolding read_rows read_ending every last_row ends_behind place_at
  stopped {lo} (well_row {t = t} {k = k} {x = x} {l = l} c a h f w) why p e =
      stopped_row lo c t k x (read_rows l) p (omega arith) f (stopped w why p e)
  stopped (well_eof c a h) why p e = absurd (let z : ◌≡◌ {A = ℕ} 0 1 = cc in let y : ⊥ = omega arith in y)
  stopped {lo} (well_stops {m = m} a h) why p e =
      let c : place_at T m ≡ p = (halt_same e).1 in
      subst (λ (y : Cursor). Stopped lo [] y) c (record { far = a; inside = h; place = refl; rows = refl; last = refl })

  ending_fits_lem : {lo : ℕ} {l : Reading} → Well T lo l → (x : Ending) → read_ending l ≡ x → ending_fits (length T) (read_rows l) x ≡ true
  unfolding ending_fits
  ending_fits_lem w None e = eof_last_lem w e
  ending_fits_lem w (Some refusal) e =
      let s : Stopped _ _ refusal.at = stopped w refusal.why refusal.at e in
      true_both s.rows (true_both (true_both (le-leb refusal.at.offset.0 (length T) s.inside) (rw s.place (place_fits_lem T refusal.at.offset.0))) s.last)

  pub scan_fits : rows_fit (length T) (read_rows (scan T)) (read_ending (scan T)) ≡ true
  unfolding rows_fit
  scan_fits =
      let w : Well T 0 (scan T) = scan_well T in
      true_both (every_fits w) (true_both (chained_fits w) (true_both (gaps_fit_lem w) (ending_fits_lem w (read_ending (scan T)) refl)))

-- ---- the words of rows

pub rows_in_words : (rs : List Row) (ws : List ℕ) → rows_in (length rs) (words_of rs ++ ws) ≡ rs
unfolding words_of row_words rows_in row_in
rows_in_words [] ws = refl
rows_in_words (r ∷ rs) ws = ap (λ (l : List Row). r ∷ l) (rows_in_words rs ws)

pub length_laid : (t ws : List ℕ) (table : Table) → Scanned t ws table → length (read_rows (scan t)) * 8 ≤ length ws
length_laid t ws table s =
    let l : length ws ≡ length (words_of (read_rows (scan t))) + length s.spare = ap length s.words ∙ length-append (words_of (read_rows (scan t))) s.spare in
    omega (arith, words_length (read_rows (scan t)))

-- ---- the theorems: a scan's words and table

pub scanned_rows : {t ws : List ℕ} {table : Table} → Scanned t ws table → rows_in table.count ws ≡ read_rows (scan t)
scanned_rows {t} s = rw (s.words, s.told) (rows_in_words (read_rows (scan t)) s.spare)

-- What a scan gives is a well-formed table.
pub scanned_well_formed : {t ws : List ℕ} {table : Table} → Scanned t ws table → well_formed ws table ≡ true
unfolding well_formed
scanned_well_formed {t} {ws} {table} s =
    rw (scanned_rows s, s.told)
    (true_both (true_both (le-leb (length (read_rows (scan t)) * 8) (length ws) (length_laid t ws table s)) (le-leb (length t) most_bytes s.fits)) (scan_fits t))

-- What a scan says, with room for m rows: 1, 2, 4, or its table.
pub data Scans (t : List ℕ) (m : ℕ) : Told → Type 0 where
  says_1 : Scans t m (Err (unread TextTooLong start_place 0))
  says_2 : Scans t m (Err (unread BadByte (place_at t (valid_bytes t)) 0))
  says_4 : Scans t m (Err (unread NoRowRoom start_place m))
  says_rows : length t ≤ most_bytes → valid t ≡ true → length (read_rows (scan t)) ≤ m → Scans t m (Ok (table_of t))

pub scan_says : (t : List ℕ) (m : ℕ) → Scans t m (scan_told t m)
unfolding told
scan_says t m = by (text_judged_lem t) refl (leb (length (read_rows (scan t))) m) refl
  where
    by : {v : Judged} → TextJudged t v → text_judged t ≡ v → (z : Bool) → leb (length (read_rows (scan t))) m ≡ z → Scans t m (scan_told t m)
    by (long l) e z g = rw (scan_told_refused t e m) says_1
    by (bad l v) e z g = rw (scan_told_refused t e m) says_2
    by (fine l v) e false g = rw (scan_told_lem t e m, g) says_4
    by (fine l v) e true g = rw (scan_told_lem t e m, g) (says_rows l v (leb-true _ m g))

-- a text whose scan tells rows is valid
pub scan_valid : (t : List ℕ) (m : ℕ) (table : Table) → scan_told t m ≡ Ok table → valid t ≡ true
scan_valid t m table e = by (scan_says t m) e
  where
    by : {x : Told} → Scans t m x → x ≡ Ok table → valid t ≡ true
    by says_1 f = absurd (let z : ◌≡◌ {A = ℕ} 0 1 = cc in let y : ⊥ = omega arith in y)
    by says_2 f = absurd (let z : ◌≡◌ {A = ℕ} 0 1 = cc in let y : ⊥ = omega arith in y)
    by says_4 f = absurd (let z : ◌≡◌ {A = ℕ} 0 1 = cc in let y : ⊥ = omega arith in y)
    by (says_rows l v r) f = v

-- where it tells rows, it leaves them
pub scan_scanned : (t new : List ℕ) (table : Table) → scan_told t (room_of new) ≡ Ok table → Scanned t (scan_leaves t new) table
scan_scanned t new table e = by (scan_says t (room_of new)) e
  where
    by : {x : Told} → Scans t (room_of new) x → x ≡ Ok table → Scanned t (scan_leaves t new) table
    by says_1 f = absurd (let z : ◌≡◌ {A = ℕ} 0 1 = cc in let y : ⊥ = omega arith in y)
    by says_2 f = absurd (let z : ◌≡◌ {A = ℕ} 0 1 = cc in let y : ⊥ = omega arith in y)
    by says_4 f = absurd (let z : ◌≡◌ {A = ℕ} 0 1 = cc in let y : ⊥ = omega arith in y)
    by (says_rows l v r) f = record {
      fits = l;
      spare = drop (8 * length (read_rows (scan t))) new;
      words = scan_leaves_lem t (text_fine t l v) new ∙ laid_all (read_rows (scan t)) new r;
      told = cc;
    }
