-- The rows of a scan from the one that starts at m on, and its ending, are what a scan from m gives.
use Prim.Native.Nat.{ℕ, suc, ◌+◌}
use native.Mathlib.Omega.{arith}
use mathlib.Core.Bool.{Bool, true, false, true≢false}
use mathlib.Core.List.{List, [], ◌∷◌}
use mathlib.Core.Path.{◌≡◌, refl, ap, sym, ◌∙◌}
use lib.Dec.{eqb}
use borrow.Author.Tests.{eqb-true, eq-eqb}
use Rattle.rules.specs.declared.Cursor.{Cursor}
use Rattle.rules.specs.declared.Lexical.{Lexical}
use Rattle.rules.specs.Text.{place_at}
use Rattle.rules.specs.Rows.{Row, row_at, eof_row, row_place}
use Rattle.rules.specs.Scan.{Reading, put, ends, stops, read_rows, read_ending, scan}
use Rattle.rules.specs.Edit.{from, some, first_place}
use Rattle.theory_machine.specs.Machine.{Token, St, gap, First, go, clear, over, bad, Move, fresh, on, back, Last, clean, ended, cut, begin, step, finish, passed, after, move, close, run, scan_bytes}
use Rattle.theory_machine.proofs.Same.{same_scan}
use Rattle.theory_edits.specs.Shows.{Starts, first, later}
use Rattle.theory_edits.proofs.Stand.{At, at_next, at_same, rest, rest_at, rest_begin, rest_end}

-- ---- a row starts at m: as a test and as a type

pub some_starts : (m : ℕ) (rs : List Row) → some (from m rs) ≡ true → Starts m rs
unfolding from some
some_starts m [] h = absurd (true≢false (sym h))
some_starts m (r ∷ rs) h = by (eqb r.start m) refl (some_starts m rs)
  where
    by : (q : Bool) → eqb r.start m ≡ q → (some (from m rs) ≡ true → Starts m rs) → Starts m (r ∷ rs)
    by true q ih = first (eqb-true r.start m q)
    by false q ih = later (ih (rw q at h))

pub starts_some : {m : ℕ} {rs : List Row} → Starts m rs → some (from m rs) ≡ true
unfolding from some
starts_some {m} (first {r} {rs} e) = rw (eq-eqb r.start m e)
starts_some {m} (later {r} {rs} s) = by (eqb r.start m) refl (starts_some s)
  where
    by : (q : Bool) → eqb r.start m ≡ q → some (from m rs) ≡ true → some (from m (r ∷ rs)) ≡ true
    by true q ih = rw q
    by false q ih = rw q ih

-- ---- what stands there

-- the scan from m on, behind as many comments as the row that starts there tells of
pub data Found (T : List ℕ) (m : ℕ) (l : Reading) : Type 0 where
  nowhere : from m (read_rows l) ≡ [] → Found T m l
  found : (c : ℕ) → from m (read_rows l) ≡ read_rows (rest T c m) → read_ending l ≡ read_ending (rest T c m)
      → first_place (from m (read_rows l)) ≡ place_at T m → Found T m l

module _ (T : List ℕ) (m : ℕ) where
  found_row : (c : ℕ) (r : Row) (l : Reading) → row_place r ≡ place_at T r.start → rest T c r.start ≡ put r l → Found T m l
      → Found T m (put r l)
  unfolding from first_place read_rows read_ending
  found_row c r l p g h = by (eqb r.start m) refl h
    where
      by : (q : Bool) → eqb r.start m ≡ q → Found T m l → Found T m (put r l)
      by true q h =
          let e : put r l ≡ rest T c m = sym g ∙ ap (rest T c) (eqb-true r.start m q) in
          found c (rw q (ap read_rows e)) (ap read_ending e) (rw q (p ∙ ap (place_at T) (eqb-true r.start m q)))
      by false q (nowhere i) = nowhere (rw q i)
      by false q (found c i j k) = found c (rw q i) j (rw q k)

  found_ends : Found T m ends
  unfolding from read_rows
  found_ends = nowhere refl

  found_stops : (why : Lexical) (p : Cursor) (d : ℕ) → Found T m (stops why p d)
  unfolding from read_rows
  found_stops why p d = nowhere refl

  found_token : (c : ℕ) (x : Token) (s e : ℕ) (l : Reading) → rest T c s ≡ put (row_at (place_at T s) c x.kind e x.bits) l → Found T m l
      → Found T m (put (row_at (place_at T s) c x.kind e x.bits) l)
  unfolding row_at row_place place_at
  found_token c x s e l g h = found_row c _ l refl g h

  found_eof : (c n : ℕ) → At T [] n → Found T m (put (eof_row (place_at T n) c) ends)
  unfolding row_at eof_row row_place place_at
  found_eof c n d = found_row c _ ends refl (rest_end c d) found_ends

  close_found : (c t k : ℕ) (x : Last) → At T [] (t + k) → rest T c t ≡ close (place_at T) c t k x → Found T m (close (place_at T) c t k x)
  unfolding close
  close_found c t k clean d g = found_eof (passed c k) (t + k) d
  close_found c t k (ended x) d g = found_token c x t (t + k) _ g (found_eof 0 (t + k) d)
  close_found c t k (cut why x) d g = found_stops why _ (t + k)

  module _ (s : List ℕ) (r : (c t k : ℕ) → St → Reading) (r_is : r ≡ run (place_at T) s)
      (ih : (c t k : ℕ) (st : St) → At T s (t + k) → rest T c t ≡ r c t k st → Found T m (r c t k st)) where
    -- behind a piece
    next_found : (c n : ℕ) → At T s n → Found T m (r c n 0 gap)
    next_found c n d = ih c n 0 gap (at_same d (omega arith)) (rest_at c d ∙ rw r_is)

    after_found : (c t k : ℕ) (x : First) → At T s (t + suc k) → rest T c t ≡ after (place_at T) r c t k x
        → Found T m (after (place_at T) r c t k x)
    unfolding after
    after_found c t k (go st) d g = ih c t (suc k) st d g
    after_found c t k clear d g = next_found (passed c k) (t + suc k) d
    after_found c t k (over x) d g = found_token c x t (t + suc k) _ g (next_found 0 (t + suc k) d)
    after_found c t k (bad why x) d g = found_stops why _ (t + k)

    begin_found : (c n b : ℕ) → At T (b ∷ s) n → Found T m (after (place_at T) r c n 0 (begin b))
    begin_found c n b d = after_found c n 0 (begin b) (at_next d (omega arith)) (rest_begin c d ∙ rw r_is)

    move_found : (b c t k : ℕ) (x : Move) → At T (b ∷ s) (t + k) → rest T c t ≡ move (place_at T) r b c t k x
        → Found T m (move (place_at T) r b c t k x)
    unfolding move
    move_found b c t k fresh d g = begin_found (passed c k) (t + k) b d
    move_found b c t k (on x) d g = after_found c t k x (at_next d (omega arith)) g
    move_found b c t k (back x) d g = found_token c x t (t + k) _ g (begin_found 0 (t + k) b d)

  run_found : (s : List ℕ) (c t k : ℕ) (st : St) → At T s (t + k) → rest T c t ≡ run (place_at T) s c t k st
      → Found T m (run (place_at T) s c t k st)
  unfolding run
  run_found [] c t k st d g = close_found c t k (finish st k) d g
  run_found (b ∷ s) c t k st d g = move_found s (run (place_at T) s) refl (run_found s) b c t k (step st k b) d g

  bytes_found : Found T m (scan_bytes T)
  unfolding scan_bytes rest
  bytes_found = run_found T 0 0 0 gap (record { text = refl }) refl

  pub scan_found : Found T m (scan T)
  scan_found = rw (same_scan T) at bytes_found
