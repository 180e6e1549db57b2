-- The rows that end before a are the same in every text that has the same bytes before a, and the rest of a scan is a scan
-- from the last such row's end.
use Prim.Native.Nat.{ℕ, suc, ◌+◌, ◌≤◌, ◌<◌}
use native.Mathlib.Omega.{arith}
use mathlib.Core.Bool.{Bool, true, false}
use mathlib.Core.List.{List, [], ◌∷◌, ◌++◌}
use mathlib.Core.Path.{◌≡◌, refl, ap, sym, ◌∙◌}
use lib.Dec.{ltb}
use borrow.Author.Tests.{le-ltb, ltb-true}
use lib.ListN.{length}
use lib.Seq.{take-append-le}
use Rattle.rules.specs.declared.Cursor.{Cursor}
use Rattle.rules.specs.Text.{line_at, column_at, place_at, start_place}
use Rattle.rules.specs.Rows.{Row, row_at, eof_row}
use Rattle.rules.specs.Scan.{Reading, put, read_rows, scan}
use Rattle.rules.specs.Edit.{kept, end_place, last_end, restart}
use Rattle.theory_machine.specs.Machine.{St, gap, First, go, clear, over, bad, Move, fresh, on, back, Last, clean, ended, cut, begin, step, finish, passed, after, move, close, run, scan_bytes}
use Rattle.theory_machine.proofs.Same.{same_scan}
use Rattle.theory_edits.proofs.Stand.{At, at_next, at_same, rest, rest_at, rest_begin, puts}

-- a scan that has come as far as a keeps nothing more
module _ (X : List ℕ) (a : ℕ) where
  module _ (r : (c t k : ℕ) → St → Reading) (ih : (c t k : ℕ) (st : St) → a ≤ t + k → kept a (read_rows (r c t k st)) ≡ []) where
    after_late : (c t k : ℕ) (x : First) → a ≤ t + k → kept a (read_rows (after (place_at X) r c t k x)) ≡ []
    unfolding after kept read_rows row_at
    after_late c t k (go st) h = ih c t (suc k) st (omega arith)
    after_late c t k clear h = ih (passed c k) (t + suc k) 0 gap (omega arith)
    after_late c t k (over x) h = rw (le-ltb (t + suc k) a (omega arith))
    after_late c t k (bad why x) h = refl

    move_late : (b c t k : ℕ) (m : Move) → a ≤ t + k → kept a (read_rows (move (place_at X) r b c t k m)) ≡ []
    unfolding move kept read_rows row_at
    move_late b c t k fresh h = after_late (passed c k) (t + k) 0 (begin b) (omega arith)
    move_late b c t k (on x) h = after_late c t k x h
    move_late b c t k (back x) h = rw (le-ltb (t + k) a h)

  close_late : (c t k : ℕ) (x : Last) → a ≤ t + k → kept a (read_rows (close (place_at X) c t k x)) ≡ []
  unfolding close kept read_rows row_at eof_row place_at
  close_late c t k clean h = rw (le-ltb (t + k) a h)
  close_late c t k (ended x) h = rw (le-ltb (t + k) a h)
  close_late c t k (cut why x) h = refl

  late : (s : List ℕ) (c t k : ℕ) (st : St) → a ≤ t + k → kept a (read_rows (run (place_at X) s c t k st)) ≡ []
  unfolding run
  late [] c t k st h = close_late c t k (finish st k) h
  late (b ∷ s) c t k st h = move_late (run (place_at X) s) (late s) b c t k (step st k b) h

-- `new` is what `old` keeps, and then a scan of T from the last kept row's end, or from p, before which no comment is counted
pub record Keeps (T : List ℕ) (a : ℕ) (p : Cursor) (old new : Reading) : Type 0 where
  pub same : new ≡ puts (kept a (read_rows old)) (rest T 0 (last_end p (kept a (read_rows old))).offset.0)

keeps_none : (T : List ℕ) (a : ℕ) (p : Cursor) (old new : Reading) → kept a (read_rows old) ≡ [] → rest T 0 p.offset.0 ≡ new
    → Keeps T a p old new
unfolding last_end puts
keeps_none T a p old new h e = record { same = rw (h, last_end) (sym e) }

-- a row stands before both: it is kept, or the scan begins at p as it did
keeps_row : (T : List ℕ) (a : ℕ) (p : Cursor) (r r' : Row) (old new : Reading)
    → (r.end < a → r ≡ r') → rest T 0 p.offset.0 ≡ put r' new → Keeps T a (end_place r) old new → Keeps T a p (put r old) (put r' new)
unfolding kept last_end puts read_rows
keeps_row T a p r r' old new g e h = by (ltb r.end a) refl
  where
    by : (q : Bool) → ltb r.end a ≡ q → Keeps T a p (put r old) (put r' new)
    by true q =
        let f : r ≡ r' = g (ltb-true r.end a q) in
        record { same = rw (kept, q, last_end) (ap (λ (x : Row). put x new) (sym f) ∙ ap (put r) h.same) }
    by false q = record { same = rw (kept, q, last_end) (sym e) }

module _ (X T : List ℕ) (a : ℕ) (agree : (n : ℕ) → n ≤ a → place_at X n ≡ place_at T n) where
  same_row : (c t e kind bits : ℕ) → t ≤ e → e < a → row_at (place_at X t) c kind e bits ≡ row_at (place_at T t) c kind e bits
  same_row c t e kind bits l h = rw (agree t (omega arith))

  module _ (u y : List ℕ) (ro rn : (c t k : ℕ) → St → Reading) (rn_is : rn ≡ run (place_at T) (u ++ y))
      (ih : (c t k : ℕ) (st : St) (p : Cursor) → a ≡ t + k + length u → At T (u ++ y) (t + k) → rest T 0 p.offset.0 ≡ rn c t k st
      → Keeps T a p (ro c t k st) (rn c t k st)) where
    after_kept : (c t k : ℕ) (x : First) (p : Cursor) → a ≡ t + suc k + length u → At T (u ++ y) (t + suc k)
        → rest T 0 p.offset.0 ≡ after (place_at T) rn c t k x
        → Keeps T a p (after (place_at X) ro c t k x) (after (place_at T) rn c t k x)
    unfolding after kept read_rows end_place row_at
    after_kept c t k (go st) p h d e = ih c t (suc k) st p h d e
    after_kept c t k clear p h d e = ih (passed c k) (t + suc k) 0 gap p (omega arith) (at_same d (omega arith)) e
    after_kept c t k (over x) p h d e =
        keeps_row T a p _ _ _ _ (λ l. same_row c t (t + suc k) x.kind x.bits (omega arith) l) e
        (ih 0 (t + suc k) 0 gap _ (omega arith) (at_same d (omega arith)) (rest_at 0 d ∙ rw rn_is))
    after_kept c t k (bad why x) p h d e = keeps_none T a p _ _ refl e

    move_kept : (b c t k : ℕ) (m : Move) (p : Cursor) → a ≡ t + k + suc (length u) → At T (b ∷ (u ++ y)) (t + k)
        → rest T 0 p.offset.0 ≡ move (place_at T) rn b c t k m
        → Keeps T a p (move (place_at X) ro b c t k m) (move (place_at T) rn b c t k m)
    unfolding move end_place row_at
    move_kept b c t k fresh p h d e = after_kept (passed c k) (t + k) 0 (begin b) p (omega arith) (at_next d (omega arith)) e
    move_kept b c t k (on x) p h d e = after_kept c t k x p (omega arith) (at_next d (omega arith)) e
    move_kept b c t k (back x) p h d e =
        keeps_row T a p _ _ _ _ (λ l. same_row c t (t + k) x.kind x.bits (omega arith) l) e
        (after_kept 0 (t + k) 0 (begin b) _ (omega arith) (at_next d (omega arith)) (rest_begin 0 d ∙ rw rn_is))

  kept_run : (u x y : List ℕ) (c t k : ℕ) (st : St) (p : Cursor) → a ≡ t + k + length u → At T (u ++ y) (t + k)
      → rest T 0 p.offset.0 ≡ run (place_at T) (u ++ y) c t k st
      → Keeps T a p (run (place_at X) (u ++ x) c t k st) (run (place_at T) (u ++ y) c t k st)
  unfolding run
  kept_run [] x y c t k st p h d e = keeps_none T a p _ _ (late X a x c t k st (omega arith)) e
  kept_run (b ∷ u) x y c t k st p h d e =
      move_kept u y (run (place_at X) (u ++ x)) (run (place_at T) (u ++ y)) refl (kept_run u x y) b c t k (step st k b) p h d e

pub place_agree : (u x y : List ℕ) (n : ℕ) → n ≤ length u → place_at (u ++ x) n ≡ place_at (u ++ y) n
unfolding place_at line_at column_at
place_agree u x y n h = rw (take-append-le n u x h, take-append-le n u y h)

kept_bytes : (u x y : List ℕ)
    → scan_bytes (u ++ y) ≡ puts (kept (length u) (read_rows (scan_bytes (u ++ x))))
    (rest (u ++ y) 0 (restart (read_rows (scan_bytes (u ++ x))) (length u)).offset.0)
unfolding scan_bytes rest restart
kept_bytes u x y =
    (kept_run (u ++ x) (u ++ y) (length u) (place_agree u x y) u x y 0 0 0 gap start_place (omega arith) (record { text = refl }) refl).same

-- The rows of u ++ x that end inside u begin the scan of u ++ y too, which goes on from the last one's end, with no comment counted.
pub kept_scan : (u x y : List ℕ)
    → scan (u ++ y) ≡ puts (kept (length u) (read_rows (scan (u ++ x))))
    (rest (u ++ y) 0 (restart (read_rows (scan (u ++ x))) (length u)).offset.0)
kept_scan u x y = rw (same_scan (u ++ x), same_scan (u ++ y)) at (kept_bytes u x y)

-- reading restarts at a or before it
last_le : (a : ℕ) (c : Cursor) (rs : List Row) → c.offset.0 ≤ a → (last_end c (kept a rs)).offset.0 ≤ a
unfolding last_end kept end_place
last_le a c [] h = h
last_le a c (r ∷ rs) h = by (ltb r.end a) refl (last_le a (end_place r) rs)
  where
    by : (q : Bool) → ltb r.end a ≡ q → (r.end ≤ a → (last_end (end_place r) (kept a rs)).offset.0 ≤ a) → (last_end c (kept a (r ∷ rs))).offset.0 ≤ a
    by true q ih = let z : r.end < a = ltb-true r.end a q in rw q (ih (omega arith))
    by false q ih = rw q h

pub restart_le : (a : ℕ) (rs : List Row) → (restart rs a).offset.0 ≤ a
unfolding restart
restart_le a rs = last_le a start_place rs (omega arith)
