-- The counts of a scan's rows add up to the text's comments, where the text scans fully: the byte machine tells both.
use Prim.Native.Nat.{ℕ, zero, suc, ◌+◌}
use native.Mathlib.Nat.{add-zero, zero-add}
use native.Mathlib.Omega.{arith}
use mathlib.Core.List.{List, [], ◌∷◌}
use mathlib.Core.Path.{◌≡◌, refl, ap}
use Rattle.rules.specs.declared.Cursor.{Cursor}
use Rattle.rules.specs.declared.Lexical.{Lexical}
use Rattle.std.specs.declared.option.Option.TheVariants.{None}
use Rattle.rules.specs.Text.{place_at}
use Rattle.rules.specs.Rows.{Row, row_at, eof_row}
use Rattle.rules.specs.Scan.{Reading, put, ends, stops, read_rows, read_ending, scan}
use Rattle.theory_machine.specs.Machine.{St, gap, First, Move, Last, passed, begin, after, move, close, run, scan_bytes}
use Rattle.theory_machine.proofs.Same.{same_scan}
use Rattle.theory_comments.specs.Comments.{code, comments, comments_in, counted}
use Rattle.theory_comments.proofs.States.{ahead, Takes, takes_go, takes_clear, takes_over, takes_bad, Moves, moves_fresh, moves_on, moves_back, Closes, closes_clean, closes_ended, closes_cut, begin_takes, Stands, stands_gap, stands_in, step_moves, finish_closes}

-- a reading that ends with the text tells of n comments
pub record Tells (l : Reading) (n : ℕ) : Type 0 where
  pub sum : read_ending l ≡ None → counted (read_rows l) ≡ n

tells_put : (r : Row) (l : Reading) (n : ℕ) → Tells l n → Tells (put r l) (r.comments + n)
unfolding read_ending read_rows counted
tells_put r l n h = record { sum = λ e. ap (λ m. r.comments + m) (h.sum e) }

tells_ends : Tells ends 0
unfolding read_rows counted
tells_ends = record { sum = λ e. refl }

tells_stops : (why : Lexical) (p : Cursor) (d n : ℕ) → Tells (stops why p d) n
unfolding read_ending
tells_stops why p d n = record { sum = λ e. cc }

passed_sum : (c k n : ℕ) → passed c k + n ≡ c + passed n k
unfolding passed
passed_sum c zero n = refl
passed_sum c (suc k) n = omega arith

module _ (pos : ℕ → Cursor) where
  -- a row with c comments in front of it
  tells_row : (c t kind e bits n : ℕ) (l : Reading) → Tells l (0 + n) → Tells (put (row_at (pos t) c kind e bits) l) (c + n)
  unfolding row_at
  tells_row c t kind e bits n l h = tells_put (row_at (pos t) c kind e bits) l n (rw zero-add at h)

  tells_eof : (c k : ℕ) → Tells (put (eof_row (pos k) c) ends) c
  unfolding row_at eof_row
  tells_eof c k = rw add-zero at (tells_put (eof_row (pos k) c) ends 0 tells_ends)

  module _ (s : List ℕ) (ih : (c t k : ℕ) (st : St) → Stands st k → Tells (run pos s c t k st) (c + ahead st k s)) where
    -- a place where an item may begin
    gap_tells : (c t : ℕ) → Tells (run pos s c t 0 gap) (c + comments code s)
    unfolding ahead passed
    gap_tells c t = ih c t 0 gap stands_gap

    after_tells : {n : ℕ} {x : First} (c t k : ℕ) → Takes k s n x → Tells (after pos (run pos s) c t k x) (c + n)
    unfolding after
    after_tells c t k (takes_go st e) = rw e (ih c t (suc k) st (stands_in st k))
    after_tells c t k (takes_clear e) = rw (e, ← passed_sum c k (comments code s)) (gap_tells (passed c k) (t + suc k))
    after_tells c t k (takes_over x e) = rw e (tells_row c t _ _ _ _ _ (gap_tells 0 (t + suc k)))
    after_tells c t k (takes_bad why x) = tells_stops _ _ _ _

    begin_tells : (b c t : ℕ) → Tells (after pos (run pos s) c t 0 (begin b)) (c + comments code (b ∷ s))
    begin_tells b c t = after_tells c t 0 (begin_takes b s)

    move_tells : {n : ℕ} {x : Move} (b c t k : ℕ) → Moves b k s n x → Tells (move pos (run pos s) b c t k x) (c + n)
    unfolding move
    move_tells b c t k (moves_fresh e) = rw (e, ← passed_sum c k (comments code (b ∷ s))) (begin_tells b (passed c k) (t + k))
    move_tells b c t k (moves_on x h) = after_tells c t k h
    move_tells b c t k (moves_back x e) = rw e (tells_row c t _ _ _ _ _ (begin_tells b 0 (t + k)))

  close_tells : {n : ℕ} {x : Last} (c t k : ℕ) → Closes k n x → Tells (close pos c t k x) (c + n)
  unfolding close
  close_tells c t k (closes_clean e) = rw (e, ← passed_sum c k 0, add-zero) (tells_eof (passed c k) (t + k))
  close_tells c t k (closes_ended x e) = rw e (tells_row c t _ _ _ 0 _ (tells_eof 0 (t + k)))
  close_tells c t k (closes_cut why x) = tells_stops _ _ _ _

  run_tells : (s : List ℕ) (c t k : ℕ) (st : St) → Stands st k → Tells (run pos s c t k st) (c + ahead st k s)
  unfolding run
  run_tells [] c t k st h = close_tells c t k (finish_closes h)
  run_tells (b ∷ s) c t k st h = move_tells s (run_tells s) b c t k (step_moves b s h)

pub counts_add_up : (t : List ℕ) → read_ending (scan t) ≡ None → counted (read_rows (scan t)) ≡ comments_in t
unfolding scan_bytes comments_in ahead passed
counts_add_up t e =
    let h : Tells (scan_bytes t) (0 + comments code t) = run_tells (place_at t) t 0 0 0 gap stands_gap in
    (rw (same_scan t, zero-add) at h).sum e
