-- The scan of one stretch from two offsets gives the same rows and ending, moved. Nothing here opens `step`, `begin` or `finish`.
use Prim.Native.Nat.{ℕ, suc, ◌+◌, ◌-◌, ◌≤◌}
use native.Mathlib.Omega.{arith}
use mathlib.Core.List.{List, [], ◌∷◌, map}
use mathlib.Core.Path.{◌≡◌, refl, ap, ap₂}
use Rattle.rules.specs.declared.Cursor.{Cursor}
use Rattle.rules.specs.declared.Lexical.{Lexical}
use Rattle.rules.specs.Text.{place_at}
use Rattle.rules.specs.Rows.{Row, row_at, eof_row, row_place}
use Rattle.rules.specs.Scan.{Reading, put, ends, stops, read_rows, read_ending}
use Rattle.rules.specs.Edit.{carry, carry_row, carry_ending}
use Rattle.theory_machine.specs.Machine.{Token, St, gap, First, go, clear, over, bad, Move, fresh, on, back, Last, clean, ended, cut, spot, begin, step, finish, passed, after, move, close, run}

-- a reading where what stood at o stands at p
unfoldable pub carried : Cursor → Cursor → Reading → Reading
carried o p (put r l) = put (carry_row o p r) (carried o p l)
carried o p ends = ends
carried o p (stops why q d) = stops why (carry o p q) (d + p.offset.0 - o.offset.0)

pub carried_rows : (o p : Cursor) (l : Reading) → read_rows (carried o p l) ≡ map (carry_row o p) (read_rows l)
unfolding carried read_rows
carried_rows o p (put r l) = ap (λ (x : List Row). carry_row o p r ∷ x) (carried_rows o p l)
carried_rows o p ends = refl
carried_rows o p (stops why q d) = refl

pub carried_ending : (o p : Cursor) (l : Reading) → read_ending (carried o p l) ≡ carry_ending o p (read_ending l)
unfolding carried read_ending carry_ending
carried_ending o p (put r l) = carried_ending o p l
carried_ending o p ends = refl
carried_ending o p (stops why q d) = refl

module _ (X X' : List ℕ) (o p : Cursor) (slides : (n : ℕ) → o.offset.0 ≤ n → place_at X' (n + p.offset.0 - o.offset.0) ≡ carry o p (place_at X n)) where
  abbrev f : ℕ → ℕ
  f n = n + p.offset.0 - o.offset.0

  f_add : (t j : ℕ) → o.offset.0 ≤ t → f t + j ≡ f (t + j)
  f_add t j h = omega arith

  row_carried : (c : ℕ) (x : Token) (t j : ℕ) → o.offset.0 ≤ t
      → row_at (place_at X' (f t)) c x.kind (f t + j) x.bits ≡ carry_row o p (row_at (place_at X t) c x.kind (t + j) x.bits)
  unfolding carry_row row_at row_place
  row_carried c x t j h = rw (slides t h, f_add t j h)

  eof_carried : (c t : ℕ) → o.offset.0 ≤ t → eof_row (place_at X' (f t)) c ≡ carry_row o p (eof_row (place_at X t) c)
  unfolding carry_row row_at eof_row row_place carry
  eof_carried c t h = rw (slides t h)

  -- Eof behind t
  end_carried : (c t j : ℕ) → o.offset.0 ≤ t
      → put (eof_row (place_at X' (f t + j)) c) ends ≡ carried o p (put (eof_row (place_at X (t + j)) c) ends)
  unfolding carried
  end_carried c t j h = rw (f_add t j h) (ap (λ (r : Row). put r ends) (eof_carried c (t + j) (omega arith)))

  stops_carried : (why : Lexical) (t i k : ℕ) → o.offset.0 ≤ t
      → stops why (place_at X' (f t + i)) (f t + k) ≡ carried o p (stops why (place_at X (t + i)) (t + k))
  unfolding carried
  stops_carried why t i k h = rw (f_add t i h, f_add t k h, slides (t + i) (omega arith))

  module _ (r r' : (c t k : ℕ) → St → Reading)
      (ih : (c t k : ℕ) (st : St) → o.offset.0 ≤ t → r' c (f t) k st ≡ carried o p (r c t k st)) where
    -- behind a piece of j bytes
    next_carried : (c t j : ℕ) → o.offset.0 ≤ t → r' c (f t + j) 0 gap ≡ carried o p (r c (t + j) 0 gap)
    next_carried c t j h = rw (f_add t j h) (ih c (t + j) 0 gap (omega arith))

    after_carried : (c t k : ℕ) (x : First) → o.offset.0 ≤ t
        → after (place_at X') r' c (f t) k x ≡ carried o p (after (place_at X) r c t k x)
    unfolding after carried
    after_carried c t k (go st) h = ih c t (suc k) st h
    after_carried c t k clear h = next_carried (passed c k) t (suc k) h
    after_carried c t k (over x) h = ap₂ put (row_carried c x t (suc k) h) (next_carried 0 t (suc k) h)
    after_carried c t k (bad why x) h = stops_carried why t (spot x k) k h

    begin_carried : (b c t k : ℕ) → o.offset.0 ≤ t
        → after (place_at X') r' c (f t + k) 0 (begin b) ≡ carried o p (after (place_at X) r c (t + k) 0 (begin b))
    begin_carried b c t k h = rw (f_add t k h) (after_carried c (t + k) 0 (begin b) (omega arith))

    move_carried : (b c t k : ℕ) (m : Move) → o.offset.0 ≤ t
        → move (place_at X') r' b c (f t) k m ≡ carried o p (move (place_at X) r b c t k m)
    unfolding move carried
    move_carried b c t k fresh h = begin_carried b (passed c k) t k h
    move_carried b c t k (on x) h = after_carried c t k x h
    move_carried b c t k (back x) h = ap₂ put (row_carried c x t k h) (begin_carried b 0 t k h)

  close_carried : (c t k : ℕ) (x : Last) → o.offset.0 ≤ t → close (place_at X') c (f t) k x ≡ carried o p (close (place_at X) c t k x)
  unfolding close carried
  close_carried c t k clean h = end_carried (passed c k) t k h
  close_carried c t k (ended x) h = ap₂ put (row_carried c x t k h) (end_carried 0 t k h)
  close_carried c t k (cut why x) h = stops_carried why t (spot x k) k h

  pub run_carried : (s : List ℕ) (c t k : ℕ) (st : St) → o.offset.0 ≤ t
      → run (place_at X') s c (t + p.offset.0 - o.offset.0) k st ≡ carried o p (run (place_at X) s c t k st)
  unfolding run
  run_carried [] c t k st h = close_carried c t k (finish st k) h
  run_carried (b ∷ s) c t k st h = move_carried (run (place_at X) s) (run (place_at X') s) (run_carried s) b c t k (step st k b) h
