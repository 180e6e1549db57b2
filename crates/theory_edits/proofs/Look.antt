-- The machine's scan of a window, which may stop short of the text's end, with the places where it may leave off because old rows
-- follow. Where it is not short, it says what the scan of every text that begins so says.
use Prim.Native.Nat.{ℕ, suc, ◌+◌, ◌≤◌, ◌<◌}
use native.Mathlib.Omega.{arith}
use mathlib.Core.Bool.{Bool, true, false, cond, not, ◌&&◌, true≢false}
use mathlib.Core.List.{List, [], ◌∷◌, ◌++◌}
use mathlib.Core.Path.{◌≡◌, refl, ap, sym, ◌∙◌}
use lib.ListN.{length}
use Rattle.rules.specs.declared.Cursor.{Cursor}
use Rattle.rules.specs.declared.Lexical.{Lexical}
use Rattle.rules.specs.Outcomes.{Ending, halt}
use Rattle.std.specs.declared.option.Option.TheVariants.{None, Some}
use Rattle.rules.specs.Text.{place_at}
use Rattle.rules.specs.Rows.{Row, row_at}
use Rattle.rules.specs.Scan.{Reading, put, ends, stops, read_rows, read_ending}
use Rattle.rules.specs.Edit.{opens, Seen, sees, over', met, short, is_short}
use Rattle.theory_machine.specs.Machine.{St, gap, First, go, clear, over, bad, Move, fresh, on, back, Last, clean, ended, cut, spot, begin, step, finish, passed, after, move, close, run}
use Rattle.laws.proofs.Tests.{both_true}
use Rattle.theory_machine.proofs.Spans.{spot_le}
use Rattle.theory_edits.proofs.Stand.{At, at_next, at_same, rest, rest_begin}

-- a reading to the text's end, as the window's scan tells it
unfoldable pub listed : Reading → Seen
listed (put r l) = sees r (listed l)
listed ends = over' None
listed (stops why p d) = over' (Some (halt why p))

module _ (pos : ℕ → Cursor) (meet : ℕ → Bool) where
  unfoldable pub see_after : ((c t k : ℕ) → St → Seen) → (c t k : ℕ) → First → Seen
  see_after r c t k (go st) = r c t (suc k) st
  see_after r c t k clear = r (passed c k) (t + suc k) 0 gap
  see_after r c t k (over x) = sees (row_at (pos t) c x.kind (t + suc k) x.bits) (r 0 (t + suc k) 0 gap)
  see_after r c t k (bad why x) = over' (Some (halt why (pos (t + spot x k))))

  -- byte b, with w behind it, stands at n, where a row may begin: old rows follow if one starts there and no gap goes on
  unfoldable pub see_at : List ℕ → ((c t k : ℕ) → St → Seen) → (b c n : ℕ) → Seen
  see_at w r b c n = cond (meet n && not (opens (b ∷ w))) (met n c) (see_after r c n 0 (begin b))

  unfoldable pub see_move : List ℕ → ((c t k : ℕ) → St → Seen) → (b c t k : ℕ) → Move → Seen
  see_move w r b c t k fresh = see_at w r b (passed c k) (t + k)
  see_move w r b c t k (on f) = see_after r c t k f
  see_move w r b c t k (back x) = sees (row_at (pos t) c x.kind (t + k) x.bits) (see_at w r b 0 (t + k))

  unfoldable pub look_bytes : Bool → List ℕ → (c t k : ℕ) → St → Seen
  look_bytes whole [] c t k st = cond whole (listed (close pos c t k (finish st k))) short
  look_bytes whole (b ∷ w) c t k st = see_move w (look_bytes whole w) b c t k (step st k b)

-- the rows and the ending, where g and h give those that follow a meeting place, behind so many comments
unfoldable pub fill_rows : ((m c : ℕ) → List Row) → Seen → List Row
fill_rows g (sees r s) = r ∷ fill_rows g s
fill_rows g (over' e) = []
fill_rows g (met m c) = g m c
fill_rows g short = []

unfoldable pub fill_ending : (ℕ → Ending) → Seen → Ending
fill_ending h (sees r s) = fill_ending h s
fill_ending h (over' e) = e
fill_ending h (met m c) = h m
fill_ending h short = None

-- l is what s says, unless s is short
pub record Says (g : (m c : ℕ) → List Row) (h : ℕ → Ending) (s : Seen) (l : Reading) : Type 0 where
  pub rows : is_short s ≡ false → read_rows l ≡ fill_rows g s
  pub ending : is_short s ≡ false → read_ending l ≡ fill_ending h s

module _ {g : (m c : ℕ) → List Row} {h : ℕ → Ending} where
  says_put : {s : Seen} {l : Reading} (r : Row) → Says g h s l → Says g h (sees r s) (put r l)
  unfolding is_short fill_rows fill_ending read_rows read_ending
  says_put r x = record { rows = λ n. ap (λ (rs : List Row). r ∷ rs) (x.rows n); ending = x.ending }

  says_stops : (why : Lexical) (p : Cursor) (d : ℕ) → Says g h (over' (Some (halt why p))) (stops why p d)
  unfolding fill_rows fill_ending read_rows read_ending
  says_stops why p d = record { rows = λ n. refl; ending = λ n. refl }

  says_listed : (l : Reading) → Says g h (listed l) l
  unfolding listed fill_rows fill_ending read_rows read_ending
  says_listed (put r l) = says_put r (says_listed l)
  says_listed ends = record { rows = λ n. refl; ending = λ n. refl }
  says_listed (stops why p d) = says_stops why p d

  says_short : (l : Reading) → Says g h short l
  unfolding is_short
  says_short l = record { rows = λ n. absurd (true≢false n); ending = λ n. absurd (true≢false n) }

  says_met : (m c : ℕ) (l : Reading) → read_rows l ≡ g m c → read_ending l ≡ h m → Says g h (met m c) l
  unfolding fill_rows fill_ending
  says_met m c l e f = record { rows = λ n. e; ending = λ n. f }

-- `pos` gives the window's places: from lo, where it starts, to hi, where it ends
module _ (T : List ℕ) (pos : ℕ → Cursor) (lo hi : ℕ) (agree : (n : ℕ) → lo ≤ n → n ≤ hi → place_at T n ≡ pos n)
    (meet : ℕ → Bool) (g : (m c : ℕ) → List Row) (h : ℕ → Ending)
    (meets_rows : (m c : ℕ) → lo ≤ m → m < hi → meet m ≡ true → read_rows (rest T c m) ≡ g m c)
    (meets_ending : (m c : ℕ) → lo ≤ m → m < hi → meet m ≡ true → read_ending (rest T c m) ≡ h m) where
  module _ (w z : List ℕ) (rf : (c t k : ℕ) → St → Reading) (rs : (c t k : ℕ) → St → Seen) (rf_is : rf ≡ run (place_at T) (w ++ z))
      (ih : (c t k : ℕ) (st : St) → lo ≤ t → t + k + length w ≡ hi → At T (w ++ z) (t + k) → Says g h (rs c t k st) (rf c t k st)) where
    -- behind a piece
    next_says : (c n : ℕ) → lo ≤ n → n + length w ≡ hi → At T (w ++ z) n → Says g h (rs c n 0 gap) (rf c n 0 gap)
    next_says c n l e d = ih c n 0 gap l (omega arith) (at_same d (omega arith))

    after_says : (c t k : ℕ) (x : First) → lo ≤ t → t + suc k + length w ≡ hi → At T (w ++ z) (t + suc k)
        → Says g h (see_after pos meet rs c t k x) (after (place_at T) rf c t k x)
    unfolding after see_after
    after_says c t k (go st) l e d = ih c t (suc k) st l e d
    after_says c t k clear l e d = next_says (passed c k) (t + suc k) (omega arith) e d
    after_says c t k (over x) l e d = rw (agree t l (omega arith)) (says_put _ (next_says 0 (t + suc k) (omega arith) e d))
    after_says c t k (bad why x) l e d =
        let p : spot x k ≤ k = spot_le x k in
        rw (agree (t + spot x k) (omega arith) (omega arith)) (says_stops why (pos (t + spot x k)) (t + k))

    at_says : (b c n : ℕ) → lo ≤ n → n + suc (length w) ≡ hi → At T (b ∷ (w ++ z)) n
        → Says g h (see_at pos meet w rs b c n) (after (place_at T) rf c n 0 (begin b))
    unfolding see_at
    at_says b c n l e d = by (meet n && not (opens (b ∷ w))) refl
      where
        is : rest T c n ≡ after (place_at T) rf c n 0 (begin b)
        is = rest_begin c d ∙ rw rf_is

        by : (q : Bool) → (meet n && not (opens (b ∷ w))) ≡ q → Says g h (see_at pos meet w rs b c n) (after (place_at T) rf c n 0 (begin b))
        by true q =
            let y : meet n ≡ true = (both_true (meet n) (not (opens (b ∷ w))) q).0 in
            rw q (says_met n c _ (ap read_rows (sym is) ∙ meets_rows n c l (omega arith) y)
            (ap read_ending (sym is) ∙ meets_ending n c l (omega arith) y))
        by false q = rw q (after_says c n 0 (begin b) l (omega arith) (at_next d (omega arith)))

    move_says : (b c t k : ℕ) (x : Move) → lo ≤ t → t + k + suc (length w) ≡ hi → At T (b ∷ (w ++ z)) (t + k)
        → Says g h (see_move pos meet w rs b c t k x) (move (place_at T) rf b c t k x)
    unfolding move see_move
    move_says b c t k fresh l e d = at_says b (passed c k) (t + k) (omega arith) e d
    move_says b c t k (on x) l e d = after_says c t k x l (omega arith) (at_next d (omega arith))
    move_says b c t k (back x) l e d = rw (agree t l (omega arith)) (says_put _ (at_says b 0 (t + k) (omega arith) e d))

  close_says : (c t k : ℕ) (x : Last) → lo ≤ t → t + k ≡ hi → close (place_at T) c t k x ≡ close pos c t k x
  unfolding close
  close_says c t k clean l e = rw (agree (t + k) (omega arith) (omega arith))
  close_says c t k (ended x) l e = rw (agree t l (omega arith), agree (t + k) (omega arith) (omega arith))
  close_says c t k (cut why x) l e = let p : spot x k ≤ k = spot_le x k in rw (agree (t + spot x k) (omega arith) (omega arith))

  pub look_says : (whole : Bool) (w z : List ℕ) → (whole ≡ true → z ≡ []) → (c t k : ℕ) (st : St) → lo ≤ t → t + k + length w ≡ hi
      → At T (w ++ z) (t + k)
      → Says g h (look_bytes pos meet whole w c t k st) (run (place_at T) (w ++ z) c t k st)
  unfolding look_bytes run
  look_says true [] z y c t k st l e d =
      rw (y refl, close_says c t k (finish st k) l (omega arith)) (says_listed (close pos c t k (finish st k)))
  look_says false [] z y c t k st l e d = says_short _
  look_says whole (b ∷ w) z y c t k st l e d =
      move_says w z (run (place_at T) (w ++ z)) (look_bytes pos meet whole w) refl (look_says whole w z y) b c t k (step st k b) l e d
