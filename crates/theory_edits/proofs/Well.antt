-- A scan's rows are in order and inside the text, each with its start's place, as long as its kind asks, and behind a gap with room for its
-- comments; Eof stands at the text's end.
use Prim.Native.Nat.{ℕ, suc, ◌+◌, ◌*◌, ◌≤◌}
use native.Mathlib.Omega.{arith}
use mathlib.Core.Bool.{true}
use mathlib.Core.List.{List, [], ◌∷◌}
use mathlib.Core.Path.{◌≡◌, refl}
use lib.ListN.{length}
use Rattle.rules.specs.declared.Lexical.{Lexical}
use Rattle.rules.specs.Text.{place_at}
use Rattle.rules.specs.Rows.{row_at, eof_row}
use Rattle.rules.specs.Scan.{Reading, put, ends, stops, scan}
use Rattle.theory_machine.specs.Machine.{Token, St, gap, First, go, clear, over, bad, Move, fresh, on, back, Last, clean, ended, cut, spot, begin, step, finish, passed, after, move, close, run, scan_bytes}
use Rattle.theory_machine.proofs.Same.{same_scan}
use Rattle.theory_machine.proofs.Spans.{spot_le}
use Rattle.theory_edits.proofs.Tokens.{Fit, closed_wide, good, GoodFirst, good_go, good_clear, good_over, good_bad, GoodMove, good_fresh, good_on, good_back, GoodLast, good_clean, good_ended, good_cut, begin_good, step_good, finish_good}

module _ (T : List ℕ) where
  -- a reading from lo on, where the last row ended: between that and a row lie two bytes or more for each comment that the row tells of
  pub data Well : ℕ → Reading → Type 0 where
    well_row : {lo t k : ℕ} {x : Token} {l : Reading} (c : ℕ) → lo + 2 * c ≤ t → t + k ≤ length T → Fit x k → Well (t + k) l
        → Well lo (put (row_at (place_at T t) c x.kind (t + k) x.bits) l)
    well_eof : {lo n : ℕ} (c : ℕ) → lo + 2 * c ≤ n → n ≡ length T → Well lo (put (eof_row (place_at T n) c) ends)
    well_stops : {lo m d : ℕ} {why : Lexical} → lo ≤ m → m ≤ length T → Well lo (stops why (place_at T m) d)

  module _ (s : List ℕ) (r : (c t k : ℕ) → St → Reading)
      (ih : (lo c t k : ℕ) (st : St) → lo + 2 * c ≤ t → t + k + length s ≡ length T → good st k ≡ true → Well lo (r c t k st)) where
    -- behind a piece
    next_well : (lo c n : ℕ) → lo + 2 * c ≤ n → n + length s ≡ length T → Well lo (r c n 0 gap)
    unfolding good
    next_well lo c n l h = ih lo c n 0 gap l (omega arith) refl

    after_well : (lo c t k : ℕ) (x : First) → lo + 2 * c ≤ t → t + k + suc (length s) ≡ length T → GoodFirst k x
        → Well lo (after (place_at T) r c t k x)
    unfolding after
    after_well lo c t k (go st) l h (good_go g) = ih lo c t (suc k) st l (omega arith) g
    after_well lo c t k clear l h good_clear = next_well lo (passed c k) (t + suc k) (omega (arith, closed_wide c k)) (omega arith)
    after_well lo c t k (over x) l h (good_over f) =
        let e : t + suc k ≤ length T = omega arith in
        well_row c l e f (next_well (t + suc k) 0 (t + suc k) (omega arith) (omega arith))
    after_well lo c t k (bad why x) l h good_bad =
        let p : spot x k ≤ k = spot_le x k in
        let e₁ : lo ≤ t + spot x k = omega arith in
        let e₂ : t + spot x k ≤ length T = omega arith in
        well_stops e₁ e₂

    begin_well : (b lo c n : ℕ) → lo + 2 * c ≤ n → n + suc (length s) ≡ length T → Well lo (after (place_at T) r c n 0 (begin b))
    begin_well b lo c n l h = after_well lo c n 0 (begin b) l (omega arith) (begin_good b)

    move_well : (b lo c t k : ℕ) (m : Move) → lo + 2 * c ≤ t → t + k + suc (length s) ≡ length T → GoodMove k m
        → Well lo (move (place_at T) r b c t k m)
    unfolding move
    move_well b lo c t k fresh l h (good_fresh g) = begin_well b lo (passed c k) (t + k) (omega (arith, g.wide c)) h
    move_well b lo c t k (on x) l h (good_on g) = after_well lo c t k x l h g
    move_well b lo c t k (back x) l h (good_back f) =
        let e : t + k ≤ length T = omega arith in
        well_row c l e f (begin_well b (t + k) 0 (t + k) (omega arith) h)

  close_well : (lo c t k : ℕ) (x : Last) → lo + 2 * c ≤ t → t + k ≡ length T → GoodLast k x → Well lo (close (place_at T) c t k x)
  unfolding close
  close_well lo c t k clean l h (good_clean g) = let e : lo + 2 * passed c k ≤ t + k = omega (arith, g.wide c) in well_eof (passed c k) e h
  close_well lo c t k (ended x) l h (good_ended f) =
      let e₁ : t + k ≤ length T = omega arith in
      let e₂ : t + k + 2 * 0 ≤ t + k = omega arith in
      well_row c l e₁ f (well_eof 0 e₂ h)
  close_well lo c t k (cut why x) l h good_cut =
      let p : spot x k ≤ k = spot_le x k in
      let e₁ : lo ≤ t + spot x k = omega arith in
      let e₂ : t + spot x k ≤ length T = omega arith in
      well_stops e₁ e₂

  run_well : (s : List ℕ) (lo c t k : ℕ) (st : St) → lo + 2 * c ≤ t → t + k + length s ≡ length T → good st k ≡ true
      → Well lo (run (place_at T) s c t k st)
  unfolding run
  run_well [] lo c t k st l h g = close_well lo c t k (finish st k) l (omega arith) (finish_good st k g)
  run_well (b ∷ s) lo c t k st l h g = move_well s (run (place_at T) s) (run_well s) b lo c t k (step st k b) l h (step_good st k b g)

  bytes_well : Well 0 (scan_bytes T)
  unfolding scan_bytes good
  bytes_well = run_well T 0 0 0 0 gap (omega arith) (omega arith) refl

  pub scan_well : Well 0 (scan T)
  scan_well = rw (same_scan T) at bytes_well
