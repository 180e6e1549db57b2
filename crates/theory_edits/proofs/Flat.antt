-- No row holds a newline: where a row ends, the line is its start's and the column its start's and its length.
use Prim.Native.Nat.{ℕ, suc, ◌+◌, ◌-◌, ◌≤◌}
use native.Mathlib.Nat.{add-zero, add-suc}
use native.Mathlib.Omega.{arith}
use mathlib.Core.Bool.{Bool, true, false, true≢false}
use mathlib.Core.List.{List, [], ◌∷◌}
use mathlib.Core.Path.{◌≡◌, refl, ap, sym, ◌∙◌, subst}
use lib.Dec.{eqb}
use lib.ListN.{drop, take}
use borrow.Author.Tests.{eqb-true}
use Rattle.rules.specs.declared.Cursor.{Cursor}
use Rattle.rules.specs.declared.Lexical.{Lexical}
use Rattle.rules.specs.Text
use Rattle.rules.specs.Text.{place_at, moved, along}
use Rattle.rules.specs.Rows.{Row, row_at, eof_row}
use Rattle.rules.specs.Scan.{Reading, put, ends, stops, scan}
use Rattle.rules.specs.Edit.{end_place}
use Rattle.theory_machine.specs.Machine.{Token, St, gap, First, go, clear, over, bad, Spot, Move, fresh, on, back, Last, clean, ended, cut, begin, step, finish, passed, after, move, close, run, scan_bytes}
use Rattle.theory_machine.proofs.Same.{same_scan}
use Rattle.theory_edits.proofs.Steps.{comment, stays, halts, ceases, closes, comment_stays, newline_ceases, newline_begins, comment_closes}
use Rattle.theory_edits.proofs.Stand.{At, at_next, at_same}
use Rattle.laws.proofs.Places.{place_eq, at, place_add}

module _ (T : List ℕ) where
  -- each row ends, behind its start or there, at the place that it says
  pub data Flat : Reading → Type 0 where
    flat_put : {r : Row} {l : Reading} → r.start ≤ r.end → end_place r ≡ place_at T r.end → Flat l → Flat (put r l)
    flat_ends : Flat ends
    flat_stops : {why : Lexical} {p : Cursor} {d : ℕ} → Flat (stops why p d)

  pub place_next : (s : List ℕ) (n b : ℕ) → At T (b ∷ s) n → place_at T (suc n) ≡ moved (place_at T n) b
  unfolding Text.over moved place_at
  place_next s n b d =
      let e : suc n ≡ n + 1 = omega arith in
      let f : at (n + 1) (Text.over (place_at T n) (take 1 (drop n T))) ≡ moved (place_at T n) b = rw d.text in
      ap (place_at T) e ∙ place_add T n 1 ∙ f

  -- k bytes behind t, on t's line
  abbrev On : ℕ → ℕ → Type 0
  On t k = place_at T (t + k) ≡ along (place_at T t) k

  on_none : (t : ℕ) → On t 0
  unfolding along
  on_none t = rw (add-zero t) (place_eq _ _ (omega arith) refl (omega arith))

  on_next : (s : List ℕ) (t k b : ℕ) → At T (b ∷ s) (t + k) → eqb b 10 ≡ false → On t k → On t (suc k)
  unfolding along moved
  on_next s t k b d q h = rw (add-suc t k, place_next s (t + k) b d, h, moved, q) (place_eq _ _ (omega arith) refl (omega arith))

  flat_row : (c : ℕ) (x : Token) (t k : ℕ) (l : Reading) → On t k → Flat l
      → Flat (put (row_at (place_at T t) c x.kind (t + k) x.bits) l)
  unfolding row_at end_place along place_at
  flat_row c x t k l h f =
      let n : t ≤ t + k = omega arith in
      let m : t + k - t ≡ k = omega arith in
      flat_put {r = row_at (place_at T t) c x.kind (t + k) x.bits} n
      (place_eq _ _ refl (ap (λ (y : Cursor). y.line.0) (sym h)) (rw m (ap (λ (y : Cursor). y.column.0) (sym h)))) f

  flat_eof : (c n : ℕ) → Flat (put (eof_row (place_at T n) c) ends)
  unfolding eof_row row_at end_place place_at
  flat_eof c n = let l : n ≤ n = omega arith in flat_put {r = eof_row (place_at T n) c} l (place_eq _ _ refl refl (omega arith)) flat_ends

  data Ok (t k : ℕ) (st : St) : Type 0 where
    away : comment st ≡ true → Ok t k st
    near : On t k → Ok t k st

  -- what the byte behind t + k leads to
  data Led (t k : ℕ) : First → Type 0 where
    gone : {st : St} → Ok t (suc k) st → Led t k (go st)
    cleared : Led t k clear
    whole : {x : Token} → On t (suc k) → Led t k (over x)
    fell : {why : Lexical} {x : Spot} → Led t k (bad why x)

  led_near : (s : List ℕ) (t k b : ℕ) (x : First) → At T (b ∷ s) (t + k) → (b ≡ 10 → halts x ≡ true) → On t k → Led t k x
  unfolding halts
  led_near s t k b (go st) d n h = by (eqb b 10) refl
    where
      by : (q : Bool) → eqb b 10 ≡ q → Led t k (go st)
      by true q = absurd (true≢false (sym (n (eqb-true b 10 q))))
      by false q = gone (near (on_next s t k b d q h))
  led_near s t k b clear d n h = cleared
  led_near s t k b (over x) d n h = by (eqb b 10) refl
    where
      by : (q : Bool) → eqb b 10 ≡ q → Led t k (over x)
      by true q = absurd (true≢false (sym (n (eqb-true b 10 q))))
      by false q = whole (on_next s t k b d q h)
  led_near s t k b (bad why x) d n h = fell

  led_away : (t k : ℕ) (x : First) → stays (on x) ≡ true → Led t k x
  unfolding stays
  led_away t k (go st) h = gone (away h)
  led_away t k clear h = cleared
  led_away t k (over x) h = absurd (true≢false (sym h))
  led_away t k (bad why x) h = absurd (true≢false (sym h))

  begin_newline : (b : ℕ) → b ≡ 10 → halts (begin b) ≡ true
  begin_newline b e = rw e newline_begins

  module _ (s : List ℕ) (r : (c t k : ℕ) → St → Reading) (ih : (c t k : ℕ) (st : St) → At T s (t + k) → Ok t k st → Flat (r c t k st)) where
    -- behind a piece
    next_flat : (c n : ℕ) → At T s n → Flat (r c n 0 gap)
    next_flat c n d = ih c n 0 gap (at_same d (omega arith)) (near (on_none n))

    after_flat : (c t k : ℕ) (x : First) → At T s (t + suc k) → Led t k x → Flat (after (place_at T) r c t k x)
    unfolding after
    after_flat c t k (go st) d (gone o) = ih c t (suc k) st d o
    after_flat c t k clear d cleared = next_flat (passed c k) (t + suc k) d
    after_flat c t k (over x) d (whole o) = flat_row c x t (suc k) _ o (next_flat 0 (t + suc k) d)
    after_flat c t k (bad why x) d fell = flat_stops

    begin_flat : (b c n : ℕ) → At T (b ∷ s) n → Flat (after (place_at T) r c n 0 (begin b))
    begin_flat b c n d =
        after_flat c n 0 (begin b) (at_next d (omega arith))
        (led_near s n 0 b (begin b) (at_same d (omega arith)) (begin_newline b) (on_none n))

    move_flat : (b c t k : ℕ) (st : St) (m : Move) → step st k b ≡ m → At T (b ∷ s) (t + k) → Ok t k st
        → Flat (move (place_at T) r b c t k m)
    unfolding move ceases stays
    move_flat b c t k st fresh e d o = begin_flat b (passed c k) (t + k) d
    move_flat b c t k st (on x) e d (away o) =
        after_flat c t k x (at_next d (omega arith)) (led_away t k x (rw e at (comment_stays st k b o)))
    move_flat b c t k st (on x) e d (near o) = after_flat c t k x (at_next d (omega arith)) (by (comment st) refl)
      where
        by : (q : Bool) → comment st ≡ q → Led t k x
        by true q = led_away t k x (rw e at (comment_stays st k b q))
        by false q = led_near s t k b x d (λ n. rw e at (subst (λ (y : ℕ). ceases (step st k y) ≡ true) (sym n) (newline_ceases st k q))) o
    move_flat b c t k st (back x) e d (away o) = absurd (true≢false (sym (rw e at (comment_stays st k b o))))
    move_flat b c t k st (back x) e d (near o) = flat_row c x t k _ o (begin_flat b 0 (t + k) d)

  close_flat : (c t k : ℕ) (st : St) (x : Last) → finish st k ≡ x → At T [] (t + k) → Ok t k st → Flat (close (place_at T) c t k x)
  unfolding close closes
  close_flat c t k st clean e d o = flat_eof (passed c k) (t + k)
  close_flat c t k st (ended x) e d (away o) = absurd (true≢false (sym (rw e at (comment_closes st k o))))
  close_flat c t k st (ended x) e d (near o) = flat_row c x t k _ o (flat_eof 0 (t + k))
  close_flat c t k st (cut why x) e d o = flat_stops

  run_flat : (s : List ℕ) (c t k : ℕ) (st : St) → At T s (t + k) → Ok t k st → Flat (run (place_at T) s c t k st)
  unfolding run
  run_flat [] c t k st d o = close_flat c t k st (finish st k) refl d o
  run_flat (b ∷ s) c t k st d o = move_flat s (run (place_at T) s) (run_flat s) b c t k st (step st k b) refl d o

  bytes_flat : Flat (scan_bytes T)
  unfolding scan_bytes
  bytes_flat = run_flat T 0 0 0 gap (record { text = refl }) (near (on_none 0))

  pub scan_flat : Flat (scan T)
  scan_flat = rw (same_scan T) at bytes_flat
