-- Kept rows: they are the first ones, each ends below a and the next does not, so halving finds them; the place behind them is behind the
-- last.
use mathlib.Core.Path.{◌≡◌, refl, ap, ◌∙◌}
use mathlib.Core.Bool.{Bool, true, false, cond}
use mathlib.Core.List.{List, [], ◌∷◌}
use Prim.Native.Nat.{ℕ, zero, suc, ◌+◌, ◌*◌, ◌≤◌, ◌<◌}
use native.Mathlib.Nat.{not-suc-le-zero, le_of_suc-le-suc, le_refl}
use native.Mathlib.Decide.{dec_le}
use native.Mathlib.Omega.{arith}
use lib.ListN.{length, take, drop, get_or}
use lib.Seq.{drop-drop}
use lib.Dec.{ltb}
use borrow.Author.Tests.{ltb-true, ltb-false}
use Rattle.rules.specs.declared.Cursor.{Cursor}
use Rattle.rules.specs.Rows.{Row, row_in, rows_in}
use Rattle.rules.specs.Edit.{kept, end_place, last_end}
use Rattle.rows.specs.Shape.{row_no}
use Rattle.laws.proofs.Rows.{rows_length, rows_at, take_rows}

-- ---- the first ones

pub kept_few : (a : ℕ) (rs : List Row) → length (kept a rs) ≤ length rs
unfolding kept
kept_few a [] = le_refl 0
kept_few a (r ∷ rs) = pick (ltb r.end a) (kept_few a rs)
  where
    pick : (p : Bool) → length (kept a rs) ≤ length rs → length (cond p (r ∷ kept a rs) []) ≤ suc (length rs)
    pick true h = omega arith
    pick false h = omega arith

kept_front : (a : ℕ) (rs : List Row) → kept a rs ≡ take (length (kept a rs)) rs
unfolding kept
kept_front a [] = refl
kept_front a (r ∷ rs) = pick (ltb r.end a) (kept_front a rs)
  where
    pick : (p : Bool) → kept a rs ≡ take (length (kept a rs)) rs → cond p (r ∷ kept a rs) [] ≡ take (length (cond p (r ∷ kept a rs) [])) (r ∷ rs)
    pick true h = ap (◌∷◌ r) h
    pick false h = refl

kept_ends : (a : ℕ) (rs : List Row) (d : Row) (i : ℕ) → i < length (kept a rs) → (get_or rs i d).end < a
unfolding kept
kept_ends a [] d i h = absurd (not-suc-le-zero h)
kept_ends a (r ∷ rs) d i h = pick (ltb r.end a) refl i h (kept_ends a rs d)
  where
    pick : (p : Bool) → ltb r.end a ≡ p → (i : ℕ) → i < length (cond p (r ∷ kept a rs) []) →
        ((j : ℕ) → j < length (kept a rs) → (get_or rs j d).end < a) → (get_or (r ∷ rs) i d).end < a
    pick false e i h f = absurd (not-suc-le-zero h)
    pick true e zero h f = ltb-true r.end a e
    pick true e (suc i) h f = f i (le_of_suc-le-suc h)

kept_stop : (a : ℕ) (rs : List Row) (d : Row) → length (kept a rs) < length rs → a ≤ (get_or rs (length (kept a rs)) d).end
unfolding kept
kept_stop a [] d h = absurd (not-suc-le-zero h)
kept_stop a (r ∷ rs) d h = pick (ltb r.end a) refl h (kept_stop a rs d)
  where
    pick : (p : Bool) → ltb r.end a ≡ p → length (cond p (r ∷ kept a rs) []) < suc (length rs) →
        (length (kept a rs) < length rs → a ≤ (get_or rs (length (kept a rs)) d).end) →
        a ≤ (get_or (r ∷ rs) (length (cond p (r ∷ kept a rs) [])) d).end
    pick false e h f = ltb-false r.end a e
    pick true e h f = f (le_of_suc-le-suc h)

module _ (a : ℕ) (ws : List ℕ) (count : ℕ) where
  -- as many as are kept
  abbrev pub kept_count : ℕ
  kept_count = length (kept a (rows_in count ws))

  pub kept_inside : kept_count ≤ count
  kept_inside = rw (rows_length count ws) at (kept_few a (rows_in count ws))

  pub kept_rows : kept a (rows_in count ws) ≡ rows_in kept_count ws
  kept_rows = kept_front a (rows_in count ws) ∙ take_rows count ws kept_count kept_inside

  pub kept_below : (i : ℕ) → i < kept_count → (row_no ws i).end < a
  kept_below i h =
      let l : i < count = omega (arith, kept_inside) in
      rw (rows_at count ws (row_in []) i l) at (kept_ends a (rows_in count ws) (row_in []) i h)

  kept_next : kept_count < count → a ≤ (row_no ws kept_count).end
  kept_next h =
      rw (rows_at count ws (row_in []) kept_count h) at (kept_stop a (rows_in count ws) (row_in []) (rw (rows_length count ws) h))

  -- ---- found by halving

  -- as many as are kept lie between low and high
  pub record Between (low high : ℕ) : Type 0 where
    pub order : low ≤ high
    pub inside : high ≤ count
    pub below : (i : ℕ) → i < low → (row_no ws i).end < a
    pub stop : high < count → a ≤ (row_no ws high).end

  -- low and high have met
  pub between_none : (low high : ℕ) → Between low high → high ≤ low → low ≡ kept_count
  between_none low high b h = pick (dec_le kept_count low) (dec_le low kept_count)
    where
      same : low ≡ high
      same = omega (arith, b.order)

      pick : Dec (kept_count ≤ low) → Dec (low ≤ kept_count) → low ≡ kept_count
      pick (yes x) (yes y) = omega arith
      pick (no x) y = absurd (omega (arith, kept_below low (omega arith), rw (← same) at b.stop (omega (arith, kept_inside))))
      pick (yes x) (no y) = absurd (omega (arith, b.below kept_count (omega arith), kept_next (omega (arith, b.inside))))

-- ---- the place behind them

pub behind_rows : (n : ℕ) (ws : List ℕ) (p : Cursor) → last_end p (rows_in (suc n) ws) ≡ end_place (row_no ws n)
unfolding last_end rows_in
behind_rows zero ws p = refl
behind_rows (suc n) ws p =
    let f : 8 + 8 * n ≡ 8 * suc n = omega arith in
    behind_rows n (drop 8 ws) (end_place (row_in ws)) ∙ rw (drop-drop, f)
