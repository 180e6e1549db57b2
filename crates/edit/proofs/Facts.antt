-- What a well-formed table gives the edit: starts and ends rise, and what is moved from one of its rows on fits.
use mathlib.Core.Path.{◌≡◌, refl, sym}
use mathlib.Core.Bool.{true, not, ◌&&◌, ◌||◌}
use mathlib.Core.List.{List}
use Prim.Native.Nat.{ℕ, zero, suc, ◌+◌, ◌-◌, ◌^◌, ◌≤◌, ◌<◌}
use native.Mathlib.Nat.{le_refl, add-zero}
use native.Mathlib.Decide.{ℕ_discrete}
use native.Mathlib.Omega.{arith}
use lib.Dec.{eqb, leb}
use borrow.Author.Tests.{eqb-true, eq-eqb, leb-true}
use Rattle.rules.specs.declared.Cursor.{Cursor}
use Rattle.rules.specs.Outcomes.{Ending}
use Rattle.std.specs.declared.option.Option.TheVariants.{None, Some}
use Rattle.rules.specs.declared.Table.{Table}
use Rattle.rules.specs.Text.{most_bytes, Roomy}
use Rattle.rules.specs.Rows.{row_place, lines_fit, follows, place_fits}
use Rattle.rows.specs.Shape.{row_no, behind}
use Rattle.laws.proofs.Tests.{both_true}
use Rattle.rows.proofs.Inside
use Rattle.rows.proofs.Inside.{Fine, Ends, Broken, clean, broken, row_sound, in_order}
use Rattle.edit_kept.specs.Kept.{EndsRise, Ended}
use Rattle.edit_carry.specs.Moves.{MovesPlace, MovesRow, MovesEnding, none, refused}
use Rattle.scan_meet.specs.Meeting.{Rising}

-- ---- lines

-- the lines and columns of two places of a text, of which q is not the first
pub record Lines (p q : Cursor) : Type 0 where
  pub line : p.line.0 ≤ q.line.0
  pub column : q.line.0 ≡ p.line.0 → q.column.0 + p.offset.0 ≡ p.column.0 + q.offset.0

lines_of : (p q : Cursor) → lines_fit p q ≡ true → Lines p q
unfolding lines_fit
lines_of p q e =
    let x = both_true (leb p.line.0 q.line.0) (not (eqb p.line.0 q.line.0) || eqb (q.column.0 + p.offset.0) (p.column.0 + q.offset.0)) e in
    record {
      line = leb-true p.line.0 q.line.0 x.0;
      column = λ z. eqb-true (q.column.0 + p.offset.0) (p.column.0 + q.offset.0) (rw (eq-eqb p.line.0 q.line.0 (sym z)) at x.1);
    }

lines_more : (p q r : Cursor) → Lines p q → Lines q r → Lines p r
lines_more p q r a b =
    record {
      line = omega (arith, a.line, b.line);
      column = λ z.
          let x : r.line.0 ≡ q.line.0 = omega (arith, a.line, b.line) in
          let y : q.line.0 ≡ p.line.0 = omega (arith, a.line, b.line) in
          omega (arith, a.column y, b.column x);
    }

lines_self : (p : Cursor) → Lines p p
lines_self p = record { line = le_refl p.line.0; column = λ z. refl }

-- ---- the rows of a well-formed table

module _ {ws : List ℕ} {t : Table} (f : Fine ws t) where
  -- a row ends before a later one starts
  later : (i j : ℕ) → i < j → j < t.count → (row_no ws i).end ≤ (row_no ws j).start
  later i j h l = let k : suc (i + (j - suc i)) ≡ j = omega arith in rw k at (in_order f i (j - suc i) (rw k l))

  pub rising : Rising ws t.count
  rising = record { rises = λ i j h l. pick i j h l (ℕ_discrete i j) }
    where
      pick : (i j : ℕ) → i ≤ j → j < t.count → Dec (i ≡ j) → (row_no ws i).start ≤ (row_no ws j).start
      pick i j h l (yes e) = rw e (le_refl (row_no ws j).start)
      pick i j h l (no e) = omega (arith, (row_sound f i (omega arith)).ordered, later i j (omega arith) l)

  pub ends_rise : EndsRise ws t.count
  ends_rise = record { rises = λ i j h l. pick i j h l (ℕ_discrete i j) }
    where
      pick : (i j : ℕ) → i ≤ j → j < t.count → Dec (i ≡ j) → (row_no ws i).end ≤ (row_no ws j).end
      pick i j h l (yes e) = rw e (le_refl (row_no ws j).end)
      pick i j h l (no e) = omega (arith, (row_sound f j l).ordered, later i j (omega arith) l)

  pub ended : (i : ℕ) → i < t.count → Ended (row_no ws i)
  ended i h =
      let s = row_sound f i h in
      record { ordered = s.ordered; room = omega (arith, s.ordered, s.column_high, Inside.within f i h, f.short) }

  lines_on : (i k : ℕ) → i + k < t.count → Lines (row_place (row_no ws i)) (row_place (row_no ws (i + k)))
  unfolding follows
  lines_on i zero h = rw add-zero (lines_self (row_place (row_no ws i)))
  lines_on i (suc k) h =
      let a = row_no ws (i + k) in
      let b = row_no ws (suc (i + k)) in
      let e : i + suc k ≡ suc (i + k) = omega arith in
      rw e
      (lines_more (row_place (row_no ws i)) (row_place a) (row_place b) (lines_on i k (omega arith))
      (lines_of (row_place a) (row_place b) (both_true (leb a.end b.start) (lines_fit (row_place a) (row_place b)) (f.chain (i + k) (omega arith))).1))

  lines : (i j : ℕ) → i ≤ j → j < t.count → Lines (row_place (row_no ws i)) (row_place (row_no ws j))
  lines i j h l = let e : i + (j - i) ≡ j = omega arith in rw e at (lines_on i (j - i) (omega arith))

  -- ---- moved from row r on, to a place with room

  module _ (r : ℕ) (h : r < t.count) (p : Cursor) (room : Roomy (2 ^ 31) p) where
    abbrev home : Cursor
    home = row_place (row_no ws r)

    -- a place behind row r, within the table
    moves_place : (q : Cursor) → Lines home q → (row_no ws r).start ≤ q.offset.0 → q.offset.0 ≤ most_bytes → q.line.0 ≤ most_bytes + 1 → q.column.0 ≤ most_bytes + 1 → MovesPlace home p q
    unfolding row_place
    moves_place q l a b c d =
        record {
          offset = record { behind = a; room = omega (arith, room.offset) };
          line = record { behind = l.line; room = omega (arith, room.line) };
          column = λ e. record { behind = omega (arith, l.column e); room = omega (arith, room.column) };
        }

    pub moves_row : (j : ℕ) → r ≤ j → j < t.count → MovesRow home p (row_no ws j)
    unfolding row_place
    moves_row j a b =
        let s = row_sound f j b in
        let w = Inside.within f j b in
        let x = rising.rises r j a b in
        record {
          place = moves_place (row_place (row_no ws j)) (lines r j a b) x (omega (arith, s.ordered, f.short)) (omega (arith, s.line_high, s.ordered, f.short)) (omega (arith, s.column_high, s.ordered, f.short));
          end = record { behind = omega (arith, s.ordered); room = omega (arith, room.offset, f.short) };
        }

    break_moves : (q : Cursor) → Broken ws t.count t.length q → MovesPlace home p q
    unfolding behind row_place place_fits
    break_moves q b =
        let n = t.count - 1 in
        let e : suc n ≡ t.count = omega arith in
        let last = row_no ws n in
        let z = both_true (leb last.end q.offset.0) (lines_fit (row_place last) q) (b.last n e) in
        let low = leb 1 q.line.0 && leb 1 q.column.0 in
        let high = leb q.line.0 (q.offset.0 + 1) && leb q.column.0 (q.offset.0 + 1) in
        let y = both_true (leb q.line.0 (q.offset.0 + 1)) (leb q.column.0 (q.offset.0 + 1)) (both_true low high b.place).1 in
        let l = lines_more home (row_place last) q (lines r n (omega arith) (omega arith)) (lines_of (row_place last) q z.1) in
        let x = rising.rises r n (omega arith) (omega arith) in
        moves_place q l (omega (arith, (row_sound f n (omega arith)).ordered, leb-true last.end q.offset.0 z.0)) (omega (arith, b.within, f.short))
        (omega (arith, b.within, f.short, leb-true q.line.0 (q.offset.0 + 1) y.0)) (omega (arith, b.within, f.short, leb-true q.column.0 (q.offset.0 + 1) y.1))

    pub moves_ending : MovesEnding home p t.ending
    moves_ending = go t.ending f.ends
      where
        go : (e : Ending) → Ends ws t.count t.length e → MovesEnding home p e
        go None (clean c) = none
        go (Some e) (broken b) = refused (break_moves e.at b)
