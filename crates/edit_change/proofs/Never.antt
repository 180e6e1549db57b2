-- A change never says 7: its window ends the text. The theorem is `never_short`, for all arguments.
use Prim.Native.Nat.{ℕ, ◌+◌}
use native.Mathlib.Omega.{arith}
use mathlib.Core.Bool.{Bool, true, false, cond, not, ◌&&◌, true≢false}
use mathlib.Core.List.{List}
use mathlib.Core.Path.{◌≡◌, refl, ap, ◌∙◌}
use lib.ListN.{length, take, drop, length-drop}
use lib.Dec.{eqb, leb, ltb}
use borrow.Author.Tests.{eq-eqb}
use Rattle.rules.specs.declared.Cursor.{Cursor}
use Rattle.rules.specs.Outcomes.{Ending, Told, unread}
use Rattle.rules.specs.declared.Outer.TheVariants.{TextTooLong, BadByte, NotWellFormed, NoRowRoom, EditNotSensible, WindowShort}
use Rattle.rules.specs.declared.Table.{Table}
use Rattle.std.specs.declared.result.Result.TheVariants.{Ok, Err}
use Rattle.rules.specs.Text.{most_bytes, start_place, over}
use Rattle.rules.specs.Rows.{Row, rows_in, well_formed}
use Rattle.rules.specs.Scan.{told}
use Rattle.rules.specs.Edit.{is_short, seen, restart, new_length, sensible, ends, judging, unjudged, window_bytes, window_valid, window_short, new_rows, new_ending, edit_told}
use Rattle.laws.proofs.Outcomes.{unread_same}
use Rattle.laws.proofs.Tests.{both_true, true_both}
use Rattle.theory_edits.proofs.Kept.{restart_le}
use Rattle.theory_edits.proofs.LookItem.{same_look}
use Rattle.theory_edits.proofs.Short as window
use Rattle.edit_change.specs.Change.{change_start, change_window, change_told, fits_change}
use Rattle.edit_change.specs.Fresh.{NotSeven}
use Rattle.edit_change.proofs.Calls.{Fits, fits_by, reaches}

-- ---- what is told is no 7

no_1 : {at : Cursor} {i : ℕ} → NotSeven (Err (unread TextTooLong at i))
no_1 = record { never = λ p k e. let q : ◌≡◌ {A = ℕ} 0 1 = cc (unread_same e).0 in omega arith }

no_2 : {at : Cursor} {i : ℕ} → NotSeven (Err (unread BadByte at i))
no_2 = record { never = λ p k e. let q : ◌≡◌ {A = ℕ} 0 1 = cc (unread_same e).0 in omega arith }

no_3 : {at : Cursor} {i : ℕ} → NotSeven (Err (unread NotWellFormed at i))
no_3 = record { never = λ p k e. let q : ◌≡◌ {A = ℕ} 0 1 = cc (unread_same e).0 in omega arith }

no_4 : {at : Cursor} {i : ℕ} → NotSeven (Err (unread NoRowRoom at i))
no_4 = record { never = λ p k e. let q : ◌≡◌ {A = ℕ} 0 1 = cc (unread_same e).0 in omega arith }

no_6 : {at : Cursor} {i : ℕ} → NotSeven (Err (unread EditNotSensible at i))
no_6 = record { never = λ p k e. let q : ◌≡◌ {A = ℕ} 0 1 = cc (unread_same e).0 in omega arith }

no_rows : {t : Table} → NotSeven (Ok t)
no_rows = record { never = λ p k e. let q : ◌≡◌ {A = ℕ} 0 1 = cc in omega arith }

told_no : (i m : ℕ) (rows : List Row) (e : Ending) → NotSeven (told i m rows e)
unfolding told
told_no i m rows e = by (leb (length rows) m)
  where
    by : (q : Bool) → NotSeven (cond q (Ok (record { count = length rows; length = i; ending = e })) (Err (unread NoRowRoom start_place m)))
    by true = no_rows
    by false = no_4

-- the order of the refusals: each test may answer as it will, but the window of a sensible change, with a text as long as it says, can be
-- judged and is not short
ordered : (formed same sense long early good short : Bool) → (same ≡ true → sense ≡ true → early ≡ false)
    → (same ≡ true → sense ≡ true → short ≡ false) → (bad : Cursor) {x : Told} → NotSeven x
    → NotSeven (cond (not formed) (Err (unread NotWellFormed start_place 0))
    (cond (not same) (Err (unread EditNotSensible start_place 0))
    (cond (not formed) (Err (unread NotWellFormed start_place 0))
    (cond (not sense) (Err (unread EditNotSensible start_place 0))
    (cond long (Err (unread TextTooLong start_place 0))
    (cond early (Err (unread WindowShort start_place 0))
    (cond (not good) (Err (unread BadByte bad 0))
    (cond short (Err (unread WindowShort start_place 0)) x))))))))
ordered false same sense long early good short h k bad n = no_3
ordered true false sense long early good short h k bad n = no_6
ordered true true false long early good short h k bad n = no_6
ordered true true true true early good short h k bad n = no_1
ordered true true true false true good short h k bad n = absurd (true≢false (h refl refl))
ordered true true true false false false short h k bad n = no_2
ordered true true true false false true true h k bad n = absurd (true≢false (k refl refl))
ordered true true true false false true false h k bad n = n

-- ---- the whole window

module _ (rows : List Row) (e : Ending) (len a b n : ℕ) (text : List ℕ) (f : Fits len a b n (length text)) where
  abbrev from : ℕ
  from = (restart rows a).offset.0

  stops : from + length (drop from text) ≡ length text
  stops = omega (arith, restart_le a rows, reaches len a b n (length text) f, length-drop from text)

  seen_whole : (w : List ℕ) → is_short (seen rows e a b n w true) ≡ false
  unfolding seen
  seen_whole w = ap is_short (same_look _ _ true w 0 _) ∙ window.never_short _ _ w 0 _ 0 _

  ends_text : ends rows len a b n (drop from text) ≡ true
  ends_text = rw (stops, eq-eqb (length text) (new_length len a b n) f.same)

  pub whole_judged : unjudged rows len a b n (drop from text) ≡ false
  unfolding unjudged
  whole_judged = rw ends_text (and_false (ltb (from + length (drop from text)) (a + n + judging)))
    where
      and_false : (q : Bool) → (q && false) ≡ false
      and_false true = refl
      and_false false = refl

  pub whole_suffices : window_short rows e len a b n (drop from text) ≡ false
  unfolding window_short
  whole_suffices = rw ends_text (seen_whole (drop from text))

-- ---- the theorem

module _ (ws : List ℕ) (t : Table) (a b n : ℕ) (text : List ℕ) where
  abbrev rows : List Row
  rows = rows_in t.count ws

  abbrev shown : List ℕ
  shown = change_window ws t a text

  abbrev senses : Bool
  senses = sensible rows t.length a b n (change_start ws t a) shown

  fits : eqb (length text) (new_length t.length a b n) ≡ true → senses ≡ true
      → Fits t.length a b n (length text)
  unfolding sensible fits_change
  fits e s = fits_by t.length a b n (length text) (true_both (both_true (leb a b && leb b t.length) _ s).0 e)

  -- Whatever it is lent, a change does not say 7.
  pub never_short : (m : ℕ) → NotSeven (change_told ws t a b n text m)
  unfolding change_told edit_told change_window
  never_short m =
      ordered (well_formed ws t) (eqb (length text) (new_length t.length a b n)) senses
      (ltb most_bytes (new_length t.length a b n)) (unjudged rows t.length a b n shown) (window_valid (ends rows t.length a b n shown) shown)
      (window_short rows t.ending t.length a b n shown)
      (λ e s. whole_judged rows t.ending t.length a b n text (fits e s))
      (λ e s. whole_suffices rows t.ending t.length a b n text (fits e s))
      (over (restart rows a) (take (window_bytes (ends rows t.length a b n shown) shown) shown))
      (told_no (new_length t.length a b n) m (new_rows rows t.ending a b n shown (ends rows t.length a b n shown))
      (new_ending rows t.ending a b n shown (ends rows t.length a b n shown)))
