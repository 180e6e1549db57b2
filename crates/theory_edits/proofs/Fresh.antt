-- The edit gives exactly the rows and ending of a fresh scan of the new text, and a window is short exactly if it shows too little. The
-- theorems are `edit_fresh`, `short_exactly`, `unjudged_exactly`, `whole_judged`, `whole_suffices`, `longer_judged` and `longer_suffices`.
use Prim.Native.Nat.{ℕ, ◌+◌, ◌-◌, ◌≤◌}
use native.Mathlib.Omega.{arith}
use mathlib.Core.Bool.{Bool, true, false, not, ◌&&◌, true≢false}
use mathlib.Core.List.{List, [], ◌++◌}
use mathlib.Core.Logic.{◌↔◌}
use mathlib.Core.Path.{◌≡◌, refl, ap, sym, ◌∙◌}
use lib.Dec.{ltb, eqb}
use lib.ListN.{length, length-append, length-drop}
use borrow.Author.Tests.{ltb-true, lt-ltb, eqb-true, eqb-false, ne_eqb, not-true}
use Rattle.rules.specs.Outcomes.{Ending}
use Rattle.rules.specs.Rows.{Row}
use Rattle.rules.specs.Scan.{Reading, read_rows, read_ending, scan}
use Rattle.rules.specs.Edit
use Rattle.rules.specs.Edit.{seen, new_rows, new_ending, new_length, judging, unjudged, window_short}
use Rattle.laws.proofs.Tests.{false_by, both_true}
use Rattle.laws.proofs.Lists.{empty}
use Rattle.theory_edits.specs.Shows.{Shows, meeting, refusal}
use Rattle.theory_edits.specs.Change.{Change, old_text, new_text, a, b, n, old_rows, old_ending, starts, stops, Window, is_unjudged, is_short, Unjudged, Unmet, ends_text, edit_rows, edit_ending}
use Rattle.theory_edits.proofs.Stand.{At}
use Rattle.theory_edits.proofs.Kept.{restart_le}
use Rattle.theory_edits.proofs.LookItem.{same_look}
use Rattle.theory_edits.proofs.Short.{never_short}
use Rattle.theory_edits.proofs.Bytes.{seen_bytes, fresh_rows, fresh_ending, short_none, part_shows}

same_seen : (rows : List Row) (e : Ending) (a b n : ℕ) (w : List ℕ) (whole : Bool) → seen rows e a b n w whole ≡ seen_bytes rows e a b n w whole
unfolding seen seen_bytes
same_seen rows e a b n w whole = same_look _ _ whole w 0 _

shows_more : {old new : Reading} {a b n hi hi' : ℕ} → hi ≤ hi' → Shows old new a b n hi → Shows old new a b n hi'
shows_more l (meeting m c h s s') = meeting m c (omega arith) s s'
shows_more l (refusal d h x) = refusal d (omega arith) x

module _ (c : Change) where
  pub new_length_lem : new_length (length (old_text c)) (a c) (b c) (n c) ≡ length (new_text c)
  unfolding new_length
  new_length_lem = simp length-append (omega arith)

  module _ (w : List ℕ) (v : Window c w) where
    -- a window lies in the new text
    pub inside : stops c w + length v.rest ≡ length (new_text c)
    inside =
        let m : length (new_text c) - starts c ≡ length w + length v.rest = simp (length-drop, length-append w v.rest) at (ap length v.text) in
        let l : starts c ≤ a c = restart_le (a c) (old_rows c) in
        let k : length (new_text c) ≡ a c + (n c + length c.behind) = simp length-append in
        omega arith

    at : At (new_text c) (w ++ v.rest) (starts c)
    at = record { text = v.text }

    abbrev whole : Bool
    whole = eqb (stops c w) (length (new_text c))

    whole_is : ends_text c w ≡ whole
    whole_is = rw new_length_lem

    nothing_behind : (x : Bool) → whole ≡ x → x ≡ true → v.rest ≡ []
    nothing_behind true e f =
        let m : stops c w + length v.rest ≡ length (new_text c) = inside in
        let g : stops c w ≡ length (new_text c) = eqb-true _ _ e in
        empty v.rest (omega arith)
    nothing_behind false e f = absurd (true≢false (sym f))

    abbrev short_bytes : Bool → Bool
    short_bytes y = Edit.is_short (seen_bytes (old_rows c) (old_ending c) (a c) (b c) (n c) w y)

    short_is : is_short c w ≡ short_bytes whole
    unfolding window_short
    short_is = rw (whole_is, same_seen (old_rows c) (old_ending c) (a c) (b c) (n c) w whole)

    rows_fresh : is_short c w ≡ false → edit_rows c w ≡ read_rows (scan (new_text c))
    unfolding new_rows
    rows_fresh h =
        rw (whole_is, same_seen (old_rows c) (old_ending c) (a c) (b c) (n c) w whole)
        (fresh_rows c.before c.removed c.inserted c.behind w v.rest at whole (nothing_behind whole refl)
        (sym short_is ∙ h))

    ending_fresh : is_short c w ≡ false → edit_ending c w ≡ read_ending (scan (new_text c))
    unfolding new_ending
    ending_fresh h =
        rw (whole_is, same_seen (old_rows c) (old_ending c) (a c) (b c) (n c) w whole)
        (fresh_ending c.before c.removed c.inserted c.behind w v.rest at whole (nothing_behind whole refl)
        (sym short_is ∙ h))

    never : short_bytes true ≡ false
    unfolding seen_bytes
    never = never_short _ _ w 0 _ 0 _

    too_short : is_short c w ≡ true → Unmet c w
    too_short h = by whole refl (sym short_is ∙ h)
      where
        by : (y : Bool) → whole ≡ y → short_bytes y ≡ true → Unmet c w
        by true f h = absurd (true≢false (sym h ∙ never))
        by false f h = (eqb-false _ _ f, short_none c.before c.removed c.inserted c.behind w v.rest at false h)

    is_short_lem : Unmet c w → is_short c w ≡ true
    is_short_lem h = rw (short_is, ne_eqb (stops c w) (length (new_text c)) h.0) (by (short_bytes false) refl)
      where
        by : (y : Bool) → short_bytes false ≡ y → short_bytes false ≡ true
        by true g = g
        by false g = absurd (h.1 (part_shows c.before c.removed c.inserted c.behind w v.rest at g))

    unjudged_is : is_unjudged c w ≡ (ltb (stops c w) (a c + n c + judging) && not whole)
    unfolding unjudged
    unjudged_is = rw whole_is

    too_few : is_unjudged c w ≡ true → Unjudged c w
    too_few h =
        let i = both_true (ltb (stops c w) (a c + n c + judging)) (not whole) (sym unjudged_is ∙ h) in
        (ltb-true _ _ i.0, eqb-false _ _ (not-true whole i.1))

    is_few : Unjudged c w → is_unjudged c w ≡ true
    is_few h = unjudged_is ∙ rw (lt-ltb (stops c w) (a c + n c + judging) h.0, ne_eqb (stops c w) (length (new_text c)) h.1)

-- ---- the theorems

-- Where the window is not short, the edit gives the rows and the ending of the scan of the new text.
pub edit_fresh : (c : Change) (w : List ℕ) → Window c w → is_short c w ≡ false
    → (edit_rows c w ≡ read_rows (scan (new_text c))) × (edit_ending c w ≡ read_ending (scan (new_text c)))
edit_fresh c w v h = (rows_fresh c w v h, ending_fresh c w v h)

-- A window is short behind 2 exactly if it shows neither the text's end, nor a meeting place, nor a refusal.
pub short_exactly : (c : Change) (w : List ℕ) → Window c w → (is_short c w ≡ true) ↔ Unmet c w
short_exactly c w v = (too_short c w v, is_short_lem c w v)

-- It is too short for judging exactly if it shows neither four bytes past the new ones nor the text's end.
pub unjudged_exactly : (c : Change) (w : List ℕ) → Window c w → (is_unjudged c w ≡ true) ↔ Unjudged c w
unjudged_exactly c w v = (too_few c w v, is_few c w v)

-- A window that ends the text is neither.
pub whole_judged : (c : Change) (w : List ℕ) → Window c w → stops c w ≡ length (new_text c) → is_unjudged c w ≡ false
whole_judged c w v e = false_by (is_unjudged c w) (λ h. (too_few c w v h).1 e)

pub whole_suffices : (c : Change) (w : List ℕ) → Window c w → stops c w ≡ length (new_text c) → is_short c w ≡ false
whole_suffices c w v e = false_by (is_short c w) (λ h. (too_short c w v h).0 e)

-- If a window suffices, every longer one does.
module _ (c : Change) (w u : List ℕ) (v : Window c w) (v' : Window c (w ++ u)) where
  long : length (w ++ u) ≡ length w + length u
  long = length-append w u

  l : stops c (w ++ u) + length v'.rest ≡ length (new_text c)
  l = inside c (w ++ u) v'

  pub longer_judged : is_unjudged c w ≡ false → is_unjudged c (w ++ u) ≡ false
  longer_judged h = false_by (is_unjudged c (w ++ u)) (λ x. true≢false (sym (is_few c w v (fewer (too_few c (w ++ u) v' x))) ∙ h))
    where
      fewer : Unjudged c (w ++ u) → Unjudged c w
      fewer x = (omega (arith, long, x.0), λ e. x.1 (omega (arith, long, l)))

  pub longer_suffices : is_short c w ≡ false → is_short c (w ++ u) ≡ false
  longer_suffices h = false_by (is_short c (w ++ u)) (λ x. true≢false (sym (is_short_lem c w v (shorter (too_short c (w ++ u) v' x))) ∙ h))
    where
      shorter : Unmet c (w ++ u) → Unmet c w
      shorter x = (λ e. x.0 (omega (arith, long, l)), λ s. x.1 (shows_more (omega (arith, long)) s))
