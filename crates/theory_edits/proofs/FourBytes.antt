-- Four bytes. From a valid old text, a window that shows four bytes past the new ones, or the new text's end, is valid up to a character
-- that its end cuts exactly if the new text is valid; and if not, both break at the same place. The theorem is `four_bytes`.
--
-- The window starts between characters (`restart_between`), and what breaks it breaks the text, whatever follows (`cut_stays`). If nothing
-- does, take its last character, whole or cut (`last_char`): it has four bytes at most, so that its first byte, which is no tail, is an old
-- one behind the new ones. In the valid old text a character starts there (`valid_sides`), and from there on the new text is the old one.
use Prim.Native.Nat.{ℕ, ◌+◌, ◌-◌, ◌≤◌, ◌<◌}
use native.Mathlib.Decide.{dec_lt}
use native.Mathlib.Omega.{arith}
use mathlib.Core.Bool.{Bool, true, false, cond}
use mathlib.Core.List.{List, ◌∷◌, ◌++◌, append_assoc, append-nil}
use mathlib.Core.Logic.{◌↔◌}
use mathlib.Core.Path.{◌≡◌, refl, ap, sym, ◌∙◌}
use lib.Dec.{eqb}
use lib.ListN.{length, drop, take, length-append, take-append-drop}
use lib.Seq.{take-append-le, length-take-le, drop-drop, drop-append_seam, drop-append-add}
use borrow.Author.Tests.{eqb-true, eqb-false}
use Rattle.rules.specs.Text.{is_tail, valid_bytes, valid, cut_bytes, place_at, over}
use Rattle.rules.specs.Edit.{restart, judging, window_bytes, window_valid}
use Rattle.laws.proofs.Valid.{valid_all, valid_le, is_valid, valid_join, valid_both, valid_sides, cut_le, cut_stays, Ends, last_char, before_valid}
use Rattle.laws.proofs.Lists.{empty}
use Rattle.theory_edits.specs.Change.{Change, old_text, new_text, a, n, old_rows, starts, stops, Window, Unjudged, ends_text}
use Rattle.theory_edits.proofs.Places.{place_window}
use Rattle.theory_edits.proofs.Kept.{restart_le}
use Rattle.theory_edits.proofs.Meeting.{restart_place}
use Rattle.theory_edits.proofs.Fresh.{new_length_lem, inside}
use Rattle.theory_edits.proofs.Low.{restart_between}

module _ (c : Change) (w : List ℕ) (v : Window c w) (old : valid (old_text c) ≡ true) where
  -- ---- what stands before the window

  before_window : List ℕ
  before_window = take (starts c) c.before

  split : new_text c ≡ before_window ++ (w ++ v.rest)
  unfolding before_window
  split =
      let l : starts c ≤ length c.before = restart_le (a c) (old_rows c) in
      sym (take-append-drop (starts c) (new_text c))
      ∙ rw (take-append-le (starts c) c.before (c.inserted ++ c.behind) l, v.text)

  valid_before : valid before_window ≡ true
  unfolding before_window
  valid_before =
      let l : starts c ≤ length c.before = restart_le (a c) (old_rows c) in
      rw (take-append-le (starts c) c.before (c.removed ++ c.behind) l) at (restart_between (old_text c) old (a c))

  before_length : length before_window ≡ starts c
  unfolding before_window
  before_length = length-take-le (starts c) c.before (restart_le (a c) (old_rows c))

  -- so the new text breaks where what the window begins does
  breaks_at : valid_bytes (new_text c) ≡ starts c + valid_bytes (w ++ v.rest)
  breaks_at = ap valid_bytes split ∙ valid_join before_window (w ++ v.rest) valid_before ∙ rw before_length

  -- ---- old bytes behind the new ones

  behind_is : (d : ℕ) → a c + n c ≤ d → drop d (new_text c) ≡ drop (d - (a c + n c)) c.behind
  behind_is d h =
      let j : ℕ = d - (a c + n c) in
      let e : d ≡ length c.before + (length c.inserted + j) = omega arith in
      ap (λ (k : ℕ). drop k (new_text c)) e
      ∙ drop-append-add c.before (c.inserted ++ c.behind) (length c.inserted + j) ∙ drop-append-add c.inserted c.behind j

  -- from one on that is no tail the new text is valid, as the old one is
  old_valid : (d b : ℕ) (y : List ℕ) → a c + n c ≤ d → drop d (new_text c) ≡ b ∷ y → is_tail b ≡ false → valid (b ∷ y) ≡ true
  old_valid d b y h e t =
      let j : ℕ = d - (a c + n c) in
      let f : c.behind ≡ take j c.behind ++ (b ∷ y)
      = sym (take-append-drop j c.behind) ∙ ap (λ (z : List ℕ). take j c.behind ++ z) (sym (behind_is d h) ∙ e) in
      let g : old_text c ≡ (c.before ++ (c.removed ++ take j c.behind)) ++ (b ∷ y)
      = ap (λ (z : List ℕ). c.before ++ (c.removed ++ z)) f ∙ simp append_assoc in
      (valid_sides (c.before ++ (c.removed ++ take j c.behind)) b y t (rw g at old)).1

  -- ---- a window that four bytes past the new ones lie in, and whose end may cut a character

  shown_valid : a c + n c + judging ≤ stops c w → cut_bytes w ≡ length w → valid (w ++ v.rest) ≡ true
  shown_valid h e =
      let r : starts c ≤ a c = restart_le (a c) (old_rows c) in
      by (last_char w (omega arith) e)
    where
      by : Ends 0 w → valid (w ++ v.rest) ≡ true
      by l =
          let p : w ++ v.rest ≡ l.before ++ (l.lead ∷ (l.more ++ v.rest))
          = ap (λ (z : List ℕ). z ++ v.rest) l.parts ∙ simp append_assoc in
          let k : length w ≡ length l.before + length (l.lead ∷ l.more)
          = ap length l.parts ∙ length-append l.before (l.lead ∷ l.more) in
          let f : length (l.lead ∷ l.more) ≤ 4 = l.four in
          let q : drop (starts c + length l.before) (new_text c) ≡ l.lead ∷ (l.more ++ v.rest)
          = sym (drop-drop (length l.before) (starts c) (new_text c)) ∙ ap (drop (length l.before)) (v.text ∙ p)
          ∙ drop-append_seam l.before (l.lead ∷ (l.more ++ v.rest)) in
          rw p (valid_both l.before (l.lead ∷ (l.more ++ v.rest)) (before_valid l)
          (old_valid (starts c + length l.before) l.lead (l.more ++ v.rest) (omega arith) q l.proper))

  -- ---- the new text and the window

  valid_new : valid (w ++ v.rest) ≡ true → valid (new_text c) ≡ true
  valid_new h = rw split (valid_both before_window (w ++ v.rest) valid_before h)

  -- so far is the window valid; if that is all of it, so is the new text, and if not, both break there
  record Judges (m : ℕ) : Type 0 where
    within : m ≤ length w
    good : m ≡ length w → valid (new_text c) ≡ true
    bad : m < length w → valid_bytes (new_text c) ≡ starts c + m

  -- a window that ends the text
  ends_judges : stops c w ≡ length (new_text c) → Judges (valid_bytes w)
  ends_judges e =
      let r : w ++ v.rest ≡ w = ap (λ (z : List ℕ). w ++ z) (empty v.rest (omega (arith, inside c w v))) ∙ append-nil w in
      record {
        within = valid_le w;
        good = λ f. valid_new (rw r (is_valid w (omega arith)));
        bad = λ f. breaks_at ∙ rw r;
      }

  -- one that does not
  part_judges : a c + n c + judging ≤ stops c w → Judges (cut_bytes w)
  part_judges h = record {
    within = cut_le w;
    good = λ f. valid_new (shown_valid h f);
    bad = λ f. breaks_at ∙ ap (λ (k : ℕ). starts c + k) (cut_stays w v.rest f);
  }

  judges : (Unjudged c w → ⊥) → Judges (window_bytes (ends_text c w) w)
  unfolding window_bytes
  judges h = by (ends_text c w) refl
    where
      by : (q : Bool) → ends_text c w ≡ q → Judges (cond q (valid_bytes w) (cut_bytes w))
      by true e = ends_judges (eqb-true (stops c w) _ e ∙ new_length_lem c)
      by false e =
          let f : stops c w ≡ length (new_text c) → ⊥ = λ g. eqb-false (stops c w) _ e (g ∙ sym (new_length_lem c)) in
          part_judges (enough (dec_lt (stops c w) (a c + n c + judging)) f)
        where
          enough : Dec (stops c w < a c + n c + judging) → (stops c w ≡ length (new_text c) → ⊥) → a c + n c + judging ≤ stops c w
          enough (yes l) f = absurd (h (l, f))
          enough (no l) f = omega arith

-- ---- the theorem

-- a window is judged as the new text is
pub record AsText (c : Change) (w : List ℕ) : Type 0 where
  pub same : (window_valid (ends_text c w) w ≡ true) ↔ (valid (new_text c) ≡ true)
  pub place : window_valid (ends_text c w) w ≡ false → valid_bytes (new_text c) ≡ starts c + window_bytes (ends_text c w) w

pub four_bytes : (c : Change) (w : List ℕ) → Window c w → valid (old_text c) ≡ true → (Unjudged c w → ⊥) → AsText c w
unfolding window_valid
four_bytes c w v old h = record { same = (to, of); place = λ e. j.bad (less (eqb-false (window_bytes (ends_text c w) w) (length w) e)) }
  where
    j : Judges c w v old (window_bytes (ends_text c w) w)
    j = judges c w v old h

    less : (window_bytes (ends_text c w) w ≡ length w → ⊥) → window_bytes (ends_text c w) w < length w
    less f = omega (arith, j.within)

    to : eqb (window_bytes (ends_text c w) w) (length w) ≡ true → valid (new_text c) ≡ true
    to e = j.good (eqb-true (window_bytes (ends_text c w) w) (length w) e)

    of : valid (new_text c) ≡ true → eqb (window_bytes (ends_text c w) w) (length w) ≡ true
    of e = pick (eqb (window_bytes (ends_text c w) w) (length w)) refl
      where
        pick : (q : Bool) → eqb (window_bytes (ends_text c w) w) (length w) ≡ q → eqb (window_bytes (ends_text c w) w) (length w) ≡ true
        pick true f = f
        pick false f =
            let l : window_bytes (ends_text c w) w < length w = less (eqb-false (window_bytes (ends_text c w) w) (length w) f) in
            absurd (let z : ⊥ = omega (arith, j.bad l, valid_all (new_text c) e, inside c w v) in z)

-- and 2 is told at the same place
pub bad_place : (c : Change) (w : List ℕ) → Window c w → valid (old_text c) ≡ true → (Unjudged c w → ⊥)
    → window_valid (ends_text c w) w ≡ false
    → over (restart (old_rows c) (a c)) (take (window_bytes (ends_text c w) w) w) ≡ place_at (new_text c) (valid_bytes (new_text c))
bad_place c w v old h f =
    let m : ℕ = window_bytes (ends_text c w) w in
    let l : window_bytes (ends_text c w) w ≤ length w = (judges c w v old h).within in
    let e : starts c + m - starts c ≡ m = omega arith in
    rw ((four_bytes c w v old h).place f)
    (sym (place_window (new_text c) w v.rest (starts c) v.text (restart (old_rows c) (a c))
    (restart_place c.before c.removed c.inserted c.behind) (starts c + m) (omega arith) (omega arith) ∙ rw e))
