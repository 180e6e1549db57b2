-- Demand 3: the edit tells and leaves exactly what a fresh scan of the new text does, or rightly says 7.
use Prim.Native.Nat.{ℕ, ◌+◌, ◌≤◌, ◌<◌}
use native.Mathlib.Omega.{arith}
use mathlib.Core.Bool.{Bool, true, false, cond, not, true≢false}
use mathlib.Core.List.{List}
use mathlib.Core.Logic.{◌⊎◌, inl, inr}
use mathlib.Core.Path.{◌≡◌, refl, sym, ◌∙◌}
use lib.Dec.{ltb}
use lib.ListN.{length, take, length-append}
use borrow.Author.Tests.{le-leb, lt-ltb, le-ltb, ltb-true, ltb-false, eq-eqb}
use Rattle.rules.specs.declared.Table.{Table}
use Rattle.rules.specs.Outcomes.{unread}
use Rattle.std.specs.declared.result.Result.TheVariants.{Err}
use Rattle.rules.specs.declared.Outer.TheVariants.{TextTooLong, BadByte, WindowShort}
use Rattle.rules.specs.Text.{most_bytes, valid, start_place, over}
use Rattle.rules.specs.Scan.{told, laid}
use Rattle.rules.specs.Edit.{restart, sensible, new_length, window_bytes, window_valid, edit_told, edit_leaves}
use Rattle.theory_edits.specs.Scanned.{Scanned}
use Rattle.theory_edits.specs.Change.{Change, old_text, new_text, a, b, n, old_rows, starts, stops, Window, is_unjudged, is_short, Unjudged, Unmet, ends_text, edit_rows, edit_ending}
use Rattle.theory_edits.specs.Demand3.{Given, Due, tells, leaves, SaysSeven, IsFresh}
use Rattle.laws.proofs.Tests.{false_by, true_both}
use Rattle.laws.proofs.Valid.{text_long, text_bad, text_fine}
use Rattle.laws.proofs.Rows.{scan_told_refused, scan_leaves_refused, scan_told_lem, scan_leaves_lem}
use Rattle.theory_edits.proofs.WellFormed.{scanned_rows, scanned_well_formed}
use Rattle.theory_edits.proofs.Fresh.{new_length_lem, inside, edit_fresh, short_exactly, unjudged_exactly}
use Rattle.theory_edits.proofs.FourBytes.{four_bytes, bad_place}

not_both : {j k : ℕ} → j ≤ k → k < j → ⊥
not_both h l = omega arith

module _ (c : Change) (w : List ℕ) (v : Window c w) where
  is_sensible : sensible (old_rows c) (length (old_text c)) (a c) (b c) (n c) (starts c) w ≡ true
  unfolding sensible
  is_sensible =
      let l : length (old_text c) ≡ a c + (length c.removed + length c.behind) = simp length-append in
      let m : stops c w + length v.rest ≡ length (new_text c) = inside c w v in
      let k : new_length (length (old_text c)) (a c) (b c) (n c) ≡ length (new_text c) = new_length_lem c in
      true_both (true_both (le-leb (a c) (b c) (omega arith)) (le-leb (b c) (length (old_text c)) (omega arith)))
      (true_both (eq-eqb (starts c) (starts c) refl) (le-leb (stops c w) (new_length (length (old_text c)) (a c) (b c) (n c)) (omega arith)))

  -- the call on a scanned table: what is left of its order
  module _ (ws : List ℕ) (table : Table) (s : Scanned (old_text c) ws table) where
    told_is : (m : ℕ) → tells c ws table w m
        ≡ cond (ltb most_bytes (length (new_text c))) (Err (unread TextTooLong start_place 0))
        (cond (is_unjudged c w) (Err (unread WindowShort start_place 0))
        (cond (not (window_valid (ends_text c w) w))
        (Err (unread BadByte (over (restart (old_rows c) (a c)) (take (window_bytes (ends_text c w) w) w)) 0))
        (cond (is_short c w) (Err (unread WindowShort start_place 0)) (told (length (new_text c)) m (edit_rows c w) (edit_ending c w)))))
    unfolding edit_told
    told_is m = rw (scanned_well_formed s, scanned_rows s, s.told, is_sensible, new_length_lem c)

    left_is : (new : List ℕ) → leaves c ws table w new
        ≡ cond (ltb most_bytes (length (new_text c))) new
        (cond (is_unjudged c w) new (cond (not (window_valid (ends_text c w) w)) new (cond (is_short c w) new (laid (edit_rows c w) new))))
    unfolding edit_leaves
    left_is new = rw (scanned_well_formed s, scanned_rows s, s.told, is_sensible, new_length_lem c)

    -- each answer of that order, where the old text is valid
    module _ (old : valid (old_text c) ≡ true) where
      too_long : most_bytes < length (new_text c) → IsFresh c ws table w
      too_long h =
          let e : ltb most_bytes (length (new_text c)) ≡ true = lt-ltb most_bytes (length (new_text c)) h in
          let j = text_long (new_text c) h in
          record {
            told = λ m. told_is m ∙ rw (e, scan_told_refused (new_text c) j m);
            left = λ new. left_is new ∙ rw (e, scan_leaves_refused (new_text c) j new);
          }

      module _ (fits : length (new_text c) ≤ most_bytes) where
        e : ltb most_bytes (length (new_text c)) ≡ false
        e = le-ltb most_bytes (length (new_text c)) fits

        unjudged : is_unjudged c w ≡ true → SaysSeven c ws table w
        unjudged h = record { told = λ m. told_is m ∙ rw (e, h); left = λ new. left_is new ∙ rw (e, h) }

        module _ (f : is_unjudged c w ≡ false) where
          judged : Unjudged c w → ⊥
          judged u = true≢false (sym ((unjudged_exactly c w v).1 u) ∙ f)

          bad : window_valid (ends_text c w) w ≡ false → IsFresh c ws table w
          bad h =
              let k : valid (new_text c) ≡ false
              = false_by (valid (new_text c)) (λ k. true≢false (sym ((four_bytes c w v old judged).same.1 k) ∙ h)) in
              let j = text_bad (new_text c) fits k in
              record {
                told = λ m. told_is m ∙ rw (e, f, h, scan_told_refused (new_text c) j m, bad_place c w v old judged h);
                left = λ new. left_is new ∙ rw (e, f, h, scan_leaves_refused (new_text c) j new);
              }

          module _ (good : window_valid (ends_text c w) w ≡ true) where
            short : is_short c w ≡ true → SaysSeven c ws table w
            short h = record { told = λ m. told_is m ∙ rw (e, f, good, h); left = λ new. left_is new ∙ rw (e, f, good, h) }

            enough : is_short c w ≡ false → IsFresh c ws table w
            enough h =
                let j = text_fine (new_text c) fits ((four_bytes c w v old judged).same.0 good) in
                record {
                  told = λ m. told_is m ∙ rw (e, f, good, h, scan_told_lem (new_text c) j m, (edit_fresh c w v h).0, (edit_fresh c w v h).1);
                  left = λ new. left_is new ∙ rw (e, f, good, h, scan_leaves_lem (new_text c) j new, (edit_fresh c w v h).0);
                }

-- ---- the theorem

-- Old bytes a to b of a valid text have become n new bytes. The edit call is given the words and the table that a scan of the old text left and told, and
-- a window: any part of the new text from the restart place on. Then there are two cases, whatever the new text is, and for every room
-- and every lent memory:
--
-- 1. 7 is due. The edit says 7, at 0, and no lent word changes.
-- 2. 7 is not due. The edit tells exactly what a scan of the new text tells, and leaves every lent word as that scan leaves it: its rows
--    and its ending, or its refusal 1, 2 or 4.
--
-- 7 is due (`Due`) exactly if the new text has at most 65,536 bytes, and the window shows neither four bytes past the new ones nor the new
-- text's end (`Unjudged`); or the new text is valid besides, and the window shows neither its end, nor a meeting place, nor a refusal with
-- its deciding byte (`Unmet`).
pub demand_3 : (c : Change) (ws : List ℕ) (table : Table) (w : List ℕ) → Given c ws table w
    → (Due c w × SaysSeven c ws table w) ⊎ ((Due c w → ⊥) × IsFresh c ws table w)
demand_3 c ws table w g =
    by (ltb most_bytes (length (new_text c))) refl (is_unjudged c w) refl (window_valid (ends_text c w) w) refl (is_short c w) refl
  where
    v : Window c w
    v = g.window

    s : Scanned (old_text c) ws table
    s = g.scanned

    -- 7 is not due, where each of its ways is shut
    not_due : (Unjudged c w → ⊥) → (valid (new_text c) ≡ true → Unmet c w → ⊥) → Due c w → ⊥
    not_due f h d = way d.short
      where
        way : Unjudged c w ⊎ ((valid (new_text c) ≡ true) × Unmet c w) → ⊥
        way (inl u) = f u
        way (inr u) = h u.0 u.1

    by : (x : Bool) → ltb most_bytes (length (new_text c)) ≡ x → (q : Bool) → is_unjudged c w ≡ q
        → (y : Bool) → window_valid (ends_text c w) w ≡ y → (z : Bool) → is_short c w ≡ z
        → (Due c w × SaysSeven c ws table w) ⊎ ((Due c w → ⊥) × IsFresh c ws table w)
    by true x q u y f z h =
        let l : most_bytes < length (new_text c) = ltb-true _ _ x in inr (λ d. not_both d.not_1 l, too_long c w v ws table s g.good l)
    by false x true u y f z h =
        let l : length (new_text c) ≤ most_bytes = ltb-false _ _ x in
        inl (record { not_1 = l; short = inl ((unjudged_exactly c w v).0 u) }, unjudged c w v ws table s g.good l u)
    by false x false u false f z h =
        let l : length (new_text c) ≤ most_bytes = ltb-false _ _ x in
        let j : Unjudged c w → ⊥ = judged c w v ws table s g.good l u in
        inr (not_due j (λ k i. true≢false (sym ((four_bytes c w v g.good j).same.1 k) ∙ f)), bad c w v ws table s g.good l u f)
    by false x false u true f true h =
        let l : length (new_text c) ≤ most_bytes = ltb-false _ _ x in
        let j : Unjudged c w → ⊥ = judged c w v ws table s g.good l u in
        inl (
          record { not_1 = l; short = inr ((four_bytes c w v g.good j).same.0 f, (short_exactly c w v).0 h) },
          short c w v ws table s g.good l u f h,
        )
    by false x false u true f false h =
        let l : length (new_text c) ≤ most_bytes = ltb-false _ _ x in
        let j : Unjudged c w → ⊥ = judged c w v ws table s g.good l u in
        inr (not_due j (λ k i. true≢false (sym ((short_exactly c w v).1 i) ∙ h)), enough c w v ws table s g.good l u f h)
