-- "The change": the edit by a whole new text, which finds its restart place itself.
-- Old bytes a to b (b not included) became n new bytes, and `text` is all of the new text.
use Rattle.std.specs.Prelude.{Bool, cond, not, ◌&&◌, List, ℕ, length, drop, eqb, leb, Err}
use Rattle.rules.specs.declared.Table.{Table}
use Rattle.rules.specs.declared.Outer.TheVariants.{NotWellFormed, EditNotSensible}
use Rattle.rules.specs.Outcomes.{Told, unread}
use Rattle.rules.specs.Text.{start_place}
use Rattle.rules.specs.Rows.{rows_in, well_formed}
use Rattle.rules.specs.Edit.{restart, new_length, edit_told, edit_leaves}

-- the offset where reading restarts
abbrev pub change_start : List ℕ → Table → ℕ → ℕ
change_start ws t a = (restart (rows_in t.count ws) a).offset.0

-- the window of a change: the new text from the restart place on
unfoldable pub change_window : List ℕ → Table → ℕ → List ℕ → List ℕ
change_window ws t a text = drop (change_start ws t a) text

-- 3; then 6 where the text's length is not the old length less b - a plus n; then as the edit with that window
unfoldable pub change_told : List ℕ → Table → (a b n : ℕ) → List ℕ → ℕ → Told
change_told ws t a b n text m =
    cond (not (well_formed ws t)) (Err (unread NotWellFormed start_place 0))
    (cond (not (eqb (length text) (new_length t.length a b n))) (Err (unread EditNotSensible start_place 0))
    (edit_told ws t a b n (change_start ws t a) (change_window ws t a text) m))

unfoldable pub change_leaves : List ℕ → Table → (a b n : ℕ) → List ℕ → List ℕ → List ℕ
change_leaves ws t a b n text new =
    cond (not (well_formed ws t)) new
    (cond (not (eqb (length text) (new_length t.length a b n))) new
    (edit_leaves ws t a b n (change_start ws t a) (change_window ws t a text) new))

-- the change lies in the old text, and the new text is as long as it makes it
unfoldable pub fits_change : (len a b n size : ℕ) → Bool
fits_change len a b n size = (leb a b && leb b len) && eqb size (new_length len a b n)
