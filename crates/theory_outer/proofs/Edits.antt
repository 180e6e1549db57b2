-- The calls that are lent rows and a table's words, as they are made: the edit, the change, the restart and the parse.
-- They are lent what a scan of a text tells and leaves (`OuterLent`). So an edit, a change, and a load of what was
-- stored may stand where a scan does.
use Prim.Native.Nat.{ℕ, ◌*◌, ◌≤◌}
use native.Mathlib.Omega.{arith}
use mathlib.Core.Bool.{true}
use mathlib.Core.List.{List, ◌++◌}
use mathlib.Core.Logic.{◌⊎◌, inl, inr, ◌↔◌}
use mathlib.Core.Path.{◌≡◌, refl, ap, sym, ◌∙◌}
use lib.ListN.{length, take, drop, get_or}
use lib.Seq.{take_at}
use Rattle.rules.specs.declared.Table.{Table}
use Rattle.rules.specs.Outcomes.{Told}
use Rattle.rules.specs.Text.{start_place}
use Rattle.rules.specs.Rows.{Row, words_of}
use Rattle.rules.specs.Scan.{read_rows, read_ending, scan, room_of, scan_told, scan_leaves}
use Rattle.rules.specs.Edit.{restart}
use Rattle.laws.specs.Bounds.{Words}
use Rattle.laws.proofs.Rows.{words_length, scan_leaves_lem, laid_all}
use Rattle.laws.proofs.Valid.{text_fine}
use Rattle.theory_calls.proofs.Answers.{scan_rows}
use Rattle.theory_edits.specs.Scanned as scanned
use Rattle.theory_edits.specs.Change.{Change, old_text, new_text, a, b, n, starts, Window}
use Rattle.theory_edits.specs.Demand3.{Due}
use Rattle.theory_edits.proofs.Low.{Between, restart_between}
use Rattle.theory_edits.proofs.Whole.{whole_not_due}
use Rattle.answers.specs.Layout.{words, told_words, restart_words, is_ending, table_of}
use Rattle.answers.proofs.Table.{lent_table}
use Rattle.edit_change.proofs.Posts.{restarts}
use Rattle.spoonharbor.specs.OuterEdit.{OuterSeven, OuterFresh}
use Rattle.spoonharbor.specs.OuterFiles.{OuterStored, file_of, OuterBack}
use Rattle.spoonharbor.specs.OuterParse.{OuterLent, OuterAnswer}
use Rattle.spoonharbor.proofs.Outer.{outer_demand_3}
use Rattle.spoonharbor.proofs.OuterChange.{outer_change}
use Rattle.spoonharbor.proofs.OuterFiles.{outer_stored_loaded}
use Rattle.spoonharbor.proofs.OuterParse.{outer_parse}
use Rattle.theory_outer.specs.Calls.{ScanCall, EditCall, ChangeCall, RestartCall, ParseCall, StoreCall, LoadCall}
use Rattle.theory_outer.specs.Said.{Edited, short, fresh}
use Rattle.theory_outer.proofs.Calls.{edit_says, change_says, restart_says, parse_says, store_says, load_says}
use Rattle.theory_outer.proofs.Scans.{not_7}
use Rattle.theory_outer.proofs.Lent.{scan_lends, lent_words, lent_is, lent_scanned, lent_valid}

-- ---- a change of a text

-- The rows and words lent are those of the change's old text.
module _ (c : Change) {lent answer rows : List ℕ} (g : OuterLent (old_text c) lent rows answer) (h : is_ending (get_or answer 0 0) ≡ true) where
  -- An edit by a window of the new text, from the restart place on, says 7 exactly where that is due. Else it tells and
  -- leaves what a scan of the new text does.
  pub edit_fresh : {w new told left : List ℕ} → Window c w → EditCall rows answer (a c) (b c) (n c) (starts c) w new told left
      → Edited c w new told left
  edit_fresh {w} {new} {told} {left} v e =
      by (outer_demand_3 c rows (scanned.table_of (old_text c)) answer w
      (record { scanned = lent_scanned g h; good = lent_valid g h; window = v })
      (lent_words g h))
    where
      by : (Due c w × OuterSeven c rows answer w) ⊎ ((Due c w → ⊥) × OuterFresh c rows answer w) → Edited c w new told left
      by (inl x) = short x.0 (record { told = (edit_says e).0 ∙ x.1.told new; left = (edit_says e).1 ∙ x.1.left new })
      by (inr x) = fresh x.0 (record { told = (edit_says e).0 ∙ x.1.told new; left = (edit_says e).1 ∙ x.1.left new })

  -- A change by all of the new text tells and leaves what a scan of it does.
  pub change_fresh : {new told left : List ℕ} → ChangeCall rows answer (a c) (b c) (n c) (new_text c) new told left
      → OuterLent (new_text c) new left told
  change_fresh {new} e =
      let f = outer_change c rows answer (record { lent = lent; scanned = g; table = h }) new in
      record { told = (change_says e).0 ∙ f.told; left = (change_says e).1 ∙ f.left }

-- An edit's number is 7 exactly where that is due.
pub seven_exactly : {c : Change} {w lent answer new : List ℕ} → Edited c w lent answer new → (get_or answer 0 0 ≡ 7) ↔ Due c w
seven_exactly {c} {lent = lent} (short d r) = (λ e. d, λ x. rw r.told)
seven_exactly {c} {lent = lent} (fresh f g) =
    (λ e. absurd (not_7 (new_text c) (room_of lent) (ap (λ (ws : List ℕ). get_or ws 0 0) (sym g.told) ∙ e)), λ d. absurd (f d))

-- By a window to the new text's end it never is.
pub whole_never_7 : {c : Change} {lent answer new : List ℕ} → Edited c (drop (starts c) (new_text c)) lent answer new
    → get_or answer 0 0 ≡ 7
    → ⊥
whole_never_7 {c} e q = whole_not_due c ((seven_exactly e).0 q)

-- Edits that lead to the same text, none of them short, end alike in the same memory: so do edits in a row and the one
-- that covers them, and edits in either order.
pub same_end : {c d : Change} {w u lent answer answer' new new' : List ℕ} → Edited c w lent answer new → Edited d u lent answer' new'
    → (Due c w → ⊥) → (Due d u → ⊥) → new_text c ≡ new_text d
    → (answer ≡ answer') × (new ≡ new')
same_end (short x r) q f k e = absurd (f x)
same_end (fresh x g) (short y r) f k e = absurd (k y)
same_end {lent = lent} (fresh x g) (fresh y r) f k e = (
  g.told ∙ ap (λ (t : List ℕ). told_words (scan_told t (room_of lent))) e ∙ sym r.told,
  g.left ∙ ap (λ (t : List ℕ). scan_leaves t lent) e ∙ sym r.left,
)

-- ---- a text

module _ {text lent answer rows : List ℕ} (g : OuterLent text lent rows answer) where
  -- A parse answers as demand 2 says.
  pub parse_answers : {new told nodes : List ℕ} → ParseCall text rows answer new told nodes → OuterAnswer text lent new told nodes
  parse_answers {new} e = rw ((parse_says e).0, (parse_says e).1) (outer_parse text lent rows answer new g)

  module _ (h : is_ending (get_or answer 0 0) ≡ true) where
    -- A restart tells the restart place of an edit at k, which lies between two characters.
    module _ {k : ℕ} {told : List ℕ} (e : RestartCall rows answer k told) (l : k ≤ length text) where
      pub restart_place : told ≡ words 0 (restart (read_rows (scan text)) k) 0 0 0 0
      restart_place =
          restart_says e ∙ rw (lent_is g h) (ap restart_words (restarts (lent_scanned g h) l))

      pub restart_splits : Between text (get_or told 1 0)
      restart_splits = rw restart_place (restart_between text (lent_valid g h) k)

    -- A store that is not refused, and then a load of the file that it wrote, in room for its rows: what came back is
    -- what a scan of the text tells and leaves in that room.
    module _ (fit : Words rows) {bytes told m : List ℕ} (s : StoreCall rows answer bytes told m) (z : get_or told 0 0 ≡ 0)
        {room again back : List ℕ}
        (e : LoadCall (file_of told m) room again back)
        (enough : (table_of answer).count ≤ room_of room) where
      abbrev its : List Row
      its = read_rows (scan text)

      comes_back : OuterBack rows answer room again back
      comes_back =
          let was : OuterStored rows answer bytes told m = record { told = (store_says s).0; left = (store_says s).1; stored = z } in
          rw ((load_says e).0, (load_says e).1) (outer_stored_loaded _ _ _ _ _ was fit room enough)

      count_is : (table_of answer).count ≡ length its
      count_is = ap (λ (t : Table). t.count) (lent_is g h)

      has_room : length its ≤ room_of room
      has_room = omega (arith, count_is, enough)

      front : take (8 * length its) rows ≡ words_of its
      front =
          let was = lent_scanned g h in
          ap (take (8 * length its)) was.words ∙ take_at (words_of its) was.spare (8 * length its) (words_length its)

      -- the very words in which the table was told
      pub stored_words : again ≡ answer
      stored_words = comes_back.words (scanned.table_of text) (lent_words g h)

      pub stored_lends : OuterLent text room back again
      stored_lends =
          let was = lent_scanned g h in
          let f = scan_rows text (room_of room) (record { fits = was.fits; good = lent_valid g h }) has_room in
          let l = scan_leaves_lem text (text_fine text was.fits (lent_valid g h)) room ∙ laid_all its room has_room in
          record {
            told = stored_words ∙ lent_words g h ∙ ap (λ (x : Told). told_words x) (sym f);
            left =
                comes_back.left
                ∙ ap (λ (j : ℕ). take (8 * j) rows ++ drop (8 * j) room) count_is
                ∙ ap (λ (x : List ℕ). x ++ drop (8 * length its) room) front
                ∙ sym l;
          }

-- ---- a scan, a store, a load, and then an edit

-- The text that was scanned is a change's old text, and the window a part of its new text from the restart place on.
-- Then the edit of what came back of the stored file says 7 exactly where that is due, and else tells and leaves what a
-- scan of the new text does.
pub store_load_edit : (c : Change) {lent answer rows : List ℕ} → ScanCall (old_text c) lent answer rows → is_ending (get_or answer 0 0) ≡ true
    → Words rows → {bytes told m : List ℕ} → StoreCall rows answer bytes told m → get_or told 0 0 ≡ 0
    → {room again back : List ℕ} → LoadCall (file_of told m) room again back → (table_of answer).count ≤ room_of room
    → {w new said left : List ℕ} → Window c w → EditCall back again (a c) (b c) (n c) (starts c) w new said left
    → Edited c w new said left
store_load_edit c p h fit s z e enough v d =
    let g = stored_lends (scan_lends p) h fit s z e enough in
    edit_fresh c g (rw (stored_words (scan_lends p) h fit s z e enough) h) v d
