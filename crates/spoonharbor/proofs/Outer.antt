-- Demand 3 at the outer face, where a table lent in the words in which it was told is that table, and at the calls' own
-- contracts.
use Prim.Native.Nat.{ℕ, ◌+◌}
use native.Mathlib.Omega.{arith}
use mathlib.Core.Bool.{true, false, true≢false}
use mathlib.Core.List.{List}
use mathlib.Core.Logic.{◌⊎◌, inl, inr}
use mathlib.Core.Path.{◌≡◌, refl, ap, sym, ◌∙◌}
use lib.Dec.{ltb}
use lib.ListN.{length, get_or, length-append}
use borrow.Author.Tests.{le-ltb}
use contract.Lifetimes.{Lfts}
use borrow.Fn.Kinds.{Dens, ended_of}
use denote.Triple.Clauses.{AtExit}
use Rattle.rules.specs.declared.Table.{Table}
use Rattle.rules.specs.Outcomes.{Told}
use Rattle.std.specs.declared.result.Result.TheVariants.{Ok}
use Rattle.rules.specs.Text.{start_place}
use Rattle.rules.specs.Scan.{room_of, scan_told}
use Rattle.rules.specs.Edit.{restart, edit_told, edit_leaves, restart_told}
use Rattle.theory_edits.specs.Scanned as scanned
use Rattle.theory_edits.specs.Change.{Change, old_text, new_text, a, b, n, starts, old_rows, Window}
use Rattle.theory_edits.specs.Demand3.{Given, Due, tells, leaves, SaysSeven, IsFresh}
use Rattle.theory_edits.proofs.WellFormed.{Scans, says_1, says_2, says_4, says_rows, scan_says, scan_scanned, scan_valid, scanned_rows, scanned_well_formed}
use Rattle.theory_edits.proofs.Demand3.{demand_3}
use Rattle.answers.specs.Layout.{words, told_words, restart_words, is_ending, table_of}
use Rattle.answers.proofs.Table.{lent_table}
use Rattle.spoonharbor.specs.OuterEdit.{OuterGiven, outer_tells, outer_leaves, OuterSeven, OuterFresh}
use Rattle.spoonharbor.specs.OuterParse.{OuterLent, OuterRefused}
use Rattle.spoonharbor.proofs.spoonharbor_edit.Kinds as of_edit
use Rattle.spoonharbor.proofs.spoonharbor_edit.Reads.{Post as EditPost}
use Rattle.spoonharbor.proofs.spoonharbor_restart.Kinds as of_restart
use Rattle.spoonharbor.proofs.spoonharbor_restart.Reads.{Post as RestartPost}

-- ---- the theorem

module _ (c : Change) (ws : List ℕ) (table : Table) (answer w : List ℕ) (e : answer ≡ told_words (Ok table)) where
  tells_words : (new : List ℕ) {x : Told} → tells c ws table w (room_of new) ≡ x → outer_tells c ws answer w new ≡ told_words x
  tells_words new h =
      ap (λ (t : Table). told_words (edit_told ws t (a c) (b c) (n c) (starts c) w (room_of new))) (lent_table table e)
      ∙ ap (λ (x : Told). told_words x) h

  leaves_words : (new : List ℕ) {x : List ℕ} → leaves c ws table w new ≡ x → outer_leaves c ws answer w new ≡ x
  leaves_words new h = ap (λ (t : Table). edit_leaves ws t (a c) (b c) (n c) (starts c) w new) (lent_table table e) ∙ h

  outer_seven : SaysSeven c ws table w → OuterSeven c ws answer w
  outer_seven s = record { told = λ new. tells_words new (s.told (room_of new)); left = λ new. leaves_words new (s.left new) }

  outer_fresh : IsFresh c ws table w → OuterFresh c ws answer w
  outer_fresh s = record { told = λ new. tells_words new (s.told (room_of new)); left = λ new. leaves_words new (s.left new) }

-- Demand 3 at the outer face. `spoonharbor_edit` is given what demand 3 asks for, and the old table in the words in which it was told. Then there
-- are two cases, for every lent memory:
--
-- 1. 7 is due. The answer's words are 7's, at 0, line 1, column 1, and no lent word changes.
-- 2. 7 is not due. The answer's words and every lent word are those that `spoonharbor_scan` of the whole new text promises.
pub outer_demand_3 : (c : Change) (ws : List ℕ) (table : Table) (answer w : List ℕ) → Given c ws table w → answer ≡ told_words (Ok table)
    → (Due c w × OuterSeven c ws answer w) ⊎ ((Due c w → ⊥) × OuterFresh c ws answer w)
outer_demand_3 c ws table answer w g e = by (demand_3 c ws table w g)
  where
    by : (Due c w × SaysSeven c ws table w) ⊎ ((Due c w → ⊥) × IsFresh c ws table w)
        → (Due c w × OuterSeven c ws answer w) ⊎ ((Due c w → ⊥) × OuterFresh c ws answer w)
    by (inl h) = inl (h.0, outer_seven c ws table answer w e h.1)
    by (inr h) = inr (h.0, outer_fresh c ws table answer w e h.1)

-- ---- the theorem in the outer face's own words

-- a scan whose answer's words are a table's tells its rows
pub rows_told : (t : List ℕ) (m : ℕ) → is_ending (get_or (told_words (scan_told t m)) 0 0) ≡ true → scan_told t m ≡ Ok (scanned.table_of t)
unfolding is_ending
rows_told t m h = by (scan_says t m) h
  where
    by : {x : Told} → Scans t m x → is_ending (get_or (told_words x) 0 0) ≡ true → x ≡ Ok (scanned.table_of t)
    by says_1 k = absurd (true≢false (sym k))
    by says_2 k = absurd (true≢false (sym k))
    by says_4 k = absurd (true≢false (sym k))
    by (says_rows l v r) k = refl

module _ (c : Change) (ws answer w : List ℕ) (g : OuterGiven c ws answer w) where
  tells_rows : scan_told (old_text c) (room_of g.lent) ≡ Ok (scanned.table_of (old_text c))
  tells_rows = rows_told (old_text c) (room_of g.lent) (rw g.told at g.table)

  given : Given c ws (scanned.table_of (old_text c)) w
  given = record {
    scanned = rw g.left (scan_scanned (old_text c) g.lent _ tells_rows);
    good = scan_valid (old_text c) (room_of g.lent) _ tells_rows;
    window = g.window;
  }

  table_words : answer ≡ told_words (Ok (scanned.table_of (old_text c)))
  table_words = g.told ∙ ap (λ (x : Told). told_words x) tells_rows

  -- `spoonharbor_restart` for the change's place answers the restart place, where the window starts.
  pub outer_starts : restart_words (restart_told ws (table_of answer) (a c)) ≡ words 0 (restart (old_rows c) (a c)) 0 0 0 0
  unfolding restart_told
  outer_starts =
      let l : length (old_text c) ≡ a c + (length c.removed + length c.behind) = simp length-append in
      let h : ltb (length (old_text c)) (a c) ≡ false = le-ltb (length (old_text c)) (a c) (omega arith) in
      ap (λ (t : Table). restart_words (restart_told ws t (a c))) (lent_table (scanned.table_of (old_text c)) table_words)
      ∙ rw (scanned_well_formed given.scanned, h, scanned_rows given.scanned)

  -- `spoonharbor_edit`, lent what `spoonharbor_scan` of the old text left and told, says 7 and touches nothing exactly where 7 is due, and else tells and
  -- leaves what `spoonharbor_scan` of the new text promises.
  pub outer_edit : (Due c w × OuterSeven c ws answer w) ⊎ ((Due c w → ⊥) × OuterFresh c ws answer w)
  outer_edit = outer_demand_3 c ws (scanned.table_of (old_text c)) answer w given table_words

  -- Where its answer is a table's, the next edit may be lent what it left and told.
  pub outer_again : (new : List ℕ) → is_ending (get_or (outer_tells c ws answer w new) 0 0) ≡ true → (d : Change) (u : List ℕ) → new_text c ≡ old_text d
      → Window d u
      → OuterGiven d (outer_leaves c ws answer w new) (outer_tells c ws answer w new) u
  unfolding is_ending
  outer_again new h d u e v = by outer_edit
    where
      by : (Due c w × OuterSeven c ws answer w) ⊎ ((Due c w → ⊥) × OuterFresh c ws answer w)
          → OuterGiven d (outer_leaves c ws answer w new) (outer_tells c ws answer w new) u
      by (inl x) = absurd (true≢false (sym (rw (x.1.told new) at h)))
      by (inr x) = record {
        lent = new;
        told = rw (← e) (x.1.told new);
        left = rw (← e) (x.1.left new);
        table = h;
        window = v;
      }

-- ---- the calls' own contracts: `Post` is what one promises of the arguments x, the answer r and lent memory at exit e

-- `spoonharbor_edit` is lent the rows and words that a scan of a change's old text left and told, the change's four
-- numbers, and a window of its new text. Either 7 is due, the answer is 7's, and no lent word changes. Or 7 is not due,
-- and it leaves and tells what a scan of the new text does.
module _ (κs : Lfts 5) (x : Dens κs of_edit.ps) (r : Unit {0}) (e : AtExit (ended_of 5 of_edit.ps of_edit.r) κs) where
  abbrev shown : List ℕ
  shown = x.1.1.1.1.1.1.0.now

  abbrev room : List ℕ
  room = x.1.1.1.1.1.1.1.0.now

  abbrev rows : List ℕ
  rows = e.1.1.1.1.1.1.1.0.now

  abbrev told : List ℕ
  told = e.1.1.1.1.1.1.1.1.0.now

  pub outer_edit_call : EditPost κs x r e → (c : Change) → OuterGiven c x.0.now x.1.0.now shown
      → x.1.1.0 ≡ a c → x.1.1.1.0 ≡ b c → x.1.1.1.1.0 ≡ n c → x.1.1.1.1.1.0 ≡ starts c
      → (Due c shown × OuterRefused room told rows 7 start_place 0 0 0) ⊎ ((Due c shown → ⊥) × OuterLent (new_text c) room rows told)
  outer_edit_call p c g ea eb en es = by (outer_edit c x.0.now x.1.0.now shown g)
    where
      tells : told ≡ outer_tells c x.0.now x.1.0.now shown room
      tells = rw (ea, eb, en, es) at p.0

      leaves : rows ≡ outer_leaves c x.0.now x.1.0.now shown room
      leaves = rw (ea, eb, en, es) at p.1

      by : (Due c shown × OuterSeven c x.0.now x.1.0.now shown)
          ⊎ ((Due c shown → ⊥) × OuterFresh c x.0.now x.1.0.now shown)
          → (Due c shown × OuterRefused room told rows 7 start_place 0 0 0) ⊎ ((Due c shown → ⊥) × OuterLent (new_text c) room rows told)
      by (inl h) = inl (h.0, record { told = tells ∙ h.1.told room; left = leaves ∙ h.1.left room })
      by (inr h) = inr (h.0, record { told = tells ∙ h.1.told room; left = leaves ∙ h.1.left room })

-- `spoonharbor_restart` is lent the same rows and words, and the change's first number. It tells the restart place,
-- where the window starts.
module _ (κs : Lfts 3) (x : Dens κs of_restart.ps) (r : Unit {0}) (e : AtExit (ended_of 3 of_restart.ps of_restart.r) κs) where
  pub outer_restart_call : RestartPost κs x r e → (c : Change) (w : List ℕ) → OuterGiven c x.0.now x.1.0.now w → x.1.1.0 ≡ a c
      → e.1.1.1.0.now ≡ words 0 (restart (old_rows c) (a c)) 0 0 0 0
  outer_restart_call p c w g ea = rw ea at p ∙ outer_starts c x.0.now x.1.0.now w g
