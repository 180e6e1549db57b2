-- Demand 3 for a change: with the whole new text at hand there is no window to place and no 7, and what is told and left is the fresh scan.
use Prim.Native.Nat.{ℕ}
use mathlib.Core.Bool.{true}
use mathlib.Core.List.{List}
use mathlib.Core.Path.{◌≡◌, ap, sym, ◌∙◌}
use lib.Dec.{eqb}
use lib.ListN.{length, drop}
use borrow.Author.Tests.{eq-eqb}
use Rattle.rules.specs.declared.Table.{Table}
use Rattle.std.specs.declared.result.Result.TheVariants.{Ok}
use Rattle.rules.specs.Text.{valid}
use Rattle.rules.specs.Rows.{Row}
use Rattle.rules.specs.Scan.{room_of, scan_told}
use Rattle.rules.specs.Edit.{restart, new_length, edit_told, edit_leaves}
use Rattle.theory_edits.specs.Scanned.{Scanned}
use Rattle.theory_edits.specs.Change.{Change, old_text, new_text, a, b, n, starts}
use Rattle.theory_edits.specs.Demand3 as demand3
use Rattle.theory_edits.proofs.Fresh.{new_length_lem}
use Rattle.theory_edits.proofs.WellFormed.{scanned_rows, scanned_well_formed, scan_scanned, scan_valid}
use Rattle.theory_edits.proofs.Calls.{not_due}
use Rattle.theory_edits.proofs.Whole.{whole_window, whole_not_due}
use Rattle.edit_change.specs.Change.{change_start, change_window, change_told, change_leaves}
use Rattle.edit_change.specs.Fresh.{tells, leaves, IsFresh}

module _ (c : Change) (ws : List ℕ) (table : Table) (s : Scanned (old_text c) ws table) where
  -- the edit's window from the restart place to the end
  abbrev window : List ℕ
  window = drop (starts c) (new_text c)

  same_length : eqb (length (new_text c)) (new_length table.length (a c) (b c) (n c)) ≡ true
  same_length =
      eq-eqb (length (new_text c)) (new_length table.length (a c) (b c) (n c))
      (sym (new_length_lem c) ∙ ap (λ (t : Table). new_length t.length (a c) (b c) (n c)) (sym s.told))

  same_start : change_start ws table (a c) ≡ starts c
  same_start = ap (λ (rows : List Row). (restart rows (a c)).offset.0) (scanned_rows s)

  told_is : (m : ℕ) → tells c ws table m ≡ demand3.tells c ws table window m
  unfolding change_told change_window
  told_is m =
      rw (scanned_well_formed s, same_length)
      (ap (λ (k : ℕ). edit_told ws table (a c) (b c) (n c) k (drop k (new_text c)) m) same_start)

  left_is : (new : List ℕ) → leaves c ws table new ≡ demand3.leaves c ws table window new
  unfolding change_leaves change_window
  left_is new =
      rw (scanned_well_formed s, same_length)
      (ap (λ (k : ℕ). edit_leaves ws table (a c) (b c) (n c) k (drop k (new_text c)) new) same_start)

  -- Old bytes a to b of a valid text became n new ones. The call is lent the words and the table that a scan of the old text left and told,
  -- and the new text, whatever it is. Then it tells and leaves exactly what a scan of the new text does, in every room: its rows and its
  -- ending, or its refusal 1, 2 or 4.
  pub change_fresh : valid (old_text c) ≡ true → IsFresh c ws table
  change_fresh v =
      let f : demand3.IsFresh c ws table window
      = not_due c ws table window (record { scanned = s; good = v; window = whole_window c }) (whole_not_due c) in
      record { told = λ m. told_is m ∙ f.told m; left = λ new. left_is new ∙ f.left new }

  -- So what it left and told serves the next change as a scan's does.
  pub change_again : valid (old_text c) ≡ true → (new : List ℕ) (table' : Table) → tells c ws table (room_of new) ≡ Ok table'
      → Scanned (new_text c) (leaves c ws table new) table' × (valid (new_text c) ≡ true)
  change_again v new table' e =
      let x : IsFresh c ws table = change_fresh v in
      let f : scan_told (new_text c) (room_of new) ≡ Ok table' = sym (x.told (room_of new)) ∙ e in
      (rw (x.left new) (scan_scanned (new_text c) new table' f), scan_valid (new_text c) (room_of new) table' f)
