-- The calls as they are made: what each was lent, what it told, and what it left. Of a call nothing is known but its own
-- contract, as the checker generates it (`Post`): a is its arguments in the order of its signature, r its result, and e
-- lent memory at exit.
use Rattle.std.specs.Prelude.{ℕ, List}
use contract.Lifetimes.{Lfts}
use borrow.Fn.Kinds.{Dens, ended_of}
use denote.Triple.Clauses.{AtExit}
use Rattle.rules.specs.declared.Table.{Table}
use Rattle.rules.specs.Outcomes.{Told}
use Rattle.scan.proofs.scan.Kinds as of_scan
use Rattle.scan.proofs.scan.Reads.{Post as ScanPost}
use Rattle.edit.proofs.edit.Kinds as of_edit
use Rattle.edit.proofs.edit.Reads.{Post as EditPost}
use Rattle.edit_change.proofs.change.Kinds as of_change
use Rattle.edit_change.proofs.change.Reads.{Post as ChangePost}

-- `scan::scan` was lent a text and the words `lent`, told r, and left `rows`.
pub data ScanCall : (text lent : List ℕ) (r : Told) (rows : List ℕ) → Type 0 where
  scanned : (κs : Lfts 2) (a : Dens κs of_scan.ps) (r : Told) (e : AtExit (ended_of 2 of_scan.ps of_scan.r) κs) → ScanPost κs a r e
      → ScanCall a.0.now a.1.0.now r e.1.0.now

-- `edit::edit` was lent old rows, their table, the numbers a, b, n and `start`, a window and the words `lent`, told r, and
-- left `new`.
pub data EditCall : (old : List ℕ) (table : Table) (a b n start : ℕ) (window lent : List ℕ) (r : Told) (new : List ℕ) → Type 0 where
  edited : (κs : Lfts 3) (a : Dens κs of_edit.ps) (r : Told) (e : AtExit (ended_of 3 of_edit.ps of_edit.r) κs) → EditPost κs a r e
      → EditCall a.0.now a.1.0 a.1.1.0 a.1.1.1.0 a.1.1.1.1.0 a.1.1.1.1.1.0
      a.1.1.1.1.1.1.0.now a.1.1.1.1.1.1.1.0.now r e.1.1.1.1.1.1.1.0.now

-- `edit_change::change` was lent old rows, their table, the numbers a, b and n, a text and the words `lent`, told r, and
-- left `new`.
pub data ChangeCall : (old : List ℕ) (table : Table) (a b n : ℕ) (text lent : List ℕ) (r : Told) (new : List ℕ) → Type 0 where
  changed : (κs : Lfts 3) (a : Dens κs of_change.ps) (r : Told) (e : AtExit (ended_of 3 of_change.ps of_change.r) κs) → ChangePost κs a r e
      → ChangeCall a.0.now a.1.0 a.1.1.0 a.1.1.1.0 a.1.1.1.1.0 a.1.1.1.1.1.0.now
      a.1.1.1.1.1.1.0.now r e.1.1.1.1.1.1.0.now
