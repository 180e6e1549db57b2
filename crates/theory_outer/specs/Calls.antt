-- The calls of the outer face as they are made: what each was lent, what it told, and what it left. Of a call nothing
-- is known but its own contract, as the checker generates it (`Post`): a is its arguments in the order of its
-- signature, r its result, and e lent memory at exit.
use Rattle.std.specs.Prelude.{ℕ, List}
use contract.Lifetimes.{Lfts}
use borrow.Fn.Kinds.{Dens, ended_of}
use denote.Triple.Clauses.{AtExit}
use Rattle.spoonharbor.proofs.spoonharbor_scan.Kinds as of_scan
use Rattle.spoonharbor.proofs.spoonharbor_scan.Reads.{Post as ScanPost}
use Rattle.spoonharbor.proofs.spoonharbor_well_formed.Kinds as of_well
use Rattle.spoonharbor.proofs.spoonharbor_well_formed.Reads.{Post as WellPost}
use Rattle.spoonharbor.proofs.spoonharbor_spelling.Kinds as of_spelling
use Rattle.spoonharbor.proofs.spoonharbor_spelling.Reads.{Post as SpellingPost}
use Rattle.spoonharbor.proofs.spoonharbor_parse.Kinds as of_parse
use Rattle.spoonharbor.proofs.spoonharbor_parse.Reads.{Post as ParsePost}
use Rattle.spoonharbor.proofs.layouts.spoonharbor_layout.Kinds as of_layout
use Rattle.spoonharbor.proofs.layouts.spoonharbor_layout.Reads.{Post as LayoutPost}
use Rattle.spoonharbor.proofs.spoonharbor_edit.Kinds as of_edit
use Rattle.spoonharbor.proofs.spoonharbor_edit.Reads.{Post as EditPost}
use Rattle.spoonharbor.proofs.change.spoonharbor_change.Kinds as of_change
use Rattle.spoonharbor.proofs.change.spoonharbor_change.Reads.{Post as ChangePost}
use Rattle.spoonharbor.proofs.spoonharbor_restart.Kinds as of_restart
use Rattle.spoonharbor.proofs.spoonharbor_restart.Reads.{Post as RestartPost}
use Rattle.spoonharbor.proofs.spoonharbor_allows.Kinds as of_allows
use Rattle.spoonharbor.proofs.spoonharbor_allows.Reads.{Post as AllowsPost}
use Rattle.spoonharbor.proofs.spoonharbor_set_size.Kinds as of_size
use Rattle.spoonharbor.proofs.spoonharbor_set_size.Reads.{Post as SizePost}
use Rattle.spoonharbor.proofs.spoonharbor_section_kind.Kinds as of_section
use Rattle.spoonharbor.proofs.spoonharbor_section_kind.Reads.{Post as SectionPost}
use Rattle.spoonharbor.proofs.spoonharbor_store.Kinds as of_store
use Rattle.spoonharbor.proofs.spoonharbor_store.Reads.{Post as StorePost}
use Rattle.spoonharbor.proofs.spoonharbor_load.Kinds as of_load
use Rattle.spoonharbor.proofs.spoonharbor_load.Reads.{Post as LoadPost}
use Rattle.spoonharbor.proofs.spoonharbor_load_beside.Kinds as of_beside
use Rattle.spoonharbor.proofs.spoonharbor_load_beside.Reads.{Post as BesidePost}
use Rattle.spoonharbor.proofs.spoonharbor_move.Kinds as of_move
use Rattle.spoonharbor.proofs.spoonharbor_move.Reads.{Post as MovePost}
use Rattle.spoonharbor.proofs.spoonharbor_mend.Kinds as of_mend
use Rattle.spoonharbor.proofs.spoonharbor_mend.Reads.{Post as MendPost}
use Rattle.spoonharbor.proofs.figures.spoonharbor_tally.Kinds as of_tally
use Rattle.spoonharbor.proofs.figures.spoonharbor_tally.Reads.{Post as TallyPost}
use Rattle.spoonharbor.proofs.figures.spoonharbor_join.Kinds as of_join
use Rattle.spoonharbor.proofs.figures.spoonharbor_join.Reads.{Post as JoinPost}

-- `spoonharbor_scan` was lent a text and the words `lent`, told `answer`, and left `rows`.
pub data ScanCall : (text lent answer rows : List ℕ) → Type 0 where
  scanned : (κs : Lfts 3) (a : Dens κs of_scan.ps) (r : Unit {0}) (e : AtExit (ended_of 3 of_scan.ps of_scan.r) κs) → ScanPost κs a r e
      → ScanCall a.0.now a.1.0.now e.1.1.0.now e.1.0.now

-- `spoonharbor_well_formed` was lent rows and a table's words, and gave r.
pub data WellFormedCall : (rows table : List ℕ) (r : ℕ) → Type 0 where
  tested : (κs : Lfts 2) (a : Dens κs of_well.ps) (r : ℕ) (e : AtExit (ended_of 2 of_well.ps of_well.r) κs) → WellPost κs a r e
      → WellFormedCall a.0.now a.1.0.now r

-- `spoonharbor_spelling` was lent a text, rows and a table's words, was asked for row k, and told `answer`.
pub data SpellingCall : (text rows table : List ℕ) (k : ℕ) (answer : List ℕ) → Type 0 where
  spelt : (κs : Lfts 4) (a : Dens κs of_spelling.ps) (r : Unit {0}) (e : AtExit (ended_of 4 of_spelling.ps of_spelling.r) κs)
      → SpellingPost κs a r e
      → SpellingCall a.0.now a.1.0.now a.1.1.0.now a.1.1.1.0 e.1.1.1.1.0.now

-- `spoonharbor_parse` was lent a text, rows, a table's words and the words `lent`, told `answer`, and left `nodes`.
pub data ParseCall : (text rows table lent answer nodes : List ℕ) → Type 0 where
  parsed : (κs : Lfts 5) (a : Dens κs of_parse.ps) (r : Unit {0}) (e : AtExit (ended_of 5 of_parse.ps of_parse.r) κs)
      → ParsePost κs a r e
      → ParseCall a.0.now a.1.0.now a.1.1.0.now a.1.1.1.0.now e.1.1.1.1.0.now e.1.1.1.0.now

-- `spoonharbor_layout` was lent a text, rows, a table's words, nodes, their count, a scratch and the bytes `room`, told `answer`, and left m and
-- `used`, which is the scratch.
pub data LayoutCall : (text rows table nodes : List ℕ) (count : ℕ) (scratch room answer m used : List ℕ) → Type 0 where
  laid_out : (κs : Lfts 7) (a : Dens κs of_layout.ps) (r : Unit {0}) (e : AtExit (ended_of 7 of_layout.ps of_layout.r) κs) → LayoutPost κs a r e
      → LayoutCall a.0.now a.1.0.now a.1.1.0.now a.1.1.1.0.now a.1.1.1.1.0 a.1.1.1.1.1.0.now
      a.1.1.1.1.1.1.0.now e.1.1.1.1.1.1.1.0.now e.1.1.1.1.1.1.0.now e.1.1.1.1.1.0.now

-- `spoonharbor_edit` was lent old rows, their table's words, the numbers a, b, n and `start`, a window and the words
-- `lent`, told `answer`, and left `new`.
pub data EditCall : (old table : List ℕ) (a b n start : ℕ) (window lent answer new : List ℕ) → Type 0 where
  edited : (κs : Lfts 5) (a : Dens κs of_edit.ps) (r : Unit {0}) (e : AtExit (ended_of 5 of_edit.ps of_edit.r) κs) → EditPost κs a r e
      → EditCall a.0.now a.1.0.now a.1.1.0 a.1.1.1.0 a.1.1.1.1.0 a.1.1.1.1.1.0
      a.1.1.1.1.1.1.0.now a.1.1.1.1.1.1.1.0.now e.1.1.1.1.1.1.1.1.0.now e.1.1.1.1.1.1.1.0.now

-- `spoonharbor_change` was lent old rows, their table's words, the numbers a, b and n, a text and the words `lent`,
-- told `answer`, and left `new`.
pub data ChangeCall : (old table : List ℕ) (a b n : ℕ) (text lent answer new : List ℕ) → Type 0 where
  changed : (κs : Lfts 5) (a : Dens κs of_change.ps) (r : Unit {0}) (e : AtExit (ended_of 5 of_change.ps of_change.r) κs)
      → ChangePost κs a r e
      → ChangeCall a.0.now a.1.0.now a.1.1.0 a.1.1.1.0 a.1.1.1.1.0 a.1.1.1.1.1.0.now
      a.1.1.1.1.1.1.0.now e.1.1.1.1.1.1.1.0.now e.1.1.1.1.1.1.0.now

-- `spoonharbor_restart` was lent old rows and their table's words, was asked for an edit at a, and told `answer`.
pub data RestartCall : (old table : List ℕ) (a : ℕ) (answer : List ℕ) → Type 0 where
  placed : (κs : Lfts 3) (a : Dens κs of_restart.ps) (r : Unit {0}) (e : AtExit (ended_of 3 of_restart.ps of_restart.r) κs)
      → RestartPost κs a r e
      → RestartCall a.0.now a.1.0.now a.1.1.0 e.1.1.1.0.now

-- `spoonharbor_allows` was asked for a method of a program kind, and told `answer`.
pub data AllowsCall : (kind method : ℕ) (answer : List ℕ) → Type 0 where
  asked : (κs : Lfts 1) (a : Dens κs of_allows.ps) (r : Unit {0}) (e : AtExit (ended_of 1 of_allows.ps of_allows.r) κs) → AllowsPost κs a r e
      → AllowsCall a.0 a.1.0 e.1.1.0.now

-- `spoonharbor_set_size` was asked for a program kind, and told `answer`.
pub data SetSizeCall : (kind : ℕ) (answer : List ℕ) → Type 0 where
  sized : (κs : Lfts 1) (a : Dens κs of_size.ps) (r : Unit {0}) (e : AtExit (ended_of 1 of_size.ps of_size.r) κs) → SizePost κs a r e
      → SetSizeCall a.0 e.1.0.now

-- `spoonharbor_section_kind` was lent a section's text, and gave r.
pub data SectionKindCall : (text : List ℕ) (r : ℕ) → Type 0 where
  named : (κs : Lfts 1) (a : Dens κs of_section.ps) (r : ℕ) (e : AtExit (ended_of 1 of_section.ps of_section.r) κs) → SectionPost κs a r e
      → SectionKindCall a.0.now r

-- `spoonharbor_store` was lent rows, their table's words and the bytes `lent`, told `answer`, and left m.
pub data StoreCall : (rows table lent answer m : List ℕ) → Type 0 where
  stored : (κs : Lfts 4) (a : Dens κs of_store.ps) (r : Unit {0}) (e : AtExit (ended_of 4 of_store.ps of_store.r) κs) → StorePost κs a r e
      → StoreCall a.0.now a.1.0.now a.1.1.0.now e.1.1.1.0.now e.1.1.0.now

-- `spoonharbor_load` was lent a file and the words `lent`, told `answer`, and left `rows`.
pub data LoadCall : (file lent answer rows : List ℕ) → Type 0 where
  loaded : (κs : Lfts 3) (a : Dens κs of_load.ps) (r : Unit {0}) (e : AtExit (ended_of 3 of_load.ps of_load.r) κs) → LoadPost κs a r e
      → LoadCall a.0.now a.1.0.now e.1.1.0.now e.1.0.now

-- `spoonharbor_load_beside` was lent a text, a file and the words `lent`, told `answer`, and left `rows`.
pub data LoadBesideCall : (text file lent answer rows : List ℕ) → Type 0 where
  loaded_beside : (κs : Lfts 4) (a : Dens κs of_beside.ps) (r : Unit {0}) (e : AtExit (ended_of 4 of_beside.ps of_beside.r) κs)
      → BesidePost κs a r e
      → LoadBesideCall a.0.now a.1.0.now a.1.1.0.now e.1.1.1.0.now e.1.1.0.now

-- `spoonharbor_move` was lent a text, a file, a form and the bytes `lent`, told `answer`, and left m.
pub data MoveCall : (text file : List ℕ) (form : ℕ) (lent answer m : List ℕ) → Type 0 where
  moved : (κs : Lfts 4) (a : Dens κs of_move.ps) (r : Unit {0}) (e : AtExit (ended_of 4 of_move.ps of_move.r) κs) → MovePost κs a r e
      → MoveCall a.0.now a.1.0.now a.1.1.0 a.1.1.1.0.now e.1.1.1.1.0.now e.1.1.1.0.now

-- `spoonharbor_mend` was lent a text, a form, memory of which n bytes are the file, and a list, told `answer`, and left
-- m and `blocks`.
pub data MendCall : (text : List ℕ) (form : ℕ) (memory : List ℕ) (n : ℕ) (list answer m blocks : List ℕ) → Type 0 where
  mended : (κs : Lfts 4) (a : Dens κs of_mend.ps) (r : Unit {0}) (e : AtExit (ended_of 4 of_mend.ps of_mend.r) κs) → MendPost κs a r e
      → MendCall a.0.now a.1.0 a.1.1.0.now a.1.1.1.0 a.1.1.1.1.0.now e.1.1.1.1.1.0.now
      e.1.1.0.now e.1.1.1.1.0.now

-- `spoonharbor_tally` was lent nodes, was asked for the first n of them, gave r, and left `counts`.
pub data TallyCall : (nodes : List ℕ) (n r : ℕ) (counts : List ℕ) → Type 0 where
  tallied : (κs : Lfts 2) (a : Dens κs of_tally.ps) (r : ℕ) (e : AtExit (ended_of 2 of_tally.ps of_tally.r) κs) → TallyPost κs a r e
      → TallyCall a.0.now a.1.0 r e.1.1.0.now

-- `spoonharbor_join` was lent the counts of two tallies, gave r, and left `counts`.
pub data JoinCall : (first second : List ℕ) (r : ℕ) (counts : List ℕ) → Type 0 where
  joined : (κs : Lfts 3) (a : Dens κs of_join.ps) (r : ℕ) (e : AtExit (ended_of 3 of_join.ps of_join.r) κs) → JoinPost κs a r e
      → JoinCall a.0.now a.1.0.now r e.1.1.0.now
