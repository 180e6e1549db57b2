-- Stored tables at the outer face, and at the calls' own contracts.
use Prim.Native.Nat.{ℕ, ◌*◌, ◌≤◌}
use native.Mathlib.Omega.{arith}
use mathlib.Core.Bool.{true, true≢false}
use mathlib.Core.List.{List}
use mathlib.Core.Path.{◌≡◌, refl, ap, sym, ◌∙◌}
use lib.ListN.{length, get_or}
use contract.Lifetimes.{Lfts}
use borrow.Fn.Kinds.{Dens, ended_of}
use denote.Triple.Clauses.{AtExit}
use Rattle.rules.specs.declared.Outer.TheVariants as outer
use Rattle.rules.specs.declared.Table.{Table}
use Rattle.std.specs.declared.result.Result.TheVariants.{Ok}
use Rattle.rules.specs.Scan.{room_of}
use Rattle.rules_files.specs.declared.Fault.{Fault}
use Rattle.rules_files.specs.declared.Fault.TheVariants as fault
use Rattle.rules_files.specs.Files.{fault_number, store_told, load_told, load_leaves}
use Rattle.file_answers.specs.Layout.{stored_words, loaded_words}
use Rattle.laws.specs.Bounds.{Bytes, Words}
use Rattle.theory_files.proofs.Files.{stored_loaded, stored_left, read_well}
use Rattle.answers.specs.Layout.{told_words, is_ending, table_of}
use Rattle.answers.proofs.Table.{told_table, lent_table}
use Rattle.spoonharbor.specs.OuterFiles.{OuterStored, file_of, OuterBack, OuterLends}
use Rattle.spoonharbor.proofs.spoonharbor_store.Kinds as of_store
use Rattle.spoonharbor.proofs.spoonharbor_store.Reads.{Post as StorePost}
use Rattle.spoonharbor.proofs.spoonharbor_load.Kinds as of_load
use Rattle.spoonharbor.proofs.spoonharbor_load.Reads.{Post as LoadPost}
use Rattle.std.specs.Prelude.{Result, Ok, Err}

-- ---- what the answer's number tells

-- no fault has number 0
pub fault_some : (why : Fault) → fault_number why ≡ 0 → ⊥
fault_some (fault.Outer outer.TextTooLong) e = omega arith
fault_some (fault.Outer outer.BadByte) e = omega arith
fault_some (fault.Outer outer.NotWellFormed) e = omega arith
fault_some (fault.Outer outer.NoRowRoom) e = omega arith
fault_some (fault.Outer outer.NoNodeRoom) e = omega arith
fault_some (fault.Outer outer.EditNotSensible) e = omega arith
fault_some (fault.Outer outer.WindowShort) e = omega arith
fault_some fault.TooManyRows e = omega arith
fault_some (fault.BadBlock k) e = omega arith
fault_some fault.WrongLength e = omega arith
fault_some fault.NoTable e = omega arith
fault_some fault.OtherForm e = omega arith

-- an answer of number 0 tells a file, of the length that stands in it
bytes_told : (x : Result ℕ Fault) → get_or (stored_words x) 0 0 ≡ 0 → x ≡ Ok (get_or (stored_words x) 7 0)
bytes_told (Ok n) e = refl
bytes_told (Err why) e = absurd (fault_some why e)

-- an answer whose number is an ending's tells the table that is read from its words
rows_told : (x : Result Table Fault) → is_ending (get_or (loaded_words x) 0 0) ≡ true → x ≡ Ok (table_of (loaded_words x))
unfolding is_ending
rows_told (Ok t) e = ap (λ (u : Table). Ok u) (sym (told_table t))
rows_told (Err (fault.Outer outer.TextTooLong)) e = absurd (true≢false (sym e))
rows_told (Err (fault.Outer outer.BadByte)) e = absurd (true≢false (sym e))
rows_told (Err (fault.Outer outer.NotWellFormed)) e = absurd (true≢false (sym e))
rows_told (Err (fault.Outer outer.NoRowRoom)) e = absurd (true≢false (sym e))
rows_told (Err (fault.Outer outer.NoNodeRoom)) e = absurd (true≢false (sym e))
rows_told (Err (fault.Outer outer.EditNotSensible)) e = absurd (true≢false (sym e))
rows_told (Err (fault.Outer outer.WindowShort)) e = absurd (true≢false (sym e))
rows_told (Err fault.TooManyRows) e = absurd (true≢false (sym e))
rows_told (Err (fault.BadBlock k)) e = absurd (true≢false (sym e))
rows_told (Err fault.WrongLength) e = absurd (true≢false (sym e))
rows_told (Err fault.NoTable) e = absurd (true≢false (sym e))
rows_told (Err fault.OtherForm) e = absurd (true≢false (sym e))

-- ---- the theorems

-- What was stored is loaded: lent the file that `spoonharbor_store` wrote and room for its rows, `spoonharbor_load` gives back the table
-- and the words of its rows. The rows are u32 words, so that each is below 2^32.
module _ (ws table lent answer m : List ℕ) (g : OuterStored ws table lent answer m) (words : Words ws) where
  pub is_file : store_told ws (table_of table) (length lent) ≡ Ok (get_or answer 7 0)
  is_file =
      let z = ap (λ (l : List ℕ). get_or l 0 0) (sym g.told) ∙ g.stored in
      rw g.told (bytes_told (store_told ws (table_of table) (length lent)) z)

  module _ (new : List ℕ) (room : (table_of table).count ≤ room_of new) where
    is_read : load_told (file_of answer m) (room_of new) ≡ Ok (table_of table)
    is_read = rw g.left (stored_loaded ws (table_of table) lent (get_or answer 7 0) is_file words (room_of new) room)

    says : loaded_words (load_told (file_of answer m) (room_of new)) ≡ told_words (Ok (table_of table))
    says = ap (λ (x : Result Table Fault). loaded_words x) is_read

    pub outer_stored_loaded :
        OuterBack ws table new (loaded_words (load_told (file_of answer m) (room_of new))) (load_leaves (file_of answer m) new)
    outer_stored_loaded = record {
      told = lent_table (table_of table) says;
      words = λ t e. says ∙ ap (λ (u : Table). told_words (Ok u)) (lent_table t e) ∙ sym e;
      left = rw g.left (stored_left ws (table_of table) lent (get_or answer 7 0) is_file words new room);
    }

-- What a load tells is lent on: an answer whose number is an ending's is the table that was read, and fits the rows that were left. The
-- file is bytes.
pub outer_load_lends : (file new : List ℕ) → Bytes file → is_ending (get_or (loaded_words (load_told file (room_of new))) 0 0) ≡ true
    → OuterLends file new (loaded_words (load_told file (room_of new))) (load_leaves file new)
outer_load_lends file new bytes h =
    let e = rows_told (load_told file (room_of new)) h in
    record { told = e; well = read_well file bytes (room_of new) _ e new refl }

-- ---- the calls' own contracts: `Post` is what one promises of the arguments, the answer and the lent memory at exit

module _ (κs : Lfts 3) (a : Dens κs of_load.ps) (r : Unit {0}) (e : AtExit (ended_of 3 of_load.ps of_load.r) κs) where
  pub outer_load_call : LoadPost κs a r e → Bytes a.0.now → is_ending (get_or e.1.1.0.now 0 0) ≡ true
      → OuterLends a.0.now a.1.0.now e.1.1.0.now e.1.0.now
  outer_load_call p bytes h = rw (p.0, p.1) (outer_load_lends a.0.now a.1.0.now bytes (rw p.0 at h))

  -- A store that is not refused, and then a load of the file that it wrote, in room for its rows.
  module _ (λs : Lfts 4) (b : Dens λs of_store.ps) (q : Unit {0}) (f : AtExit (ended_of 4 of_store.ps of_store.r) λs) where
    pub outer_store_then_load : StorePost λs b q f → LoadPost κs a r e → Words b.0.now → get_or f.1.1.1.0.now 0 0 ≡ 0
        → a.0.now ≡ file_of f.1.1.1.0.now f.1.1.0.now → (table_of b.1.0.now).count ≤ room_of a.1.0.now
        → OuterBack b.0.now b.1.0.now a.1.0.now e.1.1.0.now e.1.0.now
    outer_store_then_load s p words z x room =
        let g : OuterStored b.0.now b.1.0.now b.1.1.0.now f.1.1.1.0.now f.1.1.0.now =
        record { told = s.0; left = s.1; stored = z } in
        rw (p.0, p.1, x) (outer_stored_loaded _ _ _ _ _ g words a.1.0.now room)
