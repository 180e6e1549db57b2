-- How many blocks a mending lists, at the call's own contract.
use Prim.Native.Nat.{ℕ, ◌+◌, ◌/◌, ◌≤◌}
use native.Mathlib.Omega.{arith}
use mathlib.Core.List.{List}
use mathlib.Core.Path.{◌≡◌, refl, ap, ◌∙◌}
use lib.ListN.{get_or}
use contract.Lifetimes.{Lfts}
use borrow.Fn.Kinds.{Dens, ended_of}
use denote.Triple.Clauses.{AtExit}
use Rattle.rules_files.specs.Blocks.{block_bytes}
use Rattle.rules_mend.specs.Mend.{mend_told}
use Rattle.file_answers.specs.Layout.{mended_words}
use Rattle.theory_mend.specs.Mended.{IsMended}
use Rattle.theory_mend.proofs.Mended.{mended_few, room_enough}
use Rattle.spoonharbor.specs.OuterMend.{OuterListed, OuterRoom}
use Rattle.spoonharbor.proofs.spoonharbor_mend.Kinds as of_mend
use Rattle.spoonharbor.proofs.spoonharbor_mend.Reads.{Post as MendPost}
use Rattle.rules_mend.specs.declared.Mended.{Mended}
use Rattle.rules_mend.specs.declared.NotMended.{NotMended}
use Rattle.std.specs.Prelude.{Result, Ok, Err}

-- a refused call lists none
listed_few : (text : List ℕ) (form : ℕ) (memory : List ℕ) (n : ℕ) (list : List ℕ) (x : Result Mended NotMended) → mend_told text form memory n list ≡ x
    → get_or (mended_words x) 6 0 ≤ get_or (mended_words x) 7 0 / block_bytes + 1
listed_few text form memory n list (Ok done) e = mended_few text form memory n list done.bytes done.listed (record { told = e })
listed_few text form memory n list (Err refused) e = omega arith

module _ (κs : Lfts 4) (a : Dens κs of_mend.ps) (r : Unit {0}) (e : AtExit (ended_of 4 of_mend.ps of_mend.r) κs) where
  -- Any call lists at most a block for each 512 bytes of the file that it tells, and one more.
  pub outer_mend_lists : MendPost κs a r e → OuterListed e.1.1.1.1.1.0.now
  outer_mend_lists p = record {
    few = rw p.0 (listed_few a.0.now a.1.0 a.1.1.0.now a.1.1.1.0 a.1.1.1.1.0.now _ refl);
  }

  -- A list of so many words is enough, whatever the file holds: the call is not refused.
  pub outer_mend_room : MendPost κs a r e
      → OuterRoom a.0.now a.1.0 a.1.1.0.now a.1.1.1.0 a.1.1.1.1.0.now
      → get_or e.1.1.1.1.1.0.now 0 0 ≡ 0
  outer_mend_room p g =
      let m = room_enough a.0.now a.1.0 a.1.1.0.now a.1.1.1.0 a.1.1.1.1.0.now
      g.known g.fine g.few g.room in
      ap (λ (l : List ℕ). get_or l 0 0) p.0 ∙ ap (λ (x : Result Mended NotMended). get_or (mended_words x) 0 0) m.told
