-- Files with their text at hand, at the outer face and at the calls' own contracts.
use Prim.Native.Nat.{ℕ, ◌≤◌}
use native.Mathlib.Omega.{arith}
use mathlib.Core.List.{List}
use mathlib.Core.Path.{◌≡◌, refl, ap, sym, ◌∙◌}
use lib.ListN.{length, get_or}
use contract.Lifetimes.{Lfts}
use borrow.Fn.Kinds.{Dens, ended_of}
use denote.Triple.Clauses.{AtExit}
use Rattle.rules.specs.Scan.{room_of, scan_told}
use Rattle.rules_files.specs.Files.{form_said}
use Rattle.rules_forms.specs.declared.Apart.TheVariants.{File, OtherText}
use Rattle.rules_forms.specs.Forms.{beside_told, beside_leaves, move_told, move_leaves}
use Rattle.rules_mend.specs.Mend.{fresh_table, mend_told}
use Rattle.answers.specs.Layout.{told_words}
use Rattle.file_answers.specs.Layout.{beside_words, moved_words, mended_words}
use Rattle.laws.specs.Bounds.{Bytes}
use Rattle.theory_forms.specs.Forms.{IsMoved}
use Rattle.theory_forms.proofs.Back.{there_and_back, read_alike}
use Rattle.theory_mend.specs.Mended.{IsMended}
use Rattle.theory_mend.proofs.Mended.{mended_reads}
use Rattle.spoonharbor.specs.OuterFiles.{file_of, OuterFile}
use Rattle.spoonharbor.specs.OuterForms.{OuterMoved, OuterAlike, OuterMended, OuterFresh}
use Rattle.spoonharbor.proofs.OuterFiles.{fault_some}
use Rattle.spoonharbor.proofs.spoonharbor_load_beside.Kinds as of_load
use Rattle.spoonharbor.proofs.spoonharbor_load_beside.Reads.{Post as LoadPost}
use Rattle.spoonharbor.proofs.spoonharbor_move.Kinds as of_move
use Rattle.spoonharbor.proofs.spoonharbor_move.Reads.{Post as MovePost}
use Rattle.spoonharbor.proofs.spoonharbor_mend.Kinds as of_mend
use Rattle.spoonharbor.proofs.spoonharbor_mend.Reads.{Post as MendPost}
use Rattle.rules_forms.specs.declared.Apart.{Apart}
use Rattle.std.specs.Prelude.{Result, Ok, Err}
use Rattle.rules_mend.specs.declared.Mended.{Mended}
use Rattle.rules_mend.specs.declared.NotMended.{NotMended}

-- ---- what the answer's number tells

moved_told : (x : Result ℕ Apart) → get_or (moved_words x) 0 0 ≡ 0 → x ≡ Ok (get_or (moved_words x) 7 0)
moved_told (Ok n) e = refl
moved_told (Err (File why)) e = absurd (fault_some why e)
moved_told (Err OtherText) e = absurd (omega arith)

mended_told : (x : Result Mended NotMended) → get_or (mended_words x) 0 0 ≡ 0 → x ≡ Ok (record { bytes = get_or (mended_words x) 7 0; listed = get_or (mended_words x) 6 0 })
mended_told (Ok done) e = refl
mended_told (Err refused) e = absurd (fault_some refused.why e)

-- ---- moved files. The file is bytes.

module _ (text file : List ℕ) (form : ℕ) (lent answer m : List ℕ) (g : OuterMoved text file form lent answer m) (bytes : Bytes file) where
  pub is_moved : IsMoved text file form lent (get_or answer 7 0)
  is_moved =
      let z = ap (λ (l : List ℕ). get_or l 0 0) (sym g.told) ∙ g.moved in
      record { told = rw g.told (moved_told (move_told text file form (length lent)) z) }

  -- Lent the file that was written, the form that the first file says and room for it, a second move gives the first file's bytes.
  pub outer_there_and_back : (back : List ℕ) → length file ≤ length back
      → OuterFile file back (moved_words (move_told text (file_of answer m) (form_said file) (length back)))
      (move_leaves text (file_of answer m) (form_said file) back)
  outer_there_and_back back room =
      let t = there_and_back text file form lent (get_or answer 7 0) bytes is_moved in
      record {
        told = rw (g.left, t.told back room);
        left = rw g.left (t.bytes back room);
      }

  -- Beside the text the file that was written is read as the first file is.
  pub outer_read_alike : (new : List ℕ)
      → OuterAlike text file new (beside_words (beside_told text (file_of answer m) (room_of new))) (beside_leaves text (file_of answer m) new)
  outer_read_alike new =
      let a = read_alike text file form lent (get_or answer 7 0) bytes is_moved in
      record {
        told = rw (g.left, a.told (room_of new));
        left = rw g.left (a.rows new);
      }

-- ---- mended files

module _ (text : List ℕ) (form : ℕ) (memory : List ℕ) (n : ℕ) (list answer m blocks : List ℕ)
    (g : OuterMended text form memory n list answer m blocks) where
  pub is_mended : IsMended text form memory n list (get_or answer 7 0) (get_or answer 6 0)
  is_mended =
      let z = ap (λ (l : List ℕ). get_or l 0 0) (sym g.told) ∙ g.mended in
      record { told = rw g.told (mended_told (mend_told text form memory n list) z) }

  -- Lent the file that was left and room for the text's rows, a reading beside the text tells and leaves what a scan of the text does.
  pub outer_mended_read : (new : List ℕ) → (fresh_table text).count ≤ room_of new
      → OuterFresh text new (beside_words (beside_told text (file_of answer m) (room_of new))) (beside_leaves text (file_of answer m) new)
  outer_mended_read new room =
      let r = mended_reads text form memory n list (get_or answer 7 0) (get_or answer 6 0) is_mended in
      record {
        told = rw (g.left, r.beside (room_of new) room, r.scanned (room_of new) room);
        left = rw g.left (r.rows_beside new room);
      }

-- ---- the calls' own contracts: `Post` is what one promises of the arguments, the answer and the lent memory at exit

-- A move that is not refused, and then a move of the file that it wrote to the form that the first file says, in room for that.
module _ (κs : Lfts 4) (a : Dens κs of_move.ps) (r : Unit {0}) (e : AtExit (ended_of 4 of_move.ps of_move.r) κs)
    (λs : Lfts 4) (b : Dens λs of_move.ps) (q : Unit {0}) (f : AtExit (ended_of 4 of_move.ps of_move.r) λs) where
  pub outer_move_there_and_back : MovePost κs a r e → MovePost λs b q f → Bytes a.1.0.now → get_or e.1.1.1.1.0.now 0 0 ≡ 0
      → b.0.now ≡ a.0.now → b.1.0.now ≡ file_of e.1.1.1.1.0.now e.1.1.1.0.now
      → b.1.1.0 ≡ form_said a.1.0.now → length a.1.0.now ≤ length b.1.1.1.0.now
      → OuterFile a.1.0.now b.1.1.1.0.now f.1.1.1.1.0.now f.1.1.1.0.now
  outer_move_there_and_back p s bytes z x y w room =
      let g : OuterMoved a.0.now a.1.0.now a.1.1.0 a.1.1.1.0.now e.1.1.1.1.0.now e.1.1.1.0.now =
      record { told = p.0; left = p.1; moved = z } in
      rw (s.0, s.1, x, y, w) (outer_there_and_back _ _ _ _ _ _ g bytes b.1.1.1.0.now room)

-- A move that is not refused, and then a reading beside the text of the file that it wrote: it is that of the first file.
module _ (κs : Lfts 4) (a : Dens κs of_move.ps) (r : Unit {0}) (e : AtExit (ended_of 4 of_move.ps of_move.r) κs)
    (λs : Lfts 4) (b : Dens λs of_load.ps) (q : Unit {0}) (f : AtExit (ended_of 4 of_load.ps of_load.r) λs) where
  pub outer_move_then_load : MovePost κs a r e → LoadPost λs b q f → Bytes a.1.0.now → get_or e.1.1.1.1.0.now 0 0 ≡ 0
      → b.0.now ≡ a.0.now → b.1.0.now ≡ file_of e.1.1.1.1.0.now e.1.1.1.0.now
      → OuterAlike a.0.now a.1.0.now b.1.1.0.now f.1.1.1.0.now f.1.1.0.now
  outer_move_then_load p s bytes z x y =
      let g : OuterMoved a.0.now a.1.0.now a.1.1.0 a.1.1.1.0.now e.1.1.1.1.0.now e.1.1.1.0.now =
      record { told = p.0; left = p.1; moved = z } in
      rw (s.0, s.1, x, y) (outer_read_alike _ _ _ _ _ _ g bytes b.1.1.0.now)

-- A mending that is not refused, and then a reading beside the text of the file that it left, in room for the text's rows.
module _ (κs : Lfts 4) (a : Dens κs of_mend.ps) (r : Unit {0}) (e : AtExit (ended_of 4 of_mend.ps of_mend.r) κs)
    (λs : Lfts 4) (b : Dens λs of_load.ps) (q : Unit {0}) (f : AtExit (ended_of 4 of_load.ps of_load.r) λs) where
  pub outer_mend_then_load : MendPost κs a r e → LoadPost λs b q f → get_or e.1.1.1.1.1.0.now 0 0 ≡ 0
      → b.0.now ≡ a.0.now → b.1.0.now ≡ file_of e.1.1.1.1.1.0.now e.1.1.0.now
      → (fresh_table a.0.now).count ≤ room_of b.1.1.0.now
      → OuterFresh a.0.now b.1.1.0.now f.1.1.1.0.now f.1.1.0.now
  outer_mend_then_load p s z x y room =
      let g : OuterMended a.0.now a.1.0 a.1.1.0.now a.1.1.1.0 a.1.1.1.1.0.now e.1.1.1.1.1.0.now
      e.1.1.0.now e.1.1.1.1.0.now = record { told = p.0; left = p.1.0; listed = p.1.1; mended = z } in
      rw (s.0, s.1, x, y) (outer_mended_read _ _ _ _ _ _ _ _ g b.1.1.0.now room)
