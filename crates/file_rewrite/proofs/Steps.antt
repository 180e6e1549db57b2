-- One step of the second reading: the next rows as a block, mended. A part that has no rows has no block.
use mathlib.Core.Path.{◌≡◌, sym, ap}
use mathlib.Core.List.{List, [], ◌++◌}
use Prim.Native.Nat.{ℕ, ◌+◌, ◌*◌, ◌≤◌}
use native.Mathlib.Omega.{arith}
use lib.ListN.{length, take, drop, take-append-drop}
use Rattle.rules_files.specs.Blocks.{per_block}
use Rattle.rules_forms.specs.declared.Form.{Form}
use Rattle.rules_forms.specs.Shapes.{row_bytes_of}
use Rattle.scan_part.specs.declared.Part.{Part}
use Rattle.scan_part.specs.Part.{PartOf}
use Rattle.file_patch.specs.Block.{entry_here}
use Rattle.file_patch.proofs.One.{list_stays}
use Rattle.file_survey.specs.Survey.{blocks_of, rows_differing, rows_at, rows_block}
use Rattle.file_survey.proofs.Parts.{blocks_of_none, rows_none}
use Rattle.file_survey.proofs.Steps.{no_rows, fresh_is, entry_is, fresh_size}
use Rattle.file_rewrite.specs.Mending.{PartFits, PartMended}

module _ (form : Form) (text : List ℕ) (at k : ℕ) {r : Part} (p : PartOf text at (per_block (row_bytes_of form)) r) where
  module _ (ne : r.count ≡ 0 → ⊥) (fresh : List ℕ) (made : fresh ≡ rows_block form k (rows_at form text at)) where
    -- there is room for it
    pub fits_block : (n : ℕ) (memory : List ℕ) (listed : ℕ) (list : List ℕ) → PartFits form text at k n memory listed list
        → ((length fresh ≡ 512) × (512 * k + 512 ≤ length memory))
        × ((n ≤ length memory) × (listed + length (entry_here n k fresh memory) ≤ length list))
    fits_block n memory listed list f =
        let l = fresh_size form text at k p ne fresh made in
        ((l, omega (arith, f.room, ap length (fresh_is form text at k p ne fresh made))), (f.inside, omega (arith, f.list_room, ap length (entry_is form text at k p ne fresh made (take n memory)))))

    -- A part that has rows is mended where its block is.
    pub mended_some : (n listed m : ℕ) (memory after list list_after : List ℕ)
        → (m ≡ listed + length (entry_here n k fresh memory))
        × ((after ≡ take (512 * k) memory ++ (fresh ++ drop (512 * k + 512) memory))
        × (list_after ≡ take listed list ++ (entry_here n k fresh memory ++ drop m list)))
        → PartMended form text at k n listed (record { part = r; listed = m }) memory after list list_after
    mended_some n listed m memory after list list_after e = record {
      part_is = p;
      listed_is = rw (entry_is form text at k p ne fresh made (take n memory)) e.0;
      file_is = rw (fresh_is form text at k p ne fresh made, fresh_size form text at k p ne fresh made) e.1.0;
      list_is = rw (entry_is form text at k p ne fresh made (take n memory)) e.1.1;
    }

  -- A part that has no rows leaves all as it is.
  pub mended_none : (n listed : ℕ) (memory list : List ℕ) → r.count ≡ 0
      → PartMended form text at k n listed (record { part = r; listed = listed }) memory memory list list
  mended_none n listed memory list e =
      let x = no_rows form text at k p e in
      let d : rows_differing form k (rows_at form text at) (take n memory) ≡ [] = rw x (rows_none form k (take n memory)) in
      let b : blocks_of form k (rows_at form text at) ≡ [] = rw x (blocks_of_none form k) in
      let z : 512 * k + 0 ≡ 512 * k = omega arith in
      record {
        part_is = p;
        listed_is = rw d (omega arith);
        file_is = rw (b, z) (sym (take-append-drop (512 * k) memory));
        list_is = list_stays list listed _ d;
      }
