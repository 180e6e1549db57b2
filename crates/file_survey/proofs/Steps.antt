-- One step of a reading: the next rows as a block, held against a file. A part that has no rows has no block.
use mathlib.Core.Path.{◌≡◌, refl, sym, ap, ◌∙◌}
use mathlib.Core.List.{List, [], ◌∷◌, ◌++◌}
use Prim.Native.Nat.{ℕ, ◌+◌, ◌*◌, ◌≤◌, ◌<◌}
use native.Mathlib.Omega.{arith}
use lib.ListN.{length, take, drop, length-append, take-append-drop}
use Rattle.laws.proofs.Rows.{words_length}
use Rattle.rules.specs.Rows.{Row, words_of}
use Rattle.rules_files.specs.Bytes.{bytes_of}
use Rattle.rules_files.specs.Blocks.{block, per_block}
use Rattle.rules_forms.specs.declared.Form.{Form}
use Rattle.rules_forms.specs.Shapes.{row_bytes_of, body_of}
use Rattle.scan_part.specs.declared.Part.{Part}
use Rattle.scan_part.specs.Part.{part_rows, PartOf}
use Rattle.file_patch.specs.Block.{entry}
use Rattle.file_survey.specs.Survey.{blocks_of, rows_differing, rows_at, rows_block, PartHeld}
use Rattle.file_survey.proofs.Parts.{body_front, rows_length, blocks_of_one, rows_none, rows_one}
use Rattle.file_survey.proofs.Holding.{part_few}

-- ---- the block of a part

-- the words of a part stand in front
pub words_lent : (t : List ℕ) (at most : ℕ) (r : Part) (ws : List ℕ) (lent : List ℕ) → PartOf t at most r
    → ws ≡ words_of (part_rows t at most) ++ lent → 8 * r.count ≤ length ws
words_lent t at most r ws lent p e =
    let xs = part_rows t at most in
    omega (arith, ap length e, length-append (words_of xs) lent, words_length xs, p.counted)

-- and give its block
block_made : (form : Form) (k n : ℕ) (xs : List Row) (ws rest : List ℕ) → n ≡ length xs → ws ≡ words_of xs ++ rest
    → block k n (bytes_of (body_of form n ws)) ≡ rows_block form k xs
block_made form k n xs ws rest e f = rw (e, f, body_front form xs rest)

-- where as many rows were asked for as stand in a block
pub fresh_made : (form : Form) (text : List ℕ) (at k most : ℕ) (r : Part) (ws rest : List ℕ) → most ≡ per_block (row_bytes_of form)
    → PartOf text at most r → ws ≡ words_of (part_rows text at most) ++ rest
    → block k r.count (bytes_of (body_of form r.count ws)) ≡ rows_block form k (rows_at form text at)
fresh_made form text at k most r ws rest e p f =
    block_made form k r.count (part_rows text at most) ws rest p.counted f
    ∙ ap (λ (m : ℕ). rows_block form k (part_rows text at m)) e

-- ---- no rows, or some

none_of : (rs : List Row) → length rs ≡ 0 → rs ≡ []
none_of [] e = refl
none_of (r ∷ rs) e = absurd (let z : ⊥ = omega arith in z)

module _ (form : Form) (text : List ℕ) (at k : ℕ) {r : Part} (p : PartOf text at (per_block (row_bytes_of form)) r) where
  pub no_rows : r.count ≡ 0 → rows_at form text at ≡ []
  no_rows e = none_of (rows_at form text at) (sym p.counted ∙ e)

  some_rows : (r.count ≡ 0 → ⊥) → 0 < length (rows_at form text at)
  some_rows ne = by ne
    where
      by : (r.count ≡ 0 → ⊥) → 0 < length (rows_at form text at)
      by d = omega (arith, p.counted)

  -- ---- held

  -- A part that has no rows has no entry.
  pub held_none : (file : List ℕ) → r.count ≡ 0 → PartHeld form text at k file (record { part = r; listed = 0 })
  held_none file e = record { part_is = p; listed_is = rw (no_rows e, rows_none form k file) }

  module _ (ne : r.count ≡ 0 → ⊥) (fresh : List ℕ) (made : fresh ≡ rows_block form k (rows_at form text at)) where
    pub fresh_is : blocks_of form k (rows_at form text at) ≡ fresh
    fresh_is = blocks_of_one form k (rows_at form text at) (some_rows ne) (part_few form text at) ∙ sym made

    pub entry_is : (file : List ℕ) → rows_differing form k (rows_at form text at) file ≡ entry k fresh file
    entry_is file =
        rows_one form k file (rows_at form text at) (some_rows ne) (part_few form text at) ∙ ap (λ (b : List ℕ). entry k b file) (sym made)

    -- The block of a part has 512 bytes.
    pub fresh_size : length fresh ≡ 512
    fresh_size = ap length made ∙ rows_length form k (rows_at form text at) (part_few form text at)

    -- A part that has rows has the entry of its block.
    pub held_some : (file : List ℕ) (m : ℕ) → m ≡ length (entry k fresh file)
        → PartHeld form text at k file (record { part = r; listed = m })
    held_some file m e = record { part_is = p; listed_is = e ∙ ap length (sym (entry_is file)) }
