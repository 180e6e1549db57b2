-- Laws of the first reading: what holds where a part begins, and behind each part.
use mathlib.Core.Path.{◌≡◌, sym, ap, ◌∙◌}
use mathlib.Core.List.{List, ◌++◌}
use Prim.Native.Nat.{ℕ, suc, ◌+◌, ◌≤◌, ◌<◌}
use native.Mathlib.Numerals.{add-one}
use native.Mathlib.Omega.{arith}
use lib.ListN.{length, drop, length-append, length-take, length-drop}
use Rattle.laws.proofs.Valid.{fine_text}
use Rattle.laws.proofs.Rows.{few_rows}
use Rattle.rules.specs.Outcomes.{Ending}
use Rattle.std.specs.declared.result.Result.TheVariants.{Ok}
use Rattle.rules.specs.declared.Table.{Table}
use Rattle.rules.specs.Text.{start_place, place_at, text_judged}
use Rattle.rules.specs.Rows.{Row}
use Rattle.rules.specs.Scan.{read_rows, read_ending, scan}
use Rattle.rules_files.specs.Blocks.{per_block}
use Rattle.rules_forms.specs.declared.Form.{Form}
use Rattle.rules_forms.specs.Shapes.{row_bytes_of}
use Rattle.rules_mend.specs.Mend.{fresh_table}
use Rattle.scan_reader.specs.declared.Spot.{Spot}
use Rattle.scan_part.specs.declared.Next.TheVariants.{On, Over}
use Rattle.scan_part.specs.declared.Part.{Part}
use Rattle.scan_part.specs.Part.{read_from, part_rows, Begun, PartOf}
use Rattle.scan_part.proofs.Readings.{put_rows, put_ending, from_start, begun_start}
use Rattle.file_survey.specs.declared.Step.{Step}
use Rattle.file_survey.specs.Survey.{rows_differing, rows_of, rows_at, PartHeld}
use Rattle.file_survey.proofs.Parts.{rows_part, rows_few}

-- ---- a part of a text's rows

-- the rows of a text from an offset on
abbrev pub rows_from : List ℕ → ℕ → List Row
rows_from text at = read_rows (read_from text at)

-- From an offset on a text has few rows.
pub few_from : (text : List ℕ) (at : ℕ) → length (rows_from text at) ≤ length text + 1
unfolding read_from
few_from text at = omega (arith, few_rows (place_at text) 0 0 at (drop at text), length-drop at text)

-- A part has no more rows than a block,
pub part_few : (form : Form) (text : List ℕ) (at : ℕ) → length (rows_at form text at) ≤ per_block (row_bytes_of form)
unfolding part_rows
part_few form text at = omega (arith, length-take (per_block (row_bytes_of form)) (rows_from text at))

-- and no more than are left.
pub part_within : (form : Form) (text : List ℕ) (at : ℕ) → length (rows_at form text at) ≤ length (rows_from text at)
unfolding part_rows
part_within form text at = omega (arith, length-take (per_block (row_bytes_of form)) (rows_from text at))

module _ (form : Form) {text : List ℕ} {at : ℕ} {r : Part} (p : PartOf text at (per_block (row_bytes_of form)) r) where
  -- the part's rows, in front of those from where it goes on
  pub on_rows : {s : Spot} → r.next ≡ On s → rows_from text at ≡ rows_at form text at ++ rows_from text s.at
  on_rows {s} e = ap read_rows (p.on s e).1 ∙ put_rows (rows_at form text at) (read_from text s.at)

  -- The ending stays.
  pub on_ending : {s : Spot} → r.next ≡ On s → read_ending (read_from text at) ≡ read_ending (read_from text s.at)
  on_ending {s} e = ap read_ending (p.on s e).1 ∙ put_ending (rows_at form text at) (read_from text s.at)

  -- A part behind which the reading goes on is full.
  pub on_full : {s : Spot} → r.next ≡ On s → length (rows_at form text at) ≡ per_block (row_bytes_of form)
  on_full {s} e = sym p.counted ∙ (p.on s e).0.1

-- a reading begins at the text's start
pub begins : (text : List ℕ) (s : Spot) → text_judged text ≡ Ok tt → s.at ≡ 0 → s.cursor ≡ start_place → Begun text s
begins text s fine e f =
    let b = begun_start text (fine_text text fine).0 in
    record { inside = omega arith; cursor = rw (f, e) b.cursor; few = b.few }

-- ---- the loop

-- So many rows stand in front of the spot, k is the next block, and `listed` of those in front differ; with what is
-- left they are all.
pub record Holding (form : Form) (text file : List ℕ) (spot : Spot) (count listed k : ℕ) : Type 0 where
  pub begun : Begun text spot
  pub rows : count + length (rows_from text spot.at) ≡ length (rows_of text)
  pub ending : read_ending (read_from text spot.at) ≡ read_ending (scan text)
  pub found : listed + length (rows_differing form k (rows_from text spot.at) file) ≡ length (rows_differing form 1 (rows_of text) file)
  pub few : listed < k
  pub near : k ≤ 1 + spot.at

-- It holds at the text's start.
pub holding_start : (form : Form) (text file : List ℕ) (s : Spot) → text_judged text ≡ Ok tt → s.at ≡ 0 → s.cursor ≡ start_place
    → Holding form text file s 0 0 1
holding_start form text file s fine e f =
    let same : read_from text s.at ≡ scan text = ap (read_from text) e ∙ from_start text in
    record {
      begun = begins text s fine e f;
      rows = rw same (omega arith);
      ending = ap read_ending same;
      found = rw same (omega arith);
      few = omega arith;
      near = omega arith;
    }

module _ {form : Form} {text file : List ℕ} {spot : Spot} {count listed k : ℕ} (g : Holding form text file spot count listed k)
    (r : Step) (p : PartHeld form text spot.at k file r) where
  -- all rows are few
  pub count_few : count + r.part.count ≤ 65537
  count_few =
      omega (
        arith,
        g.rows,
        p.part_is.counted,
        part_within form text spot.at,
        few_from text 0,
        g.begun.few,
        ap length (ap read_rows (from_start text)),
      )

  -- No more blocks differ than there are,
  pub listed_few : listed + r.listed ≤ k
  listed_few = omega (arith, g.few, p.listed_is, rows_few form k file (rows_at form text spot.at) (part_few form text spot.at))

  -- and these are few.
  pub k_few : k ≤ 65537
  k_few = omega (arith, g.near, g.begun.inside, g.begun.few)

  -- it goes on
  pub holding_on : (s : Spot) → r.part.next ≡ On s → Holding form text file s (count + r.part.count) (listed + r.listed) (k + 1)
  holding_on s e =
      let o = (p.part_is.on s e).0 in
      let xs = rows_at form text spot.at in
      let ys = rows_from text s.at in
      let w = on_rows form p.part_is e in
      let d = rows_part form k file xs ys (on_full form p.part_is e) in
      let f : length (rows_differing form k (rows_from text spot.at) file)
      ≡ length (rows_differing form k xs file) + length (rows_differing form (suc k) ys file) =
      ap (λ (l : List Row). length (rows_differing form k l file)) w ∙ ap length d
      ∙ length-append (rows_differing form k xs file) (rows_differing form (suc k) ys file) in
      record {
        begun = o.0.0;
        rows = omega (arith, g.rows, p.part_is.counted, ap length w, length-append xs ys);
        ending = sym (on_ending form p.part_is e) ∙ g.ending;
        found = rw (add-one k) (omega (arith, g.found, p.listed_is, f));
        few = omega (arith, listed_few);
        near = omega (arith, g.near, o.0.1);
      }

  -- it is over
  pub holding_over : (x : Ending) → r.part.next ≡ Over x
      → (◌≡◌ {A = Table} (record { count = count + r.part.count; length = length text; ending = x }) (fresh_table text))
      × (listed + r.listed ≡ length (rows_differing form 1 (rows_of text) file))
  unfolding fresh_table
  holding_over x e =
      let o = p.part_is.over x e in
      let c : count + r.part.count ≡ length (rows_of text) = omega (arith, g.rows, p.part_is.counted, ap length o.0) in
      let y : x ≡ read_ending (scan text) = sym o.1 ∙ g.ending in
      let d : length (rows_differing form k (rows_from text spot.at) file) ≡ r.listed =
      ap (λ (l : List Row). length (rows_differing form k l file)) o.0 ∙ sym p.listed_is in
      (rw (c, y), omega (arith, g.found, d))
