-- Laws of the second reading: what holds of memory and list where a part begins, and behind each part.
use mathlib.Core.Path.{◌≡◌, refl, sym, ap, ◌∙◌}
use mathlib.Core.List.{List, ◌++◌, append_assoc}
use Prim.Native.Nat.{ℕ, suc, ◌+◌, ◌*◌, ◌≤◌}
use native.Mathlib.Decide.{dec_le}
use native.Mathlib.Numerals.{add-one}
use native.Mathlib.Omega.{arith}
use lib.ListN.{length, take, drop, length-append, length-drop, take-append-drop}
use lib.Seq.{take_at, drop_at, drop-drop, take_all, length-take-le}
use Rattle.rules.specs.Outcomes.{Ending}
use Rattle.rules.specs.Text.{start_place}
use Rattle.rules.specs.Rows.{Row}
use Rattle.rules.specs.Scan.{scan}
use Rattle.rules_files.specs.Blocks.{per_block, blocks_for}
use Rattle.rules_forms.specs.declared.Form.{Form}
use Rattle.rules_forms.specs.declared.Form.TheVariants.{Full, Short}
use Rattle.rules_forms.specs.Shapes.{number_of, row_bytes_of}
use Rattle.rules_mend.specs.Mend.{fresh_file}
use Rattle.scan_reader.specs.declared.Spot.{Spot}
use Rattle.scan_part.specs.declared.Next.TheVariants.{On, Over}
use Rattle.scan_part.specs.Part.{read_from, part_rows, Begun}
use Rattle.scan_part.proofs.Readings.{from_start}
use Rattle.file_sizes.proofs.Sizes.{some_rows}
use Rattle.file_patch.proofs.One.{drop_front}
use Rattle.file_survey.specs.declared.Step.{Step}
use Rattle.file_survey.specs.Survey.{blocks_of, rows_differing, rows_of, rows_at}
use Rattle.file_survey.proofs.Parts.{blocks_size, blocks_part, blocks_then, rows_part, blocks_of_one, rows_length}
use Rattle.file_survey.proofs.Files.{fresh_blocks}
use Rattle.file_survey.proofs.Holding.{rows_from, part_within, on_rows, on_full, begins}
use Rattle.file_rewrite.specs.Mending.{PartFits, PartMended, Fresh, RowsMended}

-- ---- a part written into a list

-- b in place of what stands from a on
abbrev over : List ℕ → ℕ → List ℕ → List ℕ
over m a b = take a m ++ (b ++ drop (a + length b) m)

module _ (m b : List ℕ) (a : ℕ) (h : a + length b ≤ length m) where
  front_size : length (take a m ++ b) ≡ a + length b
  front_size = length-append (take a m) b ∙ omega (arith, length-take-le a m (omega arith))

  -- It stands behind what was in front of it,
  over_take : take (a + length b) (over m a b) ≡ take a m ++ b
  over_take = rw (← append_assoc (take a m) b) (take_at (take a m ++ b) (drop (a + length b) m) (a + length b) front_size)

  -- in front of what was behind it,
  over_drop : drop (a + length b) (over m a b) ≡ drop (a + length b) m
  over_drop = rw (← append_assoc (take a m) b) (drop_at (take a m ++ b) (drop (a + length b) m) (a + length b) front_size)

  -- and the length stays.
  over_size : length (over m a b) ≡ length m
  over_size =
      rw (← append_assoc (take a m) b)
      (length-append (take a m ++ b) (drop (a + length b) m) ∙ omega (arith, front_size, length-drop (a + length b) m))

behind_more : (a b : ℕ) (m m₀ : List ℕ) → drop a m ≡ drop a m₀ → drop (a + b) m ≡ drop (a + b) m₀
behind_more a b m m₀ e = sym (drop-drop b a m) ∙ ap (drop b) e ∙ drop-drop b a m₀

over_done : (m m₀ b b₀ : List ℕ) (a a₀ end : ℕ) → take a m ++ b ≡ take a₀ m₀ ++ b₀ → drop a m ≡ drop a m₀ → a + length b ≡ end
    → over m a b ≡ take a₀ m₀ ++ (b₀ ++ drop end m₀)
over_done m m₀ b b₀ a a₀ end e f g =
    sym (append_assoc (take a m) b (drop (a + length b) m))
    ∙ rw (e, behind_more a (length b) m m₀ f, g) (append_assoc (take a₀ m₀) b₀ (drop end m₀))

-- what stands in front of a block does not matter to what is held against it
pub differing_behind : (form : Form) (k : ℕ) (rs : List Row) (n : ℕ) (m m₀ : List ℕ) → drop (512 * k) m ≡ drop (512 * k) m₀
    → rows_differing form k rs (take n m) ≡ rows_differing form k rs (take n m₀)
unfolding rows_differing
differing_behind form k rs n m m₀ e = rw (drop_front (512 * k) n m, drop_front (512 * k) n m₀, e)

-- ---- a part of all

blocks_within : (form : Form) (a b : ℕ) → a ≤ b → blocks_for (row_bytes_of form) a ≤ blocks_for (row_bytes_of form) b
unfolding blocks_for
blocks_within Full a b h = omega arith
blocks_within Short a b h = omega arith

part_entries : (form : Form) (k : ℕ) (file : List ℕ) (rs : List Row)
    → length (rows_differing form k (take (per_block (row_bytes_of form)) rs) file) ≤ length (rows_differing form k rs file)
part_entries form k file rs = go (dec_le (per_block (row_bytes_of form)) (length rs))
  where
    go : Dec (per_block (row_bytes_of form) ≤ length rs)
        → length (rows_differing form k (take (per_block (row_bytes_of form)) rs) file) ≤ length (rows_differing form k rs file)
    go (yes h) =
        let p = per_block (row_bytes_of form) in
        let e = rows_part form k file (take p rs) (drop p rs) (length-take-le p rs h) in
        let l = length-append (rows_differing form k (take p rs) file) (rows_differing form (suc k) (drop p rs) file) in
        omega (arith, l, ap length (rw take-append-drop at e))
    go (no h) = rw (take_all (per_block (row_bytes_of form)) rs (omega arith)) (omega arith)

-- ---- the loop

-- The parts in front of the spot are mended, k is the next block, and `listed` entries stand in the list: with the
-- blocks and the entries of the rows that are left, memory and list are what they should be, and what stands behind is
-- as it was.
pub record Going (form : Form) (text : List ℕ) (n : ℕ) (memory₀ list₀ : List ℕ) (first : ℕ) (memory list : List ℕ) (spot : Spot)
    (listed k : ℕ) : Type 0 where
  pub begun : Begun text spot
  pub near : k ≤ 1 + spot.at
  pub blocks : k + blocks_for (row_bytes_of form) (length (rows_from text spot.at)) ≡ 1 + blocks_for (row_bytes_of form) (length (rows_of text))
  pub same_memory : length memory ≡ length memory₀
  pub same_list : length list ≡ length list₀
  pub written : take (512 * k) memory ++ blocks_of form k (rows_from text spot.at) ≡ take 512 memory₀ ++ blocks_of form 1 (rows_of text)
  pub behind : drop (512 * k) memory ≡ drop (512 * k) memory₀
  pub found : listed + length (rows_differing form k (rows_from text spot.at) (take n memory₀))
      ≡ first + length (rows_differing form 1 (rows_of text) (take n memory₀))
  pub entries : take listed list ++ rows_differing form k (rows_from text spot.at) (take n memory₀)
      ≡ take first list₀ ++ rows_differing form 1 (rows_of text) (take n memory₀)
  pub list_behind : drop listed list ≡ drop listed list₀

module _ {form : Form} {text : List ℕ} {n : ℕ} {memory₀ list₀ : List ℕ} {first : ℕ} (f : Fresh form text n memory₀ first list₀) where
  -- It holds at the text's start.
  pub going_start : (s : Spot) → s.at ≡ 0 → s.cursor ≡ start_place → Going form text n memory₀ list₀ first memory₀ list₀ s first 1
  going_start s e c =
      let same : read_from text s.at ≡ scan text = ap (read_from text) e ∙ from_start text in
      record {
        begun = begins text s f.fine e c;
        near = omega arith;
        blocks = rw same;
        same_memory = refl;
        same_list = refl;
        written = rw same;
        behind = refl;
        found = rw same;
        entries = rw same;
        list_behind = refl;
      }

  module _ {memory list : List ℕ} {spot : Spot} {listed k : ℕ} (g : Going form text n memory₀ list₀ first memory list spot listed k) where
    alike : (rs : List Row) → rows_differing form k rs (take n memory) ≡ rows_differing form k rs (take n memory₀)
    alike rs = differing_behind form k rs n memory memory₀ g.behind

    -- there is room for the part
    pub going_fits : PartFits form text spot.at k n memory listed list
    unfolding part_rows
    going_fits = record {
      inside = omega (arith, f.inside, g.same_memory);
      room =
          omega (
            arith,
            blocks_size form k (rows_at form text spot.at),
            blocks_within form _ _ (part_within form text spot.at),
            g.blocks,
            fresh_blocks form text,
            f.room,
            g.same_memory,
          );
      list_room =
          rw (alike (rows_at form text spot.at))
          (omega (arith, part_entries form k (take n memory₀) (rows_from text spot.at), g.found, f.list_room, g.same_list));
    }

    -- Blocks are few.
    pub k_small : k ≤ 65537
    k_small = omega (arith, g.near, g.begun.inside, g.begun.few)

    module _ (r : Step) {after list_after : List ℕ} (p : PartMended form text spot.at k n listed r memory after list list_after) where
      after_is : after ≡ over memory (512 * k) (blocks_of form k (rows_at form text spot.at))
      after_is = p.file_is

      listed_is : r.listed ≡ listed + length (rows_differing form k (rows_at form text spot.at) (take n memory₀))
      listed_is = rw (← alike (rows_at form text spot.at)) p.listed_is

      list_is : list_after ≡ over list listed (rows_differing form k (rows_at form text spot.at) (take n memory₀))
      list_is = rw (← listed_is, ← alike (rows_at form text spot.at)) p.list_is

      list_fits : listed + length (rows_differing form k (rows_at form text spot.at) (take n memory₀)) ≤ length list
      list_fits = rw (← alike (rows_at form text spot.at)) going_fits.list_room

      -- Memory keeps its length.
      pub memory_size : length after ≡ length memory₀
      memory_size =
          let b = blocks_of form k (rows_at form text spot.at) in
          rw after_is (over_size memory b (512 * k) going_fits.room ∙ g.same_memory)

      -- The list keeps its length.
      pub list_size : length list_after ≡ length list₀
      list_size =
          let d = rows_differing form k (rows_at form text spot.at) (take n memory₀) in
          rw list_is (over_size list d listed list_fits ∙ g.same_list)

      -- it is over
      pub going_over : (x : Ending) → r.part.next ≡ Over x → RowsMended form text n first r.listed memory₀ after list₀ list_after
      going_over x e =
          let o = (p.part_is.over x e).0 in
          let b = blocks_of form k (rows_at form text spot.at) in
          let d = rows_differing form k (rows_at form text spot.at) (take n memory₀) in
          let end : 512 * k + length b ≡ length (fresh_file (number_of form) text) =
          omega (arith, blocks_size form k (rows_at form text spot.at), rw o at g.blocks, fresh_blocks form text) in
          let done = over_done memory memory₀ b (blocks_of form 1 (rows_of text)) (512 * k) 512 _
          (rw o at g.written) g.behind end in
          let told = over_done list list₀ d (rows_differing form 1 (rows_of text) (take n memory₀)) listed first _
          (rw o at g.entries) g.list_behind (sym listed_is) in
          record {
            last_is = listed_is ∙ (rw o at g.found);
            file_is = after_is ∙ done;
            list_is = list_is ∙ told;
          }

      -- ---- it goes on

      module _ (s : Spot) (e : r.part.next ≡ On s) where
        full : length (rows_at form text spot.at) ≡ per_block (row_bytes_of form)
        full = on_full form p.part_is e

        block_size : length (blocks_of form k (rows_at form text spot.at)) ≡ 512
        block_size =
            let h = some_rows form in
            let q = full in
            let xs = rows_at form text spot.at in
            rw (blocks_of_one form k xs (omega arith) (omega arith)) (rows_length form k xs (omega arith))

        next_end : 512 * k + length (blocks_of form k (rows_at form text spot.at)) ≡ 512 * suc k
        next_end = omega (arith, block_size)

        blocks_on : suc k + blocks_for (row_bytes_of form) (length (rows_from text s.at))
            ≡ 1 + blocks_for (row_bytes_of form) (length (rows_of text))
        blocks_on =
            let w = rw (on_rows form p.part_is e) at g.blocks in
            omega (arith, w, blocks_then form k (rows_at form text spot.at) (rows_from text s.at) full)

        written_on : take (512 * suc k) after ++ blocks_of form (suc k) (rows_from text s.at)
            ≡ take 512 memory₀ ++ blocks_of form 1 (rows_of text)
        written_on =
            let b = blocks_of form k (rows_at form text spot.at) in
            let c = blocks_of form (suc k) (rows_from text s.at) in
            let t : take (512 * suc k) after ≡ take (512 * k) memory ++ b
            = rw (← next_end, after_is) (over_take memory b (512 * k) going_fits.room) in
            let q : blocks_of form k (rows_from text spot.at) ≡ b ++ c
            = ap (blocks_of form k) (on_rows form p.part_is e)
            ∙ blocks_part form k (rows_at form text spot.at) (rows_from text s.at) full in
            rw t (append_assoc (take (512 * k) memory) b c ∙ (rw q at g.written))

        behind_on : drop (512 * suc k) after ≡ drop (512 * suc k) memory₀
        behind_on =
            let b = blocks_of form k (rows_at form text spot.at) in
            rw (← next_end, after_is)
            (over_drop memory b (512 * k) going_fits.room ∙ behind_more (512 * k) (length b) memory memory₀ g.behind)

        entries_part : rows_differing form k (rows_from text spot.at) (take n memory₀)
            ≡ rows_differing form k (rows_at form text spot.at) (take n memory₀)
            ++ rows_differing form (suc k) (rows_from text s.at) (take n memory₀)
        entries_part =
            ap (λ (l : List Row). rows_differing form k l (take n memory₀)) (on_rows form p.part_is e)
            ∙ rows_part form k (take n memory₀) (rows_at form text spot.at) (rows_from text s.at) full

        found_on : r.listed + length (rows_differing form (suc k) (rows_from text s.at) (take n memory₀))
            ≡ first + length (rows_differing form 1 (rows_of text) (take n memory₀))
        found_on =
            let d = rows_differing form k (rows_at form text spot.at) (take n memory₀) in
            let c = rows_differing form (suc k) (rows_from text s.at) (take n memory₀) in
            omega (arith, listed_is, g.found, ap length entries_part, length-append d c)

        entries_on : take r.listed list_after ++ rows_differing form (suc k) (rows_from text s.at) (take n memory₀)
            ≡ take first list₀ ++ rows_differing form 1 (rows_of text) (take n memory₀)
        entries_on =
            let d = rows_differing form k (rows_at form text spot.at) (take n memory₀) in
            let c = rows_differing form (suc k) (rows_from text s.at) (take n memory₀) in
            let t : take r.listed list_after ≡ take listed list ++ d = rw (listed_is, list_is) (over_take list d listed list_fits) in
            rw t (append_assoc (take listed list) d c ∙ (rw entries_part at g.entries))

        list_behind_on : drop r.listed list_after ≡ drop r.listed list₀
        list_behind_on =
            let d = rows_differing form k (rows_at form text spot.at) (take n memory₀) in
            rw (listed_is, list_is) (over_drop list d listed list_fits ∙ behind_more listed (length d) list list₀ g.list_behind)

        -- what holds, holds from there
        pub going_on : Going form text n memory₀ list₀ first after list_after s r.listed (k + 1)
        going_on =
            let o = (p.part_is.on s e).0.0 in
            rw (add-one k) (record {
              begun = o.0;
              near = omega (arith, g.near, o.1);
              blocks = blocks_on;
              same_memory = memory_size;
              same_list = list_size;
              written = written_on;
              behind = behind_on;
              found = found_on;
              entries = entries_on;
              list_behind = list_behind_on;
            })
