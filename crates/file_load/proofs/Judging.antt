-- Laws of the loop over blocks, in either form: the blocks and rows in front are judged, and those that are left give the whole answer.
use mathlib.Core.Path.{◌≡◌, refl, sym, ap, ◌∙◌}
use mathlib.Core.Bool.{Bool, true, false, ◌&&◌, and-true, and_assoc}
use mathlib.Core.List.{List, []}
use Prim.Native.Nat.{ℕ, zero, suc, ◌+◌, ◌-◌, ◌*◌, ◌/◌, ◌^◌, ◌≤◌, ◌<◌, min}
use native.Mathlib.Numerals.{add-one}
use native.Mathlib.Omega.{arith}
use lib.ListN.{length, take, drop, length-take, length-drop}
use lib.Seq.{drop-drop}
use borrow.Author.Tests.{lt-ltb, le-ltb}
use Rattle.rules.specs.Rows.{Row, row_in}
use Rattle.rules_files.specs.Blocks.{sound, blocks_for, file_length, sound_from, body_from}
use Rattle.rules_files.specs.Files.{count_said}
use Rattle.rules_forms.specs.declared.Form.{Form}
use Rattle.rules_forms.specs.declared.Form.TheVariants.{Full, Short}
use Rattle.rules_forms.specs.Shapes.{row_bytes_of, sound_of}
use Rattle.file_blocks.specs.Standing.{rows_from, stand}
use Rattle.theory_files.proofs.Many.{blocks_none, blocks_zero, blocks_more, first_sound, first_not}
use Rattle.file_sizes.proofs.Sizes.{some_bytes, few_bytes}
use Rattle.rules_files.specs.declared.Fault.TheVariants.{BadBlock}
use Rattle.std.specs.Prelude.{Ok, Err}
use Rattle.file_load.specs.Judged.{Framed, last_of, stand_upto, blocks_judged}
use Rattle.file_load.proofs.Rows.{most, rows_words, words_file, rows_here_more, stand_append}

-- the bytes of the rows from block k on, of which there are so many
pub left_body : Form → List ℕ → ℕ → ℕ → List ℕ
left_body form file left at = body_from (row_bytes_of form) (blocks_for (row_bytes_of form) left) left (drop at file)

-- how many of the blocks from k on are sound before one is not
pub left_sound : Form → List ℕ → ℕ → ℕ → ℕ → ℕ
left_sound form file left k at = sound_from (row_bytes_of form) (blocks_for (row_bytes_of form) left) k left (drop at file)

blocks_few : (form : Form) (n : ℕ) → n < 2 ^ 32 → 1 + blocks_for (row_bytes_of form) n < 2 ^ 32 - 1
unfolding blocks_for
blocks_few Full n h = omega arith
blocks_few Short n h = omega arith

pub record Judging (form : Form) (file : List ℕ) (count plain : ℕ) (last : Row) (stands : Bool) (left more k at : ℕ) : Type 0 where
  pub place : at ≡ 512 * k
  pub blocks : k + blocks_for (row_bytes_of form) left ≡ 1 + blocks_for (row_bytes_of form) count
  pub fewer : more ≤ left
  pub sounds : left_sound form file left k at + k ≡ sound_of form file + 1
  pub rows : (stands && stand last (rows_from form more (left_body form file left at))) ≡ stand_upto form plain file

module _ (form : Form) (file : List ℕ) (count plain : ℕ) (frame : Framed form count file) where
  abbrev size : ℕ
  size = row_bytes_of form

  abbrev full : ℕ
  full = most form

  whole_is : length file ≡ 512 * (1 + blocks_for size count)
  unfolding file_length
  whole_is = frame.whole

  pub judging_start : plain ≤ count → Judging form file count plain (row_in []) true count plain 1 512
  unfolding left_sound left_body sound_of stand_upto
  judging_start h =
      let e = frame.count_is in
      record {
        place = refl;
        blocks = refl;
        fewer = h;
        sounds = rw (← e);
        rows =
            let s : List ℕ = body_from size (blocks_for size count) count (drop 512 file) in
            rw (words_file form count file e, rows_words form plain count s h);
      }

  module _ (last : Row) (stands : Bool) (left more k at : ℕ) (g : Judging form file count plain last stands left more k at) where
    pub few_blocks : count < 2 ^ 32 → k < 2 ^ 32 - 1
    few_blocks h = omega (arith, g.blocks, blocks_few form count h)

    -- as long as there are blocks, there are rows
    pub rows_left : k < length file / 512 → 0 < left
    rows_left h = go left refl
      where
        go : (l : ℕ) → left ≡ l → 0 < left
        go zero e =
            let b : blocks_for size 0 ≡ 0 = blocks_none size (some_bytes form) (few_bytes form) in
            let c : k + 0 ≡ 1 + blocks_for size count = rw (e, b) at g.blocks in
            absurd (let z : ⊥ = omega (arith, whole_is) in z)
        go (suc l) e = omega arith

    pub no_rows_left : length file / 512 ≤ k → left ≡ 0
    no_rows_left h = blocks_zero size (some_bytes form) (few_bytes form) left (omega (arith, g.blocks, whole_is))

    pub judging_end : left ≡ 0 → blocks_judged form plain file ≡ Ok stands
    unfolding blocks_judged left_sound left_body sound_from stand rows_from
    judging_end z =
        let b : blocks_for size 0 ≡ 0 = blocks_none size (some_bytes form) (few_bytes form) in
        let m : more ≡ 0 = omega (arith, g.fewer) in
        let s : 0 + k ≡ sound_of form file + 1 = rw (z, b) at g.sounds in
        let c : k + 0 ≡ 1 + blocks_for size count = rw (z, b) at g.blocks in
        let r : (stands && true) ≡ stand_upto form plain file = rw m at g.rows in
        rw (le-ltb (sound_of form file) (blocks_for size (count_said file)) (rw (← frame.count_is) (omega arith)))
        (ap Ok (sym r ∙ and-true stands))

    module _ (some : 0 < left) where
      next : blocks_for size left ≡ suc (blocks_for size (left - full))
      next = blocks_more size (some_bytes form) (few_bytes form) left some

      pub room_left : at + 512 ≤ length file
      room_left = omega (arith, g.place, g.blocks, next, whole_is)

      -- the block
      abbrev pub here : List ℕ
      here = take (512 * (k + 1) - 512 * k) (drop (512 * k) file)

      here_is : here ≡ take 512 (drop at file)
      here_is = let e : 512 * (k + 1) - 512 * k ≡ 512 = omega arith in rw (e, g.place)

      pub here_length : length here ≡ 512
      here_length = ap length here_is ∙ length-take 512 (drop at file) ∙ omega (arith, room_left, length-drop at file)

      module _ (n : ℕ) (some_rows : n ≡ min full left) (bytes : ℕ) (row_size : bytes ≡ size) where
        pub judging_bad : sound k n (bytes * n) here ≡ false → blocks_judged form plain file ≡ Err (BadBlock k)
        unfolding blocks_judged left_sound
        judging_bad e =
            let f =
            first_not size (some_bytes form) (few_bytes form) (blocks_for size (left - full)) k left (drop at file)
            (rw (here_is, some_rows, row_size) at e)
            in
            let s : 0 + k ≡ sound_of form file + 1 = rw (next, f) at g.sounds in
            let c : 1 + sound_of form file ≡ k = omega arith in
            rw (lt-ltb (sound_of form file) (blocks_for size (count_said file)) (rw (← frame.count_is) (omega (arith, g.blocks, next))), c)

        behind : left - n ≡ left - full
        behind = omega (arith, some_rows)

        sounds_next : sound k n (bytes * n) here ≡ true
            → left_sound form file (left - n) (k + 1) (at + 512) + (k + 1) ≡ sound_of form file + 1
        unfolding left_sound
        sounds_next e =
            let f =
            first_sound size (some_bytes form) (few_bytes form) (blocks_for size (left - full)) k left (drop at file)
            (rw (here_is, some_rows, row_size) at e)
            in
            let later : ℕ = sound_from size (blocks_for size (left - full)) (suc k) (left - full) (drop (at + 512) file) in
            let s : suc later + k ≡ sound_of form file + 1 = rw (next, f, drop-drop) at g.sounds in
            rw (behind, add-one k) (omega arith)

        -- the rows of this block, and those behind it
        rows_split : stand last (rows_from form more (left_body form file left at))
            ≡ (stand last (rows_from form (min full more) (drop 4 here))
            && stand (last_of last (rows_from form (min full more) (drop 4 here)))
            (rows_from form (more - min full more) (left_body form file (left - full) (at + 512))))
        unfolding left_body
        rows_split =
            let l : length (drop at file) ≡ 512 * suc (blocks_for size (left - full)) =
            length-drop at file ∙ omega (arith, g.place, g.blocks, next, whole_is)
            in
            rw (next, rows_here_more form (blocks_for size (left - full)) left (drop at file) next l more g.fewer, here_is, drop-drop)
            (stand_append last (rows_from form (min full more) (drop 4 (take 512 (drop at file))))
            (rows_from form (more - min full more) (body_from size (blocks_for size (left - full)) (left - full) (drop (at + 512) file))))

        pub judging_next : sound k n (bytes * n) here ≡ true → (m : ℕ) → m ≡ min full more
            → (now : Bool) → now ≡ stand last (rows_from form m (drop 4 here))
            → (then : Row) → then ≡ last_of last (rows_from form m (drop 4 here))
            → Judging form file count plain then (stands && now) (left - n) (more - m) (k + 1) (at + 512)
        judging_next e m more_rows now now_is then then_is = record {
          place = omega (arith, g.place);
          blocks = rw behind (omega (arith, g.blocks, next));
          fewer = omega (arith, g.fewer, some_rows, more_rows);
          sounds = sounds_next e;
          rows = rw (now_is, then_is, more_rows, behind) (and_assoc stands _ _ ∙ rw rows_split at g.rows);
        }
