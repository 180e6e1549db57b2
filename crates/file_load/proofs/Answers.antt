-- Laws of the reader's answer: from what the blocks tell, block 0 of either form, and what is known of a file that is read.
use mathlib.Core.Path.{◌≡◌, refl, sym, ◌∙◌}
use mathlib.Core.Bool.{Bool, true, false, cond}
use mathlib.Core.List.{List}
use Prim.Native.Nat.{ℕ, ◌+◌, ◌*◌, ◌≤◌, ◌<◌}
use native.Mathlib.Omega.{arith}
use lib.ListN.{length, take}
use lib.Dec.{eqb, ltb}
use borrow.Author.Tests.{ltb-false, lt-ltb, le-ltb, eq-eqb, ne_eqb}
use Rattle.rules.specs.Outcomes.{Ending}
use Rattle.rules.specs.declared.Table.{Table}
use Rattle.rules.specs.Scan.{room_of}
use Rattle.rules_files.specs.declared.Fault.{Fault}
use Rattle.rules_files.specs.declared.Fault.TheVariants.{BadBlock, WrongLength, NoTable}
use Rattle.rules_files.specs.Blocks.{sound, blocks_for, file_length}
use Rattle.rules_files.specs.Files.{form_said, count_said, length_said, sound_in, rows_told, read_told, blocks_told, load_told}
use Rattle.rules_forms.specs.declared.Form.{Form}
use Rattle.rules_forms.specs.declared.Form.TheVariants.{Full, Short}
use Rattle.rules_forms.specs.Short.{short_number, short_bytes, short_said_bytes, short_sound_in, short_table, short_blocks, short_judged}
use Rattle.rules_forms.specs.Forms.{judged}
use Rattle.rules_forms.specs.Shapes.{row_bytes_of, form_of, row_words_of, ending_of, sound_of, blocks_in}
use Rattle.theory_files.proofs.Said.{reads_of, told_short, told_nothing, told_rows}
use Rattle.file_load.specs.Judged.{Framed, plain_by, stand_upto, standing, blocks_judged}
use Rattle.std.specs.Prelude.{Ok, Err, Some, None}

pub some_file : (form : Form) (count : ℕ) (file : List ℕ) → Framed form count file → 512 ≤ length file
unfolding file_length
some_file form count file f = omega (arith, f.whole)

pub standing_is : (form : Form) (count : ℕ) (file : List ℕ) → Framed form count file
    → (e : Ending) → standing form e file ≡ stand_upto form (plain_by e count) file
unfolding standing
standing_is form count file f e = rw f.count_is

-- ---- the blocks' answer and the file's

module _ (form : Form) (n : ℕ) (file : List ℕ) (room : ℕ) where
  abbrev needed : ℕ
  needed = blocks_for (row_bytes_of form) (count_said file)

  pub judged_bad : (why : Fault) → blocks_judged form n file ≡ Err why → blocks_in form file room ≡ Err why
  unfolding blocks_judged blocks_in
  judged_bad why e = go (ltb (sound_of form file) needed) refl e
    where
      go : (t : Bool) → ltb (sound_of form file) needed ≡ t → cond t (Err (BadBlock (1 + sound_of form file))) (Ok (stand_upto form n file)) ≡ Err why
          → blocks_in form file room ≡ Err why
      go true f e = let g : BadBlock (1 + sound_of form file) ≡ why = cc in rw (f, g)
      go false f e = absurd (let z : ◌≡◌ {A = ℕ} 0 1 = cc in omega arith)

  -- all are sound
  pub record AllSound (b : Bool) : Type 0 where
    pub enough : needed ≤ sound_of form file
    pub stands : b ≡ stand_upto form n file

  pub judged_sound : (b : Bool) → blocks_judged form n file ≡ Ok b → AllSound b
  unfolding blocks_judged
  judged_sound b e = go (ltb (sound_of form file) needed) refl e
    where
      go : (t : Bool) → ltb (sound_of form file) needed ≡ t → cond t (Err (BadBlock (1 + sound_of form file))) (Ok (stand_upto form n file)) ≡ Ok b
          → AllSound b
      go true f e = absurd (let z : ◌≡◌ {A = ℕ} 0 1 = cc in omega arith)
      go false f e =
          record { enough = ltb-false (sound_of form file) needed f; stands = let g : stand_upto form n file ≡ b = cc in sym g }

  -- then it is read
  sound_read : (b : Bool) → AllSound b
      → blocks_in form file room ≡ read_told (row_words_of form file) room (count_said file) (length_said file) (ending_of form file)
  unfolding blocks_in
  sound_read b a = rw (le-ltb (sound_of form file) needed a.enough)

  pub sound_nothing : (b : Bool) → AllSound b → ending_of form file ≡ None → blocks_in form file room ≡ Err NoTable
  sound_nothing b a e =
      sound_read b a ∙ told_nothing (row_words_of form file) room (count_said file) (length_said file) (ending_of form file) e

  pub sound_rows : (b : Bool) → AllSound b → (how : Ending) → ending_of form file ≡ Some how → (count : ℕ) → count ≡ count_said file
      → blocks_in form file room ≡ rows_told (row_words_of form file) room (record { count = count; length = length_said file; ending = how })
  sound_rows b a how e count c =
      sound_read b a ∙ told_rows (row_words_of form file) room (count_said file) (length_said file) (ending_of form file) how e ∙ rw (← c)

-- the blocks of form 1
pub full_blocks : (file : List ℕ) (room : ℕ) → blocks_in Full file room ≡ blocks_told file room
unfolding blocks_in blocks_told sound_of sound_in
full_blocks file room = refl

-- ---- block 0 of form 2

module _ (file : List ℕ) where
  module _ (long : 512 ≤ length file) where
    pub short_bad : sound 0 0 short_said_bytes (take 512 file) ≡ false → short_judged file ≡ Err (BadBlock 0)
    unfolding short_judged
    short_bad e = rw (le-ltb (length file) 512 long, e)

    pub short_said : sound 0 0 short_said_bytes (take 512 file) ≡ true → short_judged file ≡ short_blocks file
    unfolding short_judged
    short_said e = rw (le-ltb (length file) 512 long, e)

  pub short_cut : (length file ≡ file_length short_bytes (count_said file) → ⊥) → short_blocks file ≡ Err WrongLength
  unfolding short_blocks
  short_cut h = rw (ne_eqb (length file) (file_length short_bytes (count_said file)) h)

  pub short_whole : length file ≡ file_length short_bytes (count_said file) → short_blocks file ≡ blocks_in Short file (count_said file)
  unfolding short_blocks short_table short_sound_in blocks_in sound_of
  short_whole h = rw (eq-eqb (length file) (file_length short_bytes (count_said file)) h)

  -- ---- a file of either form

  pub judged_as_short : form_said file ≡ short_number → judged file ≡ short_judged file
  unfolding judged
  judged_as_short e = rw (eq-eqb (form_said file) short_number e)

  pub judged_as_full : (form_said file ≡ short_number → ⊥) → judged file ≡ load_told file (count_said file)
  unfolding judged
  judged_as_full e = rw (ne_eqb (form_said file) short_number e)

  pub judged_under : length file < 512 → judged file ≡ Err WrongLength
  unfolding judged short_judged
  judged_under h = go (eqb (form_said file) short_number)
    where
      go : (t : Bool) → cond t (short_judged file) (load_told file (count_said file)) ≡ Err WrongLength
      go true = rw (lt-ltb (length file) 512 h)
      go false = told_short file (count_said file) h

  pub form_short : form_said file ≡ short_number → form_of file ≡ Short
  form_short e = rw (eq-eqb (form_said file) short_number e)

  pub form_full : (form_said file ≡ short_number → ⊥) → form_of file ≡ Full
  form_full e = rw (ne_eqb (form_said file) short_number e)

-- ---- a file that is read

module _ (file ws : List ℕ) (t : Table) (e : load_told file (room_of ws) ≡ Ok t) where
  pub read_framed : Framed Full t.count file
  read_framed = let r = reads_of file (room_of ws) t e in record { count_is = r.count; whole = rw r.count r.frame.whole }

  pub read_room : 8 * t.count ≤ length ws
  unfolding room_of
  read_room = omega (arith, (reads_of file (room_of ws) t e).room_is)
