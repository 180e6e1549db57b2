-- Any one changed byte of a file that holds a table is 41 with its block, whichever form the file has.
use mathlib.Core.Path.{◌≡◌, refl, ◌∙◌}
use mathlib.Core.Bool.{Bool, true, false, cond, not}
use mathlib.Core.List.{List}
use Prim.Native.Nat.{ℕ, ◌/◌, ◌≤◌, ◌<◌}
use native.Mathlib.Omega.{arith}
use lib.ListN.{length, get_or, set}
use lib.Seq.{take-set-le}
use lib.Dec.{eqb, ltb}
use borrow.Author.Tests.{ltb-true, ltb-false}
use Rattle.rules.specs.declared.Table.{Table}
use Rattle.rules.specs.Rows.{words_per_row}
use Rattle.rules_files.specs.declared.Fault.TheVariants.{BadBlock}
use Rattle.rules_files.specs.Blocks.{block_bytes}
use Rattle.rules_files.specs.Files.{form_number, form_said, count_said, said_at}
use Rattle.rules_forms.specs.Short.{short_words, short_table}
use Rattle.rules_forms.specs.Forms.{is_short, judged}
use Rattle.laws.specs.Bounds.{Bytes}
use Rattle.theory_files.specs.Whole.{Fits, Whole}
use Rattle.theory_files.proofs.Told.{first_bad, changed_bad}
use Rattle.theory_files.proofs.Said.{said_words, long_fits, said_front, framed_whole, load_tests, reads_of}
use Rattle.theory_files.proofs.Files.{changed_told}
use Rattle.theory_forms.proofs.Short.{short_said_words, short_fits, short_whole, short_tests, reads_short}
use Rattle.rules_files.specs.declared.Fault.{Fault}
use Rattle.std.specs.Prelude.{Result, Ok, Err}

module _ (file : List ℕ) (bytes : Bytes file) (i v : ℕ) (h : i < length file) (l : v < 256) (ne : get_or file i 0 ≡ v → ⊥) where
  now : List ℕ
  now = set file i v

  -- in block 0, whichever form is said now
  in_first : {row said n : ℕ} → Fits row said → Whole row said n file → i < block_bytes → judged now ≡ Err (BadBlock 0)
  unfolding judged now
  in_first {n = n} f w g =
      let bad = first_bad f file bytes n w i v h l ne g in
      let short = short_tests now ∙ bad short_words short_said_words (count_said now) false (short_table now) in
      let long = load_tests now (count_said now) ∙ bad words_per_row said_words (count_said now) (not (eqb (form_said now) form_number)) _ in
      both (is_short now) short long
    where
      both : {x y z : Result Table Fault} (b : Bool) → x ≡ z → y ≡ z → cond b x y ≡ z
      both true p q = p
      both false p q = q

  -- behind it, where the same form is said
  said_same : block_bytes ≤ i → (j : ℕ) → j < said_words → said_at j now ≡ said_at j file
  unfolding now
  said_same g = said_front (set file i v) file (take-set-le block_bytes file i v g)

  by_block : {row said n : ℕ} → Fits row said → Whole row said n file
      → (block_bytes ≤ i → judged now ≡ Err (BadBlock (i / block_bytes))) → judged now ≡ Err (BadBlock (i / block_bytes))
  by_block f w behind = go (ltb i block_bytes) refl
    where
      go : (b : Bool) → ltb i block_bytes ≡ b → judged now ≡ Err (BadBlock (i / block_bytes))
      go true e =
          let g = ltb-true i block_bytes e in
          let z : i / block_bytes ≡ 0 = omega arith in
          rw z (in_first f w g)
      go false e = behind (ltb-false i block_bytes e)

  module _ (t : Table) (held : judged file ≡ Ok t) where
    changed_short : is_short file ≡ true → judged now ≡ Err (BadBlock (i / block_bytes))
    unfolding judged now
    changed_short q =
        let w = short_whole (reads_short file t (rw q at held)) in
        let bad = changed_bad short_fits file bytes (count_said file) w i v h l ne (count_said now) false (short_table now) in
        by_block short_fits w
        (λ g. rw (said_same g 0 (omega arith), q) (short_tests now ∙ bad (λ k. (said_same k 2 (omega arith), refl))))

    changed_long : is_short file ≡ false → judged now ≡ Err (BadBlock (i / block_bytes))
    unfolding judged now
    changed_long q =
        let f = (reads_of file (count_said file) t (rw q at held)).frame in
        by_block long_fits (framed_whole f)
        (λ g. rw (said_same g 0 (omega arith), q) (changed_told file bytes f i v h l ne (count_said now)))

    -- any one changed byte is 41, with its block
    pub judged_changed : judged (set file i v) ≡ Err (BadBlock (i / block_bytes))
    unfolding now
    judged_changed = go (is_short file) refl
      where
        go : (b : Bool) → is_short file ≡ b → judged now ≡ Err (BadBlock (i / block_bytes))
        go true q = changed_short q
        go false q = changed_long q
