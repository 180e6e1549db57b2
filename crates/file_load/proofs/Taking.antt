-- Laws of the loop that takes rows out of blocks: the words of the rows in front are taken, and the bytes of the others are those of the
-- blocks that are left.
use mathlib.Core.Path.{◌≡◌, refl, sym, ap, ◌∙◌}
use mathlib.Core.List.{List, ◌++◌, append_assoc}
use Prim.Native.Nat.{ℕ, zero, suc, ◌+◌, ◌-◌, ◌*◌, ◌/◌, ◌≤◌, ◌<◌, min}
use native.Mathlib.Omega.{arith}
use lib.ListN.{length, take, drop, length-append, length-take, length-drop}
use lib.Seq.{take_at, drop_at, drop-drop}
use borrow.Rule.Slice.PartMut.{put_mid}
use Rattle.laws.proofs.Lists.{lent_tail, back_tail}
use Rattle.rules_files.specs.Bytes.{words_in}
use Rattle.rules_files.specs.Blocks.{blocks_for, file_length, body_from}
use Rattle.rules_files.specs.Files.{row_words_in}
use Rattle.theory_files.proofs.Numbers.{words_length}
use Rattle.theory_files.proofs.Many.{blocks_none, blocks_zero, blocks_more}
use Rattle.rules_forms.specs.declared.Form.TheVariants.{Full}
use Rattle.file_load.specs.Judged.{Framed}
use Rattle.file_load.proofs.Rows.{words_split, words_here, body_behind}

-- the bytes of so many rows, one behind the other
abbrev body : List ℕ → ℕ → List ℕ
body file count = body_from 32 (blocks_for 32 count) count (drop 512 file)

pub record Taking (file : List ℕ) (count : ℕ) (rows₀ rows : List ℕ) (done at : ℕ) : Type 0 where
  pub within : done ≤ count
  pub place : at + 512 * blocks_for 32 (count - done) ≡ length file
  pub same_length : length rows ≡ length rows₀
  pub rest : drop (32 * done) (body_from 32 (blocks_for 32 count) count (drop 512 file))
      ≡ body_from 32 (blocks_for 32 (count - done)) (count - done) (drop at file)
  pub taken : rows ≡ words_in (8 * done) (body_from 32 (blocks_for 32 count) count (drop 512 file)) ++ drop (8 * done) rows₀

module _ (file : List ℕ) (count : ℕ) (rows₀ : List ℕ) (frame : Framed Full count file) where
  pub taking_start : Taking file count rows₀ rows₀ 0 512
  unfolding file_length words_in
  taking_start =
      let e : count - 0 ≡ count = omega arith in
      record { within = omega arith; place = rw e (omega (arith, frame.whole)); same_length = refl; rest = rw e; taken = refl }

  module _ (rows : List ℕ) (done k : ℕ) (g : Taking file count rows₀ rows done (512 * k)) where
    abbrev at : ℕ
    at = 512 * k

    -- as long as there are blocks, there are rows
    pub rows_left : k < length file / 512 → done < count
    rows_left h = go (count - done) refl
      where
        go : (l : ℕ) → count - done ≡ l → done < count
        go zero e =
            let b : blocks_for 32 0 ≡ 0 = blocks_none 32 (omega arith) (omega arith) in
            let c : at + 512 * 0 ≡ length file = rw (e, b) at g.place in
            absurd (let z : ⊥ = omega arith in z)
        go (suc l) e = omega arith

    pub no_rows_left : length file / 512 ≤ k → count ≤ done
    no_rows_left h =
        let z = blocks_zero 32 (omega arith) (omega arith) (count - done) (omega (arith, g.place)) in
        omega arith

    pub taking_end : count ≤ done → rows ≡ row_words_in file ++ drop (8 * count) rows₀
    unfolding row_words_in
    taking_end h =
        let e : done ≡ count = omega (arith, g.within) in
        rw (← frame.count_is) (rw e at g.taken)

    module _ (some : done < count) where
      next : blocks_for 32 (count - done) ≡ suc (blocks_for 32 (count - done - 15))
      next = blocks_more 32 (omega arith) (omega arith) (count - done) (omega arith)

      pub room_left : at + 512 ≤ length file
      room_left = omega (arith, g.place, next)

      left_length : length (drop at file) ≡ 512 * suc (blocks_for 32 (count - done - 15))
      left_length = length-drop at file ∙ omega (arith, g.place, next)

      abbrev pub here : List ℕ
      here = take (512 * (k + 1) - 512 * k) (drop at file)

      here_is : here ≡ take 512 (drop at file)
      here_is = let e : 512 * (k + 1) - 512 * k ≡ 512 = omega arith in rw e

      pub here_length : length here ≡ 512
      here_length = ap length here_is ∙ length-take 512 (drop at file) ∙ omega (arith, room_left, length-drop at file)

      module _ (n : ℕ) (some_rows : n ≡ min 15 (count - done)) where
        -- the words of this block
        words_next : words_in (8 * (done + n)) (body file count) ≡ words_in (8 * done) (body file count) ++ words_in (n * 8) (drop 4 here)
        words_next =
            let a : 8 * (done + n) ≡ 8 * done + 8 * n = omega arith in
            let b : 4 * (8 * done) ≡ 32 * done = omega arith in
            let c : n * 8 ≡ 8 * n = omega arith in
            rw (a, words_split (8 * done) (8 * n) (body file count), b, g.rest, c, here_is, next, some_rows)
            (ap (λ (l : List ℕ). words_in (8 * done) (body file count) ++ l)
            (words_here Full (blocks_for 32 (count - done - 15)) (count - done) (drop at file) next left_length
            (8 * min 15 (count - done)) (omega arith)))

        rest_next : drop (32 * (done + n)) (body file count)
            ≡ body_from 32 (blocks_for 32 (count - (done + n))) (count - (done + n)) (drop (at + 512) file)
        rest_next =
            let a : 32 * (done + n) ≡ 32 * done + 32 * n = omega arith in
            let b : count - (done + n) ≡ count - done - 15 = omega arith in
            rw (a, b, ← drop-drop (32 * n) (32 * done) (body file count), g.rest, next, some_rows)
            (body_behind Full (blocks_for 32 (count - done - 15)) (count - done) (drop at file) next left_length ∙ rw drop-drop)

        module _ (fits : 8 * count ≤ length rows₀) where
          pub from_fits : done * 8 ≤ length rows
          from_fits = omega (arith, g.same_length)

          -- what is lent of the rows
          abbrev pub tail : List ℕ
          tail = take (length rows - done * 8) (drop (done * 8) rows)

          tail_is : tail ≡ drop (done * 8) rows
          tail_is = lent_tail rows (done * 8) from_fits

          pub tail_fits : n * 8 ≤ length tail
          tail_fits = omega (arith, ap length tail_is, length-drop (done * 8) rows, g.same_length)

          front_length : length (words_in (8 * done) (body file count)) ≡ done * 8
          front_length = words_length (8 * done) (body file count) ∙ omega arith

          rows_then : (ys : List ℕ) → ys ≡ words_in (n * 8) (drop 4 here) ++ drop (n * 8) tail
              → put_mid (done * 8) (length rows - done * 8) rows ys
              ≡ words_in (8 * (done + n)) (body file count) ++ drop (8 * (done + n)) rows₀
          rows_then ys e =
              let p : List ℕ = words_in (8 * done) (body file count) in
              let q : List ℕ = drop (8 * done) rows₀ in
              let a : take (done * 8) rows ≡ p = ap (take (done * 8)) g.taken ∙ take_at p q (done * 8) front_length in
              let b : drop (done * 8) rows ≡ q = ap (drop (done * 8)) g.taken ∙ drop_at p q (done * 8) front_length in
              let d : 8 * done + n * 8 ≡ 8 * (done + n) = omega arith in
              back_tail rows (done * 8) from_fits ys
              ∙ rw (a, e, tail_is, b, drop-drop, d, words_next)
              (sym (append_assoc p (words_in (n * 8) (drop 4 here)) (drop (8 * (done + n)) rows₀)))

          pub taking_next : (ys : List ℕ) → ys ≡ words_in (n * 8) (drop 4 here) ++ drop (n * 8) tail
              → Taking file count rows₀ (put_mid (done * 8) (length rows - done * 8) rows ys) (done + n) (512 * (k + 1))
          taking_next ys e =
              let b : count - (done + n) ≡ count - done - 15 = omega arith in
              let d : 512 * (k + 1) ≡ 512 * k + 512 = omega arith in
              rw d record {
                within = omega arith;
                place = rw b (omega (arith, g.place, next));
                same_length = ap length (rows_then ys e)
                    ∙ length-append (words_in (8 * (done + n)) (body file count)) (drop (8 * (done + n)) rows₀)
                    ∙ omega (arith, words_length (8 * (done + n)) (body file count), length-drop (8 * (done + n)) rows₀);
                rest = rest_next;
                taken = rows_then ys e;
              }
