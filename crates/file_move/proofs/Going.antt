-- Laws of the loop that writes a form's blocks: what is written so far, and the blocks of the rows that are left.
use mathlib.Core.Path.{◌≡◌, refl, sym, ap, ◌∙◌}
use mathlib.Core.List.{List, [], ◌++◌, append_assoc, append-nil}
use Prim.Native.Nat.{ℕ, zero, suc, ◌+◌, ◌-◌, ◌*◌, ◌/◌, ◌≤◌, ◌<◌, min}
use native.Mathlib.Numerals.{add-one}
use native.Mathlib.Omega.{arith}
use lib.ListN.{length, take, drop, length-append, length-drop, take-append-drop}
use lib.Seq.{drop_at, drop-drop, length-take-le}
use borrow.Rule.Slice.PartMut.{put_mid}
use Rattle.rules.specs.declared.Cursor.{Cursor}
use Rattle.rules.specs.declared.Table.{Table}
use Rattle.rules.specs.Rows.{words_per_row}
use Rattle.rules_files.specs.Bytes.{bytes_of}
use Rattle.rules_files.specs.Blocks.{block_bytes, block, per_block, blocks_for, file_length}
use Rattle.rules_forms.specs.declared.Form.{Form}
use Rattle.rules_forms.specs.Short.{short_bytes}
use Rattle.rules_forms.specs.Forms.{rows_beside, encode_in}
use Rattle.rules_forms.specs.Shapes.{number_of, row_bytes_of, said_in, body_of}
use Rattle.theory_files.proofs.One.{block_length}
use Rattle.theory_files.proofs.Many.{blocks_zero as no_blocks}
use Rattle.file_sizes.proofs.Sizes.{few_rows, few_blocks, some_length, some_bytes, few_bytes}
use Rattle.file_parts.proofs.Parts.{mid, mid_length, mid_take, mid_drop}
use Rattle.file_move.proofs.Bodies.{blocks_of, blocks_less, blocks_further, blocks_end, blocks_zero, body_few, body_front, encoded}
use Rattle.file_beside.specs.Counting.{Agrees, last_place}
use Rattle.file_beside.proofs.Rows.{beside_length, count_is}
use Rattle.file_beside.proofs.Agreeing.{agrees_long}

-- ---- the loop

-- how long a file of so many rows is
abbrev pub size : Form → ℕ → ℕ
size form count = file_length (row_bytes_of form) count

-- what stands at the end: block 0 as it was, the blocks of all rows, and then what was there
abbrev pub done_file : Form → List ℕ → ℕ → List ℕ → List ℕ
done_file form ws count moved = (take block_bytes moved ++ blocks_of form 1 count ws) ++ drop (size form count) moved

-- the blocks of the rows that are left
abbrev pub left_blocks : Form → List ℕ → ℕ → ℕ → ℕ → List ℕ
left_blocks form ws count done k = blocks_of form k (count - done) (drop (words_per_row * done) ws)

pub record Going (form : Form) (ws : List ℕ) (count : ℕ) (moved₀ moved : List ℕ) (done k at : ℕ) : Type 0 where
  pub within : done ≤ count
  pub place : at ≡ block_bytes * k
  pub blocks : k + blocks_for (row_bytes_of form) (count - done) ≡ 1 + blocks_for (row_bytes_of form) count
  pub same_length : length moved ≡ length moved₀
  pub all : (take at moved ++ left_blocks form ws count done k) ++ drop (size form count) moved ≡ done_file form ws count moved₀

pub going_start : (form : Form) (ws : List ℕ) (count : ℕ) (moved₀ : List ℕ) → Going form ws count moved₀ moved₀ 0 1 block_bytes
going_start form ws count moved₀ =
    let e : count - 0 ≡ count = omega arith in
    record { within = omega arith; place = refl; blocks = rw e; same_length = refl; all = rw e }

module _ {form : Form} {ws : List ℕ} {count : ℕ} {moved₀ moved : List ℕ} {done k at : ℕ}
    (g : Going form ws count moved₀ moved done k at) where
  -- as long as there are blocks, there are rows
  pub rows_to_go : k < size form count / block_bytes → done < count
  unfolding file_length
  rows_to_go h = go (count - done) refl
    where
      go : (l : ℕ) → count - done ≡ l → done < count
      go zero e =
          let b : k + 0 ≡ 1 + blocks_for (row_bytes_of form) count = rw (e, blocks_zero form) at g.blocks in
          absurd (let z : ⊥ = omega arith in z)
      go (suc l) e = omega arith

  pub no_rows_to_go : size form count / block_bytes ≤ k → count ≤ done
  unfolding file_length
  no_rows_to_go h =
      let z = no_blocks (row_bytes_of form) (some_bytes form) (few_bytes form) (count - done) (omega (arith, g.blocks)) in
      omega arith

  none_left : count ≤ done → left_blocks form ws count done k ≡ []
  none_left h =
      let z : count - done ≡ 0 = omega arith in
      rw z (blocks_end form k (drop (words_per_row * done) ws))

  at_end : count ≤ done → size form count ≡ at
  unfolding file_length
  at_end h =
      let z : count - done ≡ 0 = omega arith in
      omega (arith, rw z at g.blocks, g.place, blocks_zero form)

  going_end : count ≤ done → moved ≡ done_file form ws count moved₀
  going_end h =
      let q : (take at moved ++ left_blocks form ws count done k) ++ drop (size form count) moved ≡ moved
      = rw (none_left h, append-nil, at_end h) (take-append-drop at moved) in
      sym q ∙ g.all

  module _ (h : size form count ≤ length moved₀) (l : done < count) where
    module _ (n : ℕ) (here : n ≡ min (per_block (row_bytes_of form)) (count - done)) where
      blocks_then : k + 1 + blocks_for (row_bytes_of form) (count - (done + n)) ≡ 1 + blocks_for (row_bytes_of form) count
      blocks_then =
          let m = blocks_less form (count - done) n (omega arith) here in
          let a : count - done - n ≡ count - (done + n) = omega arith in
          omega (arith, rw a at m, g.blocks)

      last_block : at + block_bytes ≤ size form count
      unfolding file_length
      last_block = omega (arith, blocks_then, g.place)

    -- there is one block more
    pub room_left : at + block_bytes ≤ length moved
    room_left = omega (arith, last_block (min (per_block (row_bytes_of form)) (count - done)) refl, g.same_length)

    pub few_left : k ≤ count
    few_left = omega (arith, blocks_then (min (per_block (row_bytes_of form)) (count - done)) refl, few_blocks form count)

    module _ (n : ℕ) (here : n ≡ min (per_block (row_bytes_of form)) (count - done)) (lent : length ws ≡ words_per_row * count) where
      -- the rows of this block
      rows_left : words_per_row * (count - done) ≤ length (drop (words_per_row * done) ws)
      rows_left = omega (arith, length-drop (words_per_row * done) ws, lent, g.within)

      -- the next block, and those behind it
      split : left_blocks form ws count done k
          ≡ block k n (bytes_of (body_of form n (drop (words_per_row * done) ws))) ++ left_blocks form ws count (done + n) (suc k)
      split =
          let a : count - done - n ≡ count - (done + n) = omega arith in
          let c : words_per_row * done + words_per_row * n ≡ words_per_row * (done + n) = omega arith in
          blocks_further form (count - done) k n (drop (words_per_row * done) ws) (omega arith) here rows_left
          ∙ rw (a, drop-drop (words_per_row * n) (words_per_row * done) ws, c)

      going_next : (ys : List ℕ) → ys ≡ block k n (bytes_of (body_of form n (drop (words_per_row * done) ws)))
          → Going form ws count moved₀ (put_mid at ((at + block_bytes) - at) moved ys) (done + n) (k + 1) (at + block_bytes)
      going_next ys e =
          let r = room_left in
          let few = body_few form (count - done) n (drop (words_per_row * done) ws) here rows_left in
          let x : List ℕ = block k n (bytes_of (body_of form n (drop (words_per_row * done) ws))) in
          let w : length ys ≡ block_bytes = ap length e ∙ block_length k n (bytes_of (body_of form n (drop (words_per_row * done) ws))) few in
          let y : List ℕ = left_blocks form ws count (done + n) (suc k) in
          let d : List ℕ = drop (size form count) moved in
          let q : (take at moved ++ (x ++ y)) ++ d ≡ done_file form ws count moved₀ = rw split at g.all in
          record {
            within = omega (arith, here);
            place = omega (arith, g.place);
            blocks = blocks_then n here;
            same_length = rw mid (mid_length moved ys at r w ∙ g.same_length);
            all = rw (mid, mid_take moved ys at r w, mid_drop moved ys at r w (size form count) (last_block n here), e, add-one k)
                (ap (λ (x : List ℕ). x ++ d) (append_assoc (take at moved) x y) ∙ q);
          }

-- the words of all rows of a file that agrees with its text
pub all_words : {text file : List ℕ} {t : Table} → Agrees text file t → length (rows_beside text file) ≡ words_per_row * t.count
all_words {text} {file} {t} g =
    beside_length text file ∙ ap (λ (k : ℕ). words_per_row * k) (sym (count_is text file t g.holds (agrees_long g)))

-- the most words that the rows of one block have
abbrev pub part_words : ℕ
part_words = per_block short_bytes * words_per_row

-- the loop's invariant: the part's words have their room, and the place of the last row is known
pub record Moving (form : Form) (text file : List ℕ) (count : ℕ) (moved₀ moved words : List ℕ) (here : Cursor) (done k at : ℕ)
    : Type 0 where
  pub going : Going form (rows_beside text file) count moved₀ moved done k at
  pub room : length words ≡ part_words
  pub last : here ≡ last_place text file done

module _ {form : Form} {text file : List ℕ} {count : ℕ} {moved₀ moved words : List ℕ} {here : Cursor} {done k at : ℕ}
    (g : Moving form text file count moved₀ moved words here done k at) (lent : length (rows_beside text file) ≡ words_per_row * count) where
  -- no row is left
  pub moving_end : count ≤ done → (moved ≡ done_file form (rows_beside text file) count moved₀) × (here ≡ last_place text file count)
  moving_end l =
      let e : done ≡ count = omega (arith, g.going.within) in
      (going_end g.going l, rw (← e) g.last)

  module _ (h : size form count ≤ length moved₀) (l : done < count) (n : ℕ) (few : n ≡ min (per_block (row_bytes_of form)) (count - done))
      (part : List ℕ)
      (rows : part ≡ take (words_per_row * n) (drop (words_per_row * done) (rows_beside text file)) ++ drop (words_per_row * n) words) where
    left : List ℕ
    left = drop (words_per_row * done) (rows_beside text file)

    some_left : words_per_row * n ≤ length left
    unfolding left
    some_left = omega (arith, length-drop (words_per_row * done) (rows_beside text file), lent, g.going.within, few)

    pub part_room : length part ≡ part_words
    unfolding left
    part_room =
        ap length rows ∙ length-append (take (words_per_row * n) left) (drop (words_per_row * n) words)
        ∙ omega (arith, length-take-le (words_per_row * n) left some_left, length-drop (words_per_row * n) words, g.room, few, few_rows form)

    pub moving_next : (there : Cursor) → there ≡ last_place text file (done + n)
        → (ys : List ℕ) → ys ≡ block k n (bytes_of (body_of form n part))
        → Moving form text file count moved₀ (put_mid at ((at + block_bytes) - at) moved ys) part there (done + n) (k + 1) (at + block_bytes)
    unfolding left
    moving_next there last ys e =
        let b : body_of form n part ≡ body_of form n left = rw rows (body_front form n left (drop (words_per_row * n) words) some_left) in
        let q = e ∙ ap (λ (x : List ℕ). block k n (bytes_of x)) b in
        record { going = going_next g.going h l n few lent ys q; room = part_room; last = last }

-- ---- the whole file

-- block 0 over the front of the blocks of all rows
pub file_put : (form : Form) (ws moved front : List ℕ) (t : Table) → length ws ≡ words_per_row * t.count
    → size form t.count ≤ length moved → front ≡ block 0 0 (bytes_of (said_in form t))
    → put_mid 0 block_bytes (done_file form ws t.count moved) front ≡ encode_in (number_of form) ws t ++ drop (size form t.count) moved
file_put form ws moved front t l h e =
    let x : List ℕ = block 0 0 (bytes_of (said_in form t)) in
    let b : List ℕ = blocks_of form 1 t.count ws in
    let d : List ℕ = drop (size form t.count) moved in
    let w : length (take block_bytes moved) ≡ block_bytes = length-take-le block_bytes moved (omega (arith, some_length form t.count)) in
    let q : drop block_bytes ((take block_bytes moved ++ b) ++ d) ≡ b ++ d
    = ap (drop block_bytes) (append_assoc (take block_bytes moved) b d) ∙ drop_at (take block_bytes moved) (b ++ d) block_bytes w in
    mid (done_file form ws t.count moved) front 0 ∙ rw (q, e, encoded form ws t l) (sym (append_assoc x b d))
