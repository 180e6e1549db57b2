-- Laws of the loop that writes blocks: what is written so far, and the blocks of the rows that are left.
use mathlib.Core.Path.{◌≡◌, refl, sym, ap, ◌∙◌}
use mathlib.Core.Bool.{true, false}
use mathlib.Core.List.{List, [], ◌∷◌, ◌++◌, append_assoc, append-nil}
use Prim.Native.Nat.{ℕ, zero, suc, ◌+◌, ◌-◌, ◌*◌, ◌/◌, ◌≤◌, ◌<◌, min}
use native.Mathlib.Numerals.{add-one}
use native.Mathlib.Omega.{arith}
use lib.ListN.{length, take, drop, length-take, take-append-drop}
use lib.Seq.{drop-drop}
use borrow.Author.Tests.{lt-ltb, le-ltb}
use borrow.Rule.Slice.PartMut.{put_mid}
use Rattle.rules.specs.declared.Table.{Table}
use Rattle.rules_files.specs.Bytes.{bytes_of}
use Rattle.rules_files.specs.Blocks.{block, blocks_for, blocks_from, file_length, file_of}
use Rattle.rules.specs.declared.Outer.TheVariants.{NotWellFormed, NoRowRoom}
use Rattle.rules.specs.Rows.{well_formed}
use Rattle.rules_files.specs.declared.Fault.TheVariants.{Outer, TooManyRows}
use Rattle.rules_files.specs.Files.{most_rows, said, encode, store_told}
use Rattle.theory_files.proofs.Numbers.{bytes_length, bytes_take, bytes_drop}
use Rattle.theory_files.proofs.One.{block_length}
use Rattle.theory_files.proofs.Many.{blocks_none, blocks_zero, blocks_more}
use Rattle.theory_files.proofs.Files.{ending_four}
use Rattle.file_parts.proofs.Parts.{mid, mid_length, mid_take, mid_drop}
use Rattle.std.specs.Prelude.{Ok, Err}

-- ---- the loop

-- what stands at the end: block 0 as it was, the blocks of all rows, and then what was there
abbrev pub done_file : List ℕ → ℕ → List ℕ → List ℕ
done_file rows count file = (take 512 file ++ blocks_from 32 (blocks_for 32 count) 1 count (bytes_of rows)) ++ drop (file_length 32 count) file

-- the blocks of the rows that are left
pub left_blocks : List ℕ → ℕ → ℕ → ℕ → List ℕ
left_blocks rows count done k = blocks_from 32 (blocks_for 32 (count - done)) k (count - done) (bytes_of (drop (8 * done) rows))

pub record Going (rows : List ℕ) (count : ℕ) (file₀ file : List ℕ) (done k at : ℕ) : Type 0 where
  pub within : done ≤ count
  pub place : at ≡ 512 * k
  pub blocks : k + blocks_for 32 (count - done) ≡ 1 + blocks_for 32 count
  pub same_length : length file ≡ length file₀
  pub all : (take at file ++ left_blocks rows count done k) ++ drop (file_length 32 count) file ≡ done_file rows count file₀

module _ (rows : List ℕ) (count : ℕ) (file₀ : List ℕ) where
  pub going_start : Going rows count file₀ file₀ 0 1 512
  unfolding left_blocks
  going_start =
      let e : count - 0 ≡ count = omega arith in
      record { within = omega arith; place = refl; blocks = rw e; same_length = refl; all = rw e }

module _ {rows : List ℕ} {count : ℕ} {file₀ file : List ℕ} {done k at : ℕ} (g : Going rows count file₀ file done k at) where
  -- there is one block more
  pub room_left : file_length 32 count ≤ length file₀ → done < count → at + 512 ≤ length file
  unfolding file_length
  room_left h l =
      let m = blocks_more 32 (omega arith) (omega arith) (count - done) (omega arith) in
      omega (arith, g.place, g.blocks, g.same_length)

  -- as long as there are blocks, there are rows
  pub rows_to_go : k < file_length 32 count / 512 → done < count
  unfolding file_length
  rows_to_go h = go (count - done) refl
    where
      go : (l : ℕ) → count - done ≡ l → done < count
      go zero e =
          let b : k + 0 ≡ 1 + blocks_for 32 count = rw (e, blocks_none 32 (omega arith) (omega arith)) at g.blocks in
          absurd (let z : ⊥ = omega arith in z)
      go (suc l) e = omega arith

  pub no_rows_to_go : file_length 32 count / 512 ≤ k → count ≤ done
  unfolding file_length
  no_rows_to_go h =
      let z = blocks_zero 32 (omega arith) (omega arith) (count - done) (omega (arith, g.blocks)) in
      omega arith

  pub few_blocks : count ≤ 65535 → k ≤ 65536
  unfolding blocks_for
  few_blocks h = omega (arith, g.blocks)

  none_left : count ≤ done → left_blocks rows count done k ≡ []
  unfolding left_blocks blocks_from
  none_left h =
      let z : count - done ≡ 0 = omega arith in
      rw (z, blocks_none 32 (omega arith) (omega arith))

  at_end : count ≤ done → file_length 32 count ≡ at
  unfolding file_length
  at_end h =
      let z : count - done ≡ 0 = omega arith in
      omega (arith, rw z at g.blocks, g.place, blocks_none 32 (omega arith) (omega arith))

  pub going_end : count ≤ done → file ≡ done_file rows count file₀
  going_end h =
      let q : (take at file ++ left_blocks rows count done k) ++ drop (file_length 32 count) file ≡ file
      = rw (none_left h, append-nil, at_end h) (take-append-drop at file) in
      sym q ∙ g.all

  module _ (h : file_length 32 count ≤ length file₀) (l : done < count) (n : ℕ) (here : n ≡ min 15 (count - done)) where
    -- the rows of this block
    abbrev pub part : List ℕ
    part = take ((done + n) * 8 - done * 8) (drop (done * 8) rows)

    part_is : part ≡ take (8 * n) (drop (8 * done) rows)
    part_is =
        let e : (done + n) * 8 - done * 8 ≡ 8 * n = omega arith in
        let f : done * 8 ≡ 8 * done = omega arith in
        rw (e, f)

    pub part_few : 4 * length part ≤ 504
    part_few = omega (arith, ap length part_is, length-take (8 * n) (drop (8 * done) rows))

    -- the next block, and those behind it
    split : left_blocks rows count done k ≡ block k n (bytes_of part) ++ left_blocks rows count (done + n) (suc k)
    unfolding left_blocks blocks_from
    split =
        let left = count - done in
        let m = blocks_more 32 (omega arith) (omega arith) left (omega arith) in
        let a : left - 15 ≡ count - (done + n) = omega arith in
        let b : 32 * n ≡ 4 * (8 * n) = omega arith in
        let c : 8 * done + 8 * n ≡ 8 * (done + n) = omega arith in
        rw (m, ← here, part_is, a, b, bytes_take (8 * n) (drop (8 * done) rows), bytes_drop (8 * n) (drop (8 * done) rows), drop-drop, c)

    blocks_then : k + 1 + blocks_for 32 (count - (done + n)) ≡ 1 + blocks_for 32 count
    blocks_then =
        let m = blocks_more 32 (omega arith) (omega arith) (count - done) (omega arith) in
        let a : count - done - 15 ≡ count - (done + n) = omega arith in
        omega (arith, rw a at m, g.blocks)

    last_block : at + 512 ≤ file_length 32 count
    unfolding file_length
    last_block = omega (arith, blocks_then, g.place)

    pub going_next : (ys : List ℕ) → ys ≡ block k n (bytes_of part)
        → Going rows count file₀ (put_mid at ((at + 512) - at) file ys) (done + n) (k + 1) (at + 512)
    going_next ys e =
        let r = room_left h l in
        let w : length ys ≡ 512 = ap length e ∙ block_length k n (bytes_of part) (omega (arith, part_few, bytes_length part)) in
        let x : List ℕ = block k n (bytes_of part) in
        let y : List ℕ = left_blocks rows count (done + n) (suc k) in
        let d : List ℕ = drop (file_length 32 count) file in
        let q : (take at file ++ (x ++ y)) ++ d ≡ done_file rows count file₀ = rw split at g.all in
        record {
          within = omega (arith, here);
          place = omega (arith, g.place);
          blocks = blocks_then;
          same_length = rw mid (mid_length file ys at r w ∙ g.same_length);
          all = rw (mid, mid_take file ys at r w, mid_drop file ys at r w (file_length 32 count) last_block, e, add-one k)
              (ap (λ (x : List ℕ). x ++ d) (append_assoc (take at file) x y) ∙ q);
        }

-- ---- the whole file

pub some_length : (n : ℕ) → 512 ≤ file_length 32 n
unfolding file_length
some_length n = omega arith

pub most_length : (n : ℕ) → n ≤ most_rows → file_length 32 n ≤ 2237440
unfolding file_length blocks_for
most_length n h = omega arith

-- what block 0 says is seven words
said_size : (t : Table) → length (bytes_of (said t)) ≡ 28
said_size t = bytes_length (said t) ∙ omega (arith, ending_four t.ending)

-- block 0 over the front of a file, and then the blocks of the rows
pub file_put : (rows file front : List ℕ) (t : Table) → file_length 32 t.count ≤ length file → front ≡ block 0 0 (bytes_of (said t))
    → done_file rows t.count (put_mid 0 512 file front) ≡ encode rows t ++ drop (file_length 32 t.count) file
unfolding encode file_of
file_put rows file front t h e =
    let w : length front ≡ 512 = ap length e ∙ block_length 0 0 (bytes_of (said t)) (omega (arith, said_size t)) in
    let g = some_length t.count in
    rw (mid file front 0, mid_take file front 0 (omega arith) w, mid_drop file front 0 (omega arith) w (file_length 32 t.count) g, e)

-- ---- what is told

module _ (ws : List ℕ) (t : Table) (room : ℕ) where
  pub store_unformed : well_formed ws t ≡ false → store_told ws t room ≡ Err (Outer NotWellFormed)
  unfolding store_told
  store_unformed e = rw e

  module _ (well : well_formed ws t ≡ true) where
    pub store_many : most_rows < t.count → store_told ws t room ≡ Err TooManyRows
    unfolding store_told
    store_many h = rw (well, lt-ltb most_rows t.count h)

    module _ (few : t.count ≤ most_rows) where
      pub store_full : room < file_length 32 t.count → store_told ws t room ≡ Err (Outer NoRowRoom)
      unfolding store_told
      store_full h = rw (well, le-ltb most_rows t.count few, lt-ltb room (file_length 32 t.count) h)

      pub store_fits : file_length 32 t.count ≤ room → store_told ws t room ≡ Ok (file_length 32 t.count)
      unfolding store_told
      store_fits h = rw (well, le-ltb most_rows t.count few, le-ltb room (file_length 32 t.count) h)
