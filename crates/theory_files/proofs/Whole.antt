-- The theorems about whole files, over the words of a row and the words that block 0 says. A file that was written has its length, is
-- sound in all blocks, and its words are read back. A file whose blocks are all sound is the one file of what it says. Any one changed
-- byte is found, in its block.
use mathlib.Core.Path.{◌≡◌, refl, sym, ap, ◌∙◌}
use mathlib.Core.Bool.{true, false}
use mathlib.Core.List.{List, [], ◌∷◌, ◌++◌, append-nil}
use Prim.Native.Nat.{ℕ, zero, suc, ◌+◌, ◌-◌, ◌*◌, ◌/◌, ◌≤◌, ◌<◌}
use native.Mathlib.Nat.{not-suc-le-zero, le_of_suc-le-suc}
use native.Mathlib.Omega.{arith}
use lib.ListN.{length, take, drop, get_or, set, length-append, length-take, length-drop, take-append-drop, drop_of_length-le}
use lib.Seq.{take_at, drop_at, take_all, drop-drop, drop-cons, take-set-lt, drop-set-add, get_or-take, get_or-drop}
use Rattle.rules_files.specs.Bytes.{number, number_at, bytes_of, words_in, word_bytes}
use Rattle.rules_files.specs.Blocks.{block_bytes, at_content, content_room, block, content_of, sound, sound_from, body_from, blocks_for, blocks_from}
use Rattle.rules_files.specs.Blocks.{file_length, file_of}
use Rattle.rules_files.specs.Files.{said_at}
use Rattle.laws.specs.Bounds.{Bytes, Words}
use Rattle.theory_files.specs.Whole.{Fits, file_with, said_from, words_of, sound_of, Whole, Holds}
use Rattle.laws.proofs.Bounds.{below_take, below_drop, below_append}
use Rattle.laws.proofs.Lists.{part_front}
use Rattle.theory_files.proofs.Numbers.{bytes_length, bytes_bytes, bytes_take, bytes_append}
use Rattle.theory_files.proofs.Numbers.{words_bytes, bytes_words, words_length, read_words}
use Rattle.theory_files.proofs.One.{block_length, block_bytes_lem, block_sound, content_block, sound_block, sound_holds, content_length}
use Rattle.theory_files.proofs.One.{changed_judged}
use Rattle.theory_files.proofs.Many.{blocks_few, blocks_length, blocks_bytes, written_sound, written_read, read_written, body_length}
use Rattle.theory_files.proofs.Many.{body_bytes, sound_most, changed_first}

-- ---- words where they stand

-- word i of some bytes
pub words_at : (n : ℕ) (s : List ℕ) (i : ℕ) → i < n → get_or (words_in n s) i 0 ≡ number_at 4 (4 * i) s
unfolding words_in number_at
words_at zero s i h = absurd (not-suc-le-zero h)
words_at (suc n) s zero h = refl
words_at (suc n) s (suc i) h =
    let e : 4 * suc i ≡ 4 + 4 * i = omega arith in
    words_at n (drop 4 s) i (le_of_suc-le-suc h) ∙ rw (e, drop-drop)

cons_same : {x y : ℕ} {l m : List ℕ} → x ≡ y → l ≡ m → (x ∷ l) ≡ (y ∷ m)
cons_same p q = λ i. p i ∷ q i

-- a file is as long as its rows take, whatever block 0 says
pub file_length_lem : (size : ℕ) → 0 < size → size ≤ content_room → (says : List ℕ) → length says ≤ content_room → (n : ℕ) (body : List ℕ)
    → length (file_of size says n body) ≡ file_length size n
unfolding file_of file_length
file_length_lem size z l says few n body =
    rw (length-append, block_length 0 0 says few, blocks_length size z l (blocks_for size n) 1 n body) (omega arith)

module _ {row said : ℕ} (fits : Fits row said) where
  -- ---- what block 0 says

  row_some : 0 < row * word_bytes
  row_some = omega (arith, fits.some)

  module _ (file : List ℕ) where
    words : List ℕ
    words = words_in said (content_of (said * word_bytes) (take block_bytes file))

    words_are : length words ≡ said
    unfolding words
    words_are = words_length said (content_of (said * word_bytes) (take block_bytes file))

    -- a word of its content is the word that it says
    pub content_said : (i : ℕ) → i < said → get_or (words_in said (content_of (said * word_bytes) (take block_bytes file))) i 0 ≡ said_at i file
    unfolding content_of number_at
    content_said i h =
        let front : List ℕ = take block_bytes file in
        let at : ℕ = word_bytes * i in
        words_at said (take (said * word_bytes) (drop at_content front)) i h
        ∙ ap number (part_front word_bytes at (said * word_bytes) (drop at_content front) (omega arith)
        ∙ ap (take word_bytes) (drop-drop at at_content front)
        ∙ part_front word_bytes (at_content + at) block_bytes file (omega (arith, fits.first)))

    content_from : (n i : ℕ) → i + n ≡ said → drop i words ≡ said_from n i file
    unfolding said_from words
    content_from zero i e = drop_of_length-le words {i = i} (omega (arith, words_are))
    content_from (suc n) i e =
        drop-cons words i 0 (omega (arith, words_are)) ∙ cons_same (content_said i (omega arith)) (content_from n (suc i) (omega arith))

    -- and so of all of them
    pub content_is : words_in said (content_of (said * word_bytes) (take block_bytes file)) ≡ said_from said 0 file
    unfolding words
    content_is = content_from said 0 (omega arith)

  -- they stand in its 512 bytes: a file with the same block 0 says the same
  pub said_kept : (file g : List ℕ) → take block_bytes file ≡ take block_bytes g → (i : ℕ) → i < said → said_at i file ≡ said_at i g
  said_kept file g e i h =
      sym (content_said file i h) ∙ ap (λ (x : List ℕ). get_or (words_in said (content_of (said * word_bytes) x)) i 0) e ∙ content_said g i h

  -- ---- what was written

  module _ {says rows : List ℕ} {n : ℕ} (g : Holds row said says rows n) where
    m : ℕ
    m = blocks_for (row * word_bytes) n

    file : List ℕ
    file = file_with row says rows n

    first_block : List ℕ
    first_block = block 0 0 (bytes_of says)

    other_blocks : List ℕ
    other_blocks = blocks_from (row * word_bytes) m 1 n (bytes_of rows)

    said_size : length (bytes_of says) ≡ said * word_bytes
    said_size = bytes_length says ∙ omega (arith, g.size)

    said_few : length (bytes_of says) ≤ content_room
    said_few = omega (arith, said_size, fits.first)

    body_all : row * word_bytes * n ≤ length (bytes_of rows)
    body_all = omega (arith, bytes_length rows, g.all)

    file_is : file ≡ first_block ++ other_blocks
    unfolding file file_of first_block other_blocks m
    file_is = refl

    first_length : length first_block ≡ block_bytes
    unfolding first_block
    first_length = block_length 0 0 (bytes_of says) said_few

    take_first : take block_bytes file ≡ first_block
    take_first = rw file_is (take_at first_block other_blocks block_bytes first_length)

    drop_first : drop block_bytes file ≡ other_blocks
    drop_first = rw file_is (drop_at first_block other_blocks block_bytes first_length)

    -- the file is as long as its rows take, and is made of bytes
    pub held_length : length (file_with row says rows n) ≡ file_length (row * word_bytes) n
    held_length = file_length_lem (row * word_bytes) row_some fits.here (bytes_of says) said_few n (bytes_of rows)

    pub held_bytes : Bytes (file_with row says rows n)
    unfolding file_of
    held_bytes =
        below_append (block_bytes_lem 0 0 (bytes_of says) said_few (bytes_bytes says))
        (blocks_bytes (row * word_bytes) row_some fits.here (blocks_for (row * word_bytes) n) 1 n (bytes_bytes rows))

    -- block 0 is sound, and says the words
    first_sound : sound 0 0 (said * word_bytes) (take block_bytes file) ≡ true
    unfolding first_block
    first_sound =
        rw take_first (rw said_size at (block_sound 0 0 (bytes_of says) said_few (omega arith) (omega arith) (bytes_bytes says)))

    first_says : words_in said (content_of (said * word_bytes) (take block_bytes file)) ≡ says
    unfolding first_block
    first_says =
        let e : content_of (said * word_bytes) (block 0 0 (bytes_of says)) ≡ bytes_of says =
        rw said_size at (content_block 0 0 (bytes_of says) said_few) in
        let f = rw g.size at (words_bytes g.said_fit []) in
        rw (take_first, e) (rw append-nil at f)

    -- it says the words that were given
    pub held_said : (i : ℕ) → i < said → said_at i (file_with row says rows n) ≡ get_or says i 0
    unfolding file
    held_said i h = sym (content_said file i h) ∙ ap (λ (x : List ℕ). get_or x i 0) first_says

    -- so are the others
    others_sound : sound_of row n file ≡ m
    unfolding sound_of other_blocks m
    others_sound =
        let h : 1 + blocks_for (row * word_bytes) n ≤ 65536 = omega (arith, blocks_few (row * word_bytes) row_some fits.here n, g.few) in
        let f =
        written_sound (row * word_bytes) row_some fits.here (blocks_for (row * word_bytes) n) 1 n [] refl h body_all (bytes_bytes rows) in
        rw drop_first (rw append-nil at f)

    -- all of its blocks are sound
    pub held_whole : Whole row said n (file_with row says rows n)
    unfolding file m
    held_whole = record {
      long = omega (arith, first_length, ap length take_first, length-take block_bytes file);
      first = first_sound;
      whole = held_length;
      others = omega (arith, others_sound);
    }

    -- and the words of its rows are read back
    pub held_words : words_of row n (file_with row says rows n) ≡ take (row * n) rows
    unfolding file words_of other_blocks m
    held_words =
        let f = written_read (row * word_bytes) row_some fits.here (blocks_for (row * word_bytes) n) 1 n (bytes_of rows) [] refl body_all in
        let k : row * word_bytes * n ≡ word_bytes * (row * n) = omega arith in
        let l : length (take (row * n) rows) ≡ row * n = length-take (row * n) rows ∙ omega (arith, g.all) in
        let h = rw l at (words_bytes (below_take (row * n) g.rows_fit) []) in
        rw (drop_first, rw append-nil at f, k, bytes_take (row * n) rows) (rw append-nil at h)

  -- ---- what is sound

  -- as many words as n rows have, and each fits
  pub words_size : (n : ℕ) (file : List ℕ) → length (words_of row n file) ≡ row * n
  unfolding words_of
  words_size n file = words_length (row * n) _

  pub words_fit : (n : ℕ) {file : List ℕ} → Bytes file → Words (words_of row n file)
  unfolding words_of
  words_fit n b =
      read_words (row * n) (body_bytes (row * word_bytes) row_some fits.here (blocks_for (row * word_bytes) n) n (below_drop block_bytes b))

  module _ (file : List ℕ) (bytes : Bytes file) (n : ℕ) (w : Whole row said n file) where
    front_length : length (take block_bytes file) ≡ block_bytes
    front_length = length-take block_bytes file ∙ omega (arith, w.long)

    content_bytes : Bytes (content_of (said * word_bytes) (take block_bytes file))
    unfolding content_of
    content_bytes = below_take (said * word_bytes) (below_drop at_content (below_take block_bytes bytes))

    head_is : block 0 0 (bytes_of (said_from said 0 file)) ≡ take block_bytes file
    head_is =
        let s = sound_holds 0 0 (said * word_bytes) (take block_bytes file) w.first in
        let c : List ℕ = content_of (said * word_bytes) (take block_bytes file) in
        let l : length c ≡ said * word_bytes =
        content_length 0 0 (said * word_bytes) (below_take block_bytes bytes) front_length s fits.first in
        let b : bytes_of (words_in said c) ≡ c = bytes_words said content_bytes (omega arith) ∙ take_all (word_bytes * said) c (omega arith) in
        rw (← content_is file, b) (sound_block 0 0 (said * word_bytes) (below_take block_bytes bytes) front_length s fits.first)

    -- the blocks behind it
    behind : List ℕ
    behind = drop block_bytes file

    behind_bytes : Bytes behind
    unfolding behind
    behind_bytes = below_drop block_bytes bytes

    behind_length : length behind ≡ block_bytes * blocks_for (row * word_bytes) n
    unfolding file_length behind
    behind_length = length-drop block_bytes file ∙ omega (arith, w.whole)

    all_sound : sound_from (row * word_bytes) (blocks_for (row * word_bytes) n) 1 n behind ≡ blocks_for (row * word_bytes) n
    unfolding sound_of behind
    all_sound =
        omega
        (arith, w.others, sound_most (row * word_bytes) row_some fits.here (blocks_for (row * word_bytes) n) 1 n (drop block_bytes file))

    body : List ℕ
    body = body_from (row * word_bytes) (blocks_for (row * word_bytes) n) n behind

    body_is : bytes_of (words_of row n file) ≡ body
    unfolding words_of body behind
    body_is =
        let m = blocks_for (row * word_bytes) n in
        let l = body_length (row * word_bytes) row_some fits.here m n (drop block_bytes file) refl behind_length in
        let b = body_bytes (row * word_bytes) row_some fits.here m n behind_bytes in
        bytes_words (row * n) b (omega arith) ∙ take_all (word_bytes * (row * n)) body (omega arith)

    -- it is the file of what it says, whatever stands behind the rows that are read
    pub whole_file : (more : List ℕ) → file_with row (said_from said 0 file) (words_of row n file ++ more) n ≡ file
    unfolding file_of body behind
    whole_file more =
        let m = blocks_for (row * word_bytes) n in
        let t = read_written (row * word_bytes) row_some fits.here m 1 n (bytes_of more) behind_bytes behind_length all_sound in
        rw (head_is, bytes_append (words_of row n file) more, body_is, t) (take-append-drop block_bytes file)

    -- ---- one byte changed

    module _ (i v : ℕ) (h : i < length file) (l : v < 256) (ne : get_or file i 0 ≡ v → ⊥) where
      -- in block 0, which is not sound any more, whatever it should say
      pub first_changed : i < block_bytes → (size : ℕ) → sound 0 0 size (take block_bytes (set file i v)) ≡ false
      first_changed g size =
          let u = changed_judged 0 0 (said * word_bytes) (below_take block_bytes bytes) front_length w.first i v g l
          (λ q. ne (sym (get_or-take block_bytes file i 0 g) ∙ q)) in
          rw (take-set-lt block_bytes file i v g) (u 0 0 size)

      -- behind block 0 so many blocks are sound as stand before the byte's, which is one of the file's
      pub others_changed : block_bytes ≤ i → sound_of row n (set file i v) ≡ (i - block_bytes) / block_bytes
      unfolding sound_of behind
      others_changed g =
          let m = blocks_for (row * word_bytes) n in
          let a = i - block_bytes in
          let j : i ≡ block_bytes + a = omega arith in
          let d : drop block_bytes (set file i v) ≡ set (drop block_bytes file) a v =
          ap (λ (x : ℕ). drop block_bytes (set file x v)) j ∙ drop-set-add block_bytes file a v in
          let o : get_or (drop block_bytes file) a 0 ≡ get_or file i 0 = get_or-drop block_bytes file a 0 ∙ ap (λ (x : ℕ). get_or file x 0) (sym j) in
          let z : a < block_bytes * m = omega (arith, behind_length, length-drop block_bytes file) in
          rw d
          (changed_first (row * word_bytes) row_some fits.here m 1 n behind_bytes behind_length all_sound a v z l (λ q. ne (sym o ∙ q)))

      pub changed_inside : block_bytes ≤ i → (i - block_bytes) / block_bytes < blocks_for (row * word_bytes) n
      unfolding behind
      changed_inside g = omega (arith, behind_length, length-drop block_bytes file)

  -- a file whose blocks are all sound is the only one that says its words, of block 0 and of the rows
  pub whole_one : (n : ℕ) (file g : List ℕ) → Bytes file → Bytes g → Whole row said n file → Whole row said n g
      → said_from said 0 g ≡ said_from said 0 file → words_of row n g ≡ words_of row n file → g ≡ file
  whole_one n file g b c w x e f = sym (whole_file g c n x []) ∙ rw (e, f) (whole_file file b n w [])
