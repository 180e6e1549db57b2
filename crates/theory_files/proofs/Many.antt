-- Laws of rows in blocks, over any row size: what is written is sound and is read back, what is sound is what is written, and the block
-- of a changed byte is the first that is not sound.
use mathlib.Core.Path.{◌≡◌, refl, sym, ap, ◌∙◌}
use mathlib.Core.Bool.{Bool, true, false}
use mathlib.Core.List.{List, ◌++◌, append_assoc}
use Prim.Native.Nat.{ℕ, zero, suc, ◌+◌, ◌-◌, ◌*◌, ◌/◌, ◌≤◌, ◌<◌, min}
use native.Mathlib.Nat.{le_of_suc-le-suc, mul-le-mul_left, mul-div-le, le-div_iff_mul-le, add-div_right, div-eq_of_lt, mul-add, div-le_self}
use native.Mathlib.Nat.{div-lt_iff_lt-mul}
use native.Mathlib.Omega.{arith}
use lib.ListN.{length, take, drop, get_or, set, length-append, length-take, length-drop, take-append-drop}
use lib.Seq.{take-add, take_at, drop_at, take-set-lt, take-set-le, drop-set-add, get_or-drop, get_or-take}
use lib.Dec.{ltb}
use borrow.Author.Tests.{ltb-true, ltb-false}
use Rattle.rules_files.specs.Blocks.{block, content_of, sound, per_block, rows_here, bytes_here, blocks_for, blocks_from, sound_from, body_from}
use Rattle.rules_files.specs.Blocks.{block_bytes, content_room}
use Rattle.laws.specs.Bounds.{none, some, Bytes}
use Rattle.laws.proofs.Bounds.{below_take, below_drop, below_append}
use Rattle.theory_files.proofs.One.{block_length, block_bytes_lem, block_sound, content_block, sound_holds, sound_block, changed_unsound}

-- ---- how many

-- n over p, rounded up
pub up_none : (p : ℕ) → 0 < p → (0 + (p - 1)) / p ≡ 0
up_none p h = let l : 0 + (p - 1) < p = omega arith in div-eq_of_lt l

pub up_more : (p n : ℕ) → 0 < p → 0 < n → (n + (p - 1)) / p ≡ suc (((n - p) + (p - 1)) / p)
up_more p n h l = go (ltb n p) refl
  where
    go : (t : Bool) → ltb n p ≡ t → (n + (p - 1)) / p ≡ suc (((n - p) + (p - 1)) / p)
    go true e =
        let f : n < p = ltb-true n p e in
        let x : n + (p - 1) ≡ (n - 1) + p = omega arith in
        let y : n - p ≡ 0 = omega arith in
        let z : n - 1 < p = omega arith in
        rw (x, y, add-div_right (n - 1) h, div-eq_of_lt z, up_none p h)
    go false e =
        let f : p ≤ n = ltb-false n p e in
        let x : n + (p - 1) ≡ ((n - p) + (p - 1)) + p = omega arith in
        rw (x, add-div_right ((n - p) + (p - 1)) h) (omega arith)

-- rows of so many bytes: some stand in a block
module _ (size : ℕ) (small : 0 < size) (large : size ≤ content_room) where
  pub per_pos : 0 < per_block size
  per_pos = (le-div_iff_mul-le {k = size} {x = 1} {y = content_room} small).1 (omega arith)

  pub here_few : (n : ℕ) → bytes_here size n ≤ content_room
  here_few n =
      let a : min (content_room / size) n ≤ content_room / size = omega arith in
      let b : size * min (content_room / size) n ≤ size * (content_room / size) = mul-le-mul_left size a in
      omega (arith, mul-div-le content_room size)

  rows_few : (n : ℕ) → rows_here size n < 65536
  rows_few n = omega (arith, div-le_self content_room size)

  -- the rows of the next block, and those behind it
  pub here_split : (n : ℕ) → size * n ≡ bytes_here size n + size * (n - per_block size)
  here_split n =
      let e : n ≡ min (content_room / size) n + (n - content_room / size) = omega arith in
      ap (λ (x : ℕ). size * x) e ∙ mul-add size (min (content_room / size) n) (n - content_room / size)

  pub blocks_none : blocks_for size 0 ≡ 0
  unfolding blocks_for
  blocks_none = up_none (content_room / size) per_pos

  pub blocks_more : (n : ℕ) → 0 < n → blocks_for size n ≡ suc (blocks_for size (n - per_block size))
  unfolding blocks_for
  blocks_more n h = up_more (content_room / size) n per_pos h

  -- n rows take m blocks
  pub blocks_next : (n m : ℕ) → blocks_for size n ≡ suc m → blocks_for size (n - per_block size) ≡ m
  blocks_next zero m e = absurd (let f = blocks_none in omega arith)
  blocks_next (suc n) m e = let f = blocks_more (suc n) (omega arith) in omega arith

  pub blocks_zero : (n : ℕ) → blocks_for size n ≡ 0 → n ≡ 0
  blocks_zero zero e = refl
  blocks_zero (suc n) e = absurd (let f = blocks_more (suc n) (omega arith) in omega arith)

  -- no more than there are rows
  pub blocks_few : (n : ℕ) → blocks_for size n ≤ n
  unfolding blocks_for
  blocks_few n =
      let p = content_room / size in
      let a : n * 1 ≤ n * p = mul-le-mul_left n per_pos in
      let b : n + (p - 1) < suc n * p = omega (arith, per_pos) in
      le_of_suc-le-suc ((div-lt_iff_lt-mul per_pos).1 b)

  -- ---- the next block, sound or not

  pub first_sound : (m k n : ℕ) (s : List ℕ) → sound k (rows_here size n) (bytes_here size n) (take block_bytes s) ≡ true
      → sound_from size (suc m) k n s ≡ suc (sound_from size m (suc k) (n - per_block size) (drop block_bytes s))
  unfolding sound_from
  first_sound m k n s e = rw (sound_from, e)

  pub first_not : (m k n : ℕ) (s : List ℕ) → sound k (rows_here size n) (bytes_here size n) (take block_bytes s) ≡ false
      → sound_from size (suc m) k n s ≡ 0
  unfolding sound_from
  first_not m k n s e = rw (sound_from, e)

  -- ---- written

  part_few : (n : ℕ) (body : List ℕ) → length (take (bytes_here size n) body) ≤ content_room
  part_few n body = omega (arith, here_few n, length-take (bytes_here size n) body)

  pub blocks_length : (m k n : ℕ) (body : List ℕ) → length (blocks_from size m k n body) ≡ block_bytes * m
  unfolding blocks_from
  blocks_length zero k n body = refl
  blocks_length (suc m) k n body =
      let c : List ℕ = take (bytes_here size n) body in
      let r = blocks_length m (suc k) (n - per_block size) (drop (bytes_here size n) body) in
      rw (length-append, block_length k (rows_here size n) c (part_few n body), r) (omega arith)

  pub blocks_bytes : (m k n : ℕ) {body : List ℕ} → Bytes body → Bytes (blocks_from size m k n body)
  unfolding blocks_from
  blocks_bytes zero k n b = none
  blocks_bytes (suc m) k n {body} b =
      below_append (block_bytes_lem k (rows_here size n) (take (bytes_here size n) body) (part_few n body) (below_take (bytes_here size n) b))
      (blocks_bytes m (suc k) (n - per_block size) (below_drop (bytes_here size n) b))

  -- the next block, where all rows are there
  module _ (n : ℕ) (body : List ℕ) (all : size * n ≤ length body) where
    part_length : length (take (bytes_here size n) body) ≡ bytes_here size n
    part_length = length-take (bytes_here size n) body ∙ omega (arith, here_split n)

    rest_length : size * (n - per_block size) ≤ length (drop (bytes_here size n) body)
    rest_length = omega (arith, here_split n, length-drop (bytes_here size n) body)

  -- what is written is sound
  pub written_sound : (m k n : ℕ) {body : List ℕ} (tail : List ℕ) → blocks_for size n ≡ m → k + m ≤ 65536 → size * n ≤ length body
      → Bytes body
      → sound_from size m k n (blocks_from size m k n body ++ tail) ≡ m
  unfolding blocks_from sound_from
  written_sound zero k n tail e h l b = refl
  written_sound (suc m) k n {body} tail e h l b =
      let c : List ℕ = take (bytes_here size n) body in
      let x : List ℕ = block k (rows_here size n) c in
      let rest : List ℕ = blocks_from size m (suc k) (n - per_block size) (drop (bytes_here size n) body) in
      let w : length x ≡ block_bytes = block_length k (rows_here size n) c (part_few n body) in
      let s : sound k (rows_here size n) (bytes_here size n) x ≡ true =
      rw (part_length n body l) at
      (block_sound k (rows_here size n) c (part_few n body) (omega arith) (rows_few n) (below_take (bytes_here size n) b)) in
      let i =
      written_sound m (suc k) (n - per_block size) tail (blocks_next n m e) (omega arith) (rest_length n body l)
      (below_drop (bytes_here size n) b) in
      rw (append_assoc x rest tail)
      (first_sound m k n (x ++ (rest ++ tail)) (rw (take_at x (rest ++ tail) block_bytes w) s)
      ∙ rw (drop_at x (rest ++ tail) block_bytes w) (ap suc i))

  -- and is read back
  pub written_read : (m k n : ℕ) (body tail : List ℕ) → blocks_for size n ≡ m → size * n ≤ length body
      → body_from size m n (blocks_from size m k n body ++ tail) ≡ take (size * n) body
  unfolding blocks_from body_from
  written_read zero k n body tail e l = let z : n ≡ 0 = blocks_zero n e in rw z (let f : size * 0 ≡ 0 = omega arith in rw f)
  written_read (suc m) k n body tail e l =
      let c : List ℕ = take (bytes_here size n) body in
      let x : List ℕ = block k (rows_here size n) c in
      let rest : List ℕ = blocks_from size m (suc k) (n - per_block size) (drop (bytes_here size n) body) in
      let w : length x ≡ block_bytes = block_length k (rows_here size n) c (part_few n body) in
      let s : content_of (bytes_here size n) x ≡ c = rw (part_length n body l) at (content_block k (rows_here size n) c (part_few n body)) in
      let i = written_read m (suc k) (n - per_block size) (drop (bytes_here size n) body) tail (blocks_next n m e) (rest_length n body l) in
      rw (append_assoc x rest tail, take_at x (rest ++ tail) block_bytes w, drop_at x (rest ++ tail) block_bytes w, s, i, here_split n)
      (sym (take-add (bytes_here size n) (size * (n - per_block size)) body))

  -- ---- read

  -- the next block is sound, and so are those behind it
  sound_step : (m k n : ℕ) (s : List ℕ) → sound_from size (suc m) k n s ≡ suc m
      → (sound k (rows_here size n) (bytes_here size n) (take block_bytes s) ≡ true)
      × (sound_from size m (suc k) (n - per_block size) (drop block_bytes s) ≡ m)
  unfolding sound_from
  sound_step m k n s e = go (sound k (rows_here size n) (bytes_here size n) (take block_bytes s)) refl e
    where
      go : (t : Bool) → sound k (rows_here size n) (bytes_here size n) (take block_bytes s) ≡ t
          → elim t as (λ _. ℕ) [ true ↦ suc (sound_from size m (suc k) (n - per_block size) (drop block_bytes s)) | false ↦ 0 ] ≡ suc m
          → (sound k (rows_here size n) (bytes_here size n) (take block_bytes s) ≡ true)
          × (sound_from size m (suc k) (n - per_block size) (drop block_bytes s) ≡ m)
      go true f e = (f, omega arith)
      go false f e = absurd (omega arith)

  pub sound_most : (m k n : ℕ) (s : List ℕ) → sound_from size m k n s ≤ m
  unfolding sound_from
  sound_most zero k n s = omega arith
  sound_most (suc m) k n s =
      go (sound k (rows_here size n) (bytes_here size n) (take block_bytes s)) (sound_most m (suc k) (n - per_block size) (drop block_bytes s))
    where
      go : (t : Bool) → sound_from size m (suc k) (n - per_block size) (drop block_bytes s) ≤ m
          → elim t as (λ _. ℕ) [ true ↦ suc (sound_from size m (suc k) (n - per_block size) (drop block_bytes s)) | false ↦ 0 ] ≤ suc m
      go true h = omega arith
      go false h = omega arith

  -- one block in front of so many
  module _ (m : ℕ) (s : List ℕ) (whole : length s ≡ block_bytes * suc m) where
    front_length : length (take block_bytes s) ≡ block_bytes
    front_length = length-take block_bytes s ∙ omega arith

    behind_length : length (drop block_bytes s) ≡ block_bytes * m
    behind_length = length-drop block_bytes s ∙ omega arith

  content_size : (n : ℕ) (b : List ℕ) → length b ≡ block_bytes → length (content_of (bytes_here size n) b) ≡ bytes_here size n
  unfolding content_of
  content_size n b w = length-take (bytes_here size n) (drop 4 b) ∙ omega (arith, length-drop 4 b, here_few n)

  pub body_length : (m n : ℕ) (s : List ℕ) → blocks_for size n ≡ m → length s ≡ block_bytes * m → length (body_from size m n s) ≡ size * n
  unfolding body_from
  body_length zero n s e w = let z : n ≡ 0 = blocks_zero n e in rw z (omega arith)
  body_length (suc m) n s e w =
      let r = body_length m (n - per_block size) (drop block_bytes s) (blocks_next n m e) (behind_length m s w) in
      rw (length-append, content_size n (take block_bytes s) (front_length m s w), r) (sym (here_split n))

  pub body_bytes : (m n : ℕ) {s : List ℕ} → Bytes s → Bytes (body_from size m n s)
  unfolding body_from content_of
  body_bytes zero n b = none
  body_bytes (suc m) n b =
      below_append (below_take (bytes_here size n) (below_drop 4 (below_take block_bytes b)))
      (body_bytes m (n - per_block size) (below_drop block_bytes b))

  -- what is sound is what is written
  pub read_written : (m k n : ℕ) {s : List ℕ} (more : List ℕ) → Bytes s → length s ≡ block_bytes * m → sound_from size m k n s ≡ m
      → blocks_from size m k n (body_from size m n s ++ more) ≡ s
  unfolding blocks_from body_from
  read_written zero k n more none w e = refl
  read_written zero k n more (some h b) w e = absurd (omega arith)
  read_written (suc m) k n {s} more b w e =
      let f = sound_step m k n s e in
      let t : List ℕ = take block_bytes s in
      let c : List ℕ = content_of (bytes_here size n) t in
      let rest : List ℕ = body_from size m (n - per_block size) (drop block_bytes s) in
      let l : length c ≡ bytes_here size n = content_size n t (front_length m s w) in
      let g : block k (rows_here size n) c ≡ t =
      sound_block k (rows_here size n) (bytes_here size n) (below_take block_bytes b) (front_length m s w)
      (sound_holds k (rows_here size n) (bytes_here size n) t f.0) (here_few n) in
      let i = read_written m (suc k) (n - per_block size) more (below_drop block_bytes b) (behind_length m s w) f.1 in
      rw (append_assoc c rest more, take_at c (rest ++ more) (bytes_here size n) l, drop_at c (rest ++ more) (bytes_here size n) l, g, i)
      (take-append-drop block_bytes s)

  -- ---- one byte changed

  pub changed_first : (m k n : ℕ) {s : List ℕ} → Bytes s → length s ≡ block_bytes * m → sound_from size m k n s ≡ m
      → (i v : ℕ) → i < block_bytes * m → v < 256 → (get_or s i 0 ≡ v → ⊥) → sound_from size m k n (set s i v) ≡ i / block_bytes
  changed_first zero k n b w e i v h l ne = absurd (omega arith)
  changed_first (suc m) k n {s} b w e i v h l ne =
      let c = below_drop block_bytes b in
      let r = changed_first m (suc k) (n - per_block size) c (behind_length m s w) f.1 (i - block_bytes) v in
      go (λ o u. r o l u) (ltb i block_bytes) refl
    where
      Rest : Type 0
      Rest =
          i - block_bytes < block_bytes * m → (get_or (drop block_bytes s) (i - block_bytes) 0 ≡ v → ⊥)
          → sound_from size m (suc k) (n - per_block size) (set (drop block_bytes s) (i - block_bytes) v) ≡ (i - block_bytes) / block_bytes

      f : (sound k (rows_here size n) (bytes_here size n) (take block_bytes s) ≡ true)
          × (sound_from size m (suc k) (n - per_block size) (drop block_bytes s) ≡ m)
      f = sound_step m k n s e

      here : i < block_bytes → sound_from size (suc m) k n (set s i v) ≡ i / block_bytes
      here g =
          let u =
          changed_unsound k (rows_here size n) (bytes_here size n) (below_take block_bytes b) (front_length m s w) f.0 i v g l
          (λ q. ne (sym (get_or-take block_bytes s i 0 g) ∙ q)) in
          first_not m k n (set s i v) (rw (take-set-lt block_bytes s i v g) u) ∙ omega arith

      later : Rest → block_bytes ≤ i → sound_from size (suc m) k n (set s i v) ≡ i / block_bytes
      later rest g =
          let j : i ≡ block_bytes + (i - block_bytes) = omega arith in
          let d : drop block_bytes (set s i v) ≡ set (drop block_bytes s) (i - block_bytes) v =
          ap (λ (x : ℕ). drop block_bytes (set s x v)) j ∙ drop-set-add block_bytes s (i - block_bytes) v in
          let o : get_or (drop block_bytes s) (i - block_bytes) 0 ≡ get_or s i 0 =
          get_or-drop block_bytes s (i - block_bytes) 0 ∙ ap (λ (x : ℕ). get_or s x 0) (sym j) in
          let r = rest (omega arith) (λ q. ne (sym o ∙ q)) in
          first_sound m k n (set s i v) (rw (take-set-le block_bytes s i v g) f.0) ∙ rw (d, r) (omega arith)

      go : Rest → (t : Bool) → ltb i block_bytes ≡ t → sound_from size (suc m) k n (set s i v) ≡ i / block_bytes
      go rest true t = here (ltb-true i block_bytes t)
      go rest false t = later rest (ltb-false i block_bytes t)
