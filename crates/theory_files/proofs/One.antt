-- Laws of one block: how long it is, that a block is sound, that a sound block is the block of its content, and that no change of one
-- byte leaves it sound.
use mathlib.Core.Path.{◌≡◌, refl, sym, ap, ◌∙◌}
use mathlib.Core.Bool.{Bool, true, false}
use mathlib.Core.List.{List, [], ◌∷◌, ◌++◌, append_assoc}
use Prim.Native.Nat.{ℕ, zero, suc, ◌+◌, ◌-◌, ◌*◌, ◌^◌, ◌≤◌, ◌<◌}
use native.Mathlib.Nat.{not-suc-le-zero, le_of_suc-le-suc, mul-le-mul, eq_of_mul-eq-mul_left, mul_comm}
use native.Mathlib.Omega.{arith}
use lib.ListN.{length, take, drop, get_or, set, replicate, length-append, length-take, length-drop, length-replicate, length-set}
use lib.ListN.{take-append-drop}
use lib.Seq.{take-add, drop-drop, take_at, drop_at, take_all, take-set-lt, take-set-le, drop-set-add, get_or-drop, get_or-take, drop-set-lt}
use lib.Seq.{get_or-set_same}
use lib.Dec.{eqb, ltb}
use borrow.Author.Tests.{eqb-true, eq-eqb, ltb-true, ltb-false}
use Rattle.laws.proofs.Tests.{both_true, false_by}
use Rattle.rules_files.specs.Bytes.{little, number, number_at}
use Rattle.rules_files.specs.Blocks.{sum_from, check, checked, block, content_of, zeros, sound, block_bytes, checked_bytes, content_room}
use Rattle.laws.specs.Bounds.{none, some, Bytes}
use Rattle.laws.proofs.Bounds.{below_take, below_drop, below_append, below_set, below_zeros}
use Rattle.theory_files.proofs.Numbers.{little_length, little_bytes}
use Rattle.theory_files.proofs.Numbers.{number_two, number_four, little_number, number_same, number_below}

-- ---- the check

-- sums of places up to 508
sum_bound : (p : ℕ) {s : List ℕ} → Bytes s → p + length s ≤ 509 → sum_from p s ≤ 129540 * length s
unfolding sum_from
sum_bound p none h = omega arith
sum_bound p (some {x = b} {xs = s} l r) h =
    let c : b ≤ 255 = omega arith in
    let d : p ≤ checked_bytes = omega arith in
    let f : b * p ≤ 255 * checked_bytes = mul-le-mul c d in
    omega (arith, sum_bound (suc p) r (omega arith))

pub check_bound : {s : List ℕ} → Bytes s → length s ≡ checked_bytes → check s < 2 ^ 32
unfolding check
check_bound b e = omega (arith, sum_bound 1 b (omega arith))

-- one byte changed
sum_set : (p : ℕ) (s : List ℕ) (i v : ℕ) → i < length s → sum_from p (set s i v) + get_or s i 0 * (p + i) ≡ sum_from p s + v * (p + i)
unfolding sum_from
sum_set p [] i v h = absurd (not-suc-le-zero h)
sum_set p (b ∷ s) zero v h = let e : p + 0 ≡ p = omega arith in rw e (omega arith)
sum_set p (b ∷ s) (suc i) v h =
    let e : p + suc i ≡ suc p + i = omega arith in
    let f = sum_set (suc p) s i v (le_of_suc-le-suc h) in
    rw e (regroup (b * p) (sum_from (suc p) (set s i v)) (get_or s i 0 * (suc p + i)) (sum_from (suc p) s) (v * (suc p + i)) f)
  where
    regroup : (a x y z w : ℕ) → x + y ≡ z + w → a + x + y ≡ a + z + w
    regroup a x y z w f = omega arith

pub check_set : (s : List ℕ) (i v : ℕ) → i < length s → (get_or s i 0 ≡ v → ⊥) → check (set s i v) ≡ check s → ⊥
unfolding check
check_set s i v h ne e =
    let f = sum_set 1 s i v h in
    let g : get_or s i 0 * (1 + i) ≡ v * (1 + i) = cancel (sum_from 1 (set s i v)) (sum_from 1 s) (get_or s i 0 * (1 + i)) (v * (1 + i)) e f in
    ne (eq_of_mul-eq-mul_left (1 + i) (omega arith) (get_or s i 0) v (mul_comm (1 + i) (get_or s i 0) ∙ g ∙ mul_comm v (1 + i)))
  where
    cancel : (x y a b : ℕ) → x ≡ y → x + a ≡ y + b → a ≡ b
    cancel x y a b e f = omega arith

-- ---- zeros

zeros_replicate : (n : ℕ) → zeros (replicate n 0) ≡ true
unfolding zeros
zeros_replicate zero = refl
zeros_replicate (suc n) = zeros_replicate n

pub zeros_are : (s : List ℕ) → zeros s ≡ true → s ≡ replicate (length s) 0
unfolding zeros
zeros_are [] e = refl
zeros_are (b ∷ s) e =
    let c = both_true (eqb b 0) (zeros s) e in
    rw (eqb-true b 0 c.0) (ap (λ (l : List ℕ). 0 ∷ l) (zeros_are s c.1))

-- ---- a block and its parts

module _ (k n : ℕ) (content : List ℕ) (few : length content ≤ content_room) where
  pub checked_length : length (checked k n content) ≡ checked_bytes
  unfolding checked
  checked_length = rw (length-append, length-append, little_length, little_length, length-append, length-replicate) (omega arith)

  pub block_length : length (block k n content) ≡ block_bytes
  unfolding block
  block_length = rw (length-append, checked_length, little_length)

  pub checked_bytes_lem : Bytes content → Bytes (checked k n content)
  unfolding checked
  checked_bytes_lem b =
      below_append (below_append (little_bytes 2 k) (little_bytes 2 n))
      (below_append b (below_zeros (content_room - length content) (omega arith)))

  pub block_bytes_lem : Bytes content → Bytes (block k n content)
  unfolding block
  block_bytes_lem b = below_append (checked_bytes_lem b) (little_bytes 4 (check (checked k n content)))

  pub take_block : take checked_bytes (block k n content) ≡ checked k n content
  unfolding block
  take_block = take_at (checked k n content) (little 4 (check (checked k n content))) checked_bytes checked_length

  drop_block : drop checked_bytes (block k n content) ≡ little 4 (check (checked k n content))
  unfolding block
  drop_block = drop_at (checked k n content) (little 4 (check (checked k n content))) checked_bytes checked_length

  -- its bytes from the content on
  tail : List ℕ
  tail = (content ++ replicate (content_room - length content) 0) ++ little 4 (check (checked k n content))

  block_split : block k n content ≡ (little 2 k ++ little 2 n) ++ tail
  unfolding block checked tail
  block_split =
      append_assoc (little 2 k ++ little 2 n) (content ++ replicate (content_room - length content) 0)
      (little 4 (check (checked k n content)))

  head_length : length (little 2 k ++ little 2 n) ≡ 4
  head_length = rw (length-append, little_length, little_length)

  drop_head : drop 4 (block k n content) ≡ tail
  drop_head = ap (drop 4) block_split ∙ drop_at (little 2 k ++ little 2 n) tail 4 head_length

  number_of_lem : k < 65536 → number_at 2 0 (block k n content) ≡ k
  unfolding number_at
  number_of_lem h = rw (block_split, append_assoc, take_at (little 2 k) (little 2 n ++ tail) 2 (little_length 2 k)) (number_two k h)

  rows_of : n < 65536 → number_at 2 2 (block k n content) ≡ n
  unfolding number_at
  rows_of h =
      let d = drop_at (little 2 k) (little 2 n ++ tail) 2 (little_length 2 k) in
      rw (block_split, append_assoc, d, take_at (little 2 n) tail 2 (little_length 2 n)) (number_two n h)

  check_of : Bytes content → number_at 4 checked_bytes (block k n content) ≡ check (take checked_bytes (block k n content))
  unfolding number_at
  check_of b =
      let c = check (checked k n content) in
      rw (drop_block, take_block, take_all 4 (little 4 c) (omega (arith, little_length 4 c)))
      (number_four c (check_bound (checked_bytes_lem b) checked_length))

  filler_of : zeros (take (content_room - length content) (drop (4 + length content) (block k n content))) ≡ true
  unfolding tail
  filler_of =
      let z : List ℕ = replicate (content_room - length content) 0 in
      let c : List ℕ = little 4 (check (checked k n content)) in
      let d = drop_at content (z ++ c) (length content) refl in
      let t = take_at z c (content_room - length content) (length-replicate (content_room - length content) 0) in
      rw (← drop-drop (length content) 4 (block k n content), drop_head, append_assoc, d, t)
      (zeros_replicate (content_room - length content))

  -- the content comes back
  pub content_block : content_of (length content) (block k n content) ≡ content
  unfolding content_of tail
  content_block =
      rw (drop_head, append_assoc)
      (take_at content (replicate (content_room - length content) 0 ++ little 4 (check (checked k n content))) (length content) refl)

  -- a block is sound
  pub block_sound : k < 65536 → n < 65536 → Bytes content → sound k n (length content) (block k n content) ≡ true
  unfolding sound
  block_sound h l b =
      rw (eq-eqb _ k (number_of_lem h), eq-eqb _ n (rows_of l), filler_of, eq-eqb _ _ (check_of b))

-- ---- what a sound block holds

pub record Sound (k n size : ℕ) (b : List ℕ) : Type 0 where
  pub number_is : number_at 2 0 b ≡ k
  pub rows_are : number_at 2 2 b ≡ n
  pub filler : zeros (take (content_room - size) (drop (4 + size) b)) ≡ true
  pub check_is : number_at 4 checked_bytes b ≡ check (take checked_bytes b)

pub sound_holds : (k n size : ℕ) (b : List ℕ) → sound k n size b ≡ true → Sound k n size b
unfolding sound
sound_holds k n size b e =
    let x = both_true _ _ e in
    let y = both_true _ _ x.0 in
    let z = both_true _ _ y.0 in
    record { number_is = eqb-true _ k z.0; rows_are = eqb-true _ n z.1; filler = y.1; check_is = eqb-true _ _ x.1 }

pub holds_sound : (k n size : ℕ) (b : List ℕ) → Sound k n size b → sound k n size b ≡ true
unfolding sound
holds_sound k n size b s =
    rw (eq-eqb _ k s.number_is, eq-eqb _ n s.rows_are, s.filler, eq-eqb _ _ s.check_is)

module _ (k n size : ℕ) {b : List ℕ} (bytes : Bytes b) (whole : length b ≡ block_bytes) (s : Sound k n size b) where
  number_bytes : little 2 k ≡ take 2 b
  unfolding number_at
  number_bytes =
      let l : length (take 2 b) ≡ 2 = length-take 2 b ∙ omega arith in
      rw (← s.number_is) (rw l at (little_number (below_take 2 bytes)))

  rows_bytes : little 2 n ≡ take 2 (drop 2 b)
  unfolding number_at
  rows_bytes =
      let l : length (take 2 (drop 2 b)) ≡ 2 = length-take 2 (drop 2 b) ∙ omega (arith, length-drop 2 b) in
      rw (← s.rows_are) (rw l at (little_number (below_take 2 (below_drop 2 bytes))))

  check_bytes : little 4 (check (take checked_bytes b)) ≡ drop checked_bytes b
  unfolding number_at
  check_bytes =
      let d : length (drop checked_bytes b) ≡ 4 = length-drop checked_bytes b ∙ omega arith in
      let t : take 4 (drop checked_bytes b) ≡ drop checked_bytes b = take_all 4 (drop checked_bytes b) (omega arith) in
      rw (← s.check_is, t) (rw d at (little_number (below_drop checked_bytes bytes)))

  module _ (few : size ≤ content_room) where
    pub content_length : length (content_of size b) ≡ size
    unfolding content_of
    content_length = length-take size (drop 4 b) ∙ omega (arith, length-drop 4 b)

    filler_bytes : replicate (content_room - size) 0 ≡ take (content_room - size) (drop (4 + size) b)
    filler_bytes =
        let z : List ℕ = take (content_room - size) (drop (4 + size) b) in
        let l : length z ≡ content_room - size =
        length-take (content_room - size) (drop (4 + size) b) ∙ omega (arith, length-drop (4 + size) b) in
        ap (λ (x : ℕ). replicate x 0) (sym l) ∙ sym (zeros_are z s.filler)

    checked_is : checked k n (content_of size b) ≡ take checked_bytes b
    unfolding checked content_of
    checked_is =
        let e : content_room - length (take size (drop 4 b)) ≡ content_room - size = ap (λ (x : ℕ). content_room - x) content_length in
        let f : size + (content_room - size) ≡ content_room = omega arith in
        let j = take-add size (content_room - size) (drop 4 b) in
        rw (number_bytes, rows_bytes, e, filler_bytes, ← drop-drop size 4 b, ← j, f, ← take-add 2 2 b) (sym (take-add 4 content_room b))

    -- a sound block is the block of its content
    pub sound_block : block k n (content_of size b) ≡ b
    unfolding block
    sound_block = rw (checked_is, check_bytes) (take-append-drop checked_bytes b)

  pub sound_number : k < 65536
  unfolding number_at
  sound_number = let l : length (take 2 b) ≤ 2 = omega (arith, length-take 2 b) in rw (← s.number_is) (number_below (below_take 2 bytes) l)

-- ---- one byte changed

module _ (k n size : ℕ) {b : List ℕ} (bytes : Bytes b) (whole : length b ≡ block_bytes) (e : sound k n size b ≡ true) (i v : ℕ)
    (h : i < block_bytes) (l : v < 256) (ne : get_or b i 0 ≡ v → ⊥) where
  -- the check is another
  Checks : Type 0
  Checks = number_at 4 checked_bytes (set b i v) ≡ check (take checked_bytes (set b i v))

  in_front : i < checked_bytes → Checks → ⊥
  unfolding number_at Checks
  in_front f s =
      let o = sound_holds k n size b e in
      let a : drop checked_bytes (set b i v) ≡ drop checked_bytes b = drop-set-lt checked_bytes b i v f in
      let c : take checked_bytes (set b i v) ≡ set (take checked_bytes b) i v = take-set-lt checked_bytes b i v f in
      let z = rw (a, c) at s in
      check_set (take checked_bytes b) i v (omega (arith, length-take checked_bytes b)) (λ q. ne (sym (get_or-take checked_bytes b i 0 f) ∙ q))
      (sym z ∙ o.check_is)

  behind : (j : ℕ) → i ≡ checked_bytes + j → Checks → ⊥
  unfolding number_at Checks
  behind j f s =
      let o = sound_holds k n size b e in
      let a : drop checked_bytes (set b i v) ≡ set (drop checked_bytes b) j v =
      ap (λ (x : ℕ). drop checked_bytes (set b x v)) f ∙ drop-set-add checked_bytes b j v in
      let c : take checked_bytes (set b i v) ≡ take checked_bytes b = take-set-le checked_bytes b i v (omega arith) in
      let z = rw (a, c) at s in
      let d : length (drop checked_bytes b) ≡ 4 = length-drop checked_bytes b ∙ omega arith in
      let t : take 4 (drop checked_bytes b) ≡ drop checked_bytes b = take_all 4 (drop checked_bytes b) (omega arith) in
      let u : take 4 (set (drop checked_bytes b) j v) ≡ set (drop checked_bytes b) j v =
      take_all 4 _ (omega (arith, length-set (drop checked_bytes b) j v)) in
      let m : number (set (drop checked_bytes b) j v) ≡ number (drop checked_bytes b) = rw u at z ∙ sym (rw t at o.check_is) in
      let w =
      number_same (below_set j v l (below_drop checked_bytes bytes)) (below_drop checked_bytes bytes)
      (length-set (drop checked_bytes b) j v) m in
      let g : get_or (drop checked_bytes b) j 0 ≡ get_or b i 0 = get_or-drop checked_bytes b j 0 ∙ ap (λ (x : ℕ). get_or b x 0) (sym f) in
      ne (sym g ∙ ap (λ (x : List ℕ). get_or x j 0) (sym w) ∙ get_or-set_same (drop checked_bytes b) j v 0 (omega arith))

  -- any one changed byte is found, whatever number, row count and content the block is judged by
  pub changed_judged : (k' n' size' : ℕ) → sound k' n' size' (set b i v) ≡ false
  unfolding Checks
  changed_judged k' n' size' =
      false_by (sound k' n' size' (set b i v)) (λ t. pick (sound_holds k' n' size' (set b i v) t).check_is (ltb i checked_bytes) refl)
    where
      pick : Checks → (t : Bool) → ltb i checked_bytes ≡ t → ⊥
      pick s true f = in_front (ltb-true i checked_bytes f) s
      pick s false f = let g : checked_bytes ≤ i = ltb-false i checked_bytes f in behind (i - checked_bytes) (omega arith) s

  -- by its own it is found too
  pub changed_unsound : sound k n size (set b i v) ≡ false
  changed_unsound = changed_judged k n size
