-- What is told of a table, and the tests in front of it, over the words of a row and the words that block 0 says. The tests let through
-- exactly the files whose blocks are all sound, and any one changed byte of such a file is 41 with its block.
use mathlib.Core.Path.{◌≡◌, refl, sym, ap, ◌∙◌}
use mathlib.Core.Bool.{Bool, true, false, cond, not}
use mathlib.Core.List.{List}
use Prim.Native.Nat.{ℕ, ◌+◌, ◌-◌, ◌*◌, ◌/◌, ◌≤◌, ◌<◌}
use native.Mathlib.Omega.{arith}
use lib.ListN.{length, take, get_or, set, length-set}
use lib.Seq.{take-set-le}
use lib.Dec.{eqb, ltb}
use borrow.Author.Tests.{eqb-true, eq-eqb, lt-ltb, le-ltb, ltb-true, ltb-false, not-false}
use Rattle.rules.specs.Outcomes.{Ending}
use Rattle.rules.specs.declared.Outer.TheVariants.{NoRowRoom}
use Rattle.rules.specs.declared.Table.{Table}
use Rattle.rules.specs.Rows.{well_formed}
use Rattle.rules_files.specs.declared.Fault.{Fault}
use Rattle.rules_files.specs.declared.Fault.TheVariants.{Outer, BadBlock, WrongLength, NoTable, OtherForm}
use Rattle.rules_files.specs.Bytes.{word_bytes}
use Rattle.rules_files.specs.Blocks.{block_bytes, sound, blocks_for, file_length}
use Rattle.rules_files.specs.Files.{most_rows, rows_told, read_told}
use Rattle.laws.specs.Bounds.{Bytes}
use Rattle.theory_files.specs.Whole.{Fits, Whole, sound_of, whole_told}
use Rattle.theory_files.proofs.Whole.{first_changed, others_changed, changed_inside}
use Rattle.std.specs.Prelude.{Result, Ok, Err, Option, Some, None}

-- a test that refuses has failed
pub passed : (b : Bool) (why : Fault) (y : Result Table Fault) (t : Table) → cond b (Err why) y ≡ Ok t
    → (b ≡ false) × (y ≡ Ok t)
passed true why y t e = absurd (let z : ◌≡◌ {A = ℕ} 0 1 = cc in omega arith)
passed false why y t e = (refl, e)

-- ---- what is told of the rows

-- the table is told behind 43 and 4
pub record Last (ws : List ℕ) (room : ℕ) (u t : Table) : Type 0 where
  pub same : u ≡ t
  pub few : u.count ≤ most_rows
  pub well : well_formed ws u ≡ true
  pub room_is : u.count ≤ room

-- what is known where a table is told of its rows
pub last_of : (ws : List ℕ) (room : ℕ) (u t : Table) → rows_told ws room u ≡ Ok t → Last ws room u t
unfolding rows_told
last_of ws room u t q =
    let full : (Result Table Fault) = cond (ltb room u.count) (Err (Outer NoRowRoom)) (Ok u) in
    let formed : (Result Table Fault) = cond (not (well_formed ws u)) (Err NoTable) full in
    let no = passed (ltb room u.count) (Outer NoRowRoom) (Ok u) t in
    let b = passed (not (well_formed ws u)) NoTable full t in
    let a = passed (ltb most_rows u.count) NoTable formed t q in
    let c = b a.1 in
    let d = no c.1 in
    record {
      same = rows_same d.1;
      few = ltb-false most_rows u.count a.0;
      well = not-false (well_formed ws u) c.0;
      room_is = ltb-false room u.count d.0;
    }
  where
    rows_same : ◌≡◌ {A = Result Table Fault} (Ok u) (Ok t) → u ≡ t
    rows_same e = cc

-- what is read, behind 43
pub record ReadOf (ws : List ℕ) (room count size : ℕ) (e : Option Ending) (t : Table) : Type 0 where
  pub count_is : t.count ≡ count
  pub size_is : t.length ≡ size
  pub ending : e ≡ Some t.ending
  pub few : t.count ≤ most_rows
  pub well : well_formed ws t ≡ true
  pub room_is : t.count ≤ room

-- what is known where a table is told of its count, its length and its ending too
pub read_of : (ws : List ℕ) (room count size : ℕ) (e : Option Ending) (t : Table) → read_told ws room count size e ≡ Ok t
    → ReadOf ws room count size e t
unfolding read_told
read_of ws room count size None t q = absurd (let z : ◌≡◌ {A = ℕ} 0 1 = cc in omega arith)
read_of ws room count size (Some e) t q =
    let u : Table = record { count = count; length = size; ending = e } in
    let l = last_of ws room u t q in
    let n : t.count ≡ count = ap (λ (x : Table). x.count) (sym l.same) in
    record {
      count_is = n;
      size_is = ap (λ (x : Table). x.length) (sym l.same);
      ending = ap (λ (x : Table). Some x.ending) l.same;
      few = rw n l.few;
      well = rw l.same at l.well;
      room_is = rw n l.room_is;
    }

-- the ending, then 43, then 4
module _ (ws : List ℕ) (room count size : ℕ) where
  pub told_nothing : (e : Option Ending) → e ≡ None → read_told ws room count size e ≡ Err NoTable
  unfolding read_told
  told_nothing e f = rw f

  pub told_rows : (e : Option Ending) (how : Ending) → e ≡ Some how
      → read_told ws room count size e ≡ rows_told ws room (record { count = count; length = size; ending = how })
  unfolding read_told
  told_rows e how f = rw f

module _ (ws : List ℕ) (room : ℕ) (t : Table) where
  pub told_many : most_rows < t.count → rows_told ws room t ≡ Err NoTable
  unfolding rows_told
  told_many h = rw (lt-ltb most_rows t.count h)

  module _ (few : t.count ≤ most_rows) where
    pub told_unformed : well_formed ws t ≡ false → rows_told ws room t ≡ Err NoTable
    unfolding rows_told
    told_unformed e = rw (le-ltb most_rows t.count few, e)

    pub told_full : well_formed ws t ≡ true → room < t.count → rows_told ws room t ≡ Err (Outer NoRowRoom)
    unfolding rows_told
    told_full e h = rw (le-ltb most_rows t.count few, e, lt-ltb room t.count h)

    pub told_table : well_formed ws t ≡ true → t.count ≤ room → rows_told ws room t ≡ Ok t
    unfolding rows_told
    told_table e h = rw (le-ltb most_rows t.count few, e, le-ltb room t.count h)

-- ---- the tests in front of it

-- what the tests have shown where a table is told
pub record IsTold (row said n : ℕ) (file : List ℕ) (other : Bool) (rest : Result Table Fault) (t : Table) : Type 0 where
  pub whole : Whole row said n file
  pub form : other ≡ false
  pub told : rest ≡ Ok t

module _ (row said n : ℕ) (file : List ℕ) (other : Bool) (rest : Result Table Fault) where
  -- a table is told of a file whose blocks are all sound
  pub told_whole : (t : Table) → whole_told row said n file other rest ≡ Ok t → IsTold row said n file other rest t
  unfolding whole_told
  told_whole t q =
      let short = ltb (length file) block_bytes in
      let good = sound 0 0 (said * word_bytes) (take block_bytes file) in
      let size = file_length (row * word_bytes) n in
      let k = sound_of row n file in
      let unsound = ltb k (blocks_for (row * word_bytes) n) in
      let behind : (Result Table Fault) = cond unsound (Err (BadBlock (1 + k))) rest in
      let sized : (Result Table Fault) = cond (not (eqb (length file) size)) (Err WrongLength) behind in
      let formed : (Result Table Fault) = cond other (Err OtherForm) sized in
      let a = passed short WrongLength (cond (not good) (Err (BadBlock 0)) formed) t q in
      let b = passed (not good) (BadBlock 0) formed t a.1 in
      let c = passed other OtherForm sized t b.1 in
      let d = passed (not (eqb (length file) size)) WrongLength behind t c.1 in
      let e = passed unsound (BadBlock (1 + k)) rest t d.1 in
      let w : Whole row said n file = record {
        long = ltb-false (length file) block_bytes a.0;
        first = not-false good b.0;
        whole = eqb-true (length file) size (not-false (eqb (length file) size) d.0);
        others = ltb-false k (blocks_for (row * word_bytes) n) e.0;
      } in
      record { whole = w; form = c.0; told = e.1 }

  -- and of such a file what is told is what is told of its rows
  pub whole_told_lem : Whole row said n file → other ≡ false → whole_told row said n file other rest ≡ rest
  unfolding whole_told
  whole_told_lem w e =
      let size = eq-eqb (length file) (file_length (row * word_bytes) n) w.whole in
      let others = le-ltb (sound_of row n file) (blocks_for (row * word_bytes) n) w.others in
      rw (le-ltb (length file) block_bytes w.long, w.first, e, size, others)

-- ---- one byte changed

module _ {row said : ℕ} (fits : Fits row said) (file : List ℕ) (bytes : Bytes file) (n : ℕ) (w : Whole row said n file)
    (i v : ℕ) (h : i < length file) (l : v < 256) (ne : get_or file i 0 ≡ v → ⊥) where
  long_now : block_bytes ≤ length (set file i v)
  long_now = rw length-set w.long

  -- in block 0, whatever form it is judged by
  pub first_bad : i < block_bytes → (words says k : ℕ) (other : Bool) (rest : Result Table Fault)
      → whole_told words says k (set file i v) other rest ≡ Err (BadBlock 0)
  unfolding whole_told
  first_bad g words says k other rest =
      rw (le-ltb (length (set file i v)) block_bytes long_now, first_changed fits file bytes n w i v h l ne g (says * word_bytes))

  other_bad : block_bytes ≤ i → (rest : Result Table Fault) → whole_told row said n (set file i v) false rest ≡ Err (BadBlock (i / block_bytes))
  unfolding whole_told
  other_bad g rest =
      let s = others_changed fits file bytes n w i v h l ne g in
      let x : 1 + (i - block_bytes) / block_bytes ≡ i / block_bytes = omega arith in
      let first : sound 0 0 (said * word_bytes) (take block_bytes (set file i v)) ≡ true =
      rw (take-set-le block_bytes file i v g) w.first in
      let size : eqb (length (set file i v)) (file_length (row * word_bytes) n) ≡ true = eq-eqb _ _ (length-set file i v ∙ w.whole) in
      let others = lt-ltb _ _ (changed_inside fits file bytes n w i v h l ne g) in
      rw (le-ltb (length (set file i v)) block_bytes long_now, first, size, s, others, x)

  -- any one changed byte is 41, with its block; behind block 0 it leaves what block 0 says
  pub changed_bad : (k : ℕ) (other : Bool) (rest : Result Table Fault) → (block_bytes ≤ i → (k ≡ n) × (other ≡ false))
      → whole_told row said k (set file i v) other rest ≡ Err (BadBlock (i / block_bytes))
  changed_bad k other rest kept = go (ltb i block_bytes) refl
    where
      go : (t : Bool) → ltb i block_bytes ≡ t → whole_told row said k (set file i v) other rest ≡ Err (BadBlock (i / block_bytes))
      go true e =
          let g = ltb-true i block_bytes e in
          let z : i / block_bytes ≡ 0 = omega arith in
          rw z (first_bad g row said k other rest)
      go false e = let g = ltb-false i block_bytes e in rw ((kept g).0, (kept g).1) (other_bad g rest)
