-- Laws of heads: kinds of rows of both, and the rows that meet a test, one row at a time.
use mathlib.Core.Path.{◌≡◌, sym, ap}
use mathlib.Core.Bool.{Bool, true, false, cond}
use mathlib.Core.List.{List, []}
use mathlib.Core.Logic.{◌⊎◌, inl, inr}
use Prim.Native.Nat.{ℕ, suc, ◌+◌, ◌-◌, ◌*◌, ◌≤◌, ◌<◌}
use native.Mathlib.Omega.{arith}
use lib.ListN.{length, get_or, length-map}
use borrow.Author.Tests.{lt-ltb, le-ltb, eq-eqb, ne_eqb}
use Rattle.rules.specs.Kinds.{KeywordUnit, KeywordMap, KeywordEvent}
use Rattle.std.specs.Prelude.{Some, None}
use Rattle.rules_program.specs.Find.{spelling_of_both}
use Rattle.program_names.specs.Heads.{kept_if, rows_where, first_of, is_unit_head, kind_of_both, is_head, name_after, head_names}

-- ---- kinds

module _ (pws : List ℕ) (count : ℕ) (ws : List ℕ) (row : ℕ) where
  pub kind_front : row < count → kind_of_both pws count ws row ≡ get_or pws (row * 8) 0
  unfolding kind_of_both
  kind_front l = rw (lt-ltb row count l)

  pub kind_later : count ≤ row → kind_of_both pws count ws row ≡ get_or ws ((row - count) * 8) 0
  unfolding kind_of_both
  kind_later l = rw (le-ltb row count l)

  pub head_if : (kind_of_both pws count ws row ≡ KeywordMap) ⊎ (kind_of_both pws count ws row ≡ KeywordEvent) → true ≡ is_head pws count ws row
  unfolding is_head
  head_if (inl e) = rw (eq-eqb _ _ e)
  head_if (inr e) = rw e

  pub head_unless : (kind_of_both pws count ws row ≡ KeywordMap → ⊥) → (kind_of_both pws count ws row ≡ KeywordEvent → ⊥) → false ≡ is_head pws count ws row
  unfolding is_head
  head_unless h g = rw (ne_eqb _ _ h, ne_eqb _ _ g)

-- ---- rows that meet a test

module _ (p : ℕ → Bool) where
  -- no row, and one row more
  pub where_none : (i n : ℕ) → n ≤ i → rows_where p i (n - i) ≡ []
  unfolding rows_where
  where_none i n l = let e : n - i ≡ 0 = omega arith in rw e

  pub where_one : (i n : ℕ) → i < n → rows_where p i (n - i) ≡ kept_if (p i) i (rows_where p (i + 1) (n - (i + 1)))
  unfolding rows_where
  where_one i n l = let e : n - i ≡ suc (n - (i + 1)) = omega arith in rw e

pub kept_length : (t : Bool) (i : ℕ) (rows : List ℕ) → length (kept_if t i rows) ≡ cond t 1 0 + length rows
unfolding kept_if
kept_length true i rows = let e : 1 + length rows ≡ suc (length rows) = omega arith in sym e
kept_length false i rows = let e : 0 + length rows ≡ length rows = omega arith in sym e

-- a count of rows that goes on
module _ (p : ℕ → Bool) (n i names total : ℕ) where
  pub count_here : i < n → p i ≡ true → names + length (rows_where p i (n - i)) ≡ total →
      names + 1 + length (rows_where p (i + 1) (n - (i + 1))) ≡ total
  count_here l h e =
      let k : ◌≡◌ {A = ℕ} (cond (p i) 1 0) 1 = rw h in
      omega (arith, ap length (where_one p i n l), kept_length (p i) i (rows_where p (i + 1) (n - (i + 1))))

  pub count_past : i < n → p i ≡ false → names + length (rows_where p i (n - i)) ≡ total →
      names + length (rows_where p (i + 1) (n - (i + 1))) ≡ total
  count_past l h e =
      let k : ◌≡◌ {A = ℕ} (cond (p i) 1 0) 0 = rw h in
      omega (arith, ap length (where_one p i n l), kept_length (p i) i (rows_where p (i + 1) (n - (i + 1))))

  pub count_all : n ≤ i → names + length (rows_where p i (n - i)) ≡ total → names ≡ total
  count_all l e = omega (arith, ap length (where_none p i n l))

-- ---- names

pub names_length : (prelude pws : List ℕ) (count : ℕ) (text ws : List ℕ) (n : ℕ) → length (head_names prelude pws count text ws n) ≡ length (rows_where (is_head pws count ws) 0 n)
unfolding head_names
names_length prelude pws count text ws n =
    length-map (rows_where (is_head pws count ws) 0 n) (name_after (spelling_of_both prelude pws count text ws))

-- ---- units

module _ (ws : List ℕ) (n i : ℕ) where
  -- what is found from row i on: that row, or what is found after it
  pub unit_here : i < n → get_or ws (i * 8) 0 ≡ KeywordUnit → first_of (rows_where (is_unit_head ws) i (n - i)) ≡ Some i
  unfolding is_unit_head kept_if first_of
  unit_here l e = rw (where_one (is_unit_head ws) i n l, eq-eqb _ _ e)

  pub unit_later : i < n → (get_or ws (i * 8) 0 ≡ KeywordUnit → ⊥) →
      first_of (rows_where (is_unit_head ws) i (n - i)) ≡ first_of (rows_where (is_unit_head ws) (i + 1) (n - (i + 1)))
  unfolding is_unit_head kept_if
  unit_later l h = rw (where_one (is_unit_head ws) i n l, ne_eqb _ _ h)

  pub unit_none : n ≤ i → first_of (rows_where (is_unit_head ws) i (n - i)) ≡ None
  unfolding first_of
  unit_none l = rw (where_none (is_unit_head ws) i n l)
