-- "A site prelude", names by the kinds of rows. The rows are those of the prelude and then those of the probe. In a program the keywords of
-- a map and of an event stand at its head alone, and the name in the row after it.
use Rattle.std.specs.Prelude.{Bool, true, false, cond, ◌||◌, List, [], ◌∷◌, map, ℕ, zero, suc, ◌+◌, ◌-◌, ◌*◌, get_or, eqb, ltb, Option, None, Some}
use Rattle.rules.specs.Kinds.{KeywordUnit, KeywordMap, KeywordEvent}
use Rattle.rules.specs.Rows.{words_per_row}
use Rattle.rules_program.specs.Names.{Name}
use Rattle.rules_program.specs.Find.{spelling_of_both}

-- ---- rows that meet a test

-- a row in front of others, where it is wanted
unfoldable pub kept_if : Bool → ℕ → List ℕ → List ℕ
kept_if true i rows = i ∷ rows
kept_if false i rows = rows

-- of n rows from row i on those that meet a test, in order
unfoldable pub rows_where : (ℕ → Bool) → (i n : ℕ) → List ℕ
rows_where p i zero = []
rows_where p i (suc n) = kept_if (p i) i (rows_where p (i + 1) n)

-- the first of some rows
unfoldable pub first_of : List ℕ → Option ℕ
first_of [] = None
first_of (row ∷ rows) = Some row

-- ---- units of one table

-- whether row i of a table is a unit's keyword
unfoldable pub is_unit_head : List ℕ → ℕ → Bool
is_unit_head ws i = eqb (get_or ws (i * words_per_row) 0) KeywordUnit

-- of the first n rows those that are
abbrev pub unit_heads : List ℕ → ℕ → List ℕ
unit_heads ws n = rows_where (is_unit_head ws) 0 n

-- ---- maps and events of both

-- the kind of a row of both; the prelude has `count` rows
unfoldable pub kind_of_both : (pws : List ℕ) (count : ℕ) (ws : List ℕ) (row : ℕ) → ℕ
kind_of_both pws count ws row = cond (ltb row count) (get_or pws (row * words_per_row) 0) (get_or ws ((row - count) * words_per_row) 0)

-- whether it is the keyword of a map or of an event
unfoldable pub is_head : (pws : List ℕ) (count : ℕ) (ws : List ℕ) (row : ℕ) → Bool
is_head pws count ws row = eqb (kind_of_both pws count ws row) KeywordMap || eqb (kind_of_both pws count ws row) KeywordEvent

-- the name after a head
abbrev pub name_after : (ℕ → List ℕ) → ℕ → Name
name_after spelled row = record { name = spelled (row + 1); row = row + 1 }

-- the names after the heads among the first n rows of both
unfoldable pub head_names : (prelude pws : List ℕ) (count : ℕ) (text ws : List ℕ) (n : ℕ) → List Name
head_names prelude pws count text ws n =
    map (name_after (spelling_of_both prelude pws count text ws)) (rows_where (is_head pws count ws) 0 n)
