-- "A site prelude": the bytes of a row of either text, and a name looked up in the index.
use Rattle.std.specs.Prelude.{Bool, true, cond, ◌&&◌, List, ℕ, suc, zero, ◌+◌, ◌-◌, ◌*◌, length, get_or, leb, ltb, Option, None, Some, Result, Ok, Err}
use Rattle.rules.specs.declared.Cursor.{Cursor}
use Rattle.rules.specs.declared.Table.{Table}
use Rattle.rules.specs.declared.Outer.{Outer}
use Rattle.rules.specs.declared.Outer.TheVariants.{NotWellFormed}
use Rattle.rules.specs.Text.{start_place}
use Rattle.rules.specs.Kinds.{same_bytes}
use Rattle.rules.specs.Rows.{row_no, spelling}
use Rattle.rules.specs.Calls.{judged}
use Rattle.rules_program.specs.declared.Which.{Which}
use Rattle.rules_program.specs.declared.Which.TheVariants.{Prelude, Probe}
use Rattle.rules_program.specs.declared.Part.{Part}
use Rattle.rules_program.specs.declared.Untold.{Untold}
use Rattle.rules_program.specs.Names.{comes_before, words_per_entry}

-- the spelling of a row of both, in whichever text it stands; the prelude has `count` rows
unfoldable pub spelling_of_both : (prelude pws : List ℕ) (count : ℕ) (text ws : List ℕ) (row : ℕ) → List ℕ
spelling_of_both prelude pws count text ws row =
    cond (ltb row count) (spelling prelude (row_no pws row)) (spelling text (row_no ws (row - count)))

-- ---- what is told of a row, and of a name: its part, its node if the index has it, or why neither is told

abbrev pub Named : Type 0
Named = Result Part Untold

abbrev pub Found : Type 0
Found = Result (Option ℕ) Untold

abbrev pub part : Which → (start end : ℕ) → Named
part which start end = Ok (record { which = which; start = start; end = end })

abbrev pub untold : {A : Type 0} → Outer → Cursor → Which → Result A Untold
untold y at which = Err (record { why = y; at = at; which = which })

-- a prelude and a probe, each with its rows and its table
module _ (prelude pws : List ℕ) (ptable : Table) (text ws : List ℕ) (table : Table) where
  -- ---- a row of both

  abbrev pub spelled_by : ℕ → List ℕ
  spelled_by row = spelling_of_both prelude pws ptable.count text ws row

  abbrev pub is_row : ℕ → Bool
  is_row row = ltb row (ptable.count + table.count)

  unfoldable pub part_told : ℕ → Named
  part_told row =
      cond (ltb row ptable.count) (part Prelude (row_no pws row).start (row_no pws row).end)
      (cond (is_row row) (part Probe (row_no ws (row - ptable.count)).start (row_no ws (row - ptable.count)).end)
      (untold NotWellFormed start_place Prelude))

  -- the prelude's 1, 2, 3; the probe's; 3 for a row past both tables
  unfoldable pub name_told : ℕ → Named
  name_told row =
      elim (judged prelude pws ptable) [
        | Err e ↦ untold e.why e.at Prelude
        | Ok _ ↦ elim (judged text ws table) [
          | Err e ↦ untold e.why e.at Probe
          | Ok _ ↦ part_told row
        ]
      ]

  -- ---- the index

  -- the name row and the node of entry k
  abbrev pub entry_row : List ℕ → ℕ → ℕ
  entry_row index k = get_or index (words_per_entry * k) 0

  abbrev pub entry_node : List ℕ → ℕ → ℕ
  entry_node index k = get_or index (words_per_entry * k + 1) 0

  -- the first n entries have rows of the tables
  unfoldable pub are_rows : List ℕ → ℕ → Bool
  are_rows index zero = true
  are_rows index (suc n) = are_rows index n && is_row (entry_row index n)

  -- and their spellings rise
  unfoldable pub are_rising : List ℕ → ℕ → Bool
  are_rising index zero = true
  are_rising index (suc zero) = true
  are_rising index (suc (suc n)) =
      are_rising index (suc n) && comes_before (spelled_by (entry_row index n)) (spelled_by (entry_row index (suc n)))

  abbrev pub is_index : List ℕ → ℕ → Bool
  is_index index entries =
      leb (words_per_entry * entries) (length index) && (are_rows index entries && are_rising index entries)

  -- the last of the first n entries that is spelled so; where the spellings rise there is at most one
  unfoldable pub entry_told : List ℕ → ℕ → List ℕ → Found
  entry_told index zero name = Ok None
  entry_told index (suc n) name =
      cond (same_bytes (spelled_by (entry_row index n)) name) (Ok (Some (entry_node index n))) (entry_told index n name)

  -- the prelude's 1, 2, 3; the probe's; 3 for what is no index; else the node of the entry that is spelled so
  unfoldable pub find_told : List ℕ → ℕ → List ℕ → Found
  find_told index entries name =
      elim (judged prelude pws ptable) [
        | Err e ↦ untold e.why e.at Prelude
        | Ok _ ↦ elim (judged text ws table) [
          | Err e ↦ untold e.why e.at Probe
          | Ok _ ↦ cond (is_index index entries) (entry_told index entries name) (untold NotWellFormed start_place Prelude)
        ]
      ]
