-- What reading a prelude and a probe as one program answers, in terms of the two texts, the grammar, and what they declare.
use Rattle.std.specs.Prelude.{ℕ, ◌+◌, ◌*◌, ◌≤◌, ◌<◌, false, List, [], ◌∷◌, ◌++◌, ◌≡◌, length, drop, Some}
use Rattle.rules.specs.declared.Cursor.{Cursor}
use Rattle.rules.specs.declared.Lexical.{Lexical}
use Rattle.rules.specs.Outcomes.{halt}
use Rattle.rules.specs.declared.Outer.TheVariants.{TextTooLong, BadByte, NoNodeRoom}
use Rattle.rules.specs.declared.Syntax.{Syntax}
use Rattle.rules.specs.declared.Reason.{Reason}
use Rattle.rules.specs.declared.Reason.TheVariants as reason
use Rattle.rules.specs.Text.{most_bytes, valid_bytes, valid, place_at, start_place}
use Rattle.rules.specs.Refusals.{found_told}
use Rattle.rules.specs.Rows.{Row, row_place}
use Rattle.rules.specs.Scan.{read_ending, scan}
use Rattle.rules.specs.Tree.{Tree}
use Rattle.rules.specs.Nodes.{words_of_nodes}
use Rattle.rules.specs.Calls.{node_room, place_of_row}
use Rattle.theory_calls.specs.Demand2.{rows_of, Readable, ScansFully, ProgramOf, RefusedRow}
use Rattle.rules_program.specs.declared.Which.{Which}
use Rattle.rules_program.specs.declared.Which.TheVariants.{Prelude, Probe}
use Rattle.rules_program.specs.declared.Unjoined.{Unjoined}
use Rattle.rules_program.specs.declared.Unjoined.TheVariants as why
use Rattle.rules_program.specs.Both.{Declared, declarations, declared_in, declared_both, nodes_of_both}
use Rattle.rules_program.specs.Names.{unit_rows, named, entry_words}
use Rattle.rules_program.specs.Program.{Told, joined, refused, which_text, place_of_both, entry_room}
use Rattle.theory_program.specs.Index.{IsIndex, Differ, FirstTwin}

-- ---- one text

-- a text that scans fully, and its program
pub record IsProgram (t : List ℕ) (p : Tree) : Type 0 where
  pub full : ScansFully t
  pub is : ProgramOf t p

-- a text's own refusal: why, where, and the kind that 21 found
pub data Own (t : List ℕ) : Reason → Cursor → ℕ → Type 0 where
  -- 1 and 2
  too_long : most_bytes < length t → Own t (reason.Outer TextTooLong) start_place 0
  bad_byte : length t ≤ most_bytes → valid t ≡ false → Own t (reason.Outer BadByte) (place_at t (valid_bytes t)) 0
  -- 11 to 17
  ends_refused : {why : Lexical} {at : Cursor} → Readable t → read_ending (scan t) ≡ Some (halt why at) → Own t (reason.Lexical why) at 0
  -- 21 to 32
  no_program : {why : Syntax} {row : Row} → ScansFully t → ((p : Tree) → ProgramOf t p → ⊥) → RefusedRow t why row
      → Own t (reason.Syntax why) (row_place row) (found_told why row.kind)

-- ---- two texts

-- The rows that are lent with a prelude and a probe; the nodes and the index that are lent; what was told; and what is left of both.
module _ (prelude pws text ws nodes index : List ℕ) (r : Told) (m x : List ℕ) where
  -- why, where and in which text is told, and no word of nodes or index is touched
  pub record Refuses (y : Unjoined) (at : Cursor) (found : ℕ) (which : Which) : Type 0 where
    pub told : r ≡ refused y at found which
    pub nodes_left : m ≡ nodes
    pub index_left : x ≡ index

  -- both are programs
  pub record Programs (p q : Tree) : Type 0 where
    pub one : IsProgram prelude p
    pub other : IsProgram text q

  -- there is room for a node for each row of both
  pub record Roomy (p q : Tree) : Type 0 where
    pub programs : Programs p q
    pub room : length (rows_of prelude) + length (rows_of text) ≤ node_room nodes

  -- the nodes of the program of both and its index are told and written, and no word after them is touched
  pub record Writes (p q : Tree) : Type 0 where
    pub told : r ≡ joined (length (nodes_of_both p q)) (length (named (declared_both p q)))
    pub nodes_left : m ≡ words_of_nodes (nodes_of_both p q) ++ drop (8 * length (nodes_of_both p q)) nodes
    pub entries : List Declared
    pub are : IsIndex (named (declared_both p q)) entries
    pub index_left : x ≡ entry_words entries ++ drop (2 * length (named (declared_both p q))) index

  -- one of seven answers, each with the case in which it is given
  pub data Joint : Type 0 where
    -- the prelude's own refusal, then the probe's
    prelude_refused : {y : Reason} {at : Cursor} {found : ℕ} → Own prelude y at found → Refuses (why.Own y) at found Prelude → Joint
    probe_refused : {p : Tree} {y : Reason} {at : Cursor} {found : ℕ} → IsProgram prelude p → Own text y at found
        → Refuses (why.Own y) at found Probe
        → Joint
    -- 5
    few_nodes : {p q : Tree} → Programs p q → node_room nodes < length (rows_of prelude) + length (rows_of text)
        → Refuses (why.Own (reason.Outer NoNodeRoom)) start_place 0 Prelude
        → Joint
    -- 50, at the first unit of the prelude
    has_unit : {p q : Tree} {k : ℕ} {ks : List ℕ} → Roomy p q → unit_rows (declared_in 0 0 (declarations p)) ≡ k ∷ ks
        → Refuses why.UnitInPrelude (place_of_row pws k) 0 Prelude
        → Joint
    -- 51, at the first name of a map or an event that was declared before
    has_twin : {p q : Tree} {k : ℕ} → Roomy p q → unit_rows (declared_in 0 0 (declarations p)) ≡ [] → FirstTwin (named (declared_both p q)) k
        → Refuses why.DeclaredTwice (place_of_both pws (length (rows_of prelude)) ws k) 0 (which_text (length (rows_of prelude)) k)
        → Joint
    -- 4
    few_entries : {p q : Tree} → Roomy p q → unit_rows (declared_in 0 0 (declarations p)) ≡ [] → Differ (named (declared_both p q))
        → entry_room index < length (named (declared_both p q))
        → Refuses why.NoIndexRoom start_place 0 Prelude
        → Joint
    -- one program
    accepted : {p q : Tree} → Roomy p q → unit_rows (declared_in 0 0 (declarations p)) ≡ [] → Differ (named (declared_both p q))
        → length (named (declared_both p q)) ≤ entry_room index
        → Writes p q
        → Joint
