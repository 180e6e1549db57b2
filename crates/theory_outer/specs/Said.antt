-- What the theorems over the calls say.
use Rattle.std.specs.Prelude.{ℕ, zero, suc, ◌+◌, ◌-◌, ◌≤◌, ◌<◌, cond, true, false, List, [], ◌∷◌, ◌++◌, ◌⊎◌, ◌↔◌, ◌≡◌, length, take, drop, get_or, Ok, Err}
use Rattle.rules.specs.declared.Cursor.{Cursor}
use Rattle.rules.specs.Outcomes.{unfit}
use Rattle.rules.specs.declared.Outer.{Outer}
use Rattle.rules.specs.declared.Table.{Table}
use Rattle.rules.specs.Text.{start_place}
use Rattle.rules.specs.Refusals.{outer_number}
use Rattle.rules.specs.Rows.{row_no, spelling}
use Rattle.rules.specs.Calls.{judged}
use Rattle.rules.specs.Sets.{Section, Unknown, allows}
use Rattle.rules.specs.Tree.{Tree}
use Rattle.rules_mend.specs.Mend.{fresh_file}
use Rattle.rules_tally.specs.Tally.{tally_of}
use Rattle.rules_tally.specs.Calls.{tally_words}
use Rattle.answers.specs.Layout.{words, nowhere}
use Rattle.spoonharbor.specs.OuterParse.{OuterLent, OuterRefused}
use Rattle.theory_calls.specs.Demand2.{ProgramOf}
use Rattle.theory_edits.specs.Change.{Change, new_text}
use Rattle.theory_edits.specs.Demand3.{Due}
use Rattle.theory_mend.specs.Mended.{Member, Ascending, block_at, Differs, BeginsTail}

-- ---- spelling

-- A row's spelling is told by its start and its end: it is the part of the text between them.
pub record Part (text rows : List ℕ) (k : ℕ) (answer : List ℕ) : Type 0 where
  pub told : answer ≡ words 0 nowhere (row_no rows k).start (row_no rows k).end 0 0
  pub part : take (get_or answer 5 0 - get_or answer 4 0) (drop (get_or answer 4 0) text) ≡ spelling text (row_no rows k)

-- asked for row k of a table
pub data Spells (text rows : List ℕ) (table : Table) (k : ℕ) (answer : List ℕ) : Type 0 where
  spells : judged text rows table ≡ Ok tt → k < table.count → Part text rows k answer → Spells text rows table k answer
  -- no such row
  beyond : judged text rows table ≡ Ok tt → table.count ≤ k → answer ≡ words 3 start_place 0 0 0 0 → Spells text rows table k answer
  -- 1, 2 or 3 of the text and its table
  unread : (why : Outer) (p : Cursor) → judged text rows table ≡ Err (unfit why p) → answer ≡ words (outer_number why) p 0 0 0 0
      → Spells text rows table k answer

-- ---- sections and sets

-- a text is an entry's spelling, or begins with it
pub data Fits (w : List ℕ) (e : Section) : Type 0 where
  is : e.whole ≡ true → w ≡ e.spelling → Fits w e
  begins : e.whole ≡ false → (rest : List ℕ) → w ≡ e.spelling ++ rest → Fits w e

-- the kind of the first entry that fits, and Unknown where none does
pub data First (w : List ℕ) : List Section → ℕ → Type 0 where
  none : First w [] Unknown
  here : {e : Section} {es : List Section} → Fits w e → First w (e ∷ es) e.kind
  later : {e : Section} {es : List Section} {k : ℕ} → (Fits w e → ⊥) → First w es k → First w (e ∷ es) k

-- of the methods below m, how many a kind allows
unfoldable pub ones : ℕ → ℕ → ℕ
ones kind zero = 0
ones kind (suc m) = ones kind m + cond (allows kind m) 1 0

-- ---- edits

-- An edit by a window w of a change's new text was lent the words `lent`, told `answer` and left `new`: 7 and nothing
-- touched, where that is due; else what a scan of the new text tells and leaves.
pub data Edited (c : Change) (w lent answer new : List ℕ) : Type 0 where
  short : Due c w → OuterRefused lent answer new 7 start_place 0 0 0 → Edited c w lent answer new
  fresh : (Due c w → ⊥) → OuterLent (new_text c) lent new answer → Edited c w lent answer new

-- ---- mended files

-- `spoonharbor_mend` of n bytes of memory told `answer`, which is no refusal, and left m and `blocks`.
module _ (text : List ℕ) (form : ℕ) (memory : List ℕ) (n : ℕ) (list answer m blocks : List ℕ) where
  -- what it lists: exactly the blocks that differ, are cut or missing, or begin a surplus tail, from the lowest on
  abbrev pub entries : List ℕ
  entries = take (get_or answer 6 0) blocks

  pub record Lists : Type 0 where
    pub exactly : (k : ℕ)
        → Member k entries ↔ (Differs (fresh_file form text) (take n memory) k ⊎ BeginsTail (fresh_file form text) (take n memory) k)
    pub ascending : Ascending entries

  -- blocks that are not listed, the memory behind the file and the words behind the list are as they were
  pub record Stays : Type 0 where
    pub right : (k : ℕ) → (Member k entries → ⊥) → block_at k m ≡ block_at k memory
    pub behind : drop (get_or answer 7 0) m ≡ drop (get_or answer 7 0) memory
    pub entries_behind : drop (get_or answer 6 0) blocks ≡ drop (get_or answer 6 0) list

-- ---- figures

-- A tallying of a text's program gave r and left `counts`: 0, and the program's twenty counts.
pub record Tallies (text : List ℕ) (r : ℕ) (counts : List ℕ) : Type 0 where
  pub tree : Tree
  pub program : ProgramOf text tree
  pub number : r ≡ 0
  pub told : counts ≡ tally_words (tally_of tree)

-- Three tallies were joined in both groupings, and left x and y: no joining said 70, and they left the same.
pub record Grouped (r₁ r₂ r₃ r₄ : ℕ) (x y : List ℕ) : Type 0 where
  pub first_two : r₁ ≡ 0
  pub then_third : r₂ ≡ 0
  pub last_two : r₃ ≡ 0
  pub before_first : r₄ ≡ 0
  pub same : x ≡ y
