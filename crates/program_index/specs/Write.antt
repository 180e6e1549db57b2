-- What is asked of nodes whose entries are written, and what is promised.
use Rattle.std.specs.Prelude.{◌≡◌, true, cond, List, ◌++◌, ℕ, ◌+◌, ◌*◌, ◌≤◌, ◌<◌, length, get_or, set, drop}
use Rattle.rules.specs.Nodes.{Node, missing, words_of_nodes}
use Rattle.theory_entries.specs.Entries.{has_name, entries_in}

-- ---- one entry

-- node n is lent, and there is room for its entry if it has one
pub record AsksEntry (m : List ℕ) (n : ℕ) (x : List ℕ) (made : ℕ) : Type 0 where
  pub lent : n * 8 + 8 ≤ length m
  pub room : has_name (get_or m (n * 8) 0) ≡ true → made * 2 + 2 ≤ length x
  pub few : made < missing

-- the index with the entry of a name row after so many others
abbrev pub put_at : (made name n : ℕ) → List ℕ → List ℕ
put_at made name n x = set (set x (made * 2) name) (made * 2 + 1) n

pub record EntryPut (m : List ℕ) (n : ℕ) (x : List ℕ) (made : ℕ) (x' : List ℕ) (r : ℕ) : Type 0 where
  pub told : r ≡ cond (has_name (get_or m (n * 8) 0)) (made + 1) made
  pub left : x' ≡ cond (has_name (get_or m (n * 8) 0)) (put_at made (get_or m (n * 8 + 2) 0) n x) x

-- ---- the entries of n nodes

pub record AsksEntries (m : List ℕ) (n : ℕ) (x : List ℕ) : Type 0 where
  pub nodes : List Node
  pub rest : List ℕ
  pub words : m ≡ words_of_nodes nodes ++ rest
  pub many : length nodes ≡ n
  pub room : length (entries_in 0 nodes) ≤ length x

-- The entries, and after them what was there; told is how many, at two words each.
pub record Entries (es x x' : List ℕ) (r : ℕ) : Type 0 where
  pub many : r * 2 ≡ length es
  pub words : x' ≡ es ++ drop (r * 2) x

abbrev pub EntriesWritten : List ℕ → ℕ → List ℕ → List ℕ → ℕ → Type 0
EntriesWritten m n x x' r = (ns : List Node) (rest : List ℕ) → length ns ≡ n → m ≡ words_of_nodes ns ++ rest → Entries (entries_in 0 ns) x x' r
