-- What the parser's functions promise: the parser's answer as a function, the state behind a tree, and node memory.
use Rattle.std.specs.Prelude.{◌≡◌, Bool, true, false, cond, List, ℕ, ◌+◌, ◌*◌, ◌^◌, ◌≤◌, ◌<◌, length, get_or, ltb, Result, Ok, Err}
use Rattle.std.proofs.lemmas.List.Edits.{sets}
use Rattle.rules.specs.declared.Syntax.{Syntax}
use Rattle.rules.specs.Rows.{at_high, at_low, words_per_row}
use Rattle.rules.specs.Kinds.{Number, Eof}
use Rattle.rules.specs.Tree.{Tok, sign, kind_of, bits_in, Tree, is_variable, is_sum, hangs, count}
use Rattle.rules.specs.Nodes.{width, size, place_of, tree_words}
use Rattle.rules.specs.Parse.{Out, ok, no}
use Rattle.parse_nodes.specs.declared.At.{At}
use Rattle.parse_nodes.specs.declared.Refusal.{Refusal}

-- the most rows that a text has, Eof's among them, and so the most nodes
abbrev pub most_rows : ℕ
most_rows = 65537

-- the kind of row i of n rows that stand in ws, and Eof past the last
unfoldable pub kind_word : List ℕ → ℕ → ℕ → ℕ
kind_word ws n i = cond (ltb i n) (get_or ws (i * words_per_row) 0) Eof

-- The tokens are those of n rows that stand in ws, as far as kinds and values go.
pub record Tells (ts : List Tok) (ws : List ℕ) (n : ℕ) : Type 0 where
  pub long : length ts ≡ n
  pub kinds : (i : ℕ) → i < n → kind_of (get_or ts i (sign Eof)) ≡ get_or ws (i * words_per_row) 0
  pub values : (i : ℕ) → i < n → get_or ws (i * words_per_row) 0 ≡ Number → bits_in (get_or ts i (sign Eof)) ≡ get_or ws (i * words_per_row + at_high) 0 * 2 ^ 32 + get_or ws (i * words_per_row + at_low) 0

-- the state behind what is no variable, no sum, no list and no `if` without `else`
abbrev pub state_at : (row node place : ℕ) → At
state_at i n p = record { row = i; node = n; place = p; things = 0; variable = false; summed = false; hanging = false }

-- the state behind a variable
abbrev pub variable_at : (row node place : ℕ) → At
variable_at i n p = record { row = i; node = n; place = p; things = 0; variable = true; summed = false; hanging = false }

-- the state behind an operator with its operands, which is a sum or not
abbrev pub joined_at : (row node place : ℕ) → Bool → At
joined_at i n p b = record { row = i; node = n; place = p; things = 0; variable = false; summed = b; hanging = false }

-- the state behind an `if` without `else`
abbrev pub hanging_at : (row node place : ℕ) → At
hanging_at i n p = record { row = i; node = n; place = p; things = 0; variable = false; summed = false; hanging = true }

-- the state s as one behind a list of so many things, the last of which s stands behind
abbrev pub counted_at : At → (place things : ℕ) → At
counted_at s p k =
    record { row = s.row; node = s.node; place = p; things = k; variable = false; summed = s.summed; hanging = s.hanging }

-- the state behind the tree t, which was read from row i, its first node at n, up to row j
abbrev pub behind : ℕ → ℕ → Tree → ℕ → At
behind i n t j =
    record { row = j; node = n + size t; place = place_of i t; things = count t; variable = is_variable t; summed = is_sum t; hanging = hangs t }

-- the refusal for a reason at a row, and the answer that it is
abbrev pub refusal : Syntax → ℕ → Refusal
refusal why p = record { why = why; row = p }

abbrev pub refused_at : {A : Type 0} → Syntax → ℕ → Result A Refusal
refused_at why p = Err (refusal why p)

-- what a function that reads at row i with its first node at n answers, and what node memory is then
abbrev pub Met : Out → ℕ → ℕ → List ℕ → List ℕ → Result At Refusal → Type 0
Met (ok t j) i n m m' r = (r ≡ Ok (behind i n t j)) × (m' ≡ sets m (8 * n) (tree_words i t))
Met (no why p) i n m m' r = r ≡ refused_at why p

-- the same for every list of tokens that the rows tell
abbrev pub Answers : (List Tok → Out) → List ℕ → ℕ → ℕ → ℕ → List ℕ → List ℕ → Result At Refusal → Type 0
Answers f ws n i nd m m' r = (ts : List Tok) → Tells ts ws n → Met (f ts) i nd m m' r

-- what each asks: the rows are lent, the row is in the table, no more nodes than rows, the table is not too long, nor the nesting
pub record Asks (ws : List ℕ) (n i nd d : ℕ) : Type 0 where
  pub lent : n * 8 ≤ length ws
  pub inside : i ≤ n
  pub few : nd ≤ i
  pub short : n ≤ 65537
  pub nest : d ≤ 64

-- the same at an opening row, behind which the first node's row stands
pub record AsksOpen (ws : List ℕ) (n i nd d : ℕ) : Type 0 where
  pub lent : n * 8 ≤ length ws
  pub inside : i < n
  pub few : nd ≤ i
  pub short : n ≤ 65537
  pub nest : d ≤ 64

-- the same at a state
pub record AsksAt (ws : List ℕ) (n : ℕ) (s : At) (d : ℕ) : Type 0 where
  pub lent : n * 8 ≤ length ws
  pub inside : s.row < n
  pub few : s.node ≤ s.row
  pub short : n ≤ 65537
  pub nest : d ≤ 64

-- the state s and the memory m' are those behind the tree t, which was read from row i, its first node at n, into the memory m
pub record Stands (i n : ℕ) (t : Tree) (m : List ℕ) (s : At) (m' : List ℕ) : Type 0 where
  pub rows : s.row ≡ i + width t
  pub nodes : s.node ≡ n + size t
  pub place : s.place ≡ place_of i t
  pub things : s.things ≡ count t
  pub variable : s.variable ≡ is_variable t
  pub summed : s.summed ≡ is_sum t
  pub hanging : s.hanging ≡ hangs t
  pub mem : m' ≡ sets m (8 * n) (tree_words i t)

-- what a function that goes on from a state answers, whatever was read before
abbrev pub Onward : (List Tok → Tree → Out) → List ℕ → ℕ → At → List ℕ → List ℕ → Result At Refusal → Type 0
Onward f ws n s m m' r =
    (ts : List Tok) → Tells ts ws n → (i nd : ℕ) (t : Tree) (m₀ : List ℕ) → Stands i nd t m₀ s m → Met (f ts t) i nd m₀ m' r
