-- What the functions over statements, guards and bodies ask and promise.
use Rattle.std.specs.Prelude.{◌≡◌, true, cond, List, ◌++◌, ℕ, ◌+◌, ◌-◌, ◌*◌, ◌≤◌, ◌<◌, eqb, length, Result, Ok, Err}
use Rattle.std.proofs.lemmas.List.Edits.{sets}
use Rattle.rules.specs.Kinds.{KeywordElse, RParen}
use Rattle.rules.specs.Tree.{Tok, spelling_of, Tree, then_body, count}
use Rattle.rules.specs.Nodes.{width, size, tree_words, node, node_words, missing, NodeVariable, NodeIf, NodeThen, NodeElse}
use Rattle.rules.specs.Parse
use Rattle.rules.specs.Parse.{Out, ok, no, P, then, StmtLead, branching, tok_at, kind_at}
use Rattle.parse_nodes.specs.declared.At.{At}
use Rattle.parse_nodes.specs.declared.Refusal.{Refusal}
use Rattle.parse_nodes.specs.Post.{kind_word, Tells, state_at, hanging_at, refused_at, Met}

-- ---- statements, with d constructs left

-- the one at row i, by what stands there
abbrev pub by_lead : StmtLead → (d i : ℕ) → List Tok → Out
by_lead lead d i ts = Parse.stmt_by ts d (Parse.body ts d) lead i

-- the assignment to e whose sign is at row j
abbrev pub assigned_to : (d j : ℕ) → List Tok → Tree → Out
assigned_to d j ts e = Parse.assign_by ts d (Parse.body ts d) true e j

-- the state behind a named node with one child, over what was read up to s, and behind the row that ends it; and that node
abbrev pub NamedEnd : At → (kind name : ℕ) → List ℕ → List ℕ → At → Type 0
NamedEnd s kind name m m' r =
    (r ≡ state_at (s.row + 1) (s.node + 1) name) × (m' ≡ sets m (8 * s.node) (node_words (node kind name name 1)))

-- ---- the rows from `if` to the brace

-- what is read at row k, behind the name w and the then body with statements l: an else body, or nothing
abbrev pub else_at : List Tok → ℕ → P → List ℕ → Tree → P
else_at ts d p w l k = Parse.else_by ts d p (eqb (kind_at ts k) KeywordElse) w (then_body l) k

-- The `if` is at row i: the rows up to its brace, behind which the bodies are read, or why not.
abbrev pub HeadSays : List ℕ → ℕ → ℕ → Result ℕ Refusal → Type 0
HeadSays ws n i (Ok o) =
    (o ≡ i + 5) × (o < n) × (kind_word ws n (i + 4) ≡ RParen) × ((ts : List Tok) → Tells ts ws n → (d : ℕ) (p : P)
    → Parse.stmt_by ts d p branching i ≡ then (p o) (λ l k. else_at ts d p (spelling_of (tok_at ts (i + 3))) l k))
HeadSays ws n i (Err e) = (ts : List Tok) → Tells ts ws n → (d : ℕ) (p : P) → Parse.stmt_by ts d p branching i ≡ no e.why e.row

-- ---- bodies

-- a body's node kind, by the kind of the row in front of its brace: `else`, or the `)` of a guard
unfoldable pub body_node : ℕ → ℕ
body_node k = cond (eqb k KeywordElse) NodeElse NodeThen

-- a body's statements l, read behind the brace at row i, and its node of a kind behind theirs
abbrev pub BodyMet : Out → ℕ → ℕ → ℕ → List ℕ → List ℕ → Result At Refusal → Type 0
BodyMet (ok l j) kind i n m m' r =
    (r ≡ Ok (state_at j (n + size l + 1) i))
    × (m' ≡ sets m (8 * n) (tree_words (i + 1) l ++ node_words (node kind i missing (count l))))
BodyMet (no why p) kind i n m m' r = r ≡ refused_at why p

-- the answer at its brace, with d constructs left
abbrev pub BodyAnswers : ℕ → List ℕ → ℕ → ℕ → ℕ → List ℕ → List ℕ → Result At Refusal → Type 0
BodyAnswers d ws n i nd m m' r =
    (ts : List Tok) → Tells ts ws n → BodyMet (Parse.body ts d i) (body_node (kind_word ws n (i - 1))) i nd m m' r

-- ---- behind a then body

-- what is asked there
pub record AsksElse (ws : List ℕ) (n : ℕ) (s : At) (d : ℕ) : Type 0 where
  pub lent : n * 8 ≤ length ws
  pub inside : s.row ≤ n
  pub few : s.node ≤ s.row
  pub short : n ≤ 65537
  pub nest : d ≤ 64

-- The state s and the memory m' are those behind the name and the then body, with statements l, of the `if` at row i, its first node
-- at n, read into the memory m.
pub record Guarded (i n : ℕ) (l : Tree) (m : List ℕ) (s : At) (m' : List ℕ) : Type 0 where
  pub rows : s.row ≡ i + 5 + width (then_body l)
  pub nodes : s.node ≡ n + 1 + size (then_body l)
  pub mem : m' ≡ sets m (8 * n) (node_words (node NodeVariable (i + 3) (i + 3) 0) ++ tree_words (i + 5) (then_body l))

-- the answer there, with d constructs left, whatever name and statements were read
abbrev pub Elsewise : ℕ → List ℕ → ℕ → At → ℕ → List ℕ → List ℕ → Result At Refusal → Type 0
Elsewise d ws n s g m m' r =
    (ts : List Tok) → Tells ts ws n → (i nd : ℕ) (w : List ℕ) (l : Tree) (m₀ : List ℕ) → g ≡ i + 1 → Guarded i nd l m₀ s m
    → Met (else_at ts d (Parse.body ts d) w l s.row) i nd m₀ m' r

-- the state behind an `if` without `else`, whose then body ends at s and whose guard is at row g; and its node
abbrev pub HangingIf : At → ℕ → List ℕ → List ℕ → At → Type 0
HangingIf s g m m' r = (r ≡ hanging_at s.row (s.node + 1) g) × (m' ≡ sets m (8 * s.node) (node_words (node NodeIf g missing 2)))
