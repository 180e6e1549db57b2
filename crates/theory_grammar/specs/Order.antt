-- The order of nodes: what stands after each of them when a list of nodes is read from its first to its last, by the counts in them alone.
use Rattle.std.specs.Prelude.{◌≡◌, cond, List, [], ◌∷◌, ◌++◌, ℕ, ◌+◌, ◌-◌, leb}
use Rattle.rules.specs.Tree.{Tree, count}
use Rattle.rules.specs.Nodes.{Node}
use Rattle.rules.specs.Grammar.{Nt, Add, Shift, Mul, Unary, Basic, Args, Stmt, Stmts, Item, Items, Chain, MapField, MapFields, EventField, EventFields, Decl, Decls, Program}

-- So many trees stand, each with all its nodes, or a node asked for more children than stood before it.
pub data Standing : Type 0 where
  trees : ℕ → Standing
  short : Standing

-- What stands after some nodes, where h trees stood before them: a node takes as many of the last ones as it has children, which must be there, and
-- with them it is one tree.
unfoldable pub stands : List Node → ℕ → Standing
stands [] h = trees h
stands (n ∷ ns) h = cond (leb n.children h) (stands ns (h - n.children + 1)) short

-- Some nodes in two parts: the others, which are k trees, and directly behind them its own, which are c trees by themselves.
pub record Parts (k c : ℕ) (ns : List Node) : Type 0 where
  pub others : List Node
  pub own : List Node
  pub all : ns ≡ others ++ own
  pub before : stands others 0 ≡ trees k
  pub whole : stands own 0 ≡ trees c

-- How many trees the nodes of a nonterminal's tree make: one, or for a list as many as it has things. What is in a map has no nodes.
abbrev pub roots : Nt → Tree → ℕ
roots Add t = 1
roots Shift t = 1
roots Mul t = 1
roots Unary t = 1
roots Basic t = 1
roots Args t = count t
roots Stmt t = 1
roots Stmts t = count t
roots Item t = 1
roots Items t = count t
roots Chain t = 0
roots MapField t = 0
roots MapFields t = 0
roots EventField t = 1
roots EventFields t = count t
roots Decl t = 1
roots Decls t = count t
roots Program t = 1
