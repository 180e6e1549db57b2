-- "A site prelude", the tree: "two texts, a prelude and a probe, are read as one program". A program is the list of its declarations; the
-- program of both has the prelude's and then the probe's.
use Rattle.std.specs.Prelude.{ℕ, pred, ◌+◌, List, [], ◌∷◌, ◌++◌, length}
use Rattle.rules.specs.Tree.{Tree, none, num, var, star, group, field, call, bin, one, more, decl, ret, plain, assign, guard, then_body, else_body, seq, text, unit, map_type, typed, limit, first, shifted, map_decl, plain_field, bytes_field, array_field, event, program}
use Rattle.rules.specs.Nodes.{Node, NodeUnit, NodeEvent, NodeMap, NodeProgram, missing, node, width, size, nodes_of}

-- ---- the declarations of a program

-- the things of a list, and of a program, in order
unfoldable pub declarations : Tree → List Tree
declarations none = []
declarations (num v) = []
declarations (var w) = []
declarations (star t) = []
declarations (group t) = []
declarations (field t w) = []
declarations (call t w a) = []
declarations (bin k l r) = []
declarations (one t) = []
declarations (more a t) = []
declarations (decl k w e) = []
declarations (ret e) = []
declarations (plain e) = []
declarations (assign k l r) = []
declarations (guard w b e) = []
declarations (then_body s) = []
declarations (else_body s) = []
declarations (seq l t) = declarations l ++ (t ∷ [])
declarations (text k w) = []
declarations (unit w l) = []
declarations (map_type w) = []
declarations (typed k t) = []
declarations (limit c) = []
declarations (first v) = []
declarations (shifted k c v) = []
declarations (map_decl w l) = []
declarations (plain_field w t) = []
declarations (bytes_field w v) = []
declarations (array_field w t v) = []
declarations (event w l) = []
declarations (program l) = declarations l

-- the list of these declarations after l
unfoldable pub listed : Tree → List Tree → Tree
listed l [] = l
listed l (d ∷ ds) = listed (seq l d) ds

-- "the prelude's declarations and then the probe's"
unfoldable pub both : Tree → Tree → Tree
both p q = program (listed none (declarations p ++ declarations q))

-- ---- rows and nodes: those of the prelude with its Eof first, then the probe's

-- the rows of declarations
unfoldable pub rows_of_all : List Tree → ℕ
rows_of_all [] = 0
rows_of_all (d ∷ ds) = width d + rows_of_all ds

-- how many nodes they have
unfoldable pub size_of_all : List Tree → ℕ
size_of_all [] = 0
size_of_all (d ∷ ds) = size d + size_of_all ds

-- the nodes of declarations whose first row is row i
unfoldable pub nodes_of_all : ℕ → List Tree → List Node
nodes_of_all i [] = []
nodes_of_all i (d ∷ ds) = nodes_of i d ++ nodes_of_all (i + width d) ds

-- The program of both: the prelude's Eof is a row, and has no node; the one program node stands at the probe's Eof, and all declarations
-- are its children.
unfoldable pub nodes_of_both : Tree → Tree → List Node
nodes_of_both p q =
    nodes_of_all 0 (declarations p)
    ++ (nodes_of_all (width p) (declarations q)
    ++ (node NodeProgram (pred (width p + width q)) missing (length (declarations p) + length (declarations q)) ∷ []))

-- ---- what is declared, and where

-- One declaration: the kind of its node, its name, its first row and how many it has, its first node, and its own, which is the last.
-- The name stands in the row after the first.
pub record Declared : Type 0 where
  pub kind : ℕ
  pub name : List ℕ
  pub row : ℕ
  pub rows : ℕ
  pub first : ℕ
  pub node : ℕ

abbrev pub name_row : Declared → ℕ
name_row d = d.row + 1

-- the declaration that a tree is, from row i and node n on
unfoldable pub declared_as : (i n : ℕ) → Tree → List Declared
declared_as i n none = []
declared_as i n (num v) = []
declared_as i n (var w) = []
declared_as i n (star t) = []
declared_as i n (group t) = []
declared_as i n (field t w) = []
declared_as i n (call t w a) = []
declared_as i n (bin k l r) = []
declared_as i n (one t) = []
declared_as i n (more a t) = []
declared_as i n (decl k w e) = []
declared_as i n (ret e) = []
declared_as i n (plain e) = []
declared_as i n (assign k l r) = []
declared_as i n (guard w b e) = []
declared_as i n (then_body s) = []
declared_as i n (else_body s) = []
declared_as i n (seq l t) = []
declared_as i n (text k w) = []
declared_as i n (unit w l) = record { kind = NodeUnit; name = w; row = i; rows = width (unit w l); first = n; node = n + size l } ∷ []
declared_as i n (map_type w) = []
declared_as i n (typed k t) = []
declared_as i n (limit c) = []
declared_as i n (first v) = []
declared_as i n (shifted k c v) = []
declared_as i n (map_decl w l) = record { kind = NodeMap; name = w; row = i; rows = width (map_decl w l); first = n; node = n } ∷ []
declared_as i n (plain_field w t) = []
declared_as i n (bytes_field w v) = []
declared_as i n (array_field w t v) = []
declared_as i n (event w l) = record { kind = NodeEvent; name = w; row = i; rows = width (event w l); first = n; node = n + size l } ∷ []
declared_as i n (program l) = []

unfoldable pub declared_in : (i n : ℕ) → List Tree → List Declared
declared_in i n [] = []
declared_in i n (d ∷ ds) = declared_as i n d ++ declared_in (i + width d) (n + size d) ds

-- in the program of both
unfoldable pub declared_both : Tree → Tree → List Declared
declared_both p q = declared_in 0 0 (declarations p) ++ declared_in (width p) (size_of_all (declarations p)) (declarations q)
