-- A program by the list of its declarations.
use Rattle.std.specs.Prelude.{◌≡◌, Bool, List, [], ◌∷◌, ◌++◌, ℕ, suc, ◌+◌, length}
use Rattle.rules.specs.Tree.{Tree}
use Rattle.rules.specs.Nodes.{NodeProgram, missing, node, width, size, nodes_of}
use Rattle.rules.specs.Grammar.{Decl, Is}
use Rattle.rules_program.specs.Both.{declarations, rows_of_all, size_of_all, nodes_of_all}

-- its rows and nodes are theirs, and after them Eof and the program node, whose children they are
pub record Listed (p : Tree) : Type 0 where
  pub rows : width p ≡ suc (rows_of_all (declarations p))
  pub nodes : size p ≡ suc (size_of_all (declarations p))
  pub words : (i : ℕ) → nodes_of i p
      ≡ nodes_of_all i (declarations p) ++ (node NodeProgram (i + rows_of_all (declarations p)) missing (length (declarations p)) ∷ [])

-- every one of them is a declaration of the grammar
pub data AllDecls (strict : Bool) (d : ℕ) : List Tree → Type 0 where
  no_more : AllDecls strict d []
  and_more : {x : Tree} {xs : List Tree} → Is strict Decl d x → AllDecls strict d xs → AllDecls strict d (x ∷ xs)
