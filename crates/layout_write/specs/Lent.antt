-- What a layout is written from: a text, the words of its rows, and the words of the nodes of the program that the rows are read as.
use Rattle.std.specs.Prelude.{◌≡◌, true, List, ◌++◌, ℕ, length}
use Rattle.rules.specs.Tree.{Tree, yield}
use Rattle.rules.specs.Nodes.{size, tree_words}
use Rattle.rules.specs.Grammar.{Program, Is}
use Rattle.parse_nodes.specs.Names.{Names, Spans}

-- The program u has so many nodes, whose words are the first; and its rows are those that stand in ws, over the text t.
pub record Lent (t ws nodes : List ℕ) (count : ℕ) (u : Tree) : Type 0 where
  pub nest : ℕ
  pub is : Is true Program nest u
  pub names : Names (yield u) t ws (length (yield u))
  pub spans : Spans t ws (length (yield u))
  pub counted : count ≡ size u
  pub rest : List ℕ
  pub words : nodes ≡ tree_words 0 u ++ rest
