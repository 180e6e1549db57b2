-- What the function promises that writes an operator's node.
use Rattle.std.specs.Prelude.{◌≡◌, List, ℕ, ◌+◌, ◌*◌, Option, Some, None}
use Rattle.std.proofs.lemmas.List.Edits.{sets}
use Rattle.rules.specs.Nodes.{binary_node, node, node_words, missing}
use Rattle.rules.specs.Parse.{is_add}
use Rattle.parse_nodes.specs.Post.{joined_at}
use Rattle.parse_nodes.specs.declared.At.{At}

-- the operator k with its operands: the first ends at s, the second at t
pub record Joint (s t : At) (k : ℕ) (m m' : List ℕ) (r : At) : Type 0 where
  pub state : r ≡ joined_at t.row (t.node + 1) s.place (is_add k)
  pub memory : m' ≡ sets m (8 * t.node) (node_words (node (binary_node k) s.place missing 2))

-- the same, or t alone where there is no operator
abbrev pub Joined : Option ℕ → At → At → List ℕ → List ℕ → At → Type 0
Joined None s t m m' r = (r ≡ t) × (m' ≡ m)
Joined (Some k) s t m m' r = Joint s t k m m' r
