-- What the functions promise that write a call's node and a field's.
use Rattle.std.specs.Prelude.{◌≡◌, Bool, true, false, List, ℕ, ◌+◌, ◌*◌, Result, Ok}
use Rattle.std.proofs.lemmas.List.Edits.{sets}
use Rattle.rules.specs.declared.Syntax.TheVariants.{CallOnOther}
use Rattle.rules.specs.Nodes.{NodeCall, NodeField, node, node_words}
use Rattle.parse_nodes.specs.Post.{state_at, refused_at}
use Rattle.parse_nodes.specs.declared.At.{At}
use Rattle.parse_nodes.specs.declared.Refusal.{Refusal}

-- the end of a call; variable: what s stands behind is one
abbrev pub CallEnd : (variable : Bool) → At → ℕ → ℕ → ℕ → List ℕ → List ℕ → Result At Refusal → Type 0
CallEnd true s k count next m m' r =
    (r ≡ Ok (state_at next (k + 1) s.place))
    × (m' ≡ sets m (8 * k) (node_words (node NodeCall s.place (s.row + 1) (count + 1))))
CallEnd false s k count next m m' r = r ≡ refused_at CallOnOther (s.row + 1)

-- a field of what s stands behind, at the dot
pub record FieldEnd (s : At) (m m' : List ℕ) (r : At) : Type 0 where
  pub state : r ≡ state_at (s.row + 1 + 1) (s.node + 1) (s.row + 1)
  pub memory : m' ≡ sets m (8 * s.node) (node_words (node NodeField (s.row + 1) (s.row + 1) 1))
