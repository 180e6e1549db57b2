-- A node whose rows, its place, its name and a unit's licence, are missing or not past row b.
use Rattle.std.specs.Prelude.{◌≡◌, List, [], ◌∷◌, ℕ, ◌≤◌}
use Rattle.rules.specs.Nodes.{Node, NodeUnit, missing}

pub record Within (b : ℕ) (n : Node) : Type 0 where
  pub place : n.place ≤ b
  pub name : (n.name ≡ missing → ⊥) → n.name ≤ b
  pub licence : n.kind ≡ NodeUnit → (n.fact1 ≡ missing → ⊥) → n.fact1 ≤ b

pub data AllWithin (b : ℕ) : List Node → Type 0 where
  no_more : AllWithin b []
  and_more : {n : Node} {ns : List Node} → Within b n → AllWithin b ns → AllWithin b (n ∷ ns)
