-- At the loop's head the fields so far are read, and the rest gives the event.
use mathlib.Core.List.{List}
use Prim.Native.Nat.{ℕ, ◌+◌, ◌-◌}
use Rattle.rules.specs.Parse
use Rattle.rules.specs.Kinds.{RBrace}
use Rattle.rules.specs.Tree.{Tok}
use Rattle.rules.specs.Fits.{event_fields}
use Rattle.parse_nodes.specs.Post.{Tells}
use Rattle.parse_nodes.specs.declared.At.{At}
use Rattle.parse_nodes.proofs.Steps.{Flat, Listing}
use Rattle.parse_events.proofs.fields.Given as goal

-- the fields that are read from row i + 3 on, up to the brace
abbrev pub Reading : List Tok → ℕ → ℕ → List ℕ → At → List ℕ → Type 0
Reading ts i n m s m' =
    Listing Flat ts RBrace event_fields (Parse.event_field ts) (Parse.list_to ts RBrace event_fields (Parse.event_field ts) (i + 1 + 1 + 1))
    (i + 1 + 1 + 1) n m s m'

abbrev pub invariant-loop-at : goal.invariant-loop-at
invariant-loop-at l = (ts : List Tok) → Tells ts l.rows l.count → Reading ts l.row l.fn.start.node l.initial.nodes l.s l.nodes

abbrev pub decreases-loop-at : goal.decreases-loop-at
decreases-loop-at l = l.count - l.s.row
