-- At the loop's head the contents so far are read, with their kind and licence.
use mathlib.Core.List.{List}
use Prim.Native.Nat.{◌-◌}
use Rattle.rules.specs.Tree.{Tok}
use Rattle.parse_nodes.specs.Names.{Names}
use Rattle.parse_units.proofs.Answers.{Gathering}
use Rattle.parse_units.proofs.items.Given as goal

abbrev pub invariant-loop-here : goal.invariant-loop-here
invariant-loop-here l =
    (ts : List Tok) → Names ts l.text l.rows l.count → Gathering ts l.fn.start.row l.fn.start.node l.initial.nodes l.u l.nodes

abbrev pub decreases-loop-here : goal.decreases-loop-here
decreases-loop-here l = l.count - l.u.at.row
