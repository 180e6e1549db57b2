-- Figures of a prelude and a probe: the tally of the nodes of both is the tallies of the two programs, joined.
use mathlib.Core.Path.{◌≡◌, refl, sym, ap, ◌∙◌}
use mathlib.Core.Bool.{true}
use mathlib.Core.List.{List, [], ◌∷◌, ◌++◌}
use Prim.Native.Nat.{ℕ, pred, ◌+◌}
use lib.ListN.{length}
use Rattle.rules.specs.Tree.{Tree, program}
use Rattle.rules.specs.Nodes.{Node, NodeProgram, missing, node, width, nodes_of}
use Rattle.rules.specs.Grammar.{Program, Is, i_program}
use Rattle.rules_program.specs.Both.{declarations, nodes_of_all, nodes_of_both}
use Rattle.rules_tally.specs.Tally.{tally_of, nodes_tally}
use Rattle.rules_tally.specs.Calls.{sum}
use Rattle.theory_program.proofs.Lists.{decls_nodes}
use Rattle.theory_tally.proofs.Trees.{tally_texts}

pub both_tally : {p q : Tree} → Is true Program 64 p → Is true Program 64 q → nodes_tally (nodes_of_both p q) ≡ sum (tally_of p) (tally_of q)
unfolding nodes_of_both declarations
both_tally (i_program {l = l} h) (i_program {l = m} k) =
    let w : ℕ = width (program l) in
    let end : Node = node NodeProgram (pred (w + width (program m))) missing (length (declarations l) + length (declarations m)) in
    ap (λ (ns : List Node). nodes_tally (ns ++ (nodes_of_all w (declarations m) ++ (end ∷ [])))) (sym (decls_nodes 0 h))
    ∙ (ap (λ (ns : List Node). nodes_tally (nodes_of 0 l ++ (ns ++ (end ∷ [])))) (sym (decls_nodes w k)) ∙ tally_texts 0 w l m end refl)
