-- The nodes of both: those of the tree of both, of which all after the prelude's are moved by the prelude's Eof.
use mathlib.Core.Path.{◌≡◌, refl, sym, ap, ◌∙◌}
use mathlib.Core.Bool.{Bool, true}
use mathlib.Core.List.{List, [], ◌∷◌, ◌++◌, map, map-append, append_assoc}
use Prim.Native.Nat.{ℕ, suc, pred, ◌+◌, ◌≤◌, ◌<◌}
use native.Mathlib.Omega.{arith}
use lib.ListN.{length, take, drop, length-append}
use lib.Seq.{take-append_seam, drop-append_seam}
use Rattle.rules.specs.Tree.{Tree}
use Rattle.rules.specs.Nodes.{Node, NodeProgram, missing, node, width, size, nodes_of}
use Rattle.rules.specs.Grammar.{Program, Is}
use Rattle.theory_grammar.proofs.Laws.{nodes_size}
use Rattle.rules_program.specs.Both.{declarations, both, rows_of_all, size_of_all, nodes_of_all, nodes_of_both}
use Rattle.theory_moved.specs.Moved.{moved_row, moved}
use Rattle.theory_moved.proofs.Moved.{nodes_moved}
use Rattle.theory_program.specs.Lists.{Listed}
use Rattle.theory_program.proofs.Lists.{rows_append, nodes_append, both_program, both_declarations, program_listed}

-- nodes of declarations that stand k rows further on
pub all_moved : (k i : ℕ) (ds : List Tree) → i + k + rows_of_all ds ≤ missing → nodes_of_all (i + k) ds ≡ map (moved k) (nodes_of_all i ds)
unfolding nodes_of_all rows_of_all
all_moved k i [] b = refl
all_moved k i (d ∷ ds) b =
    let e : i + k + width d ≡ i + width d + k = omega arith in
    ap (λ (ns : List Node). ns ++ nodes_of_all (i + k + width d) ds) (nodes_moved k i d (omega arith))
    ∙ (ap (λ (m : ℕ). map (moved k) (nodes_of i d) ++ nodes_of_all m ds) e
    ∙ (ap (λ (ns : List Node). map (moved k) (nodes_of i d) ++ ns) (all_moved k (i + width d) ds (omega arith))
    ∙ sym (map-append (moved k) (nodes_of i d) (nodes_of_all (i + width d) ds))))

pub all_size : (i : ℕ) (ds : List Tree) → length (nodes_of_all i ds) ≡ size_of_all ds
unfolding nodes_of_all size_of_all
all_size i [] = refl
all_size i (d ∷ ds) =
    omega (arith, length-append (nodes_of i d) (nodes_of_all (i + width d) ds), nodes_size i d, all_size (i + width d) ds)

program_moved : (k p c : ℕ) → node NodeProgram (p + k) missing c ≡ moved k (node NodeProgram p missing c)
unfolding moved moved_row
program_moved k p c = refl

-- nodes of declarations, and the program node of so many
abbrev pub ended : (i row children : ℕ) → List Tree → List Node
ended i row children ds = nodes_of_all i ds ++ (node NodeProgram row missing children ∷ [])

two_lists : (ds es : List Tree)
    → ended 0 (0 + rows_of_all (ds ++ es)) (length (ds ++ es)) (ds ++ es)
    ≡ nodes_of_all 0 ds ++ ended (rows_of_all ds) (rows_of_all ds + rows_of_all es) (length ds + length es) es
two_lists ds es =
    let rows : 0 + rows_of_all (ds ++ es) ≡ rows_of_all ds + rows_of_all es = omega (arith, rows_append ds es) in
    let start : 0 + rows_of_all ds ≡ rows_of_all ds = omega arith in
    ap (λ (r : ℕ). ended 0 r (length (ds ++ es)) (ds ++ es)) rows
    ∙ (ap (λ (c : ℕ). ended 0 (rows_of_all ds + rows_of_all es) c (ds ++ es)) (length-append ds es)
    ∙ (ap (λ (ns : List Node). ns ++ (node NodeProgram (rows_of_all ds + rows_of_all es) missing (length ds + length es) ∷ [])) (nodes_append 0 ds es)
    ∙ (append_assoc (nodes_of_all 0 ds) (nodes_of_all (0 + rows_of_all ds) es) (node NodeProgram (rows_of_all ds + rows_of_all es) missing (length ds + length es) ∷ [])
    ∙ ap (λ (i : ℕ). nodes_of_all 0 ds ++ ended i (rows_of_all ds + rows_of_all es) (length ds + length es) es) start)))

tree_nodes : {p q : Tree} → Is true Program 64 p → Is true Program 64 q
    → nodes_of 0 (both p q)
    ≡ nodes_of_all 0 (declarations p)
    ++ ended (rows_of_all (declarations p)) (rows_of_all (declarations p) + rows_of_all (declarations q)) (length (declarations p) + length (declarations q)) (declarations q)
tree_nodes {p = p} {q = q} h k =
    (program_listed (both_program h k)).words 0
    ∙ (ap (λ (ds : List Tree). ended 0 (0 + rows_of_all ds) (length ds) ds) (both_declarations p q) ∙ two_lists (declarations p) (declarations q))

-- the end of a list moved by one row
pub end_moved : (i c : ℕ) (ds : List Tree) → i + 1 + rows_of_all ds ≤ missing
    → ended (suc i) (suc (i + rows_of_all ds)) c ds ≡ map (moved 1) (ended i (i + rows_of_all ds) c ds)
end_moved i c ds b =
    let one : suc i ≡ i + 1 = omega arith in
    let place : suc (i + rows_of_all ds) ≡ i + rows_of_all ds + 1 = omega arith in
    ap (λ (j : ℕ). ended j (suc (i + rows_of_all ds)) c ds) one
    ∙ (ap (λ (r : ℕ). ended (i + 1) r c ds) place
    ∙ (ap (λ (ns : List Node). ns ++ (node NodeProgram (i + rows_of_all ds + 1) missing c ∷ [])) (all_moved 1 i ds b)
    ∙ (ap (λ (n : Node). map (moved 1) (nodes_of_all i ds) ++ (n ∷ [])) (program_moved 1 (i + rows_of_all ds) c)
    ∙ sym (map-append (moved 1) (nodes_of_all i ds) (node NodeProgram (i + rows_of_all ds) missing c ∷ [])))))

-- a list that is moved from its n-th on
cut : (f : Node → Node) (n : ℕ) (xs ys : List Node) → length xs ≡ n → take n (xs ++ ys) ++ map f (drop n (xs ++ ys)) ≡ xs ++ map f ys
cut f n xs ys e =
    ap (λ (m : ℕ). take m (xs ++ ys) ++ map f (drop m (xs ++ ys))) (sym e)
    ∙ (ap (λ (l : List Node). l ++ map f (drop (length xs) (xs ++ ys))) (take-append_seam xs ys)
    ∙ ap (λ (l : List Node). xs ++ map f l) (drop-append_seam xs ys))

-- the nodes of both, as the tree of both has them: the prelude's, and the others moved by one
pub both_nodes : {p q : Tree} → Is true Program 64 p → Is true Program 64 q → width p + width q ≤ missing
    → nodes_of_both p q
    ≡ take (size_of_all (declarations p)) (nodes_of 0 (both p q)) ++ map (moved 1) (drop (size_of_all (declarations p)) (nodes_of 0 (both p q)))
unfolding nodes_of_both
both_nodes {p = p} {q = q} h k b =
    let ds : List Tree = declarations p in
    let es : List Tree = declarations q in
    let c : ℕ = length ds + length es in
    let w : width p ≡ suc (rows_of_all ds) = (program_listed h).rows in
    let v : width q ≡ suc (rows_of_all es) = (program_listed k).rows in
    let place : pred (width p + width q) ≡ suc (rows_of_all ds + rows_of_all es) = omega arith in
    ap (λ (i : ℕ). nodes_of_all 0 ds ++ ended i (pred (width p + width q)) c es) w
    ∙ (ap (λ (r : ℕ). nodes_of_all 0 ds ++ ended (suc (rows_of_all ds)) r c es) place
    ∙ (ap (λ (ns : List Node). nodes_of_all 0 ds ++ ns) (end_moved (rows_of_all ds) c es (omega arith))
    ∙ (sym (cut (moved 1) (size_of_all ds) (nodes_of_all 0 ds) (ended (rows_of_all ds) (rows_of_all ds + rows_of_all es) c es) (all_size 0 ds))
    ∙ ap (λ (ns : List Node). take (size_of_all ds) ns ++ map (moved 1) (drop (size_of_all ds) ns)) (sym (tree_nodes h k)))))
