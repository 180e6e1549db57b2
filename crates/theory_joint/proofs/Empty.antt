-- An empty prelude has one row. Then both calls give the same kinds, children and facts, with rows moved by one, and refusals are alike short
-- of 5, 51 and 4.
use Prim.Native.Nat.{ℕ, suc, pred, ◌+◌, ◌≤◌}
use native.Mathlib.Omega.{arith}
use mathlib.Core.Bool.{true}
use mathlib.Core.List.{List, [], ◌∷◌, ◌++◌, map}
use mathlib.Core.Path.{◌≡◌, refl, sym, ap, ◌∙◌}
use lib.ListN.{length}
use Rattle.rules.specs.declared.Cursor.{Cursor}
use Rattle.rules.specs.declared.Reason.{Reason}
use Rattle.rules.specs.declared.Table.{Table}
use Rattle.rules.specs.Outcomes.{unparsed}
use Rattle.std.specs.declared.result.Result.TheVariants.{Ok, Err}
use Rattle.rules.specs.Tree.{Tree}
use Rattle.rules.specs.Nodes.{Node, missing, width, nodes_of}
use Rattle.rules.specs.Grammar.{Program, Is}
use Rattle.rules.specs.Calls.{parse_told}
use Rattle.theory_grammar.proofs.Laws.{is_wide}
use Rattle.rules_program.specs.declared.Which.TheVariants.{Probe}
use Rattle.rules_program.specs.declared.Unjoined.TheVariants as why
use Rattle.rules_program.specs.Both.{declarations, rows_of_all, nodes_of_all, nodes_of_both}
use Rattle.rules_program.specs.Program.{refused, program_told}
use Rattle.theory_moved.specs.Moved.{moved}
use Rattle.theory_program.specs.Lists.{AllDecls, no_more, and_more}
use Rattle.theory_program.proofs.Lists.{program_listed, program_all}
use Rattle.theory_program.proofs.Nodes.{ended, end_moved}

-- no declaration has no row
no_decl : (ds : List Tree) → AllDecls true 64 ds → rows_of_all ds ≡ 0 → ds ≡ []
unfolding rows_of_all
no_decl [] no_more e = refl
no_decl (d ∷ ds) (and_more h a) e = absurd (omega (arith, is_wide h))

-- a program of one row declares nothing
nothing_declared : (p : Tree) → Is true Program 64 p → width p ≡ 1 → declarations p ≡ []
nothing_declared p h e = no_decl (declarations p) (program_all h) (omega (arith, (program_listed h).rows))

-- the nodes of a probe behind an empty prelude are its own, moved by one row
pub empty_nodes : (p q : Tree) → Is true Program 64 p → Is true Program 64 q → width p ≡ 1 → 1 + width q ≤ missing
    → nodes_of_both p q ≡ map (moved 1) (nodes_of 0 q)
unfolding nodes_of_both nodes_of_all
empty_nodes p q h k e b =
    let es : List Tree = declarations q in
    let v : width q ≡ suc (rows_of_all es) = (program_listed k).rows in
    let place : pred (width p + width q) ≡ suc (0 + rows_of_all es) = omega arith in
    let children : length {A = Tree} [] + length es ≡ length es = omega arith in
    ap (λ (ds : List Tree). nodes_of_all 0 ds ++ ended (width p) (pred (width p + width q)) (length ds + length es) es) (nothing_declared p h e)
    ∙ (ap (λ (c : ℕ). ended (width p) (pred (width p + width q)) c es) children
    ∙ (ap (λ (r : ℕ). ended (width p) r (length es) es) place
    ∙ (ap (λ (i : ℕ). ended i (suc (0 + rows_of_all es)) (length es) es) e
    ∙ (end_moved 0 (length es) es (omega arith) ∙ ap (λ (ns : List Node). map (moved 1) ns) (sym ((program_listed k).words 0))))))

-- a refusal of the probe is what its own parse tells
pub empty_refused : (prelude pws : List ℕ) (ptable : Table) (text ws : List ℕ) (table : Table) (nodes entries n : ℕ)
    {y : Reason} {at : Cursor} {found : ℕ}
    → parse_told prelude pws ptable ptable.count ≡ Ok n → parse_told text ws table table.count ≡ Err (unparsed y at found)
    → program_told prelude pws ptable text ws table nodes entries ≡ refused (why.Own y) at found Probe
unfolding program_told
empty_refused prelude pws ptable text ws table nodes entries n e f = rw (program_told, e, f) refl
