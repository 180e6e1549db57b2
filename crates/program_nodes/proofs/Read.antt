-- What holds of a text that is a program: its nodes and its declarations are few.
use mathlib.Core.Path.{◌≡◌, subst}
use mathlib.Core.Bool.{Bool, true}
use mathlib.Core.List.{List}
use Prim.Native.Nat.{ℕ, ◌≤◌}
use native.Mathlib.Omega.{arith}
use lib.ListN.{length}
use Rattle.rules.specs.Tree.{Tree}
use Rattle.rules.specs.Nodes.{width, size}
use Rattle.rules.specs.Grammar.{Decl, Program, Is, i_unit, i_map, i_event}
use Rattle.rules_program.specs.Both.{declarations, size_of_all}
use Rattle.rules_program.specs.Program.{tree_in}
use Rattle.theory_grammar.proofs.Laws.{nodes_within_rows}
use Rattle.theory_program.specs.Lists.{Listed, AllDecls, no_more, and_more}
use Rattle.theory_program.proofs.Lists.{program_listed, program_all}
use Rattle.program_alone.specs.Told.{IsProgram}
use Rattle.program_nodes.specs.Write.{tree_of}

-- ---- declarations have nodes

decl_size : {s : Bool} {d : ℕ} {x : Tree} → Is s Decl d x → 1 ≤ size x
unfolding size
decl_size (i_unit l) = omega arith
decl_size (i_map l k) = omega arith
decl_size (i_event l) = omega arith

pub few_decls : {s : Bool} {d : ℕ} {xs : List Tree} → AllDecls s d xs → length xs ≤ size_of_all xs
unfolding size_of_all
few_decls no_more = omega arith
few_decls (and_more x xs) = omega (arith, decl_size x, few_decls xs)

-- ---- a text that is a program

module _ {t ws : List ℕ} {n : ℕ} (a : IsProgram t ws n) where
  pub tree_is : a.tree ≡ tree_of t ws n
  unfolding tree_in
  tree_is = rw a.reads

  pub read_program : Is true Program 64 (tree_of t ws n)
  read_program = subst (λ (p : Tree). Is true Program 64 p) tree_is a.is

  pub read_listed : Listed (tree_of t ws n)
  read_listed = program_listed read_program

  pub read_wide : width (tree_of t ws n) ≡ n
  read_wide = subst (λ (p : Tree). width p ≡ n) tree_is a.wide

  pub read_small : size (tree_of t ws n) ≤ n
  read_small = omega (arith, nodes_within_rows (tree_of t ws n), read_wide)

  -- no more children than nodes, and no more of these than rows of the longest table
  pub read_few : length (declarations (tree_of t ws n)) ≤ 65537
  read_few = omega (arith, few_decls (program_all read_program), read_listed.nodes, read_small, a.ended.table.short)
