-- A program and the list of its declarations: rows, nodes and children of the one are those of the other.
use mathlib.Core.Path.{◌≡◌, refl, sym, ap, ◌∙◌}
use mathlib.Core.Bool.{Bool, true}
use mathlib.Core.List.{List, [], ◌∷◌, ◌++◌, append_assoc, append-nil}
use Prim.Native.Nat.{ℕ, zero, suc, pred, ◌+◌, ◌≤◌}
use native.Mathlib.Omega.{arith}
use lib.ListN.{length, length-append}
use Rattle.rules.specs.Tree.{Tree, none, seq, program, count}
use Rattle.rules.specs.Nodes.{Node, NodeProgram, missing, node, width, size, nodes_of}
use Rattle.rules.specs.Grammar.{Decl, Decls, Program, Is, i_no_decls, i_decls, i_program}
use Rattle.theory_program.specs.Lists.{Listed, AllDecls, no_more, and_more}
use Rattle.rules_program.specs.Both.{declarations, listed, both, rows_of_all, size_of_all, nodes_of_all, nodes_of_both}

-- ---- lists that go on

pub rows_append : (ds es : List Tree) → rows_of_all (ds ++ es) ≡ rows_of_all ds + rows_of_all es
unfolding rows_of_all
rows_append [] es = omega arith
rows_append (d ∷ ds) es = omega (arith, rows_append ds es)

pub size_append : (ds es : List Tree) → size_of_all (ds ++ es) ≡ size_of_all ds + size_of_all es
unfolding size_of_all
size_append [] es = omega arith
size_append (d ∷ ds) es = omega (arith, size_append ds es)

pub nodes_append : (i : ℕ) (ds es : List Tree) → nodes_of_all i (ds ++ es) ≡ nodes_of_all i ds ++ nodes_of_all (i + rows_of_all ds) es
unfolding nodes_of_all rows_of_all
nodes_append i [] es = ap (λ (n : ℕ). nodes_of_all n es) (omega arith)
nodes_append i (d ∷ ds) es =
    ap (λ (l : List Node). nodes_of i d ++ l) (nodes_append (i + width d) ds es)
    ∙ (sym (append_assoc (nodes_of i d) (nodes_of_all (i + width d) ds) (nodes_of_all (i + width d + rows_of_all ds) es))
    ∙ ap (λ (n : ℕ). (nodes_of i d ++ nodes_of_all (i + width d) ds) ++ nodes_of_all n es) (omega arith))

nodes_one : (i : ℕ) (d : Tree) → nodes_of_all i (d ∷ []) ≡ nodes_of i d
unfolding nodes_of_all
nodes_one i d = append-nil (nodes_of i d)

rows_one : (d : Tree) → rows_of_all (d ∷ []) ≡ width d
unfolding rows_of_all
rows_one d = omega arith

size_one : (d : Tree) → size_of_all (d ∷ []) ≡ size d
unfolding size_of_all
size_one d = omega arith

-- ---- a list of declarations as a tree

module _ {strict : Bool} where
  pub decls_rows : {d : ℕ} {l : Tree} → Is strict Decls d l → width l ≡ rows_of_all (declarations l)
  unfolding width declarations rows_of_all
  decls_rows i_no_decls = refl
  decls_rows (i_decls {l = l} {s = s} h x) = omega (arith, decls_rows h, rows_append (declarations l) (s ∷ []), rows_one s)

  pub decls_size : {d : ℕ} {l : Tree} → Is strict Decls d l → size l ≡ size_of_all (declarations l)
  unfolding size declarations size_of_all
  decls_size i_no_decls = refl
  decls_size (i_decls {l = l} {s = s} h x) = omega (arith, decls_size h, size_append (declarations l) (s ∷ []), size_one s)

  pub decls_count : {d : ℕ} {l : Tree} → Is strict Decls d l → count l ≡ length (declarations l)
  unfolding count declarations
  decls_count i_no_decls = refl
  decls_count (i_decls {l = l} {s = s} h x) = omega (arith, decls_count h, length-append (declarations l) (s ∷ []))

  pub decls_nodes : {d : ℕ} {l : Tree} (i : ℕ) → Is strict Decls d l → nodes_of i l ≡ nodes_of_all i (declarations l)
  unfolding nodes_of declarations nodes_of_all
  decls_nodes i i_no_decls = refl
  decls_nodes i (i_decls {l = l} {s = s} h x) =
      ap (λ (ns : List Node). ns ++ nodes_of (i + width l) s) (decls_nodes i h)
      ∙ (ap (λ (n : ℕ). nodes_of_all i (declarations l) ++ nodes_of (i + n) s) (decls_rows h)
      ∙ (ap (λ (ns : List Node). nodes_of_all i (declarations l) ++ ns) (sym (nodes_one (i + rows_of_all (declarations l)) s))
      ∙ sym (nodes_append i (declarations l) (s ∷ []))))

  -- ---- a program

  pub program_listed : {d : ℕ} {p : Tree} → Is strict Program d p → Listed p
  unfolding width size declarations nodes_of
  program_listed (i_program {l = l} h) =
      record {
        rows = omega (arith, decls_rows h);
        nodes = omega (arith, decls_size h);
        words = λ (i : ℕ). rw (decls_nodes i h, decls_rows h, decls_count h) refl;
      }

  -- ---- the program of both

  all_append : {d : ℕ} {xs ys : List Tree} → AllDecls strict d xs → AllDecls strict d ys → AllDecls strict d (xs ++ ys)
  all_append no_more b = b
  all_append (and_more x a) b = and_more x (all_append a b)

  pub decls_all : {d : ℕ} {l : Tree} → Is strict Decls d l → AllDecls strict d (declarations l)
  unfolding declarations
  decls_all i_no_decls = no_more
  decls_all (i_decls h x) = all_append (decls_all h) (and_more x no_more)

  pub program_all : {d : ℕ} {p : Tree} → Is strict Program d p → AllDecls strict d (declarations p)
  unfolding declarations
  program_all (i_program h) = decls_all h

  listed_decls : {d : ℕ} {l : Tree} {xs : List Tree} → Is strict Decls d l → AllDecls strict d xs → Is strict Decls d (listed l xs)
  unfolding listed
  listed_decls h no_more = h
  listed_decls h (and_more x a) = listed_decls (i_decls h x) a

  -- "the program whose declarations are the prelude's and then the probe's" is a program of the grammar
  pub both_program : {d : ℕ} {p q : Tree} → Is strict Program d p → Is strict Program d q → Is strict Program d (both p q)
  unfolding both
  both_program h k = i_program (listed_decls i_no_decls (all_append (program_all h) (program_all k)))

listed_declarations : (l : Tree) (xs : List Tree) → declarations (listed l xs) ≡ declarations l ++ xs
unfolding listed declarations
listed_declarations l [] = sym (append-nil (declarations l))
listed_declarations l (x ∷ xs) = listed_declarations (seq l x) xs ∙ append_assoc (declarations l) (x ∷ []) xs

-- and its declarations are these
pub both_declarations : (p q : Tree) → declarations (both p q) ≡ declarations p ++ declarations q
unfolding both declarations
both_declarations p q = listed_declarations none (declarations p ++ declarations q)
