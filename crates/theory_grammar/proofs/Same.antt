-- What follows from soundness and completeness together: the grammar is unambiguous, what is refused is no program, and the same tokens
-- from a row on give the same declaration, wherever they stand and whatever follows.
use mathlib.Core.Path.{◌≡◌, sym, ap, ◌∙◌}
use mathlib.Core.Bool.{true}
use mathlib.Core.Logic.{◌↔◌}
use mathlib.Core.List.{List, [], ◌++◌, append-nil}
use Prim.Native.Nat.{ℕ, ◌+◌}
use native.Mathlib.Omega.{arith}
use lib.ListN.{length, drop}
use Rattle.rules.specs.declared.Syntax.{Syntax}
use Rattle.rules.specs.Tree.{Tok, Tree, yield}
use Rattle.rules.specs.Nodes.{width}
use Rattle.rules.specs.Parse
use Rattle.rules.specs.Parse.{Out, ok, no}
use Rattle.rules.specs.Grammar.{Add, Args, Stmt, Decl, Program, Is}
use Rattle.theory_grammar.specs.Tokens.{Whole}
use Rattle.theory_grammar.proofs.Laws.{yield_width}
use Rattle.theory_grammar.proofs.Runs.{all_ok}
use Rattle.theory_grammar.proofs.Sound.{Reads, expr_sound, stmt_sound, top_sound, parse_whole}
use Rattle.theory_grammar.proofs.Complete.{Stop, front, expr_complete, stmt_complete, top_complete, program_complete, parse_complete}

-- ---- one tree for the same tokens

same_tree : (o : Out) (t u : Tree) (j k : ℕ) → o ≡ ok t j → o ≡ ok u k → t ≡ u
same_tree o t u j k e f = cc

pub unambiguous : (t u : Tree) → Is true Program 64 t → Is true Program 64 u → yield t ≡ yield u → t ≡ u
unambiguous t u p q e =
    same_tree (Parse.parse (yield t)) t u (width t) (width u) (parse_complete t p) (ap Parse.parse e ∙ parse_complete u q)

-- ---- what is accepted is exactly the programs

-- In a table whose one Eof is its last row, the parser gives t exactly if t is a program and the rows are its tokens.
pub accepts_exactly : (ts : List Tok) (t : Tree) → Whole ts → (Parse.parse ts ≡ ok t (length ts)) ↔ (Is true Program 64 t × (ts ≡ yield t))
accepts_exactly ts t w = (
  λ e. let h : Is true Program 64 t × (ts ≡ yield t) × (length ts ≡ length ts) = parse_whole ts t (length ts) w e in (h.0, h.1),
  λ h. program_complete ts t [] (h.1 ∙ sym (append-nil (yield t))) h.0 ∙ ap (λ (n : ℕ). ok t n) (sym (yield_width t) ∙ ap length (sym h.1)),
)

-- What is refused is no program.
pub refused_sound : (ts : List Tok) (why : Syntax) (r : ℕ) → Parse.parse ts ≡ no why r → (t : Tree) → Is true Program 64 t → ts ≡ yield t → ⊥
refused_sound ts why r e t h f =
    let a : Parse.parse ts ≡ ok t (width t) = program_complete ts t [] (f ∙ sym (append-nil (yield t))) h in
    let z : ◌≡◌ {A = ℕ} 0 1 = cc in
    absurd (omega arith)

-- ---- the same tokens elsewhere

module _ (ts ts' : List Tok) (i i' j : ℕ) (t : Tree) (ys : List Tok) (e : drop i' ts' ≡ yield t ++ ys) where
  pub same_expr : (d : ℕ) → Parse.expr ts d i ≡ ok t j → Stop Args (front ys) → Parse.expr ts' d i' ≡ ok t (i' + width t)
  same_expr d f s = expr_complete ts' i' t ys e d (all_ok (Reads ts Add d i) (Parse.expr ts d i) t j (expr_sound ts d i) f).is s

  pub same_stmt : (d : ℕ) → Parse.stmt ts d (Parse.body ts d) i ≡ ok t j → Stop Stmt (front ys) → Parse.stmt ts' d (Parse.body ts' d) i' ≡ ok t (i' + width t)
  same_stmt d f s =
      stmt_complete ts' i' t ys e d (all_ok (Reads ts Stmt d i) (Parse.stmt ts d (Parse.body ts d) i) t j (stmt_sound ts d i) f).is s

  pub same_decl : Parse.top ts i ≡ ok t j → Parse.top ts' i' ≡ ok t (i' + width t)
  same_decl f = top_complete ts' i' t ys e (all_ok (Reads ts Decl 64 i) (Parse.top ts i) t j (top_sound ts i) f).is
