-- The first pass: what it answers where the parser answers, and what is left of the parser's loop at each of its turns.
use mathlib.Core.Path.{◌≡◌, refl, sym, ap, ◌∙◌, subst}
use mathlib.Core.Bool.{Bool, true, not, cond}
use mathlib.Core.List.{List}
use Prim.Native.Nat.{ℕ, ◌+◌, ◌≤◌}
use native.Mathlib.Omega.{arith}
use lib.Dec.{eqb}
use lib.ListN.{length}
use borrow.Author.Tests.{eq-eqb, ne_eqb}
use Rattle.rules.specs.declared.Syntax.{Syntax}
use Rattle.rules.specs.Kinds.{KeywordElse, Eof}
use Rattle.rules.specs.Fits.{only, tops}
use Rattle.rules.specs.Tree.{Tok, Tree, none, seq, program, hangs}
use Rattle.rules.specs.Parse
use Rattle.rules.specs.Parse.{Out, ok, no, then, kind_at}
use Rattle.rules.specs.Grammar.{Decl}
use Rattle.theory_grammar.specs.Tokens.{Proper}
use Rattle.theory_grammar.specs.Loops.{Runs, ends, refuses, steps}
use Rattle.theory_grammar.proofs.Cases.{then_ok, then_no, parse_is}
use Rattle.theory_grammar.proofs.Runs.{all_ok}
use Rattle.theory_grammar.proofs.Loops.{runs_once, decls_run}
use Rattle.theory_grammar.proofs.Complete.{top_complete}
use Rattle.parse_nodes.specs.Fitting.{retold_at}
use Rattle.parse_nodes.proofs.Steps.{Flat, flat_none, flat_seq}
use Rattle.parse_pass_expr.specs.Seen.{Read}
use Rattle.std.specs.Prelude.{Result, Ok, Err}
use Rattle.parse_nodes.specs.Post.{refusal, refused_at}
use Rattle.parse_nodes.specs.declared.Refusal.{Refusal}
use Rattle.parse.specs.Program.{PassedAs}
use Rattle.parse.proofs.Whole.{TopEnds, top_ends}

-- ---- an answer, from what the parser says, and back

pub passed_ok : (o : Out) (t : Tree) (j : ℕ) → o ≡ ok t j → PassedAs o (Ok j)
passed_ok o t j e = subst (λ (x : Out). PassedAs x (Ok j)) (sym e) refl

-- a refusal that a function made, for a reason that it told
pub passed_err : (o : Out) (why x : Syntax) (p : ℕ) (e : Refusal) → o ≡ no why p → x ≡ why → e ≡ refusal x p → PassedAs o (Err e)
passed_err o why x p e q s r =
    subst (λ (y : Out). PassedAs y (Err e)) (sym q) (ap Err r ∙ ap (λ (y : Syntax). refused_at y p) s)

-- the tree that was passed
pub record Reached (o : Out) (j : ℕ) : Type 0 where
  pub tree : Tree
  pub is : o ≡ ok tree j

pub reached : (o : Out) (r : Result ℕ Refusal) (j : ℕ) → PassedAs o r → r ≡ Ok j → Reached o j
reached (ok t k) r j h e = record { tree = t; is = cc (h, e) }
reached (no why p) r j h e = let z : ◌≡◌ {A = ℕ} 0 1 = cc (h, e) in absurd (omega arith)

pub stopped : (o : Out) (r : Result ℕ Refusal) (x : Refusal) → PassedAs o r → r ≡ Err x → o ≡ no x.why x.row
stopped (ok t j) r x h e = let z : ◌≡◌ {A = ℕ} 0 1 = cc (h, e) in absurd (omega arith)
stopped (no why p) r x h e = let z : refusal why p ≡ x = cc (h, e) in ap (λ (y : Refusal). no y.why y.row) z

-- a declaration whose rows are read is what the parser gives
pub passed_read : (ts : List Tok) (i j : ℕ) → Read ts Decl 64 i j → Proper ts → PassedAs (Parse.top ts i) (Ok j)
passed_read ts i j r p =
    passed_ok (Parse.top ts i) r.tree j (top_complete ts i r.tree _ (r.same p) r.is ∙ ap (ok r.tree) (sym r.next))

-- ---- the loop over the declarations

-- Up to row j a list is read, behind which no `else` may stand; what the loop comes to from there is what it comes to from the first row.
pub record Passing (ts : List Tok) (j : ℕ) : Type 0 where
  pub tree : Tree
  pub rest : (o : Out) → Runs (λ r. not (eqb (kind_at ts r) Eof)) (Parse.list_step ts tops (Parse.top ts)) tree j o
      → Parse.list_to ts Eof tops (Parse.top ts) 0 ≡ o
  pub inside : j ≤ length ts
  pub flat : Flat tree

module _ (ts : List Tok) where
  pub passing_start : Passing ts 0
  passing_start = record { tree = none; rest = λ o r. runs_once (decls_run ts) r; inside = omega arith; flat = flat_none }

  module _ (j : ℕ) (c : Passing ts j) where
    -- at Eof the list is the program's
    pub passing_ends : kind_at ts j ≡ Eof → PassedAs (Parse.parse ts) (Ok (j + 1))
    passing_ends e =
        passed_ok (Parse.parse ts) (program c.tree) (j + 1)
        (parse_is ts ∙ then_ok _ _ c.tree j (c.rest _ (ends (rw (eq-eqb (kind_at ts j) Eof e)))))

    module _ (e : kind_at ts j ≡ Eof → ⊥) where
      goes_on : not (eqb (kind_at ts j) Eof) ≡ true
      goes_on = rw (ne_eqb (kind_at ts j) Eof e)

      -- one declaration more
      pub passing_again : (k : ℕ) → Reached (Parse.top ts j) k → Passing ts k
      unfolding Parse.list_step Parse.or then
      passing_again k u =
          let f : TopEnds ts j u.tree k = all_ok (TopEnds ts j) (Parse.top ts j) u.tree k (top_ends ts j) u.is in
          record {
            tree = seq c.tree u.tree;
            rest = λ o r. c.rest o (steps goes_on (rw u.is) r);
            inside = f.0.1;
            flat = flat_seq c.tree u.tree f.1;
          }

      -- a declaration is refused
      pub passing_refused : (why : Syntax) (p : ℕ) (x : Refusal) → Parse.top ts j ≡ no why p → x ≡ refusal (retold_at tops j why p) p
          → PassedAs (Parse.parse ts) (Err x)
      unfolding Parse.list_step Parse.else_behind Parse.or then retold_at
      passing_refused why p x f q =
          let s : tops + cond (hangs c.tree) (only KeywordElse) 0 ≡ tops =
          ap (λ (b : Bool). tops + cond b (only KeywordElse) 0) c.flat ∙ omega arith in
          passed_err (Parse.parse ts) (retold_at tops j why p) (retold_at tops j why p) p x
          (parse_is ts ∙ then_no _ _ _ p (c.rest _ (refuses goes_on (rw (f, s))))) refl q
