-- What is read of rows, from a run of rows and back; and that behind a row that is not Eof another stands.
use mathlib.Core.Path.{◌≡◌, refl, sym, ◌∙◌}
use mathlib.Core.Bool.{Bool, true, false}
use mathlib.Core.List.{List}
use Prim.Native.Nat.{ℕ, suc, ◌+◌, ◌<◌}
use native.Mathlib.Omega.{arith}
use lib.Dec.{eqb, ltb}
use borrow.Author.Tests.{eqb-false, ltb-true, ltb-false}
use Rattle.rules.specs.Kinds.{Eof}
use Rattle.rules.specs.Tree.{Tok, Tree, yield}
use Rattle.rules.specs.Parse.{kind_at}
use Rattle.rules.specs.Grammar.{Nt, Is}
use Rattle.theory_grammar.proofs.Runs.{Run}
use Rattle.theory_grammar.proofs.Sound.{Reads, reads, run_of}
use Rattle.parse_nodes.specs.Post.{Tells}
use Rattle.parse_pass_expr.specs.Seen.{kind_in, Read}

module _ {ts : List Tok} {N : Nt} {d i j : ℕ} where
  pub built : {t : Tree} → Is true N d t → Run ts i (yield t) j → Read ts N d i j
  built {t} h r =
      let s : Reads ts N d i t j = reads h r in
      record { tree = t; is = s.is; next = s.next; inside = s.inside; clear = s.clear; same = s.same }

  pub reading : (r : Read ts N d i j) → Reads ts N d i r.tree j
  reading r = record { is = r.is; next = r.next; inside = r.inside; clear = r.clear; same = r.same }

  pub rows_of : (r : Read ts N d i j) → Run ts i (yield r.tree) j
  rows_of r = run_of (reading r)

  -- the same rows, as another nonterminal
  pub read_as : {M : Nt} → ((t : Tree) → Is true N d t → Is true M d t) → Read ts N d i j → Read ts M d i j
  read_as f r = record { tree = r.tree; is = f r.tree r.is; next = r.next; inside = r.inside; clear = r.clear; same = r.same }

-- the token of a row has the row's kind
pub told_kind : {ts : List Tok} (ws : List ℕ) {n : ℕ} (i : ℕ) {k : ℕ} → Tells ts ws n → i < n → kind_in ws i ≡ k → kind_at ts i ≡ k
told_kind ws i tl h e = tl.kinds i h ∙ e

-- behind a row of a table whose last row is Eof, and which is not Eof itself, stands another
pub row_behind : (ws : List ℕ) (n i k : ℕ) → ((j : ℕ) → suc j ≡ n → kind_in ws j ≡ Eof) → i < n → kind_in ws i ≡ k → eqb k Eof ≡ false
    → i + 1 < n
row_behind ws n i k closed h e f = go (ltb (i + 1) n) refl
  where
    go : (b : Bool) → ltb (i + 1) n ≡ b → i + 1 < n
    go true q = ltb-true (i + 1) n q
    go false q =
        let z : suc i ≡ n = omega (arith, ltb-false (i + 1) n q) in
        absurd (eqb-false k Eof f (sym e ∙ closed i z))
