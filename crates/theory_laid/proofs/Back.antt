-- The layout of a text's tree is a text with a tree: the one that was written, with the same faces and the same layout.
use Prim.Native.Nat.{ℕ, ◌*◌, ◌≤◌}
use mathlib.Core.List.{List}
use mathlib.Core.Path.{◌≡◌, sym, ap, ◌∙◌, subst}
use lib.ListN.{length, take}
use Rattle.rules.specs.Text.{most_bytes}
use Rattle.rules.specs.Tree.{Tree}
use Rattle.rules.specs.Nodes.{size, tree_words}
use Rattle.rules_layout.specs.Rows.{laid}
use Rattle.rules_layout.specs.Bytes.{layout}
use Rattle.laws.proofs.Valid.{fine_text}
use Rattle.theory_calls.specs.Demand2.{ScansFully, ProgramOf}
use Rattle.theory_layout.specs.Back.{faces_in, tokens_of, ReadsBack}
use Rattle.theory_layout.proofs.Twice.{twice}
use Rattle.theory_layout.proofs.ReadBack.{program_of, read_back}
use Rattle.theory_layout.proofs.Words.{same_in_words}
use Rattle.theory_laid.specs.Answer.{ItsTree}
use Rattle.theory_laid.proofs.Trees.{same_ok, its_fine, its_reading}

module _ {text rows table nodes : List ℕ} {count : ℕ} {p : Tree} (x : ItsTree text rows table nodes count p)
    (short : length (layout p) ≤ most_bytes) where
  back : ReadsBack text p
  back = read_back text p _ (its_fine text rows table nodes count p x) x.scans.ends (its_reading text rows table nodes count p x) short

  -- The layout scans to its end, and its program is the tree that was written.
  pub laid_scans : ScansFully (layout p)
  laid_scans = record { readable = record { fits = short; good = (fine_text (layout p) back.fine).1 }; ends = back.whole }

  pub laid_program : ProgramOf (layout p) (laid p)
  unfolding tokens_of
  laid_program = let y = program_of (layout p) (laid p) _ back.fine back.whole back.reads in record { is = y.0; same = sym y.1 }

  -- Rows, table and nodes that are the layout's tree have the faces of the text's, and their layout is the same bytes.
  module _ {rows' table' nodes' : List ℕ} {count' : ℕ} {q : Tree} (y : ItsTree (layout p) rows' table' nodes' count' q) where
    same_tree : q ≡ laid p
    same_tree = same_ok (its_reading (layout p) rows' table' nodes' count' q y) back.reads

    pub same_bytes : layout q ≡ layout p
    same_bytes = ap layout same_tree ∙ twice p

    pub same_faces : faces_in (layout p) rows' count' nodes' ≡ faces_in text rows count nodes
    same_faces =
        ap (λ (n : ℕ). faces_in (layout p) rows' n nodes') (y.counted ∙ ap size same_tree)
        ∙ same_in_words text p _ (its_fine text rows table nodes count p x) x.scans.ends (its_reading text rows table nodes count p x) short
        rows nodes rows' nodes' x.same_rows x.same_nodes y.same_rows
        (subst (λ (v : Tree). take (8 * size v) nodes' ≡ tree_words 0 v) same_tree y.same_nodes)
        ∙ ap (λ (n : ℕ). faces_in text rows n nodes) (sym x.counted)
