-- The words of nodes of which one is the last, and its words as a lent tail.
use mathlib.Core.Path.{◌≡◌, refl, sym, ap, ◌∙◌}
use mathlib.Core.List.{List, [], ◌∷◌, ◌++◌, append_assoc, append-nil}
use Prim.Native.Nat.{ℕ, ◌+◌, ◌-◌, ◌*◌, ◌≤◌}
use native.Mathlib.Omega.{arith}
use lib.ListN.{length, get_or, take, drop, length-append}
use lib.Seq.{take_at, drop_at, get_or-append-add}
use borrow.Rule.Slice.PartMut.{put_mid}
use Rattle.rules.specs.Nodes.{Node, node_words, words_of_nodes}
use Rattle.laws.proofs.Lists.{lent_tail, back_tail}
use Rattle.theory_grammar.proofs.Laws.{words_length, words_append}

-- a last node's words, and what stands after them
pub words_end : (xs : List Node) (x : Node) (rest : List ℕ)
    → words_of_nodes (xs ++ (x ∷ [])) ++ rest ≡ words_of_nodes xs ++ (node_words x ++ rest)
unfolding words_of_nodes
words_end xs x rest = rw (words_append xs (x ∷ []), append-nil, append_assoc)

eight : (x : Node) (rest : List ℕ) → length (node_words x ++ rest) ≡ 8 + length rest
unfolding node_words
eight x rest = omega arith

third : (x : Node) (rest : List ℕ) → get_or (node_words x ++ rest) 3 0 ≡ x.children
unfolding node_words
third x rest = refl

module _ (xs : List Node) (x : Node) (rest m : List ℕ) (at : ℕ)
    (e : m ≡ words_of_nodes xs ++ (node_words x ++ rest)) (h : at ≡ 8 * length xs) where
  front_length : length (words_of_nodes xs) ≡ at
  front_length = words_length xs ∙ sym h

  pub end_length : length m ≡ at + 8 + length rest
  end_length = omega (arith, ap length e, length-append (words_of_nodes xs) (node_words x ++ rest), eight x rest, front_length)

  end_inside : at ≤ length m
  end_inside = omega (arith, end_length)

  pub end_lent : take (length m - at) (drop at m) ≡ node_words x ++ rest
  end_lent = lent_tail m at end_inside ∙ (ap (drop at) e ∙ drop_at (words_of_nodes xs) (node_words x ++ rest) at front_length)

  pub end_back : (ys : List ℕ) → put_mid at (length m - at) m ys ≡ words_of_nodes xs ++ ys
  end_back ys =
      back_tail m at end_inside ys
      ∙ ap (λ (l : List ℕ). l ++ ys) (ap (take at) e ∙ take_at (words_of_nodes xs) (node_words x ++ rest) at front_length)

  pub end_children : get_or m (at + 3) 0 ≡ x.children
  end_children =
      ap (λ (l : List ℕ). get_or l (at + 3) 0) e
      ∙ (ap (λ (i : ℕ). get_or (words_of_nodes xs ++ (node_words x ++ rest)) (i + 3) 0) (sym front_length)
      ∙ (get_or-append-add (words_of_nodes xs) (node_words x ++ rest) 3 0 ∙ third x rest))
