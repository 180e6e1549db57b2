-- Each function's steps: one text written; a text moved, and its program node's children added; both.
use mathlib.Core.Path.{◌≡◌, sym, ap, ◌∙◌, subst}
use mathlib.Core.Bool.{true}
use mathlib.Core.List.{List, [], ◌∷◌, ◌++◌, map, map-append, append_assoc}
use Prim.Native.Nat.{ℕ, suc, pred, ◌+◌, ◌-◌, ◌*◌, ◌≤◌}
use native.Mathlib.Omega.{arith}
use lib.ListN.{length, get_or, take, drop, length-append, length-drop}
use lib.Seq.{drop-append-add, drop-drop}
use borrow.Rule.Slice.PartMut.{put_mid}
use Rattle.rules.specs.declared.Cursor.{Cursor}
use Rattle.rules.specs.Outcomes.{Parsed, unparsed}
use Rattle.std.specs.declared.result.Result.TheVariants.{Ok, Err}
use Rattle.rules.specs.declared.Reason.{Reason}
use Rattle.rules.specs.Tree.{Tree}
use Rattle.rules.specs.Nodes.{Node, NodeProgram, missing, node, width, size, nodes_of, node_words, words_of_nodes, tree_words}
use Rattle.rules.specs.Parse.{Out, ok}
use Rattle.rules.specs.Grammar.{Program, Is}
use Rattle.rules.specs.Calls.{node_room, out_told, out_leaves}
use Rattle.rules_program.specs.Both.{declarations, rows_of_all, size_of_all, nodes_of_all, nodes_of_both}
use Rattle.laws.proofs.Lists.{lent_tail}
use Rattle.theory_grammar.proofs.Laws.{nodes_size, words_append}
use Rattle.theory_moved.specs.Moved.{moved_row, moved}
use Rattle.theory_within.proofs.Within.{nodes_within}
use Rattle.theory_program.proofs.Lists.{program_listed}
use Rattle.theory_program.proofs.Nodes.{all_moved, all_size}
use Rattle.parse.specs.Program.{reading_of, Final}
use Rattle.program_alone.specs.Told.{IsProgram}
use Rattle.program_move.specs.Move.{AsksMove, NodesMoved, AsksChildren, ChildrenAdded, with_more}
use Rattle.program_nodes.specs.Write.{tree_of, Written, end_node, nodes_after, nodes_of_texts, AsksAfter, AsksBoth}
use Rattle.program_nodes.proofs.Read.{tree_is, read_program, read_listed, read_wide, read_small, read_few}
use Rattle.program_nodes.proofs.Ends.{words_end, end_length, end_lent, end_back, end_children}

-- ---- one text

module _ {t ws : List ℕ} {n : ℕ} (a : IsProgram t ws n) (m m' : List ℕ) (r : Parsed) (f : Final ws (reading_of t ws n) m m' r) where
  final : Final ws (ok a.tree n) m m' r
  final = subst (λ (o : Out). Final ws o m m' r) a.reads f

  pub one_written : (x : ℕ) → r ≡ Ok x → Written (nodes_of 0 (tree_of t ws n)) m m' x
  unfolding out_told out_leaves tree_words
  one_written x e =
      let s : x ≡ size a.tree = cc (final.0, e) in
      let w : Written (nodes_of 0 a.tree) m m' x =
      record { many = s ∙ sym (nodes_size 0 a.tree); words = rw s final.1 } in
      subst (λ (p : Tree). Written (nodes_of 0 p) m m' x) (tree_is a) w

  pub one_refused : (why : Reason) (at : Cursor) (k : ℕ) → r ≡ Err (unparsed why at k) → ⊥
  unfolding out_told
  one_refused why at k e = let z : ◌≡◌ {A = ℕ} 0 1 = cc (final.0, e) in omega arith

-- ---- a program's nodes by its declarations

-- moved by k
nodes_after_lem : {q : Tree} → Is true Program 64 q → (k : ℕ) → k + width q ≤ missing
    → map (moved k) (nodes_of 0 q) ≡ nodes_of_all k (declarations q) ++ (end_node k q ∷ [])
unfolding moved moved_row
nodes_after_lem {q = q} is k h =
    let l = program_listed is in
    let ds : List Tree = declarations q in
    let start : k ≡ 0 + k = omega arith in
    let place : 0 + rows_of_all ds + k ≡ k + rows_of_all ds = omega arith in
    let all : nodes_of_all k ds ≡ map (moved k) (nodes_of_all 0 ds) =
    ap (λ (i : ℕ). nodes_of_all i ds) start ∙ all_moved k 0 ds (omega (arith, l.rows)) in
    ap (map (moved k)) (l.words 0)
    ∙ (map-append (moved k) (nodes_of_all 0 ds) (end_node 0 q ∷ [])
    ∙ (ap (λ (ns : List Node). ns ++ (node NodeProgram (0 + rows_of_all ds + k) missing (length ds) ∷ [])) (sym all)
    ∙ ap (λ (r : ℕ). nodes_of_all k ds ++ (node NodeProgram r missing (length ds) ∷ [])) place))

-- after the prelude's
both_after : (p : Tree) {q : Tree} → Is true Program 64 q → (k c : ℕ) → k ≡ width p → c ≡ length (declarations p)
    → nodes_of_both p q ≡ nodes_of_all 0 (declarations p) ++ nodes_after k c q
unfolding nodes_of_both nodes_after
both_after p {q = q} is k c e f =
    let l = program_listed is in
    let ds : List Tree = declarations p in
    let es : List Tree = declarations q in
    let place : pred (width p + width q) ≡ k + rows_of_all es = omega (arith, l.rows, e) in
    let children : length ds + length es ≡ length es + c = omega (arith, f) in
    let end : ℕ → ℕ → List Node = λ r x. node NodeProgram r missing x ∷ [] in
    ap (λ (i : ℕ). nodes_of_all 0 ds ++ (nodes_of_all i es ++ end (pred (width p + width q)) (length ds + length es))) (sym e)
    ∙ (ap (λ (r : ℕ). nodes_of_all 0 ds ++ (nodes_of_all k es ++ end r (length ds + length es))) place
    ∙ ap (λ (x : ℕ). nodes_of_all 0 ds ++ (nodes_of_all k es ++ end (k + rows_of_all es) x)) children)

after_length : (k more : ℕ) (q : Tree) → length (nodes_after k more q) ≡ suc (size_of_all (declarations q))
unfolding nodes_after
after_length k more q =
    omega
    (arith, all_size k (declarations q), length-append (nodes_of_all k (declarations q)) (with_more more (end_node k q) ∷ []))

-- what is told of a text
made_is : {t ws : List ℕ} {n : ℕ} (a : IsProgram t ws n) (m m₁ : List ℕ) (made : ℕ) → Written (nodes_of 0 (tree_of t ws n)) m m₁ made
    → made ≡ suc (size_of_all (declarations (tree_of t ws n)))
made_is {t} {ws} {n} a m m₁ made w = w.many ∙ (nodes_size 0 (tree_of t ws n) ∙ (read_listed a).nodes)

-- ---- a text after other rows

module _ {t ws : List ℕ} {n k more : ℕ} (m : List ℕ) (asks : AsksAfter t ws n k more m) (m₁ : List ℕ) (made : ℕ)
    (w : Written (nodes_of 0 (tree_of t ws n)) m m₁ made) where
  abbrev own : IsProgram t ws n
  own = asks.probe

  abbrev tree : Tree
  tree = tree_of t ws n

  abbrev decls : List Tree
  decls = declarations tree

  pub made_some : 1 ≤ made
  made_some = omega (arith, made_is own m m₁ made w)

  fits : n + k ≤ missing
  fits = omega (arith, own.ended.table.short, asks.rows)

  pub asks_move : AsksMove m₁ made k
  asks_move = record {
    nodes = nodes_of 0 tree;
    rest = drop (8 * made) m;
    words = w.words;
    many = sym w.many;
    last = n;
    within = nodes_within n 0 tree (omega (arith, read_wide own));
    fits = fits;
  }

  module _ (m₂ : List ℕ) (v : NodesMoved m₁ made k m₂) where
    pub after_moved : m₂ ≡ words_of_nodes (nodes_of_all k decls) ++ (node_words (end_node k tree) ++ drop (8 * made) m)
    after_moved =
        v (nodes_of 0 tree) (drop (8 * made) m) (sym w.many) w.words
        ∙ (ap (λ (ns : List Node). words_of_nodes ns ++ drop (8 * made) m)
        (nodes_after_lem (read_program own) k (omega (arith, read_wide own, fits)))
        ∙ words_end (nodes_of_all k decls) (end_node k tree) (drop (8 * made) m))

    -- where the program node stands
    pub after_at : (made - 1) * 8 ≡ 8 * length (nodes_of_all k decls)
    after_at = omega (arith, made_is own m m₁ made w, all_size k decls)

    pub after_long : (made - 1) * 8 + 8 ≤ length m₂
    after_long =
        omega (arith, end_length (nodes_of_all k decls) (end_node k tree) (drop (8 * made) m) m₂ ((made - 1) * 8) after_moved after_at)

    after_lent : take (length m₂ - (made - 1) * 8) (drop ((made - 1) * 8) m₂) ≡ node_words (end_node k tree) ++ drop (8 * made) m
    after_lent = end_lent (nodes_of_all k decls) (end_node k tree) (drop (8 * made) m) m₂ ((made - 1) * 8) after_moved after_at

    pub asks_children : AsksChildren (take (length m₂ - (made - 1) * 8) (drop ((made - 1) * 8) m₂)) more
    asks_children = record {
      first = end_node k tree;
      rest = drop (8 * made) m;
      words = after_lent;
      fits = omega (arith, read_few own, asks.children);
    }

    pub after_written : (ys : List ℕ) → ChildrenAdded (take (length m₂ - (made - 1) * 8) (drop ((made - 1) * 8) m₂)) more ys
        → Written (nodes_after k more tree) m (put_mid ((made - 1) * 8) (length m₂ - (made - 1) * 8) m₂ ys) made
    unfolding nodes_after
    after_written ys c = record {
      many = made_is own m m₁ made w ∙ sym (after_length k more tree);
      words =
          end_back (nodes_of_all k decls) (end_node k tree) (drop (8 * made) m) m₂ ((made - 1) * 8) after_moved after_at ys
          ∙ (ap (λ (l : List ℕ). words_of_nodes (nodes_of_all k decls) ++ l) (c (end_node k tree) (drop (8 * made) m) after_lent)
          ∙ sym (words_end (nodes_of_all k decls) (with_more more (end_node k tree)) (drop (8 * made) m)));
    }

-- ---- both

-- what stands after the words of j nodes that were laid over a node and what stood after it
over_node : (x : Node) (m : List ℕ) (i j : ℕ) → 1 ≤ i → 1 ≤ j → drop (8 * j) (node_words x ++ drop (8 * i) m) ≡ drop (8 * (i - 1 + j)) m
unfolding node_words
over_node x m i j h k =
    let front : 8 * j ≡ length (node_words x) + 8 * (j - 1) = omega arith in
    let back : 8 * i + 8 * (j - 1) ≡ 8 * (i - 1 + j) = omega arith in
    ap (λ (d : ℕ). drop d (node_words x ++ drop (8 * i) m)) front
    ∙ (drop-append-add (node_words x) (drop (8 * i) m) (8 * (j - 1)) ∙ (drop-drop (8 * (j - 1)) (8 * i) m ∙ ap (λ (d : ℕ). drop d m) back))

module _ {t₀ ws₀ : List ℕ} {n₀ : ℕ} {t ws : List ℕ} {n : ℕ} (m : List ℕ) (a : AsksBoth t₀ ws₀ n₀ t ws n m) (m₁ : List ℕ) (made : ℕ)
    (w : Written (nodes_of 0 (tree_of t₀ ws₀ n₀)) m m₁ made) where
  abbrev prelude : Tree
  prelude = tree_of t₀ ws₀ n₀

  abbrev probe : Tree
  probe = tree_of t ws n

  abbrev kept : List Node
  kept = nodes_of_all 0 (declarations prelude)

  abbrev rest : List ℕ
  rest = drop (8 * made) m

  -- the word at which the probe's nodes begin
  abbrev at : ℕ
  at = (made - 1) * 8

  first_made : made ≡ suc (size_of_all (declarations prelude))
  first_made = made_is a.prelude m m₁ made w

  pub first_some : 1 ≤ made
  first_some = omega (arith, first_made)

  first_words : m₁ ≡ words_of_nodes kept ++ (node_words (end_node 0 prelude) ++ rest)
  first_words =
      w.words
      ∙ (ap (λ (ns : List Node). words_of_nodes ns ++ rest) ((read_listed a.prelude).words 0) ∙ words_end kept (end_node 0 prelude) rest)

  first_at : at ≡ 8 * length kept
  first_at = omega (arith, first_made, all_size 0 (declarations prelude))

  first_length : length m₁ ≡ at + 8 + length rest
  first_length = end_length kept (end_node 0 prelude) rest m₁ at first_words first_at

  pub first_long : at + 8 ≤ length m₁
  first_long = omega (arith, first_length)

  -- the prelude's children are read of its program node
  first_children : get_or m₁ (at + 3) 0 ≡ length (declarations prelude)
  first_children = end_children kept (end_node 0 prelude) rest m₁ at first_words first_at

  first_lent : take (length m₁ - at) (drop at m₁) ≡ node_words (end_node 0 prelude) ++ rest
  first_lent = end_lent kept (end_node 0 prelude) rest m₁ at first_words first_at

  made_few : made ≤ n₀
  made_few = omega (arith, first_made, (read_listed a.prelude).nodes, read_small a.prelude)

  tail_room : n ≤ node_room (take (length m₁ - at) (drop at m₁))
  unfolding node_room
  tail_room =
      let l : length (take (length m₁ - at) (drop at m₁)) ≡ length m₁ - at =
      ap length (lent_tail m₁ at (omega (arith, first_long))) ∙ length-drop at m₁ in
      omega (arith, l, first_length, length-drop (8 * made) m, made_few, a.room)

  pub asks_after : AsksAfter t ws n n₀ (get_or m₁ (at + 3) 0) (take (length m₁ - at) (drop at m₁))
  asks_after = record {
    probe = a.probe;
    room = tail_room;
    rows = a.prelude.ended.table.short;
    children = omega (arith, first_children, read_few a.prelude);
  }

  module _ (ys : List ℕ) (more : ℕ)
      (v : Written (nodes_after n₀ (get_or m₁ (at + 3) 0) probe) (take (length m₁ - at) (drop at m₁)) ys more) where
    more_is : more ≡ suc (size_of_all (declarations probe))
    more_is = v.many ∙ after_length n₀ (get_or m₁ (at + 3) 0) probe

    pub both_few : made - 1 + more ≤ 131074
    both_few =
        omega (
          arith,
          made_few,
          a.prelude.ended.table.short,
          more_is,
          (read_listed a.probe).nodes,
          read_small a.probe,
          a.probe.ended.table.short,
        )

    joined : nodes_of_both prelude probe ≡ kept ++ nodes_after n₀ (get_or m₁ (at + 3) 0) probe
    joined = both_after prelude (read_program a.probe) n₀ (get_or m₁ (at + 3) 0) (sym (read_wide a.prelude)) first_children

    pub both_written : Written (nodes_of_texts t₀ ws₀ n₀ t ws n) m (put_mid at (length m₁ - at) m₁ ys) (made - 1 + more)
    both_written =
        let after : List Node = nodes_after n₀ (get_or m₁ (at + 3) 0) probe in
        record {
          many =
              omega
              (arith, ap length joined, length-append kept after, v.many, first_made, all_size 0 (declarations prelude));
          words =
              end_back kept (end_node 0 prelude) rest m₁ at first_words first_at ys
              ∙ (ap (λ (l : List ℕ). words_of_nodes kept ++ l) v.words
              ∙ (ap (λ (l : List ℕ). words_of_nodes kept ++ (words_of_nodes after ++ drop (8 * more) l)) first_lent
              ∙ (ap (λ (l : List ℕ). words_of_nodes kept ++ (words_of_nodes after ++ l))
              (over_node (end_node 0 prelude) m made more first_some (omega (arith, more_is)))
              ∙ (sym (append_assoc (words_of_nodes kept) (words_of_nodes after) (drop (8 * (made - 1 + more)) m))
              ∙ (ap (λ (l : List ℕ). l ++ drop (8 * (made - 1 + more)) m) (sym (words_append kept after))
              ∙ ap (λ (ns : List Node). words_of_nodes ns ++ drop (8 * (made - 1 + more)) m) (sym joined))))));
        }
