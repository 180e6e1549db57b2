-- What a parse into a scratch of room for every text says of the nodes that are held against it.
use mathlib.Core.Path.{◌≡◌, refl, sym, ap, ◌∙◌}
use mathlib.Core.Bool.{Bool, true, false, cond, ◌&&◌}
use mathlib.Core.List.{List, ◌++◌}
use Prim.Native.Nat.{ℕ, ◌*◌, ◌≤◌}
use native.Mathlib.Omega.{arith}
use lib.Dec.{eqb, ltb}
use lib.ListN.{length, take, drop, length-append}
use lib.Seq.{take-append_seam}
use borrow.Author.Tests.{eq-eqb, ne_eqb}
use Rattle.rules.specs.declared.Cursor.{Cursor}
use Rattle.rules.specs.Outcomes.{Ending, Judged, Parsed, unparsed}
use Rattle.std.specs.declared.option.Option.TheVariants.{None, Some}
use Rattle.std.specs.declared.result.Result.TheVariants.{Ok, Err}
use Rattle.rules.specs.declared.Outer.TheVariants.{NoNodeRoom}
use Rattle.rules.specs.declared.Reason.{Reason}
use Rattle.rules.specs.declared.Reason.TheVariants as reason
use Rattle.rules.specs.declared.Table.{Table}
use Rattle.rules.specs.Text.{start_place}
use Rattle.rules.specs.Kinds.{same_bytes}
use Rattle.rules.specs.Tree.{Tree}
use Rattle.rules.specs.Nodes.{size, tree_words}
use Rattle.rules.specs.Parse.{Out, ok, no}
use Rattle.rules.specs.Calls.{judged, node_room, out_told, out_leaves, reading, ending_told, ending_leaves, parse_told, parse_leaves}
use Rattle.rules_layout.specs.Layout.{begins, is_tree, is_read}
use Rattle.theory_grammar.proofs.Laws.{tree_length}
use Rattle.layout_judge.specs.Judging.{is_parsed}

-- A reading whose n nodes are left in memory.
pub record Given (o : Out) (m left : List ℕ) (n : ℕ) : Type 0 where
  pub tree : Tree
  pub last : ℕ
  pub reads : o ≡ ok tree last
  pub many : size tree ≡ n
  pub words : left ≡ tree_words 0 tree ++ drop (8 * size tree) m

out_given : (ws : List ℕ) (o : Out) (m : List ℕ) (n : ℕ) → out_told ws o ≡ Ok n → Given o m (out_leaves o m) n
unfolding out_told out_leaves
out_given ws (ok u j) m n e = record { tree = u; last = j; reads = refl; many = cc; words = refl }
out_given ws (no why r) m n e = let z : ◌≡◌ {A = ℕ} 0 1 = cc in absurd (omega arith)

module _ (t ws : List ℕ) (tbl : Table) where
  ending_given : (m : List ℕ) (n : ℕ) (e : Ending) → ending_told t ws tbl e (node_room m) ≡ Ok n → Given (reading t ws tbl) m (ending_leaves t ws tbl e m) n
  unfolding ending_told ending_leaves
  ending_given m n None e = by (ltb (node_room m) tbl.count) e
    where
      by : (b : Bool) → cond b (Err (unparsed (reason.Outer NoNodeRoom) start_place 0)) (out_told ws (reading t ws tbl)) ≡ Ok n
          → Given (reading t ws tbl) m (cond b m (out_leaves (reading t ws tbl) m)) n
      by true e = let z : ◌≡◌ {A = ℕ} 0 1 = cc in absurd (omega arith)
      by false e = out_given ws (reading t ws tbl) m n e
  ending_given m n (Some refusal) e = let z : ◌≡◌ {A = ℕ} 0 1 = cc in absurd (omega arith)

  pub parse_given : (m : List ℕ) (n : ℕ) → parse_told t ws tbl (node_room m) ≡ Ok n → Given (reading t ws tbl) m (parse_leaves t ws tbl m) n
  unfolding parse_told parse_leaves
  parse_given m n e = by (judged t ws tbl) e
    where
      by : (v : Judged)
          → elim v as (λ _. Parsed) [ Ok _ ↦ ending_told t ws tbl tbl.ending (node_room m) | Err e ↦ Err (unparsed (reason.Outer e.why) e.at 0) ]
          ≡ Ok n
          → Given (reading t ws tbl) m (elim v [ Ok _ ↦ ending_leaves t ws tbl tbl.ending m | Err e ↦ m ]) n
      by (Ok _) e = ending_given m n tbl.ending e
      by (Err refusal) e = let z : ◌≡◌ {A = ℕ} 0 1 = cc in absurd (omega arith)

  room_is : (m : List ℕ) → length m ≡ 524296 → node_room m ≡ 65537
  unfolding node_room
  room_is m h = omega arith

  module _ (nodes : List ℕ) (count : ℕ) where
    pub by_refused : {why : Reason} {p : Cursor} {k : ℕ} → parse_told t ws tbl 65537 ≡ Err (unparsed why p k) → false ≡ is_parsed t ws tbl nodes count
    unfolding is_parsed
    by_refused e = rw (is_parsed, e)

    pub by_nodes : {n : ℕ} → parse_told t ws tbl 65537 ≡ Ok n → is_parsed t ws tbl nodes count ≡ is_read (reading t ws tbl) nodes count
    unfolding is_parsed
    by_nodes e = rw (is_parsed, e)

    module _ (m : List ℕ) (h : length m ≡ 524296) where
      pub parse_refused : {why : Reason} {p : Cursor} {k : ℕ} → parse_told t ws tbl (node_room m) ≡ Err (unparsed why p k) → false ≡ is_parsed t ws tbl nodes count
      parse_refused e = by_refused (ap (parse_told t ws tbl) (sym (room_is m h)) ∙ e)

      module _ (n : ℕ) (e : parse_told t ws tbl (node_room m) ≡ Ok n) where
        given : Given (reading t ws tbl) m (parse_leaves t ws tbl m) n
        given = parse_given m n e

        tests : is_parsed t ws tbl nodes count ≡ (eqb count n && begins (tree_words 0 given.tree) nodes)
        unfolding is_read is_tree
        tests =
            by_nodes (ap (parse_told t ws tbl) (sym (room_is m h)) ∙ e) ∙ ap (λ (o : Out). is_read o nodes count) given.reads
            ∙ ap (λ (k : ℕ). eqb count k && begins (tree_words 0 given.tree) nodes) given.many

        pub other_count : (n ≡ count → ⊥) → false ≡ is_parsed t ws tbl nodes count
        other_count d = sym (tests ∙ ap (λ (b : Bool). b && begins (tree_words 0 given.tree) nodes) (ne_eqb count n (λ q. d (sym q))))

        long : n * 8 ≡ length (tree_words 0 given.tree)
        long = omega (arith, given.many, tree_length 0 given.tree)

        front : take (n * 8) (parse_leaves t ws tbl m) ≡ tree_words 0 given.tree
        front =
            ap (λ (k : ℕ). take k (parse_leaves t ws tbl m)) long ∙ ap (λ (l : List ℕ). take (length (tree_words 0 given.tree)) l) given.words
            ∙ take-append_seam (tree_words 0 given.tree) (drop (8 * size given.tree) m)

        module _ (m' : List ℕ) (left : m' ≡ parse_leaves t ws tbl m) where
          pub nodes_inside : n * 8 ≤ length m'
          nodes_inside =
              let k : length m' ≡ length (tree_words 0 given.tree ++ drop (8 * size given.tree) m) = ap length (left ∙ given.words) in
              omega (arith, long, k, length-append (tree_words 0 given.tree) (drop (8 * size given.tree) m))

          pub same_nodes : {x : Bool} → n ≡ count → x ≡ same_bytes (take (n * 8) m') (take (n * 8) nodes) → x ≡ is_parsed t ws tbl nodes count
          same_nodes d q =
              q ∙ ap (λ (l : List ℕ). same_bytes l (take (n * 8) nodes)) (ap (take (n * 8)) left ∙ front)
              ∙ ap (λ (k : ℕ). same_bytes (tree_words 0 given.tree) (take k nodes)) long
              ∙ sym (tests ∙ ap (λ (b : Bool). b && begins (tree_words 0 given.tree) nodes) (eq-eqb count n (sym d)))
