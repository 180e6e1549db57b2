-- The program: its node, what both passes over the rows give, and the call's answer and memory, case by case.
use mathlib.Core.Path.{◌≡◌, refl, sym, ap, ◌∙◌, subst}
use mathlib.Core.Bool.{true, not}
use mathlib.Core.List.{List, [], ◌∷◌, ◌++◌}
use Prim.Native.Nat.{ℕ, suc, ◌+◌, ◌-◌, ◌*◌, ◌≤◌, ◌<◌}
use native.Mathlib.Nat.{zero-add}
use native.Mathlib.Omega.{arith}
use lib.Dec.{eqb}
use lib.ListN.{length, drop}
use lib.Seq.{sets, sets-eq}
use borrow.Author.Tests.{ne_eqb, lt-ltb, le-ltb}
use Rattle.rules.specs.declared.Syntax.{Syntax}
use Rattle.rules.specs.declared.Lexical.{Lexical}
use Rattle.rules.specs.declared.Outer.{Outer}
use Rattle.rules.specs.declared.Outer.TheVariants.{NoNodeRoom}
use Rattle.rules.specs.declared.Cursor.{Cursor}
use Rattle.rules.specs.Outcomes.{halt, unfit, Parsed, unparsed}
use Rattle.std.specs.declared.option.Option.TheVariants.{None, Some}
use Rattle.rules.specs.declared.Table.{Table}
use Rattle.rules.specs.declared.Unfit.{Unfit}
use Rattle.std.specs.declared.result.Result.TheVariants.{Ok, Err}
use Rattle.rules.specs.declared.Reason.TheVariants as reason
use Rattle.rules.specs.Text.{start_place}
use Rattle.rules.specs.Kinds.{Eof}
use Rattle.rules.specs.Refusals.{found_told}
use Rattle.rules.specs.Rows.{row_no, rows_in}
use Rattle.rules.specs.Tree.{Tok, Tree, program, is_variable, is_sum, hangs, count}
use Rattle.rules.specs.Nodes.{node, missing, node_words, width, size, place_of, tree_words}
use Rattle.rules.specs.Parse
use Rattle.rules.specs.Parse.{Out, ok, no, kind_at}
use Rattle.rules.specs.Grammar.{Decl, Is, i_unit, i_map, i_event}
use Rattle.rules.specs.Calls.{judged, tokens, node_room, place_of_row, out_told, out_leaves, reading, ending_told, ending_leaves, parse_told, parse_leaves}
use Rattle.theory_grammar.proofs.Laws.{nodes_within_rows, tree_length, words_program}
use Rattle.theory_grammar.proofs.Runs.{All, all_ok, all_both, map_all}
use Rattle.theory_grammar.proofs.Sound.{Reads, top_sound}
use Rattle.theory_grammar.proofs.Ends.{Ends, ends_top, wide_top, ends_parse}
use Rattle.theory_grammar.proofs.Refused.{refused_inside}
use Rattle.parse_nodes.specs.Post.{kind_word, state_at, behind, Met, Stands}
use Rattle.parse_nodes.specs.declared.At.{At}
use Rattle.parse_nodes.specs.declared.Refusal.{Refusal}
use Rattle.std.specs.Prelude.{Result, Ok}
use Rattle.parse_nodes.proofs.Rows.{word_test}
use Rattle.parse_nodes.proofs.Turn.{Came, came}
use Rattle.parse_nodes.proofs.Steps.{Flat, stands_at, mem_over}
use Rattle.parse_nodes.proofs.Told.{names_told}
use Rattle.parse.specs.Program.{AsksWhole, reading_of, Final}

-- ---- one thing of a program, and its end

-- a row that is not Eof is in the table
pub word_in : (ws : List ℕ) (n i : ℕ) → (kind_word ws n i ≡ Eof → ⊥) → i < n
word_in ws n i h = word_test ws n i (λ k. not (eqb k Eof)) refl (rw (ne_eqb (kind_word ws n i) Eof h))

-- where a declaration ends; behind none of them may an `else` stand
abbrev pub TopEnds : List Tok → ℕ → Tree → ℕ → Type 0
TopEnds ts i t j = Ends ts i t j × Flat t

flat_top : {d : ℕ} {t : Tree} → Is true Decl d t → Flat t
unfolding hangs
flat_top (i_unit l) = refl
flat_top (i_map l k) = refl
flat_top (i_event l) = refl

pub top_ends : (ts : List Tok) (i : ℕ) → All (TopEnds ts i) (Parse.top ts i)
top_ends ts i =
    all_both (Ends ts i) (λ t j. Flat t) (Parse.top ts i) (ends_top ts i)
    (map_all (Reads ts Decl 64 i) (λ t j. Flat t) (Parse.top ts i) (top_sound ts i) (λ t j r. flat_top r.is))

-- a declaration has a row or more
pub top_on : (ts : List Tok) (i : ℕ) (t : Tree) (j : ℕ) → Parse.top ts i ≡ ok t j → i < j
top_on ts i t j e =
    let w = all_ok (λ u k. 1 ≤ width u) (Parse.top ts i) t j (wide_top ts i) e in
    omega (arith, w, all_ok (Ends ts i) (Parse.top ts i) t j (ends_top ts i) e)

module _ (ts : List Tok) (i n : ℕ) (m : List ℕ) (s : At) (m' : List ℕ) where
  pub top_came : (r : Result At Refusal) → Met (Parse.top ts i) i n m m' r → r ≡ Ok s → Came (TopEnds ts i) ts (Parse.top ts i) i n m s m'
  top_came r h e = came (TopEnds ts i) ts (Parse.top ts i) i n m m' r s (top_ends ts i) (λ t j f. f.0) h e

  pub top_up : Came (TopEnds ts i) ts (Parse.top ts i) i n m s m' → i < s.row
  top_up v = top_on ts i v.tree s.row v.is

pub stands_program : (m m₁ m₂ : List ℕ) (s s' : At) (t : Tree) → Stands 0 0 t m s m₁
    → s' ≡ state_at (s.row + 1) (s.node + 1) s.row → m₂ ≡ sets m₁ (8 * s.node) (node_words (node 29 s.row missing s.things))
    → Stands 0 0 (program t) m s' m₂
unfolding width size place_of is_variable is_sum hangs count
stands_program m m₁ m₂ s s' t a e q =
    stands_at 0 0 (program t) m m₂ s' e (omega (arith, a.rows)) (omega (arith, a.nodes)) a.rows refl refl refl refl
    (rw (words_program 0 t, ← a.rows, ← a.things) (mem_over m 0 0 t s m₁ a m₂ (node_words (node 29 s.row missing s.things)) q))

-- ---- two passes

-- nothing was lent, so nothing was written
pub none_written : (l m : List ℕ) → length l ≡ 0 → l ++ m ≡ m
none_written [] m e = refl
none_written (x ∷ l) m e = absurd (omega arith)

-- the tree that the first pass has read
pub record Wrote (o : Out) (s : At) : Type 0 where
  pub tree : Tree
  pub is : o ≡ ok tree s.row
  pub node : s.node ≡ size tree

pub wrote : (o : Out) (m m' : List ℕ) (r : Result At Refusal) (s : At) → Met o 0 0 m m' r → r ≡ Ok s → Wrote o s
wrote (ok t j) m m' r s h e =
    let q : s ≡ behind 0 0 t j = cc (h.0, e) in
    record {
      tree = t;
      is = ap (λ (x : ℕ). ok t x) (sym (ap (λ (x : At). x.row) q));
      node = ap (λ (x : At). x.node) q ∙ zero-add (size t);
    }
wrote (no why p) m m' r s h e = let z : ◌≡◌ {A = ℕ} 0 1 = cc (h, e) in absurd (omega arith)

-- what stands behind its words
written : (m : List ℕ) (t : Tree) → 8 * size t ≤ length m → sets m 0 (tree_words 0 t) ≡ tree_words 0 t ++ drop (8 * size t) m
written m t h =
    let n = tree_length 0 t in
    sets-eq (tree_words 0 t) m 0 (omega arith) ∙ ap (λ (k : ℕ). tree_words 0 t ++ drop k m) (zero-add (length (tree_words 0 t)) ∙ n)

module _ (ws : List ℕ) (o : Out) (m m' : List ℕ) where
  pub final_ok : (t : Tree) (j x : ℕ) (r : Result At Refusal) → o ≡ ok t j → x ≡ size t → 8 * size t ≤ length m → Met o 0 0 m m' r
      → Final ws o m m' (Ok x)
  unfolding out_told out_leaves
  final_ok t j x r e q h met =
      let w : Met (ok t j) 0 0 m m' r = subst (λ (y : Out). Met y 0 0 m m' r) e met in
      rw e (ap Ok q, w.1 ∙ written m t h)

  pub final_no : (why : Syntax) (p : ℕ) (x : Cursor) (k : ℕ) → o ≡ no why p → x ≡ place_of_row ws p
      → k ≡ found_told why (row_no ws p).kind → m' ≡ m
      → Final ws o m m' (Err (unparsed (reason.Syntax why) x k))
  unfolding out_told out_leaves
  final_no why p x k e q f s = rw e ((λ j. (Err (unparsed (reason.Syntax why) (q j) (f j)))), s)

-- ---- a whole table

module _ (t ws : List ℕ) (n : ℕ) (m : List ℕ) (asks : AsksWhole t ws n m) where
  abbrev own : List Tok
  own = tokens t (rows_in n ws)

  last_in : n - 1 < length own
  last_in = omega (arith, asks.ended.some, (names_told t ws n).tells.long)

  last_kind : kind_at own (n - 1) ≡ Eof
  last_kind =
      let e : suc (n - 1) ≡ n = omega (arith, asks.ended.some) in
      (names_told t ws n).tells.kinds (n - 1) (omega arith) ∙ asks.ended.closed (n - 1) e

  -- no more nodes than rows
  nodes_fit : (p : Tree) (j : ℕ) → reading_of t ws n ≡ ok p j → size p ≤ n
  nodes_fit p j e =
      let h = all_ok (λ q k. (k ≡ width q) × (k ≤ length own)) (Parse.parse own) p j (ends_parse own (n - 1) last_in last_kind) e in
      omega (arith, h, nodes_within_rows p, (names_told t ws n).tells.long)

  pub room_fits : (p : Tree) (j : ℕ) → reading_of t ws n ≡ ok p j → 8 * size p ≤ length m
  unfolding node_room
  room_fits p j e = omega (arith, nodes_fit p j e, asks.room)

  -- a refusal's row is in the table
  pub refused_in : (why : Syntax) (p : ℕ) → reading_of t ws n ≡ no why p → p * 8 + 8 ≤ length ws
  refused_in why p e = omega (arith, refused_inside own (n - 1) last_kind last_in why p e, asks.ended.some, asks.ended.table.lent)

-- ---- the call

module _ (t ws : List ℕ) (tbl : Table) (m : List ℕ) where
  -- what is to be told and left
  abbrev pub Whole : Parsed → List ℕ → Type 0
  Whole r m' = (r ≡ parse_told t ws tbl (node_room m)) × (m' ≡ parse_leaves t ws tbl m)

  pub whole_refused : {e : Unfit} → judged t ws tbl ≡ Err e → Whole (Err (unparsed (reason.Outer e.why) e.at 0)) m
  unfolding parse_told parse_leaves
  whole_refused e = rw (parse_told, parse_leaves, e) (refl, refl)

  module _ (fine : judged t ws tbl ≡ Ok tt) where
    pub whole_ending : (why : Lexical) (p : Cursor) → tbl.ending ≡ Some (halt why p) → Whole (Err (unparsed (reason.Lexical why) p 0)) m
    unfolding parse_told parse_leaves ending_told ending_leaves
    whole_ending why p e = rw (parse_told, parse_leaves, fine) (rw (ending_told, ending_leaves, e) (refl, refl))

    module _ (e : tbl.ending ≡ None) where
      pub whole_tight : node_room m < tbl.count → (r : Parsed) → r ≡ Err (unparsed (reason.Outer NoNodeRoom) start_place 0) → Whole r m
      unfolding parse_told parse_leaves ending_told ending_leaves
      whole_tight h r q =
          rw (parse_told, parse_leaves, fine) (rw (ending_told, ending_leaves, e) (rw (lt-ltb (node_room m) tbl.count h) (q, refl)))

      pub whole_read : tbl.count ≤ node_room m → (r : Parsed) (m' : List ℕ) → Final ws (reading_of t ws tbl.count) m m' r → Whole r m'
      unfolding parse_told parse_leaves ending_told ending_leaves reading
      whole_read h r m' f =
          rw (parse_told, parse_leaves, fine) (rw (ending_told, ending_leaves, e) (rw (le-ltb (node_room m) tbl.count h) f))
