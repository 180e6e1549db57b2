-- The tests by which the layout call asks for the lent text's tree hold exactly of that tree.
use Prim.Native.Nat.{ℕ, ◌*◌}
use mathlib.Core.Bool.{Bool, true, false, cond, ◌&&◌, true≢false}
use mathlib.Core.List.{List}
use mathlib.Core.Logic.{◌↔◌}
use mathlib.Core.Path.{◌≡◌, refl, sym, ap, ◌∙◌}
use lib.Dec.{eqb}
use lib.ListN.{length, take, get_or}
use borrow.Author.Tests.{eqb-true, eq-eqb}
use Rattle.rules.specs.declared.Cursor.{Cursor}
use Rattle.rules.specs.declared.Lexical.{Lexical}
use Rattle.rules.specs.Outcomes.{Ending, halt, Judged}
use Rattle.std.specs.declared.option.Option.TheVariants.{None, Some}
use Rattle.std.specs.declared.result.Result.TheVariants.{Ok, Err}
use Rattle.rules.specs.Text.{text_judged}
use Rattle.rules.specs.Kinds.{same_bytes}
use Rattle.rules.specs.Rows.{words_of}
use Rattle.rules.specs.Scan.{read_ending, scan}
use Rattle.rules.specs.Tree.{Tree}
use Rattle.rules.specs.Nodes.{size, tree_words}
use Rattle.rules.specs.Parse.{Out, ok}
use Rattle.rules_layout.specs.Layout.{is_whole, begins, is_scan, is_scanned, is_tree, is_read, reading}
use Rattle.laws.proofs.Tests.{both_true, true_both}
use Rattle.laws.proofs.Spelled.{same_eq, same_self}
use Rattle.laws.proofs.Rows.{words_length}
use Rattle.laws.proofs.Valid.{text_fine, fine_text}
use Rattle.theory_grammar.proofs.Laws.{tree_length}
use Rattle.theory_grammar.proofs.Same.{accepts_exactly}
use Rattle.theory_calls.specs.Demand2.{rows_of}
use Rattle.theory_layout.specs.Back.{tokens_of}
use Rattle.theory_layout.proofs.ReadBack.{text_whole, program_of}
use Rattle.answers.specs.Layout.{is_ending, ending_of, length_of, table_of}
use Rattle.theory_laid.specs.Answer.{ItsTree, SameWords}

-- ---- words that begin so

begins_true : (xs ws : List ℕ) (n : ℕ) → length xs ≡ n → take n ws ≡ xs → begins xs ws ≡ true
begins_true xs ws n l e = ap (λ (k : ℕ). same_bytes xs (take k ws)) l ∙ ap (same_bytes xs) e ∙ same_self xs

begins_so : (xs ws : List ℕ) (n : ℕ) → length xs ≡ n → begins xs ws ≡ true → take n ws ≡ xs
begins_so xs ws n l e = ap (λ (k : ℕ). take k ws) (sym l) ∙ sym (same_eq xs (take (length xs) ws) e)

-- ---- a table's words

-- its number is 0 exactly if no refusal ends it
whole_0 : (table : List ℕ) → get_or table 0 0 ≡ 0 → is_whole (ending_of table) ≡ true
unfolding is_whole
whole_0 table e = rw e

by_number : (b : Bool) (why : Lexical) (p : Cursor) → is_whole (cond b None (Some (halt why p))) ≡ true → b ≡ true
unfolding is_whole
by_number true why p e = refl
by_number false why p e = absurd (true≢false (sym e))

0_whole : (table : List ℕ) → is_whole (ending_of table) ≡ true → get_or table 0 0 ≡ 0
0_whole table e = eqb-true (get_or table 0 0) 0 (by_number (eqb (get_or table 0 0) 0) _ _ e)

pub length_0 : (table : List ℕ) → get_or table 0 0 ≡ 0 → length_of table ≡ get_or table 7 0
unfolding length_of is_ending
length_0 table e = rw e

whole_none : (e : Ending) → is_whole e ≡ true → e ≡ None
unfolding is_whole
whole_none None h = refl
whole_none (Some e) h = absurd (true≢false (sym h))

-- ---- a tree

pub same_ok : {o : Out} {v u : Tree} {j k : ℕ} → o ≡ ok v j → o ≡ ok u k → v ≡ u
same_ok e f = cc

module _ (text rows table nodes : List ℕ) (count : ℕ) where
  -- ---- of the text's tree

  module _ (p : Tree) (x : ItsTree text rows table nodes count p) where
    pub its_fine : text_judged text ≡ Ok tt
    its_fine = text_fine text x.scans.readable.fits x.scans.readable.good

    its_scan : is_scan text rows (table_of table) ≡ true
    unfolding is_scan is_whole
    its_scan =
        true_both
        (true_both (ap is_whole x.scans.ends) (whole_0 table x.number))
        (true_both
        (true_both (eq-eqb (get_or table 6 0) (length (rows_of text)) x.many) (eq-eqb (length_of table) (length text) (length_0 table x.number ∙ x.long)))
        (begins_true (words_of (rows_of text)) rows (8 * length (rows_of text)) (words_length (rows_of text)) x.same_rows))

    pub its_scanned : is_scanned text rows (table_of table) ≡ true
    unfolding is_scanned
    its_scanned = rw (is_scanned, its_fine) its_scan

    pub its_reading : reading text ≡ ok p (length (tokens_of text))
    unfolding reading tokens_of
    its_reading =
        (accepts_exactly (tokens_of text) p (text_whole text its_fine x.scans.ends)).1 (x.program.is, sym x.program.same)

    its_nodes : is_tree p nodes count ≡ true
    unfolding is_tree
    its_nodes =
        true_both (eq-eqb count (size p) x.counted) (begins_true (tree_words 0 p) nodes (8 * size p) (tree_length 0 p) x.same_nodes)

    pub its_read : is_read (reading text) nodes count ≡ true
    unfolding is_read
    its_read = ap (λ (o : Out). is_read o nodes count) its_reading ∙ its_nodes

  -- ---- what passes is the text's tree

  scan_of : (j : Judged) → text_judged text ≡ j → is_scanned text rows (table_of table) ≡ true
      → (text_judged text ≡ Ok tt) × (is_scan text rows (table_of table) ≡ true)
  unfolding is_scanned
  scan_of (Ok _) q e = (q, sym (rw (is_scanned, q)) ∙ e)
  scan_of (Err refusal) q e = absurd (true≢false (sym e ∙ rw (is_scanned, q)))

  is_tree_lem : text_judged text ≡ Ok tt → is_scan text rows (table_of table) ≡ true → (u : Tree) (j : ℕ) → reading text ≡ ok u j
      → is_tree u nodes count ≡ true → ItsTree text rows table nodes count u
  unfolding is_scan is_tree tokens_of
  is_tree_lem fine s u j e t =
      let many : Bool = eqb (get_or table 6 0) (length (rows_of text)) in
      let long : Bool = eqb (length_of table) (length text) in
      let front : Bool = begins (words_of (rows_of text)) rows in
      let a = both_true (is_whole (read_ending (scan text)) && is_whole (ending_of table)) ((many && long) && front) s in
      let w = both_true (is_whole (read_ending (scan text))) (is_whole (ending_of table)) a.0 in
      let b = both_true (many && long) front a.1 in
      let c = both_true many long b.0 in
      let d = both_true (eqb count (size u)) (begins (tree_words 0 u) nodes) t in
      let ends : read_ending (scan text) ≡ None = whole_none (read_ending (scan text)) w.0 in
      let zero_is : get_or table 0 0 ≡ 0 = 0_whole table w.1 in
      let p = program_of text u j fine ends e in
      record {
        scans = record { readable = record { fits = (fine_text text fine).0; good = (fine_text text fine).1 }; ends = ends };
        program = record { is = p.0; same = sym p.1 };
        number = zero_is;
        many = eqb-true (get_or table 6 0) (length (rows_of text)) c.0;
        long = sym (length_0 table zero_is) ∙ eqb-true (length_of table) (length text) c.1;
        same_rows = begins_so (words_of (rows_of text)) rows (8 * length (rows_of text)) (words_length (rows_of text)) b.1;
        counted = eqb-true count (size u) d.0;
        same_nodes = begins_so (tree_words 0 u) nodes (8 * size u) (tree_length 0 u) d.1;
      }

  pub is_its_tree : is_scanned text rows (table_of table) ≡ true → (u : Tree) (j : ℕ) → reading text ≡ ok u j → is_tree u nodes count ≡ true
      → ItsTree text rows table nodes count u
  is_its_tree s = let f = scan_of (text_judged text) refl s in is_tree_lem f.0 f.1

-- ---- one tree, and one set of words

pub one_tree : {text rows table nodes rows' table' nodes' : List ℕ} {count count' : ℕ} {p q : Tree} → ItsTree text rows table nodes count p
    → ItsTree text rows' table' nodes' count' q → p ≡ q
one_tree x y = same_ok (its_reading _ _ _ _ _ _ x) (its_reading _ _ _ _ _ _ y)

module _ {text rows' table' nodes' : List ℕ} {count' : ℕ} {p : Tree} (y : ItsTree text rows' table' nodes' count' p) where
  same_of : {rows table nodes : List ℕ} {count : ℕ} {q : Tree} → ItsTree text rows table nodes count q
      → SameWords rows table nodes count rows' table' nodes' count'
  same_of {rows} {table} {nodes} {count} {q} x =
      let e : q ≡ p = one_tree x y in
      let c : count ≡ size p = x.counted ∙ ap size e in
      record {
        number = x.number ∙ sym y.number;
        many = x.many ∙ sym y.many;
        long = x.long ∙ sym y.long;
        same_rows =
            ap (λ (n : ℕ). take (8 * n) rows) x.many ∙ x.same_rows ∙ sym y.same_rows ∙ ap (λ (n : ℕ). take (8 * n) rows') (sym x.many);
        counted = c ∙ sym y.counted;
        same_nodes =
            ap (λ (n : ℕ). take (8 * n) nodes) x.counted ∙ x.same_nodes ∙ ap (tree_words 0) e ∙ sym y.same_nodes
            ∙ ap (λ (n : ℕ). take (8 * n) nodes') (sym c);
      }

  its_of : {rows table nodes : List ℕ} {count : ℕ} → SameWords rows table nodes count rows' table' nodes' count'
      → ItsTree text rows table nodes count p
  its_of {rows} {table} {nodes} {count} s =
      let many : get_or table 6 0 ≡ length (rows_of text) = s.many ∙ y.many in
      let c : count ≡ size p = s.counted ∙ y.counted in
      record {
        scans = y.scans;
        program = y.program;
        number = s.number ∙ y.number;
        many = many;
        long = s.long ∙ y.long;
        same_rows = ap (λ (n : ℕ). take (8 * n) rows) (sym many) ∙ s.same_rows ∙ ap (λ (n : ℕ). take (8 * n) rows') many ∙ y.same_rows;
        counted = c;
        same_nodes = ap (λ (n : ℕ). take (8 * n) nodes) (sym c) ∙ s.same_nodes ∙ ap (λ (n : ℕ). take (8 * n) nodes') c ∙ y.same_nodes;
      }

  -- Beside words that are the text's tree, others are exactly if they are the same.
  pub its_exactly : (rows table nodes : List ℕ) (count : ℕ)
      → ((q : Tree) × ItsTree text rows table nodes count q) ↔ SameWords rows table nodes count rows' table' nodes' count'
  its_exactly rows table nodes count = (λ x. same_of x.1, λ s. (p, its_of s))
