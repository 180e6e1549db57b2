-- What a table and nodes that are a text's give: the program that is laid out, and what is told of it.
use mathlib.Core.Path.{◌≡◌, refl, sym, ap, ◌∙◌, subst}
use mathlib.Core.Bool.{Bool, true, false, cond, ◌&&◌, true≢false}
use mathlib.Core.List.{List, ◌++◌}
use Prim.Native.Nat.{ℕ}
use native.Mathlib.Omega.{arith}
use lib.Dec.{eqb, ltb}
use lib.ListN.{length, take, drop, take-append-drop}
use borrow.Author.Tests.{eqb-true, le-ltb}
use Rattle.rules.specs.Outcomes.{Ending, Judged}
use Rattle.std.specs.declared.option.Option.TheVariants.{None, Some}
use Rattle.std.specs.declared.result.Result.TheVariants.{Ok, Err}
use Rattle.rules.specs.declared.Table.{Table}
use Rattle.rules.specs.Text.{place_at, text_judged}
use Rattle.rules.specs.Rows.{Row, rows_in, words_of}
use Rattle.rules.specs.Scan.{read_rows, read_ending, scan}
use Rattle.rules.specs.Tree.{Tok, Tree, yield}
use Rattle.rules.specs.Nodes.{size, tree_words}
use Rattle.rules.specs.Parse.{Out, ok, no, parse}
use Rattle.rules.specs.Calls.{judged, tokens, node_room, out_told, ending_told, parse_told, reading as rows_reading}
use Rattle.rules_layout.specs.declared.Unlaid.{Unlaid}
use Rattle.rules_layout.specs.declared.Unlaid.TheVariants.{NotItsTree}
use Rattle.std.specs.Prelude.{Ok, Err}
use Rattle.rules_layout.specs.Bytes.{layout}
use Rattle.rules_layout.proofs.Told.{layout_told_by}
use Rattle.rules_layout.specs.Layout.{is_whole, begins, is_scan, is_scanned, is_tree, is_read, reading, room_told, layout_told, laid_of, layout_leaves}
use Rattle.laws.proofs.Tests.{both_true}
use Rattle.laws.proofs.Spelled.{same_eq}
use Rattle.laws.proofs.Valid.{fine_text}
use Rattle.laws.proofs.Rows.{few_rows}
use Rattle.laws.proofs.Calls.{judged_well}
use Rattle.theory_edits.specs.Scanned.{Scanned}
use Rattle.theory_edits.proofs.WellFormed.{scanned_rows, scanned_well_formed, length_laid}
use Rattle.theory_grammar.proofs.Sound.{parse_whole}
use Rattle.theory_grammar.proofs.Tables.{table_whole, tokens_length}
use Rattle.rows.proofs.Inside.{fine}
use Rattle.parse_nodes.specs.Names.{Names, Spans}
use Rattle.parse_nodes.proofs.Told.{names_told}
use Rattle.parse.proofs.Tables.{asks_whole}
use Rattle.layout_write.specs.Lent.{Lent}
use Rattle.layout_judge.specs.Judging.{is_parsed}
use Rattle.layout_judge.proofs.Read.{by_refused, by_nodes}
use Rattle.layout.specs.Laying.{room_leaves}
use Rattle.layout.proofs.Rooms.{fits, room_yes, room_no}

whole_none : (e : Ending) → is_whole e ≡ true → e ≡ None
unfolding is_whole
whole_none None h = refl
whole_none (Some e) h = absurd (true≢false (sym h))

-- words that begin as those do, and the rest
begun : (xs ws : List ℕ) → begins xs ws ≡ true → ws ≡ xs ++ drop (length xs) ws
begun xs ws e = sym (take-append-drop (length xs) ws) ∙ ap (λ (l : List ℕ). l ++ drop (length xs) ws) (sym (same_eq xs (take (length xs) ws) e))

-- ---- a table that is the text's

-- A text, to its end, and its scan.
record Own (t ws : List ℕ) (tbl : Table) : Type 0 where
  judged_fine : text_judged t ≡ Ok tt
  scanned : Scanned t ws tbl
  ends : tbl.ending ≡ None

module _ (t ws : List ℕ) (tbl : Table) where
  fine_scan : is_scanned t ws tbl ≡ true → (text_judged t ≡ Ok tt) × (is_scan t ws tbl ≡ true)
  unfolding is_scanned
  fine_scan e = by (text_judged t) refl e
    where
      by : (j : Judged) → text_judged t ≡ j → elim j as (λ _. Bool) [ Ok _ ↦ is_scan t ws tbl | Err e ↦ false ] ≡ true
          → (text_judged t ≡ Ok tt) × (is_scan t ws tbl ≡ true)
      by (Ok _) q h = (q, h)
      by (Err e) q h = absurd (true≢false (sym h))

  own_of : text_judged t ≡ Ok tt → is_scan t ws tbl ≡ true → Own t ws tbl
  unfolding is_scan
  own_of q e =
      let xs : List ℕ = words_of (read_rows (scan t)) in
      let many : Bool = eqb tbl.count (length (read_rows (scan t))) in
      let long : Bool = eqb tbl.length (length t) in
      let a = both_true (is_whole (read_ending (scan t)) && is_whole tbl.ending) ((many && long) && begins xs ws) e in
      let w = both_true (is_whole (read_ending (scan t))) (is_whole tbl.ending) a.0 in
      let b = both_true (many && long) (begins xs ws) a.1 in
      let c = both_true many long b.0 in
      let n : tbl.ending ≡ None = whole_none tbl.ending w.1 in
      let m : read_ending (scan t) ≡ None = whole_none (read_ending (scan t)) w.0 in
      let f : tbl.count ≡ length (read_rows (scan t)) = eqb-true tbl.count (length (read_rows (scan t))) c.0 in
      let g : tbl.length ≡ length t = eqb-true tbl.length (length t) c.1 in
      let s : tbl.ending ≡ read_ending (scan t) = n ∙ sym m in
      record {
        judged_fine = q;
        scanned = record {
          fits = (fine_text t q).0;
          spare = drop (length xs) ws;
          words = begun xs ws b.1;
          told = λ i. record { count = f i; length = g i; ending = s i };
        };
        ends = n;
      }

module _ {t ws : List ℕ} {tbl : Table} (o : Own t ws tbl) where
  well : judged t ws tbl ≡ Ok tt
  well = judged_well t ws tbl o.judged_fine (scanned_well_formed o.scanned) (ap (λ (x : Table). x.length) o.scanned.told)

  -- its nodes have room
  few : ltb 65537 tbl.count ≡ false
  unfolding scan
  few =
      let c : tbl.count ≡ length (read_rows (scan t)) = ap (λ (x : Table). x.count) o.scanned.told in
      le-ltb 65537 tbl.count (omega (arith, c, few_rows (place_at t) 0 0 0 t, o.scanned.fits))

  told_is : parse_told t ws tbl 65537 ≡ out_told ws (rows_reading t ws tbl)
  unfolding parse_told ending_told
  told_is = rw (parse_told, well, o.ends, few)

  readings : rows_reading t ws tbl ≡ reading t
  unfolding rows_reading reading
  readings = ap (λ (rs : List Row). parse (tokens t rs)) (scanned_rows o.scanned)

  module _ (nodes : List ℕ) (count : ℕ) where
    by_reading : (x : Out) → rows_reading t ws tbl ≡ x → is_parsed t ws tbl nodes count ≡ is_read x nodes count
    unfolding out_told is_read
    by_reading (ok u j) e = by_nodes t ws tbl nodes count (told_is ∙ ap (out_told ws) e) ∙ ap (λ (x : Out). is_read x nodes count) e
    by_reading (no why r) e = sym (by_refused t ws tbl nodes count (told_is ∙ ap (out_told ws) e))

    parsed_is : is_parsed t ws tbl nodes count ≡ is_read (reading t) nodes count
    parsed_is = by_reading (reading t) readings

    -- the program
    lent_is : (u : Tree) (j : ℕ) → reading t ≡ ok u j → is_tree u nodes count ≡ true → Lent t ws nodes count u
    unfolding rows_reading node_room is_tree
    lent_is u j e h =
        let n : ℕ = tbl.count in
        let ts : List Tok = tokens t (rows_in n ws) in
        let x = parse_whole ts u j (table_whole t ws tbl (scanned_well_formed o.scanned) o.ends) (readings ∙ e) in
        let same : ts ≡ yield u = x.1 in
        let long : length ts ≡ n = tokens_length t n ws in
        let c : n ≡ length (read_rows (scan t)) = ap (λ (y : Table). y.count) o.scanned.told in
        let b = both_true (eqb count (size u)) (begins (tree_words 0 u) nodes) h in
        let asked = asks_whole (fine ws tbl (scanned_well_formed o.scanned)) t (ap (λ (y : Table). y.length) o.scanned.told) o.ends ws (omega (arith, c, length_laid t ws tbl o.scanned)) in
        record {
          nest = 64;
          is = x.0;
          names = subst (λ (y : List Tok). Names y t ws (length y)) same (subst (λ (k : ℕ). Names ts t ws k) (sym long) (names_told t ws n));
          spans = subst (λ (k : ℕ). Spans t ws k) (sym long ∙ ap length same) asked.ended.table.spans;
          counted = eqb-true count (size u) b.0;
          rest = drop (length (tree_words 0 u)) nodes;
          words = begun (tree_words 0 u) nodes b.1;
        }

-- ---- what is told and left

module _ (t ws : List ℕ) (tbl : Table) (nodes : List ℕ) (count : ℕ) where
  left_bytes : (room : List ℕ) {n : ℕ} → layout_told t ws tbl nodes count (length room) ≡ Ok n → layout_leaves t ws tbl nodes count room ≡ laid_of (reading t) ++ drop n room
  unfolding layout_leaves
  left_bytes room e = rw (layout_leaves, e)

  left_room : (room : List ℕ) {why : Unlaid} → layout_told t ws tbl nodes count (length room) ≡ Err why → layout_leaves t ws tbl nodes count room ≡ room
  unfolding layout_leaves
  left_room room e = rw (layout_leaves, e)

  -- ---- 3

  -- the nodes are asked of the table that is the text's
  same_tests : (b : Bool) → is_scanned t ws tbl ≡ b → (b && is_parsed t ws tbl nodes count) ≡ (b && is_read (reading t) nodes count)
  same_tests true e = let p = fine_scan t ws tbl e in parsed_is (own_of t ws tbl p.0 p.1) nodes count
  same_tests false e = refl

  tests_are : (is_scanned t ws tbl && is_read (reading t) nodes count) ≡ (is_scanned t ws tbl && is_parsed t ws tbl nodes count)
  tests_are = sym (same_tests (is_scanned t ws tbl) refl)

  told_by : (room : ℕ) {b : Bool} → (is_scanned t ws tbl && is_parsed t ws tbl nodes count) ≡ b
      → layout_told t ws tbl nodes count room ≡ cond b (room_told (laid_of (reading t)) room) (Err NotItsTree)
  told_by room h =
      layout_told_by t ws tbl nodes count room
      ∙ ap (λ (b : Bool). cond b (room_told (laid_of (reading t)) room) (Err NotItsTree)) (tests_are ∙ h)

  pub refused : (room : List ℕ) → (is_scanned t ws tbl && is_parsed t ws tbl nodes count) ≡ false
      → (Err NotItsTree ≡ layout_told t ws tbl nodes count (length room)) × (room ≡ layout_leaves t ws tbl nodes count room)
  refused room h =
      let e = told_by (length room) h in
      (sym e, sym (left_room room e))

  -- ---- the layout, or 4

  -- A program that is laid out.
  pub record Lays : Type 0 where
    pub tree : Tree
    pub lent : Lent t ws nodes count tree
    pub told : (room : ℕ) → layout_told t ws tbl nodes count room ≡ room_told (layout tree) room
    pub left : (room : List ℕ) → layout_leaves t ws tbl nodes count room ≡ room_leaves (layout tree) room

  leaves_tree : (u : Tree) (j : ℕ) → reading t ≡ ok u j → ((room : ℕ) → layout_told t ws tbl nodes count room ≡ room_told (layout u) room)
      → (room : List ℕ) (b : Bool) → fits (layout u) room ≡ b → layout_leaves t ws tbl nodes count room ≡ room_leaves (layout u) room
  unfolding laid_of
  leaves_tree u j e h room true q =
      let x = room_yes (layout u) room q in
      left_bytes room (h (length room) ∙ x.0) ∙ ap (λ (y : Out). laid_of y ++ drop (length (layout u)) room) e ∙ sym x.1
  leaves_tree u j e h room false q = let x = room_no (layout u) room q in left_room room (h (length room) ∙ x.0) ∙ sym x.1

  read_yes : Own t ws tbl → ((room : ℕ) → layout_told t ws tbl nodes count room ≡ room_told (laid_of (reading t)) room)
      → (x : Out) → reading t ≡ x → is_read x nodes count ≡ true → Lays
  unfolding is_read laid_of
  read_yes o told (ok u j) e h =
      let f : (room : ℕ) → layout_told t ws tbl nodes count room ≡ room_told (layout u) room = λ room.
      told room ∙ ap (λ (y : Out). room_told (laid_of y) room) e in
      record { tree = u; lent = lent_is o nodes count u j e h; told = f; left = λ room. leaves_tree u j e f room (fits (layout u) room) refl }
  read_yes o told (no why r) e h = absurd (true≢false (sym h))

  pub lays : (is_scanned t ws tbl && is_parsed t ws tbl nodes count) ≡ true → Lays
  lays h =
      let b = both_true (is_scanned t ws tbl) (is_read (reading t) nodes count) (tests_are ∙ h) in
      let p = fine_scan t ws tbl b.0 in
      read_yes (own_of t ws tbl p.0 p.1) (λ room. told_by room h) (reading t) refl b.1
