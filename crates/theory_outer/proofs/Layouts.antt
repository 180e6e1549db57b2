-- The layout call as it is made: what it tells, that a scan and a parse of its layout tell 0 and the same nodes but for rows, and that the
-- layout of that is the same bytes.
use Prim.Native.Nat.{ℕ, ◌+◌, ◌*◌, ◌≤◌, ◌<◌}
use native.Mathlib.Nat.{not-le_of_lt}
use native.Mathlib.Omega.{arith}
use mathlib.Core.Bool.{true, true≢false}
use mathlib.Core.List.{List, ◌++◌}
use mathlib.Core.Logic.{◌⊎◌, ◌↔◌}
use mathlib.Core.Path.{◌≡◌, ap, sym, ◌∙◌}
use lib.ListN.{length, take, drop, get_or}
use lib.Seq.{take_at, take-append_seam}
use borrow.Author.Tests.{eqb-false}
use Rattle.rules.specs.declared.Cursor.{Cursor}
use Rattle.rules.specs.Outcomes.{Ending, halt, Told}
use Rattle.std.specs.declared.option.Option.TheVariants.{None, Some}
use Rattle.rules.specs.declared.Lexical.{Lexical}
use Rattle.rules.specs.declared.Table.{Table}
use Rattle.rules.specs.Text.{most_bytes, place_at}
use Rattle.rules.specs.Refusals.{lexical_number}
use Rattle.rules.specs.Rows.{words_of}
use Rattle.rules.specs.Scan.{read_ending, scan, room_of}
use Rattle.rules.specs.Tree.{Tree}
use Rattle.rules.specs.Nodes.{size, tree_words}
use Rattle.rules.specs.Calls.{node_room}
use Rattle.rules_layout.specs.Rows.{laid}
use Rattle.rules_layout.specs.Bytes.{layout}
use Rattle.laws.proofs.Rows.{few_rows, words_length}
use Rattle.refusals.proofs.Back.{number_some}
use Rattle.theory_edits.specs.Scanned as scanned
use Rattle.theory_grammar.proofs.Laws.{tree_length}
use Rattle.theory_calls.specs.Demand2.{rows_of, ScansFully, ProgramOf}
use Rattle.theory_calls.proofs.Answers.{scan_rows}
use Rattle.theory_layout.specs.Back.{faces_in}
use Rattle.theory_laid.specs.Answer.{ItsTree, SameWords, LayoutAnswer, layout_3, layout_4, layout_0, Laid}
use Rattle.theory_laid.specs.Nodes.{node_no, row_spells, SameNode}
use Rattle.theory_laid.proofs.Trees.{length_0, its_exactly}
use Rattle.theory_laid.proofs.Answers.{layout_answers, three_exactly, four_exactly, laid_exactly, writes}
use Rattle.theory_laid.proofs.Back.{laid_scans, laid_program, same_bytes, same_faces}
use Rattle.theory_laid.proofs.Nodes.{same_many, same_nodes}
use Rattle.answers.specs.Layout.{words, nowhere, told_words, ending_words, is_ending, table_of}
use Rattle.spoonharbor.specs.OuterParse.{OuterAnswer, OuterWritten, outer_1, outer_2, outer_3, outer_ending, outer_5, outer_nodes, outer_syntax}
use Rattle.theory_outer.specs.Calls.{ScanCall, ParseCall, LayoutCall}
use Rattle.theory_outer.proofs.Calls.{scan_says, layout_says}
use Rattle.theory_outer.proofs.Lent.{scan_lends, lent_is, lent_scanned}
use Rattle.theory_outer.proofs.Edits.{parse_answers}

-- ---- what it tells

module _ {text rows table nodes : List ℕ} {count : ℕ} {scratch room answer m used : List ℕ}
    (s : LayoutCall text rows table nodes count scratch room answer m used) where
  -- One of three answers: 3, 4, or the layout.
  pub layout_answered : LayoutAnswer text rows table nodes count room answer m
  layout_answered = rw ((layout_says s).0, (layout_says s).1.0) (layout_answers text rows table nodes count room)

  -- It says 3 exactly if the lent nodes are not the lent text's tree.
  pub layout_3_exactly : (get_or answer 0 0 ≡ 3) ↔ ((p : Tree) → ItsTree text rows table nodes count p → ⊥)
  layout_3_exactly = three_exactly layout_answered

  -- It says 4 exactly if they are, and the tree's layout is longer than the room or than 65,536 bytes.
  pub layout_4_exactly : (get_or answer 0 0 ≡ 4)
      ↔ ((p : Tree) × ItsTree text rows table nodes count p × ((length room < length (layout p)) ⊎ (most_bytes < length (layout p))))
  layout_4_exactly = four_exactly layout_answered

  -- It says 0 exactly if they are, and the layout stands at the front of the room.
  pub layout_0_exactly : (get_or answer 0 0 ≡ 0) ↔ Laid text rows table nodes count room answer m
  layout_0_exactly = laid_exactly layout_answered

  -- Refused, it leaves the room as it was.
  pub layout_refused : (get_or answer 0 0 ≡ 0 → ⊥) → m ≡ room
  layout_refused h = by layout_answered
    where
      by : LayoutAnswer text rows table nodes count room answer m → m ≡ room
      by (layout_3 f e l) = l
      by (layout_4 p x r e l) = l
      by (layout_0 y) = absurd (h (ap (λ (ws : List ℕ). get_or ws 0 0) y.told))

-- ---- a scan and a parse of a text

is_ending_lem : (answer : List ℕ) → get_or answer 0 0 ≡ 0 → is_ending (get_or answer 0 0) ≡ true
unfolding is_ending
is_ending_lem answer e = rw e

number_of_lem : {answer ws : List ℕ} → answer ≡ ws → get_or answer 0 0 ≡ get_or ws 0 0
number_of_lem e = ap (λ (l : List ℕ). get_or l 0 0) e

no_number : (why : Lexical) → lexical_number why ≡ 0 → ⊥
no_number why = eqb-false (lexical_number why) 0 (number_some why)

none_refused : {why : Lexical} {at : Cursor} → None ≡ Some (halt why at) → ⊥
none_refused e = let z : ◌≡◌ {A = ℕ} 0 1 = cc in omega arith

module _ {text lent table rows : List ℕ} (s : ScanCall text lent table rows) {new told nodes : List ℕ}
    (d : ParseCall text rows table new told nodes) where
  -- What they left and told is the text's tree, where both told 0.
  pub scanned_and_parsed : get_or table 0 0 ≡ 0 → get_or told 0 0 ≡ 0 → (p : Tree) × ItsTree text rows table nodes (get_or told 6 0) p
  scanned_and_parsed z y = by (parse_answers (scan_lends s) d)
    where
      its : (p : Tree) → ScansFully text → ProgramOf text p → OuterWritten new told nodes p
          → (q : Tree) × ItsTree text rows table nodes (get_or told 6 0) q
      its p f g w =
          let h = is_ending_lem table z in
          let t : table_of table ≡ scanned.table_of text = lent_is (scan_lends s) h in
          let l = lent_scanned (scan_lends s) h in (
            p,
            record {
              scans = f;
              program = g;
              number = z;
              many = ap (λ (x : Table). x.count) t;
              long = sym (length_0 table z) ∙ ap (λ (x : Table). x.length) t;
              same_rows =
                  ap (take (8 * length (rows_of text))) l.words ∙ take_at (words_of (rows_of text)) l.spare (8 * length (rows_of text)) (words_length (rows_of text));
              counted = ap (λ (ws : List ℕ). get_or ws 6 0) w.told;
              same_nodes = ap (take (8 * size p)) w.left ∙ take_at (tree_words 0 p) (drop (8 * size p) new) (8 * size p) (tree_length 0 p);
            },
          )

      by : OuterAnswer text lent new told nodes → (q : Tree) × ItsTree text rows table nodes (get_or told 6 0) q
      by (outer_1 h a) = absurd (let e = sym (number_of_lem a.told) ∙ y in omega (arith, e))
      by (outer_2 h v a) = absurd (let e = sym (number_of_lem a.told) ∙ y in omega (arith, e))
      by (outer_3 k h a) = absurd (let e = sym (number_of_lem a.told) ∙ y in omega (arith, e))
      by (outer_ending k l why at e a) = absurd (no_number why (sym (number_of_lem a.told) ∙ y))
      by (outer_5 f l h a) = absurd (let e = sym (number_of_lem a.told) ∙ y in omega (arith, e))
      by (outer_nodes f l h p g u w) = its p f g w
      by (outer_syntax f l h g why row k a) = absurd (let e = sym (number_of_lem a.told) ∙ y in omega (arith, e, k.number.0))

-- A scan of a text that scans to its end tells 0, in room for a row for each byte and one more.
module _ {text lent table rows : List ℕ} (s : ScanCall text lent table rows) (f : ScansFully text)
    (room : (length text + 1) * 8 ≤ length lent) where
  has_rows : length (rows_of text) ≤ room_of lent
  unfolding scan room_of
  has_rows = omega (arith, few_rows (place_at text) 0 0 0 text)

  table_is : table ≡ ending_words (length (rows_of text)) (length text) (read_ending (scan text))
  table_is = (scan_says s).0 ∙ ap (λ (x : Told). told_words x) (scan_rows text (room_of lent) f.readable has_rows)

  pub scan_tells_0 : get_or table 0 0 ≡ 0
  scan_tells_0 = number_of_lem (table_is ∙ ap (λ (e : Ending). ending_words (length (rows_of text)) (length text) e) f.ends)

  many_is : get_or table 6 0 ≡ length (rows_of text)
  many_is =
      ap (λ (ws : List ℕ). get_or ws 6 0) (table_is ∙ ap (λ (e : Ending). ending_words (length (rows_of text)) (length text) e) f.ends)

  -- A parse of what it left and told does too if the text has a program, in room for a node for each row.
  pub parse_tells_0 : {new told nodes : List ℕ} → ParseCall text rows table new told nodes → (q : Tree) → ProgramOf text q
      → get_or table 6 0 * 8 ≤ length new → get_or told 0 0 ≡ 0
  unfolding node_room
  parse_tells_0 {new} {told} {nodes} d q g nodes_room = by (parse_answers (scan_lends s) d)
    where
      by : OuterAnswer text lent new told nodes → get_or told 0 0 ≡ 0
      by (outer_1 h a) = absurd (not-le_of_lt h f.readable.fits)
      by (outer_2 h v a) = absurd (true≢false (sym f.readable.good ∙ v))
      by (outer_3 k h a) = absurd (not-le_of_lt h has_rows)
      by (outer_ending k l why at e a) = absurd (none_refused (sym f.ends ∙ e))
      by (outer_5 k l h a) = absurd (omega (arith, h, many_is, nodes_room))
      by (outer_nodes k l h p y u w) = number_of_lem w.told
      by (outer_syntax k l h y why row r a) = absurd (y q g)

-- What a scan and a parse of a text left and told, both 0, is never refused with 3.
pub parsed_never_3 : {text lent table rows : List ℕ} → ScanCall text lent table rows → get_or table 0 0 ≡ 0
    → {new told nodes : List ℕ} → ParseCall text rows table new told nodes → get_or told 0 0 ≡ 0
    → {scratch room answer m used : List ℕ} → LayoutCall text rows table nodes (get_or told 6 0) scratch room answer m used
    → get_or answer 0 0 ≡ 3 → ⊥
parsed_never_3 s z d y l e = let x = scanned_and_parsed s d z y in (layout_3_exactly l).0 e x.0 x.1

-- Beside them other words are refused with 3 exactly if one of them differs.
pub other_words_3 : {text lent table rows : List ℕ} → ScanCall text lent table rows → get_or table 0 0 ≡ 0
    → {new told nodes : List ℕ} → ParseCall text rows table new told nodes → get_or told 0 0 ≡ 0
    → {rows' table' nodes' : List ℕ} {count : ℕ} {scratch room answer m used : List ℕ}
    → LayoutCall text rows' table' nodes' count scratch room answer m used
    → (get_or answer 0 0 ≡ 3) ↔ (SameWords rows' table' nodes' count rows table nodes (get_or told 6 0) → ⊥)
other_words_3 s z d y {rows'} {table'} {nodes'} {count} l =
    let x = scanned_and_parsed s d z y in
    let e = its_exactly x.1 rows' table' nodes' count in (
      λ f w. (layout_3_exactly l).0 f (e.1 w).0 (e.1 w).1,
      λ f. (layout_3_exactly l).1 (λ q t. f (e.0 (q, t))),
    )

-- ---- a scan and a parse of the layout, and its layout

-- A layout call told 0: its layout is the first bytes of the room, as many as it told.
module _ {text rows table nodes : List ℕ} {count : ℕ} {scratch room answer m used : List ℕ}
    (s : LayoutCall text rows table nodes count scratch room answer m used) (z : get_or answer 0 0 ≡ 0) where
  wrote : Laid text rows table nodes count room answer m
  wrote = (layout_0_exactly s).0 z

  laid_is : take (get_or answer 7 0) m ≡ layout wrote.tree
  laid_is =
      let bytes : List ℕ = layout wrote.tree in
      ap (λ (ws : List ℕ). take (get_or ws 7 0) m) wrote.told ∙ ap (take (length bytes)) wrote.left
      ∙ take-append_seam bytes (drop (length bytes) room)

  -- A scan of the layout, in room for a row for each byte and one more.
  module _ {lent told rows' : List ℕ} (c : ScanCall (take (get_or answer 7 0) m) lent told rows')
      (row_room : (length (take (get_or answer 7 0) m) + 1) * 8 ≤ length lent) where
    fully : ScansFully (take (get_or answer 7 0) m)
    fully = rw laid_is (laid_scans wrote.its wrote.short)

    -- It tells 0.
    pub laid_scan_0 : get_or told 0 0 ≡ 0
    laid_scan_0 = scan_tells_0 c fully row_room

    -- A parse of what it left and told, in room for a node for each row.
    module _ {new said nodes' : List ℕ} (d : ParseCall (take (get_or answer 7 0) m) rows' told new said nodes')
        (node_room_lem : get_or told 6 0 * 8 ≤ length new) where
      -- It tells 0.
      pub laid_parse_0 : get_or said 0 0 ≡ 0
      laid_parse_0 =
          parse_tells_0 c fully row_room d (laid wrote.tree) (rw laid_is (laid_program wrote.its wrote.short)) node_room_lem

      again : (q : Tree) × ItsTree (layout wrote.tree) rows' told nodes' (get_or said 6 0) q
      again = rw laid_is at (scanned_and_parsed c d laid_scan_0 laid_parse_0)

      -- The second nodes have the faces of the first: kinds, children, spellings and facts.
      pub laid_faces : faces_in (take (get_or answer 7 0) m) rows' (get_or said 6 0) nodes' ≡ faces_in text rows count nodes
      laid_faces = rw laid_is (same_faces wrote.its wrote.short again.1)

      -- So they are as many, and each says the same in its words: only places, the rows of names and the row of a unit's licence may differ.
      pub laid_many : get_or said 6 0 ≡ count
      laid_many = same_many text rows count nodes (take (get_or answer 7 0) m) rows' (get_or said 6 0) nodes' laid_faces

      pub laid_nodes : (k : ℕ) → k < count
          → SameNode (row_spells (take (get_or answer 7 0) m) rows') (node_no nodes' k) (row_spells text rows) (node_no nodes k)
      laid_nodes = same_nodes text rows count nodes (take (get_or answer 7 0) m) rows' (get_or said 6 0) nodes' laid_faces

      -- Laid out again, in room for it, it is the same bytes: the same answer, the layout at the front of the room, and the rest as it was.
      pub laid_twice : {scratch' room' answer' m' used' : List ℕ}
          → LayoutCall (take (get_or answer 7 0) m) rows' told nodes' (get_or said 6 0) scratch' room' answer' m' used'
          → get_or answer 7 0 ≤ length room'
          → (answer' ≡ answer) × (m' ≡ take (get_or answer 7 0) m ++ drop (get_or answer 7 0) room')
      laid_twice {room' = room'} {answer' = answer'} {m' = m'} l enough =
          let bytes : List ℕ = layout wrote.tree in
          let same : layout again.0 ≡ bytes = same_bytes wrote.its wrote.short again.1 in
          let long : get_or answer 7 0 ≡ length bytes = ap (λ (ws : List ℕ). get_or ws 7 0) wrote.told in
          let w = writes (layout_answered (rw laid_is at l)) again.0 again.1
          (rw same (rw long at enough)) (rw same wrote.short) in (
            w.0 ∙ ap (λ (t : List ℕ). words 0 nowhere 0 0 0 (length t)) same ∙ sym wrote.told,
            w.1 ∙ ap (λ (t : List ℕ). t ++ drop (length t) room') same ∙ rw (laid_is, long),
          )
