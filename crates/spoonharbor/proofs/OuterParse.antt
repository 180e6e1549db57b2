-- Demand 2 at the outer face, and at the calls' own contracts.
use Prim.Native.Nat.{ℕ, ◌≤◌, ◌<◌}
use mathlib.Core.Bool.{Bool, true, false, true≢false}
use mathlib.Core.List.{List}
use mathlib.Core.Path.{◌≡◌, refl, ap, sym, ◌∙◌}
use lib.Dec.{ltb}
use lib.ListN.{length, get_or}
use borrow.Author.Tests.{le-ltb, ltb-true, ltb-false}
use contract.Lifetimes.{Lfts}
use borrow.Fn.Kinds.{Dens, ended_of}
use denote.Triple.Clauses.{AtExit}
use Rattle.rules.specs.declared.Outer.TheVariants.{NotWellFormed}
use Rattle.rules.specs.Outcomes.{unfit, Parsed, Told}
use Rattle.std.specs.declared.result.Result.TheVariants.{Err, Ok}
use Rattle.rules.specs.Text.{most_bytes, valid, start_place}
use Rattle.rules.specs.Scan.{room_of, scan_told}
use Rattle.rules.specs.Calls.{judged, node_room, parse_told, parse_leaves}
use Rattle.theory_edits.specs.Scanned as scanned
use Rattle.theory_edits.specs.Change.{Change, new_text}
use Rattle.theory_edits.proofs.WellFormed.{scan_scanned}
use Rattle.theory_calls.specs.Demand2.{rows_of, Readable, Lent, Refused, Answer, too_long, bad_byte, ends_refused, few_nodes, accepted, no_program}
use Rattle.theory_calls.proofs.Demand2.{demand_2}
use Rattle.theory_calls.proofs.Answers.{scan_rows, scan_few_rows}
use Rattle.scan.proofs.scan.Kinds as of_scan
use Rattle.scan.proofs.scan.Reads.{Post as ScanPost}
use Rattle.parse.proofs.parse.Kinds as of_parse
use Rattle.parse.proofs.parse.Reads.{Post as ParsePost}
use Rattle.spoonharbor.proofs.spoonharbor_parse.Kinds as of_outer_parse
use Rattle.spoonharbor.proofs.spoonharbor_parse.Reads.{Post as OuterParsePost}
use Rattle.spoonharbor.proofs.spoonharbor_scan.Kinds as of_outer_scan
use Rattle.spoonharbor.proofs.spoonharbor_scan.Reads.{Post as OuterScanPost}
use Rattle.laws.proofs.Valid.{text_fine}
use Rattle.laws.proofs.Calls.{judged_unformed}
use Rattle.answers.specs.Layout.{told_words, parsed_words, is_ending, table_of}
use Rattle.answers.proofs.Table.{lent_table, no_table}
use Rattle.spoonharbor.specs.OuterEdit.{outer_tells, outer_leaves, OuterFresh}
use Rattle.spoonharbor.specs.OuterParse.{OuterLent, OuterAnswer, outer_1, outer_2, outer_3, outer_ending, outer_5, outer_nodes, outer_syntax}

-- ---- an answer of demand 2, in words

words_of : {r x : Parsed} → r ≡ x → parsed_words r ≡ parsed_words x
words_of e = ap (λ (x : Parsed). parsed_words x) e

module _ (t lent new : List ℕ) (r : Parsed) (m : List ℕ) where
  in_words : (Readable t → length (rows_of t) ≤ room_of lent) → Answer t new r m → OuterAnswer t lent new (parsed_words r) m
  in_words l (too_long h a) = outer_1 h (record { told = words_of a.told; left = a.left })
  in_words l (bad_byte h v a) = outer_2 h v (record { told = words_of a.told; left = a.left })
  in_words l (ends_refused k why at e a) = outer_ending k (l k) why at e (record { told = words_of a.told; left = a.left })
  in_words l (few_nodes f h a) = outer_5 f (l f.readable) h (record { told = words_of a.told; left = a.left })
  in_words l (accepted f h p y u a) = outer_nodes f (l f.readable) h p y u (record { told = words_of a.told; left = a.left })
  in_words l (no_program f h y why row k a) = outer_syntax f (l f.readable) h y why row k (record { told = words_of a.told; left = a.left })

-- ---- lent what the scan left and told

module _ (t lent ws table new : List ℕ) (g : OuterLent t lent ws table) where
  abbrev Answers : Type 0
  Answers = OuterAnswer t lent new (parsed_words (parse_told t ws (table_of table) (node_room new))) (parse_leaves t ws (table_of table) new)

  -- 1 and 2, whatever the words are
  not_readable : (Readable t → ⊥) → Answers
  not_readable h =
      in_words t lent new _ _ (λ k. absurd (h k)) (demand_2 t ws (table_of table) new (record { scanned = λ k. absurd (h k) }))

  module _ (k : Readable t) where
    -- the scan's 4: its words tell no table
    no_room : room_of lent < length (rows_of t) → judged t ws (table_of table) ≡ Err (unfit NotWellFormed start_place)
    unfolding is_ending
    no_room h =
        let f : is_ending (get_or table 0 0) ≡ false = rw (g.told, scan_few_rows t (room_of lent) k h) in
        judged_unformed t ws (table_of table) (text_fine t k.fits k.good) (no_table ws table f)

    few_rows : room_of lent < length (rows_of t) → Answers
    unfolding parse_told parse_leaves
    few_rows h = outer_3 k h (record { told = rw (parse_told, no_room h); left = rw (parse_leaves, no_room h) })

    -- its rows
    has_rows : length (rows_of t) ≤ room_of lent → Answers
    has_rows h =
        let e : scan_told t (room_of lent) ≡ Ok (scanned.table_of t) = scan_rows t (room_of lent) k h in
        let f : table ≡ told_words (Ok (scanned.table_of t)) = g.told ∙ ap (λ (x : Told). told_words x) e in
        let a : Lent t ws (scanned.table_of t) = record { scanned = λ _. rw g.left (scan_scanned t lent (scanned.table_of t) e) } in
        rw (lent_table (scanned.table_of t) f) (in_words t lent new _ _ (λ _. h) (demand_2 t ws (scanned.table_of t) new a))

-- ---- the theorem

-- Demand 2 at the outer face. `spoonharbor_parse` is lent a text, what `spoonharbor_scan` of it left and told in its eight words, whatever that
-- is, and node memory. Then there are seven cases:
--
-- 1. The text has more than 65,536 bytes. The answer's words are 1's, at 0, line 1, column 1.
-- 2. The text has a bad byte. They are 2's, at the first such.
-- 3. The scan had too little room and said 4. They are 3's, at 0, line 1, column 1.
-- 4. The scan ended in a lexical refusal. They are that refusal's, 11 to 17, at its place.
-- 5. The text scans fully, and there is room for fewer nodes than it has rows. They are 5's, at 0, line 1, column 1.
-- 6. There is room, and a tree of the grammar, within the checks and with at most 64 constructs open, has the scan's tokens for its own: one
--    tree and no other. They are number 0 and how many nodes the tree has; the nodes are written, and the words behind them are left.
-- 7. There is room, and no such tree. They are those of a refusal of 21 to 32, at the row to which reading order leads.
--    The refusal is about the first row with which no program goes on (`First`). 21, 22, 23, 25 and 30 come with exactly
--    the kinds that would have fitted, and 21 with the kind of the row that is told.
--
-- But for the sixth case every lent word is left.
pub outer_parse : (t lent ws table new : List ℕ) → OuterLent t lent ws table
    → OuterAnswer t lent new (parsed_words (parse_told t ws (table_of table) (node_room new))) (parse_leaves t ws (table_of table) new)
outer_parse t lent ws table new g = by (ltb most_bytes (length t)) refl (valid t) refl (ltb (room_of lent) (length (rows_of t))) refl
  where
    by : (x : Bool) → ltb most_bytes (length t) ≡ x → (y : Bool) → valid t ≡ y → (z : Bool) → ltb (room_of lent) (length (rows_of t)) ≡ z
        → Answers t lent ws table new g
    by true x y f z h = not_readable t lent ws table new g (λ k. true≢false (sym x ∙ le-ltb most_bytes (length t) k.fits))
    by false x false f z h = not_readable t lent ws table new g (λ k. true≢false (sym k.good ∙ f))
    by false x true f true h = few_rows t lent ws table new g (record { fits = ltb-false _ _ x; good = f }) (ltb-true _ _ h)
    by false x true f false h = has_rows t lent ws table new g (record { fits = ltb-false _ _ x; good = f }) (ltb-false _ _ h)

-- What an edit that is not short left and told may be lent to the parse as well.
pub edit_lends : (c : Change) (ws table w new : List ℕ) → OuterFresh c ws table w
    → OuterLent (new_text c) new (outer_leaves c ws table w new) (outer_tells c ws table w new)
edit_lends c ws table w new f = record { told = f.told new; left = f.left new }

-- ---- the calls' own contracts: `Post` is what one promises of the arguments a, the answer r and the lent memory at exit e

-- The library's parse call answers as demand 2 says, if it is lent what a scan left and told.
module _ (κs : Lfts 3) (a : Dens κs of_parse.ps) (r : Parsed) (e : AtExit (ended_of 3 of_parse.ps of_parse.r) κs) where
  pub parse_call : ParsePost κs a r e → Lent a.0.now a.1.0.now a.1.1.0
      → Answer a.0.now a.1.1.1.0.now r e.1.1.1.0.now
  parse_call p g = rw (p.0, p.1) (demand_2 a.0.now a.1.0.now a.1.1.0 a.1.1.1.0.now g)

  -- So it does where the library's scan call was made before, of the same text, and the rows that it left and the table that it told are lent.
  module _ (λs : Lfts 2) (b : Dens λs of_scan.ps) (q : Told) (f : AtExit (ended_of 2 of_scan.ps of_scan.r) λs) where
    pub scan_then_parse : ScanPost λs b q f → ParsePost κs a r e
        → a.0.now ≡ b.0.now → a.1.0.now ≡ f.1.0.now → q ≡ Ok a.1.1.0
        → Answer a.0.now a.1.1.1.0.now r e.1.1.1.0.now
    scan_then_parse s p x y z =
        parse_call p (record { scanned = λ k. rw (x, y, s.1) (scan_scanned b.0.now b.1.0.now a.1.1.0 (sym s.0 ∙ z)) })

-- The outer face's parse call answers as the theorem says, if it is lent what the outer face's scan leaves and tells.
module _ (κs : Lfts 5) (a : Dens κs of_outer_parse.ps) (r : Unit {0}) (e : AtExit (ended_of 5 of_outer_parse.ps of_outer_parse.r) κs) where
  pub outer_parse_call : OuterParsePost κs a r e → (lent : List ℕ) → OuterLent a.0.now lent a.1.0.now a.1.1.0.now
      → OuterAnswer a.0.now lent a.1.1.1.0.now e.1.1.1.1.0.now e.1.1.1.0.now
  outer_parse_call p lent g = rw (p.0, p.1) (outer_parse a.0.now lent a.1.0.now a.1.1.0.now a.1.1.1.0.now g)

  -- So it does where the outer face's scan call was made before, of the same text, and the rows and words that it left and gave are lent.
  module _ (λs : Lfts 3) (b : Dens λs of_outer_scan.ps) (q : Unit {0}) (f : AtExit (ended_of 3 of_outer_scan.ps of_outer_scan.r) λs) where
    pub outer_scan_then_parse : OuterScanPost λs b q f → OuterParsePost κs a r e
        → a.0.now ≡ b.0.now → a.1.0.now ≡ f.1.0.now → a.1.1.0.now ≡ f.1.1.0.now
        → OuterAnswer a.0.now b.1.0.now a.1.1.1.0.now e.1.1.1.1.0.now e.1.1.1.0.now
    outer_scan_then_parse s p x y z = outer_parse_call p b.1.0.now (record { told = rw x (z ∙ s.0); left = rw x (y ∙ s.1) })
