-- Demand 2: lent what the scan of a text left and told, the parse call accepts exactly the programs of the grammar.
use Prim.Native.Nat.{ℕ, zero, suc, ◌+◌, ◌*◌, ◌≤◌, ◌<◌}
use native.Mathlib.Omega.{arith}
use mathlib.Core.Bool.{Bool, true, false}
use mathlib.Core.List.{List, [], ◌∷◌, ◌++◌}
use mathlib.Core.Path.{◌≡◌, refl, sym, ap, ◌∙◌, subst}
use lib.Dec.{ltb}
use lib.ListN.{length, drop, length-map}
use lib.Seq.{drop-drop}
use borrow.Author.Tests.{lt-ltb, le-ltb, ltb-true, ltb-false}
use Rattle.rules.specs.declared.Cursor.{Cursor}
use Rattle.rules.specs.declared.Lexical.{Lexical}
use Rattle.rules.specs.Outcomes.{Ending, halt, unfit, Parsed, unparsed}
use Rattle.std.specs.declared.option.Option.TheVariants.{None, Some}
use Rattle.rules.specs.declared.Outer.{Outer}
use Rattle.rules.specs.declared.Outer.TheVariants.{TextTooLong, BadByte, NoNodeRoom}
use Rattle.rules.specs.declared.Syntax.{Syntax}
use Rattle.rules.specs.declared.Syntax.TheVariants.{Wanted, NotTopLevel, NotMapField, MapTypeUnknown, NotType, MaxNegative, OutOfRange, ShiftCount, MapLacks, NotEventType, CallOnOther, TooDeep}
use Rattle.rules.specs.declared.Reason.{Reason}
use Rattle.rules.specs.declared.Reason.TheVariants as reason
use Rattle.std.specs.declared.result.Result.TheVariants.{Ok, Err}
use Rattle.rules.specs.declared.Table.{Table}
use Rattle.rules.specs.Text.{most_bytes, valid_bytes, valid, place_at, start_place}
use Rattle.rules.specs.Refusals.{syntax_number, found_told}
use Rattle.rules.specs.Rows.{Row, row_words, row_in, rows_in, words_of, row_place}
use Rattle.rules.specs.Scan.{read_ending, scan}
use Rattle.rules.specs.Tree.{Tree, tok_of}
use Rattle.rules.specs.Parse.{Out, ok, no, parse}
use Rattle.rules.specs.Calls.{judged, tokens, place_of_row, node_room, out_told, out_leaves, reading, ending_told, ending_leaves, parse_told, parse_leaves}
use Rattle.laws.proofs.Valid.{text_long, text_bad, text_fine}
use Rattle.laws.proofs.Calls.{judged_text, judged_well}
use Rattle.theory_edits.specs.Scanned.{Scanned}
use Rattle.theory_edits.proofs.WellFormed.{scanned_rows, scanned_well_formed}
use Rattle.theory_grammar.specs.Tokens.{Whole}
use Rattle.theory_grammar.proofs.Refused.{refused_inside}
use Rattle.theory_grammar.proofs.Place.{refused_first}
use Rattle.theory_grammar.proofs.Fitting.{told_exactly}
use Rattle.theory_grammar.proofs.Same.{accepts_exactly, unambiguous, refused_sound}
use Rattle.theory_grammar.proofs.Sound.{parse_whole}
use Rattle.theory_grammar.proofs.Tables.{table_whole}
use Rattle.theory_calls.specs.Demand2.{rows_of, tokens_of, Readable, ScansFully, Lent, Written, Refused, Answer, too_long, bad_byte, ends_refused, few_nodes, accepted, no_program}

-- ---- numbers

pub syntax_number_lem : (why : Syntax) → (21 ≤ syntax_number why) × (syntax_number why ≤ 32)
syntax_number_lem (Wanted low high) = (omega arith, omega arith)
syntax_number_lem NotTopLevel = (omega arith, omega arith)
syntax_number_lem NotMapField = (omega arith, omega arith)
syntax_number_lem MapTypeUnknown = (omega arith, omega arith)
syntax_number_lem NotType = (omega arith, omega arith)
syntax_number_lem MaxNegative = (omega arith, omega arith)
syntax_number_lem OutOfRange = (omega arith, omega arith)
syntax_number_lem ShiftCount = (omega arith, omega arith)
syntax_number_lem (MapLacks field) = (omega arith, omega arith)
syntax_number_lem NotEventType = (omega arith, omega arith)
syntax_number_lem CallOnOther = (omega arith, omega arith)
syntax_number_lem TooDeep = (omega arith, omega arith)

-- ---- a row in the words of its table

record RowAt (rows : List Row) (ws : List ℕ) (k : ℕ) : Type 0 where
  row : Row
  behind : List Row
  stands : drop k rows ≡ row ∷ behind
  same : row_in (drop (8 * k) ws) ≡ row

row_at : (rows : List Row) (ws : List ℕ) (k : ℕ) → k < length rows → RowAt rows (words_of rows ++ ws) k
unfolding words_of row_words row_in
row_at [] ws k h = absurd (omega arith)
row_at (r ∷ rs) ws zero h = record { row = r; behind = rs; stands = refl; same = refl }
row_at (r ∷ rs) ws (suc k) h =
    let x : RowAt rs (words_of rs ++ ws) k = row_at rs ws k (omega arith) in
    let e : 8 * suc k ≡ 8 + 8 * k = omega arith in
    record { row = x.row; behind = x.behind; stands = x.stands; same = rw (e, ← drop-drop (8 * k) 8 (words_of (r ∷ rs) ++ ws)) x.same }

same_head : {l xs ys : List Row} {x y : Row} → l ≡ x ∷ xs → l ≡ y ∷ ys → x ≡ y
same_head e f = cc

-- ---- the call, in its order

module _ (t ws : List ℕ) (table : Table) (new : List ℕ) where
  abbrev tells : Parsed
  tells = parse_told t ws table (node_room new)

  abbrev leaves : List ℕ
  leaves = parse_leaves t ws table new

  abbrev Answers : Type 0
  Answers = Answer t new tells leaves

  -- 1 and 2
  text_refused : (why : Outer) (at : Cursor) → judged t ws table ≡ Err (unfit why at) → Refused new tells leaves (reason.Outer why) at 0
  unfolding parse_told parse_leaves
  text_refused why at e = record { told = rw (parse_told, e); left = rw (parse_leaves, e) }

  long : most_bytes < length t → Refused new tells leaves (reason.Outer TextTooLong) start_place 0
  long h = text_refused TextTooLong start_place (judged_text t ws table (text_long t h))

  bad : length t ≤ most_bytes → valid t ≡ false → Refused new tells leaves (reason.Outer BadByte) (place_at t (valid_bytes t)) 0
  bad h v = text_refused BadByte (place_at t (valid_bytes t)) (judged_text t ws table (text_bad t h v))

  -- a scanned table: not 3, and then its refused ending
  module _ (k : Readable t) (s : Scanned t ws table) where
    fine : judged t ws table ≡ Ok tt
    fine = judged_well t ws table (text_fine t k.fits k.good) (scanned_well_formed s) (ap (λ (x : Table). x.length) s.told)

    stopped : (why : Lexical) (at : Cursor) → read_ending (scan t) ≡ Some (halt why at)
        → Refused new tells leaves (reason.Lexical why) at 0
    unfolding parse_told parse_leaves ending_told ending_leaves
    stopped why at e = record { told = rw (parse_told, fine, s.told, e); left = rw (parse_leaves, fine, s.told, e) }

  module _ (f : ScansFully t) (s : Scanned t ws table) where
    -- 5
    tight : node_room new < length (rows_of t) → Refused new tells leaves (reason.Outer NoNodeRoom) start_place 0
    unfolding parse_told parse_leaves ending_told ending_leaves
    tight h =
        let b : ltb (node_room new) (length (rows_of t)) ≡ true = lt-ltb (node_room new) (length (rows_of t)) h in
        record { told = rw (parse_told, fine f.readable s, s.told, f.ends, b); left = rw (parse_leaves, fine f.readable s, s.told, f.ends, b) }

    -- the rows that are read are the text's, and their one Eof is the last
    rows_are : rows_in (length (rows_of t)) ws ≡ rows_of t
    rows_are = ap (λ (x : Table). rows_in x.count ws) (sym s.told) ∙ scanned_rows s

    whole : Whole (tokens_of t)
    whole = rw (← scanned_rows s) (table_whole t ws table (scanned_well_formed s) (rw s.told f.ends))

    -- a refusal's row is one of them
    inside : (why : Syntax) (k : ℕ) → parse (tokens_of t) ≡ no why k → k < length (rows_of t)
    unfolding tokens
    inside why k q =
        let a : length (tokens_of t) ≡ length (rows_of t) = length-map (rows_of t) (tok_of t) in
        omega (arith, a, whole.long, refused_inside (tokens_of t) whole.last whole.closed (omega (arith, whole.long)) why k q)

    row_of : (why : Syntax) (k : ℕ) → parse (tokens_of t) ≡ no why k → RowAt (rows_of t) ws k
    row_of why k q = rw s.words (row_at (rows_of t) s.spare k (inside why k q))

    -- with room it is the reading that is told
    module _ (h : length (rows_of t) ≤ node_room new) where
      room : ltb (node_room new) (length (rows_of t)) ≡ false
      room = le-ltb (node_room new) (length (rows_of t)) h

      told_is : (o : Out) → parse (tokens_of t) ≡ o → tells ≡ out_told ws o
      unfolding parse_told ending_told reading
      told_is o q = rw (parse_told, fine f.readable s, s.told, f.ends, room, rows_are, q)

      left_is : (o : Out) → parse (tokens_of t) ≡ o → leaves ≡ out_leaves o new
      unfolding parse_leaves ending_leaves reading
      left_is o q = rw (parse_leaves, fine f.readable s, s.told, f.ends, room, rows_are, q)

      written : (p : Tree) (j : ℕ) → parse (tokens_of t) ≡ ok p j → Written new tells leaves p
      unfolding out_told out_leaves
      written p j q = record { told = told_is (ok p j) q; left = left_is (ok p j) q }

      refused : (why : Syntax) (k : ℕ) (q : parse (tokens_of t) ≡ no why k)
          → Refused new tells leaves (reason.Syntax why) (row_place (row_of why k q).row) (found_told why (row_of why k q).row.kind)
      unfolding out_told out_leaves place_of_row
      refused why k q = record {
        told =
            told_is (no why k) q ∙ ap (λ (y : Row). (Err (unparsed (reason.Syntax why) (row_place y) (found_told why y.kind))))
            (row_of why k q).same;
        left = left_is (no why k) q;
      }

      reading_answers : (o : Out) → parse (tokens_of t) ≡ o → Answers
      reading_answers (ok p j) q =
          let x = parse_whole (tokens_of t) p j whole q in
          accepted f h p (record { is = x.0; same = sym x.1 }) (λ u v. unambiguous u p v.is x.0 (v.same ∙ x.1)) (written p j q)
      reading_answers (no why k) q =
          let x : RowAt (rows_of t) ws k = row_of why k q in
          no_program f h (λ p y. refused_sound (tokens_of t) why k q p y.is (sym y.same)) why x.row
          (record {
            number = syntax_number_lem why;
            before = k;
            behind = x.behind;
            reads = q;
            stands = x.stands;
            first = refused_first (tokens_of t) why k whole.proper q;
            exactly = λ m. told_exactly (tokens_of t) why k whole.proper q m;
          })
          (refused why k q)

    room_answers : (x : Bool) → ltb (node_room new) (length (rows_of t)) ≡ x → Answers
    room_answers true q = let h = ltb-true (node_room new) (length (rows_of t)) q in few_nodes f h (tight h)
    room_answers false q = reading_answers (ltb-false (node_room new) (length (rows_of t)) q) (parse (tokens_of t)) refl

  ending_answers : (k : Readable t) → Scanned t ws table → (x : Ending) → read_ending (scan t) ≡ x → Answers
  ending_answers k s None e = room_answers (record { readable = k; ends = e }) s (ltb (node_room new) (length (rows_of t))) refl
  ending_answers k s (Some refusal) e = ends_refused k refusal.why refusal.at e (stopped k s refusal.why refusal.at e)

-- ---- the theorem

-- The parse call is lent a text, the words and the table that a scan of it left and told, and node memory. Then there are six cases, whatever
-- the text is, of which no two hold together:
--
-- 1. The text has more than 65,536 bytes. The call tells 1, at 0.
-- 2. The text is no valid UTF-8. It tells 2, where its longest valid beginning ends; as in the first case the scan tells the same,
--    and no table is asked for.
-- 3. The scan ended in a lexical refusal. It tells that refusal, at its place.
-- 4. The text scans fully, and there is room for fewer nodes than it has rows. It tells 5, at 0.
-- 5. There is room, and a tree of the grammar, within the checks and with at most 64 constructs open, has the scan's tokens for its own: one
--    tree and no other. It tells how many nodes the tree has, writes them, and leaves the words behind them.
-- 6. There is room, and no such tree. It tells a refusal of 21 to 32, at the row to which reading order leads. The
--    refusal is about the first row with which no program goes on: `First` says what a program is there, and how that
--    row stands to the one that is told. 21, 22, 23, 25 and 30 come with exactly the kinds that would have fitted, and 21
--    with the kind of the row that is told.
--
-- But for the fifth case it leaves every word.
pub demand_2 : (t ws : List ℕ) (table : Table) (new : List ℕ) → Lent t ws table
    → Answer t new (parse_told t ws table (node_room new)) (parse_leaves t ws table new)
demand_2 t ws table new g = by (ltb most_bytes (length t)) refl (valid t) refl
  where
    by : (x : Bool) → ltb most_bytes (length t) ≡ x → (y : Bool) → valid t ≡ y → Answers t ws table new
    by true x y f = let h = ltb-true most_bytes (length t) x in too_long h (long t ws table new h)
    by false x false f = let h = ltb-false most_bytes (length t) x in bad_byte h f (bad t ws table new h f)
    by false x true f =
        let k : Readable t = record { fits = ltb-false most_bytes (length t) x; good = f } in
        ending_answers t ws table new k (g.scanned k) (read_ending (scan t)) refl

-- The six cases say all: whatever meets them is what the call tells and leaves.
pub demand_2_tight : (t ws : List ℕ) (table : Table) (new : List ℕ) (r : Parsed) (m : List ℕ) → Lent t ws table → Answer t new r m
    → (r ≡ parse_told t ws table (node_room new)) × (m ≡ parse_leaves t ws table new)
demand_2_tight t ws table new r m g x = by x
  where
    like : {why : Reason} {at : Cursor} {found : ℕ} → Refused new r m why at found
        → Refused new (tells t ws table new) (leaves t ws table new) why at found
        → (r ≡ tells t ws table new) × (m ≡ leaves t ws table new)
    like a b = (a.told ∙ sym b.told, a.left ∙ sym b.left)

    by : Answer t new r m → (r ≡ tells t ws table new) × (m ≡ leaves t ws table new)
    by (too_long h a) = like a (long t ws table new h)
    by (bad_byte h v a) = like a (bad t ws table new h v)
    by (ends_refused k why at e a) = like a (stopped t ws table new k (g.scanned k) why at e)
    by (few_nodes f h a) = like a (tight t ws table new f (g.scanned f.readable) h)
    by (accepted f h p y u a) =
        let s : Scanned t ws table = g.scanned f.readable in
        let q = (accepts_exactly (tokens_of t) p (whole t ws table new f s)).1 (y.is, sym y.same) in
        let b : Written new (tells t ws table new) (leaves t ws table new) p = written t ws table new f s h p (length (tokens_of t)) q in
        (a.told ∙ sym b.told, a.left ∙ sym b.left)
    by (no_program f h y why row k a) =
        let s : Scanned t ws table = g.scanned f.readable in
        let x : RowAt (rows_of t) ws k.before = row_of t ws table new f s why k.before k.reads in
        let e : x.row ≡ row = same_head x.stands k.stands in
        like a (subst (λ (z : Row). Refused new (tells t ws table new) (leaves t ws table new) (reason.Syntax why) (row_place z)
        (found_told why z.kind)) e
        (refused t ws table new f s h why k.before k.reads))
