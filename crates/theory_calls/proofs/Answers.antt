-- What follows of demand 2: a program is written and what is none is refused, nodes are told exactly of a program, no two of
-- its cases hold together, and what the scan tells in each.
use Prim.Native.Nat.{ℕ, ◌≤◌, ◌<◌}
use native.Mathlib.Nat.{not-le_of_lt}
use native.Mathlib.Omega.{arith}
use mathlib.Core.Bool.{false, cond, not, true≢false}
use mathlib.Core.List.{List, [], append-nil}
use mathlib.Core.Logic.{◌⊎◌, inl, inr, ◌↔◌}
use mathlib.Core.Path.{◌≡◌, sym, ◌∙◌}
use lib.Dec.{ltb}
use lib.ListN.{length}
use borrow.Author.Tests.{lt-ltb, le-ltb}
use Rattle.rules.specs.declared.Cursor.{Cursor}
use Rattle.rules.specs.declared.Lexical.{Lexical}
use Rattle.rules.specs.Outcomes.{Ending, halt, unread, Parsed}
use Rattle.std.specs.declared.option.Option.TheVariants.{None, Some}
use Rattle.rules.specs.declared.Outer.TheVariants.{TextTooLong, BadByte, NoRowRoom}
use Rattle.rules.specs.declared.Syntax.{Syntax}
use Rattle.rules.specs.declared.Reason.{Reason}
use Rattle.rules.specs.declared.Reason.TheVariants as reason
use Rattle.std.specs.declared.result.Result.TheVariants.{Ok, Err}
use Rattle.rules.specs.Text.{most_bytes, valid_bytes, valid, place_at, start_place}
use Rattle.rules.specs.Refusals.{found_told}
use Rattle.rules.specs.Rows.{Row, row_place}
use Rattle.rules.specs.Scan.{read_ending, scan, scan_told}
use Rattle.rules.specs.Tree.{Tree, yield}
use Rattle.rules.specs.Nodes.{size}
use Rattle.rules.specs.Parse.{Out, ok, no, parse}
use Rattle.rules.specs.Calls.{node_room}
use Rattle.laws.proofs.Valid.{text_long, text_bad, text_fine}
use Rattle.laws.proofs.Rows.{scan_told_refused, scan_told_lem, told_all, told_full}
use Rattle.theory_edits.specs.Scanned.{table_of}
use Rattle.theory_grammar.proofs.Complete.{program_complete}
use Rattle.theory_calls.specs.Demand2.{rows_of, tokens_of, Readable, ScansFully, ProgramOf, RefusedRow, Written, Refused, Answer, too_long, bad_byte, ends_refused, few_nodes, accepted, no_program}

-- a refusal tells no nodes
no_nodes : {new m : List ℕ} {r : Parsed} {why : Reason} {at : Cursor} {found n : ℕ} → Refused new r m why at found → r ≡ Ok n → ⊥
no_nodes a e = let f = a.told in let z : ◌≡◌ {A = ℕ} 0 1 = cc in omega arith

none_refused : {why : Lexical} {at : Cursor} → None ≡ Some (halt why at) → ⊥
none_refused e = let z : ◌≡◌ {A = ℕ} 0 1 = cc in omega arith

module _ (t new : List ℕ) (r : Parsed) (m : List ℕ) where
  -- the text's one program is written
  abbrev pub OneWritten : Type 0
  OneWritten = (p : Tree) × ProgramOf t p × ((q : Tree) → ProgramOf t q → q ≡ p) × Written new r m p

  -- the text has none, and a refusal of 21 to 32 is told
  abbrev pub NoneRefused : Type 0
  NoneRefused = ((p : Tree) → ProgramOf t p → ⊥) × ((why : Syntax) × (row : Row) × RefusedRow t why row
      × Refused new r m (reason.Syntax why) (row_place row) (found_told why row.kind))

  -- Of a text that scans fully, in enough room, it is the one or the other.
  pub one_or_none : Answer t new r m → ScansFully t → length (rows_of t) ≤ node_room new → OneWritten ⊎ NoneRefused
  one_or_none (too_long h a) g l = absurd (not-le_of_lt h g.readable.fits)
  one_or_none (bad_byte h v a) g l = absurd (true≢false (sym g.readable.good ∙ v))
  one_or_none (ends_refused k why at q a) g l = absurd (none_refused (sym g.ends ∙ q))
  one_or_none (few_nodes f h a) g l = absurd (not-le_of_lt h l)
  one_or_none (accepted f h p y u w) g l = inl (p, y, u, w)
  one_or_none (no_program f h y why row k a) g l = inr (y, (why, row, k, a))

  -- A program of the text is written.
  pub program_written : Answer t new r m → ScansFully t → length (rows_of t) ≤ node_room new → (p : Tree) → ProgramOf t p → Written new r m p
  program_written x g l p y = by (one_or_none x g l)
    where
      by : OneWritten ⊎ NoneRefused → Written new r m p
      by (inl z) = rw (z.2 p y) z.3
      by (inr z) = absurd (z.0 p y)

  -- Nodes are told exactly if the text scans fully, there is room, and the text has a program. (Which one it is the text says and not the nodes,
  -- which hold rows and no names.)
  pub nodes_exactly : Answer t new r m
      → ((n : ℕ) × (r ≡ Ok n)) ↔ (ScansFully t × (length (rows_of t) ≤ node_room new) × ((p : Tree) × ProgramOf t p))
  nodes_exactly x = (λ e. to x e.0 e.1, λ g. (size g.2.0, (program_written x g.0 g.1 g.2.0 g.2.1).told))
    where
      to : Answer t new r m → (n : ℕ) → r ≡ Ok n → ScansFully t × (length (rows_of t) ≤ node_room new) × ((p : Tree) × ProgramOf t p)
      to (too_long h a) n e = absurd (no_nodes a e)
      to (bad_byte h v a) n e = absurd (no_nodes a e)
      to (ends_refused k why at q a) n e = absurd (no_nodes a e)
      to (few_nodes f h a) n e = absurd (no_nodes a e)
      to (accepted f h p y u w) n e = (f, h, (p, y))
      to (no_program f h y why row k a) n e = absurd (no_nodes a e)

-- ---- one case

-- the number of an answer's case, and of the case that holds
module _ (t new : List ℕ) where
  abbrev pub which : {r : Parsed} {m : List ℕ} → Answer t new r m → ℕ
  which (too_long h a) = 1
  which (bad_byte h v a) = 2
  which (ends_refused k why at e a) = 3
  which (few_nodes f h a) = 4
  which (accepted f h p y u w) = 5
  which (no_program f h y why row k a) = 6

  by_reading : Out → ℕ
  by_reading (ok p j) = 5
  by_reading (no why k) = 6

  by_ending : Ending → ℕ
  by_ending None = cond (ltb (node_room new) (length (rows_of t))) 4 (by_reading (parse (tokens_of t)))
  by_ending (Some e) = 3

  holds : ℕ
  holds = cond (ltb most_bytes (length t)) 1 (cond (not (valid t)) 2 (by_ending (read_ending (scan t))))

  fully : ScansFully t → holds ≡ cond (ltb (node_room new) (length (rows_of t))) 4 (by_reading (parse (tokens_of t)))
  unfolding holds by_ending
  fully f = rw (le-ltb most_bytes (length t) f.readable.fits, f.readable.good, f.ends)

  it_holds : {r : Parsed} {m : List ℕ} (x : Answer t new r m) → which x ≡ holds
  unfolding holds by_ending by_reading
  it_holds (too_long h a) = rw (lt-ltb most_bytes (length t) h)
  it_holds (bad_byte h v a) = rw (le-ltb most_bytes (length t) h, v)
  it_holds (ends_refused k why at e a) = rw (le-ltb most_bytes (length t) k.fits, k.good, e)
  it_holds (few_nodes f h a) = sym (fully f ∙ rw (lt-ltb (node_room new) (length (rows_of t)) h))
  it_holds (accepted f h p y u w) =
      let e = program_complete (tokens_of t) p [] (sym y.same ∙ sym (append-nil (yield p))) y.is in
      sym (fully f ∙ rw (le-ltb (node_room new) (length (rows_of t)) h, e))
  it_holds (no_program f h y why row k a) = sym (fully f ∙ rw (le-ltb (node_room new) (length (rows_of t)) h, k.reads))

  -- No two cases hold together.
  pub one_case : {r r' : Parsed} {m m' : List ℕ} (x : Answer t new r m) (y : Answer t new r' m') → which x ≡ which y
  one_case x y = it_holds x ∙ sym (it_holds y)

-- ---- what the scan tells of the same text, in any room: the same 1 and 2, and else its rows and the ending that the parse tells

module _ (t : List ℕ) (room : ℕ) where
  pub scan_too_long : most_bytes < length t → scan_told t room ≡ Err (unread TextTooLong start_place 0)
  scan_too_long h = scan_told_refused t (text_long t h) room

  pub scan_bad_byte : length t ≤ most_bytes → valid t ≡ false → scan_told t room ≡ Err (unread BadByte (place_at t (valid_bytes t)) 0)
  scan_bad_byte h v = scan_told_refused t (text_bad t h v) room

  pub scan_rows : Readable t → length (rows_of t) ≤ room → scan_told t room ≡ Ok (table_of t)
  scan_rows k h = scan_told_lem t (text_fine t k.fits k.good) room ∙ told_all (length t) room (rows_of t) (read_ending (scan t)) h

  pub scan_few_rows : Readable t → room < length (rows_of t) → scan_told t room ≡ Err (unread NoRowRoom start_place room)
  scan_few_rows k h = scan_told_lem t (text_fine t k.fits k.good) room ∙ told_full (length t) room (rows_of t) (read_ending (scan t)) h
