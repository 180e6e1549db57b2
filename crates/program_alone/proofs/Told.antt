-- What a text read alone is told, case by case; and what holds where it is a program.
use mathlib.Core.Path.{◌≡◌, refl, sym, ap, ◌∙◌}
use mathlib.Core.Bool.{false}
use mathlib.Core.List.{List}
use Prim.Native.Nat.{ℕ, ◌*◌}
use native.Mathlib.Nat.{le_refl}
use native.Mathlib.Omega.{arith}
use lib.Dec.{ltb}
use lib.ListN.{length, replicate, length-replicate}
use borrow.Author.Tests.{le-ltb}
use Rattle.rules.specs.declared.Cursor.{Cursor}
use Rattle.rules.specs.Outcomes.{Ending, halt, Judged, unfit, Parsed, unparsed}
use Rattle.std.specs.declared.option.Option.TheVariants.{None, Some}
use Rattle.std.specs.Prelude.{Result, Ok, Err}
use Rattle.rules.specs.declared.Unparsed.{Unparsed}
use Rattle.rules.specs.declared.Lexical.{Lexical}
use Rattle.rules.specs.declared.Outer.{Outer}
use Rattle.rules.specs.declared.Reason.{Reason}
use Rattle.rules.specs.declared.Reason.TheVariants as reason
use Rattle.rules.specs.declared.Syntax.{Syntax}
use Rattle.rules.specs.declared.Table.{Table}
use Rattle.rules.specs.Refusals.{found_told}
use Rattle.rules.specs.Rows.{row_no, rows_in}
use Rattle.rules.specs.Tree.{Tree}
use Rattle.rules.specs.Parse.{Out, ok, no}
use Rattle.rules.specs.Calls.{judged, node_room, place_of_row, tokens, out_told, reading, ending_told, parse_told}
use Rattle.laws.proofs.Outcomes.{unparsed_alike}
use Rattle.laws.proofs.Calls.{judged_fine}
use Rattle.rows.proofs.Inside.{fine}
use Rattle.theory_grammar.proofs.Laws.{yield_width}
use Rattle.theory_grammar.proofs.Tables.{table_whole, tokens_length}
use Rattle.theory_grammar.proofs.Sound.{parse_whole}
use Rattle.parse.specs.Program.{AsksEnded, AsksWhole, Accepted, reading_of}
use Rattle.parse.proofs.Tables.{asks_ended}
use Rattle.program_alone.specs.Told.{alone_of, alone_told, IsProgram}

-- ---- what is read of a table

-- some node memory with room for a node for each row
pub roomy : {t ws : List ℕ} {n : ℕ} → AsksEnded t ws n → AsksWhole t ws n (replicate (n * 8) 0)
unfolding node_room
roomy {t} {ws} {n} a = record { ended = a; room = omega (arith, length-replicate {A = ℕ} (n * 8) 0) }

module _ (ws : List ℕ) where
  pub read_ok : (o : Out) (p : Tree) (j : ℕ) → o ≡ ok p j → Ok tt ≡ alone_of (out_told ws o)
  unfolding out_told alone_of
  read_ok o p j e = rw e

  pub read_no : (o : Out) (why : Syntax) (r : ℕ) (x : Cursor) (k : ℕ) → o ≡ no why r → x ≡ place_of_row ws r
      → k ≡ found_told why (row_no ws r).kind
      → Err (unparsed (reason.Syntax why) x k) ≡ alone_of (out_told ws o)
  unfolding out_told alone_of
  read_no o why r x k e q f = rw (e, q, f)

-- ---- the call

module _ (t ws : List ℕ) (tbl : Table) where
  pub told_refused : (why : Outer) (p : Cursor) → judged t ws tbl ≡ Err (unfit why p)
      → Err (unparsed (reason.Outer why) p 0) ≡ alone_told t ws tbl
  unfolding alone_told parse_told alone_of
  told_refused why p e = rw (alone_told, parse_told, e)

  module _ (well : judged t ws tbl ≡ Ok tt) where
    pub told_ending : (why : Lexical) (p : Cursor) → tbl.ending ≡ Some (halt why p)
        → Err (unparsed (reason.Lexical why) p 0) ≡ alone_told t ws tbl
    unfolding alone_told parse_told ending_told alone_of
    told_ending why p e = rw (alone_told, parse_told, well) (rw (ending_told, e))

    module _ (e : tbl.ending ≡ None) where
      enough : ltb tbl.count tbl.count ≡ false
      enough = le-ltb tbl.count tbl.count (le_refl tbl.count)

      pub told_read : alone_of (out_told ws (reading_of t ws tbl.count)) ≡ alone_told t ws tbl
      unfolding alone_told parse_told ending_told reading
      told_read = rw (alone_told, parse_told, well) (rw (ending_told, e) (rw enough))

      pub table_ended : AsksEnded t ws tbl.count
      table_ended = let w = judged_fine t ws tbl well in asks_ended (fine ws tbl w.0) t w.1 e

      -- what is read of a table that is well formed and not refused
      program_read : (p : Tree) (j : ℕ) → reading_of t ws tbl.count ≡ ok p j → IsProgram t ws tbl.count
      program_read p j r =
          let w = table_whole t ws tbl (judged_fine t ws tbl well).0 e in
          let s = parse_whole (tokens t (rows_in tbl.count ws)) p j w r in
          let l = tokens_length t tbl.count ws in
          let n : j ≡ tbl.count = s.2 ∙ l in
          record {
            ended = table_ended;
            whole = w;
            tree = p;
            reads = r ∙ ap (ok p) n;
            is = s.0;
            wide = sym (yield_width p) ∙ sym (ap length s.1) ∙ l;
          }

-- ---- what its callers learn

no_program : (why : Reason) (p : Cursor) (k : ℕ) → ◌≡◌ {A = Result (Unit {0}) Unparsed} (Err (unparsed why p k)) (Ok tt) → ⊥
no_program why p k e = let z : ◌≡◌ {A = ℕ} 0 1 = cc in omega arith

out_program : (ws : List ℕ) (o : Out) → alone_of (out_told ws o) ≡ Ok tt → Accepted o
unfolding out_told alone_of
out_program ws (ok p j) e = record { tree = p; behind = j; is = refl }
out_program ws (no why r) e = absurd (no_program (reason.Syntax why) (place_of_row ws r) (found_told why (row_no ws r).kind) e)

module _ (t ws : List ℕ) (tbl : Table) where
  -- A text that is told to be a program is one.
  pub told_program : alone_told t ws tbl ≡ Ok tt → IsProgram t ws tbl.count
  told_program e = go (judged t ws tbl) refl
    where
      clean : (v : Ending) → judged t ws tbl ≡ Ok tt → tbl.ending ≡ v → IsProgram t ws tbl.count
      clean None w n =
          let a = out_program ws (reading_of t ws tbl.count) (told_read t ws tbl w n ∙ e) in
          program_read t ws tbl w n a.tree a.behind a.is
      clean (Some refusal) w n = absurd (no_program (reason.Lexical refusal.why) refusal.at 0 (told_ending t ws tbl w refusal.why refusal.at n ∙ e))

      go : (v : Judged) → judged t ws tbl ≡ v → IsProgram t ws tbl.count
      go (Ok _) w = clean tbl.ending w refl
      go (Err refusal) w = absurd (no_program (reason.Outer refusal.why) refusal.at 0 (told_refused t ws tbl refusal.why refusal.at w ∙ e))

  -- What is refused alone is what a parse in enough room is refused with.
  pub alone_refused : {why : Reason} {p : Cursor} {k : ℕ} → alone_told t ws tbl ≡ Err (unparsed why p k)
      → parse_told t ws tbl tbl.count ≡ Err (unparsed why p k)
  unfolding alone_told alone_of
  alone_refused {why} {p} {k} e = go (parse_told t ws tbl tbl.count) e
    where
      go : (r : Parsed) → alone_of r ≡ Err (unparsed why p k) → r ≡ Err (unparsed why p k)
      go (Ok n) e = let z : ◌≡◌ {A = ℕ} 0 1 = cc in absurd (omega arith)
      go (Err refusal) e =
          let w : refusal.why ≡ why = cc in
          let q : refusal.at ≡ p = cc in
          let n : refusal.found ≡ k = cc in
          unparsed_alike w q n

  -- A program has nodes.
  pub record SomeNodes : Type 0 where
    pub many : ℕ
    pub told : parse_told t ws tbl tbl.count ≡ Ok many

  pub alone_program : alone_told t ws tbl ≡ Ok tt → SomeNodes
  unfolding alone_told alone_of
  alone_program e = go (parse_told t ws tbl tbl.count) refl e
    where
      go : (r : Parsed) → parse_told t ws tbl tbl.count ≡ r → alone_of r ≡ Ok tt → SomeNodes
      go (Ok n) q e = record { many = n; told = q }
      go (Err refusal) q e = absurd (no_program refusal.why refusal.at refusal.found e)
