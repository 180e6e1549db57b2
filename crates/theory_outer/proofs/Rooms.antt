-- Room that is enough, of the calls as they are made: for a parse, and for a store.
use Prim.Native.Nat.{ℕ, ◌+◌, ◌*◌, ◌/◌, ◌≤◌}
use native.Mathlib.Omega.{arith}
use mathlib.Core.Bool.{Bool, true, false, cond, not, ◌&&◌, true≢false}
use mathlib.Core.List.{List}
use mathlib.Core.Path.{◌≡◌, refl, ap, sym, ◌∙◌}
use lib.Dec.{eqb, ltb}
use lib.ListN.{length, get_or}
use borrow.Author.Tests.{le-ltb}
use Rattle.rules.specs.Outcomes.{Ending, halt, Judged, unfit}
use Rattle.std.specs.declared.option.Option.TheVariants.{None, Some}
use Rattle.std.specs.declared.result.Result.TheVariants.{Ok, Err}
use Rattle.rules.specs.declared.Lexical.{Lexical}
use Rattle.rules.specs.declared.Lexical.TheVariants as lexical
use Rattle.rules.specs.declared.Cursor.{Cursor}
use Rattle.rules.specs.declared.Outer.{Outer}
use Rattle.rules.specs.declared.Outer.TheVariants.{NotWellFormed}
use Rattle.rules.specs.declared.Syntax.TheVariants as syntax
use Rattle.rules.specs.declared.Table.{Table}
use Rattle.rules.specs.Text.{start_place, text_judged}
use Rattle.rules.specs.Refusals.{outer_number}
use Rattle.rules.specs.Rows.{well_formed}
use Rattle.rules.specs.Parse.{Out, ok, no}
use Rattle.rules.specs.Calls.{judged, node_room, out_told, reading, ending_told, parse_told}
use Rattle.laws.proofs.Calls.{judged_text}
use Rattle.laws.proofs.Valid.{TextJudged, long, bad, fine, text_judged_lem}
use Rattle.rules_files.specs.Blocks.{file_length, blocks_for}
use Rattle.rules_files.specs.Files.{most_rows, store_told}
use Rattle.answers.specs.Layout.{parsed_words, table_of}
use Rattle.file_answers.specs.Layout.{stored_words}
use Rattle.theory_outer.specs.Calls.{ParseCall, StoreCall}
use Rattle.theory_outer.proofs.Calls.{parse_says, store_says}

-- ---- nodes

-- what is read tells no 5
out_5 : (ws : List ℕ) (o : Out) → get_or (parsed_words (out_told ws o)) 0 0 ≡ 5 → ⊥
unfolding out_told
out_5 ws (ok t j) e = omega arith
out_5 ws (no (syntax.Wanted low high) r) e = omega arith
out_5 ws (no syntax.NotTopLevel r) e = omega arith
out_5 ws (no syntax.NotMapField r) e = omega arith
out_5 ws (no syntax.MapTypeUnknown r) e = omega arith
out_5 ws (no syntax.NotType r) e = omega arith
out_5 ws (no syntax.MaxNegative r) e = omega arith
out_5 ws (no syntax.OutOfRange r) e = omega arith
out_5 ws (no syntax.ShiftCount r) e = omega arith
out_5 ws (no (syntax.MapLacks field) r) e = omega arith
out_5 ws (no syntax.NotEventType r) e = omega arith
out_5 ws (no syntax.CallOnOther r) e = omega arith
out_5 ws (no syntax.TooDeep r) e = omega arith

ending_5 : (t ws : List ℕ) (table : Table) (z : Ending) (room : ℕ) → table.count ≤ room
    → get_or (parsed_words (ending_told t ws table z room)) 0 0 ≡ 5 → ⊥
unfolding ending_told
ending_5 t ws table None room h e = out_5 ws (reading t ws table) (rw (le-ltb room table.count h) at e)
ending_5 t ws table (Some z) room h e = case z.why z.at e
  where
    case : (why : Lexical) (p : Cursor) → get_or (parsed_words (ending_told t ws table (Some (halt why p)) room)) 0 0 ≡ 5 → ⊥
    case lexical.NoRowBegins p e = omega arith
    case lexical.LoneSign p e = omega arith
    case lexical.NoHexDigit p e = omega arith
    case lexical.OpenComment p e = omega arith
    case lexical.OpenString p e = omega arith
    case lexical.BadEscape p e = omega arith
    case lexical.NumberTooLarge p e = omega arith

-- a text and its table are refused with 1, 2 or 3
module _ (t ws : List ℕ) (table : Table) (room : ℕ) where
  refused_number : {why : Outer} {p : Cursor} → judged t ws table ≡ Err (unfit why p)
      → get_or (parsed_words (parse_told t ws table room)) 0 0 ≡ outer_number why
  unfolding parse_told
  refused_number j = rw (parse_told, j)

  read_number : judged t ws table ≡ Ok tt → parse_told t ws table room ≡ ending_told t ws table table.ending room
  unfolding parse_told
  read_number j = rw (parse_told, j)

  parse_5 : table.count ≤ room → get_or (parsed_words (parse_told t ws table room)) 0 0 ≡ 5 → ⊥
  unfolding judged
  parse_5 h e = by (text_judged t) refl (text_judged_lem t) (well_formed ws table && eqb table.length (length t)) refl
    where
      by : (v : Judged) → text_judged t ≡ v → TextJudged t v → (b : Bool) → (well_formed ws table && eqb table.length (length t)) ≡ b → ⊥
      by v q (long l) b w = let k = sym (refused_number (judged_text t ws table q)) ∙ e in omega (arith, k)
      by v q (bad l f) b w = let k = sym (refused_number (judged_text t ws table q)) ∙ e in omega (arith, k)
      by v q (fine l f) true w =
          let j : judged t ws table ≡ Ok tt = rw (judged, q) (rw w) in
          ending_5 t ws table table.ending room h (rw (read_number j) at e)
      by v q (fine l f) false w =
          let j : judged t ws table ≡ Err (unfit NotWellFormed start_place) = rw (judged, q) (rw w) in
          let k = sym (refused_number j) ∙ e in omega (arith, k)

-- A parse that is lent eight words for each of its table's rows does not say 5.
pub node_room_lem : {text rows table lent answer nodes : List ℕ} → ParseCall text rows table lent answer nodes
    → get_or table 6 0 * 8 ≤ length lent → get_or answer 0 0 ≡ 5 → ⊥
unfolding node_room
node_room_lem {text} {rows} {table} {lent} s h e =
    parse_5 text rows (table_of table) (node_room lent) (omega arith) (ap (λ (ws : List ℕ). get_or ws 0 0) (sym (parse_says s).0) ∙ e)

-- ---- files

-- A store that is lent block 0 and a block for each fifteen of its table's rows does not say 4.
pub file_room : {rows table lent answer m : List ℕ} → StoreCall rows table lent answer m
    → 512 * (1 + (get_or table 6 0 + 14) / 15) ≤ length lent → get_or answer 0 0 ≡ 4 → ⊥
unfolding store_told file_length blocks_for
file_room {rows} {table} {lent} s h e =
    by (well_formed rows (table_of table)) refl (ltb most_rows (get_or table 6 0)) refl
  where
    k : get_or (stored_words (store_told rows (table_of table) (length lent))) 0 0 ≡ 4
    k = ap (λ (ws : List ℕ). get_or ws 0 0) (sym (store_says s).0) ∙ e

    by : (b : Bool) → well_formed rows (table_of table) ≡ b → (c : Bool) → ltb most_rows (get_or table 6 0) ≡ c → ⊥
    by false w c f = let z = rw w at k in omega (arith, z)
    by true w true f = let z = rw (w, f) at k in omega (arith, z)
    by true w false f = let z = rw (w, f, le-ltb (length lent) (512 * (1 + (get_or table 6 0 + 14) / 15)) h) at k in omega (arith, z)
