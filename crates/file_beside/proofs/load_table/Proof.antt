-- `load_table` meets its contract, a law for each way out: 4, 45, the table.
use mathlib.Core.Path.{refl, sym, ap, ◌∙◌}
use mathlib.Core.List.{◌++◌}
use Prim.Native.Nat.{ℕ, ◌*◌}
use native.Mathlib.Omega.{arith}
use lib.ListN.{drop}
use borrow.Author.Rules.{rules}
use borrow.Author.Tests.{not-true, not-false}
use Rattle.rules.specs.declared.Table.{Table}
use Rattle.rules.specs.Rows.{words_per_row}
use Rattle.rules.specs.Scan.{room_of}
use Rattle.rules_forms.specs.Forms.{rows_beside, table_beside}
use Rattle.file_beside.proofs.Answers.{told_full, told_other, told_rows}
use Rattle.file_beside.proofs.load_table.Statement.{statement}
use Rattle.file_beside.proofs.load_table.Tie as tie
use Rattle.std.specs.Prelude.{Ok}

-- the function's entry, as it is seen from the test of the room, from behind it, and from behind the agreement
abbrev entry : tie.After-struct_known-1 → tie.Start
entry c = c.before.before.before.before

abbrev start : tie.Else-rows-table → tie.Start
start c = entry c.before

abbrev at_agreed : tie.Else-not-agrees → tie.Start
at_agreed c = start c.before.before

cast_if1 : tie.Need-overflow_cast-table
cast_if1 c = search rules

returns : tie.Need-returns-then-rows-table
unfolding room_of
returns c =
    let a = (entry c.before).args in
    (sym (told_full a.text.now a.file.now a.table (room_of a.rows.now) c.if-rows-table.true), refl)

agrees_requires : tie.Need-agrees-requires
agrees_requires c κs = search rules

returns_2 : tie.Need-returns-then-not-agrees
unfolding room_of
returns_2 c =
    let g = c.before in
    let a = (start g.before).args in
    let e = sym g.agrees.ensures ∙ not-true g.agrees.result c.if-not-agrees.true-raw in
    (sym (told_other a.text.now a.file.now a.table (room_of a.rows.now) g.before.if-rows-table.false e), refl)

take_beside_requires : tie.Need-take_beside-requires
take_beside_requires c κs =
    let g = c.before.before in
    let s = at_agreed c.before in
    let e = sym g.agrees.ensures ∙ not-false g.agrees.result c.before.if-not-agrees.false-raw in
    (record { holds = s.requires; agrees = e }, omega (arith, g.before.if-rows-table.false))

same_length : tie.Need-shape_of-rows
same_length c = search rules

returns_3 : tie.Need-returns
unfolding room_of table_beside
returns_3 c =
    let w = c.before.before in
    let o = w.before.before in
    let a = (at_agreed o).args in
    let e = sym o.before.agrees.ensures ∙ not-false o.before.agrees.result o.if-not-agrees.false-raw in
    let n = ap (λ (t : Table). t.count) w.take_beside.ensures.0 in
    let told = told_rows a.text.now a.file.now a.table (room_of a.rows.now) o.before.before.if-rows-table.false e in
    let left = ap (λ (k : ℕ). rows_beside a.text.now a.file.now ++ drop (words_per_row * k) a.rows.now) (sym n) in
    (ap Ok w.take_beside.ensures.0 ∙ sym told, w.take_beside.ensures.1 ∙ left)

pub load_table_spec : {M : Type 1} → statement M
load_table_spec =
    tie.close
    (tie.spec
    cast_if1
    returns
    agrees_requires
    returns_2
    take_beside_requires
    same_length
    returns_3)
