-- `is_scan` meets its contract: a scan into room for every text, and what it leaves held against what is lent.
use mathlib.Core.Path.{sym, ◌∙◌}
use borrow.Author.Tests.{not-true, not-false}
use Rattle.rules.specs.Scan.{room_of, scan_told}
use Rattle.layout_judge.proofs.Held.{scan_refused, other_table, rows_inside, same_rows}
use borrow.Author.Rules.{rules}
use Rattle.layout_judge.proofs.is_scan.Statement.{statement}
use Rattle.layout_judge.proofs.is_scan.Tie as tie

-- src/lib.rt:80:29
scan_requires : tie.Need-scan-requires
scan_requires c κs = search rules

-- src/lib.rt:80:20
enum_known_fresh : tie.Need-enum_known-fresh
enum_known_fresh c = search rules

-- src/lib.rt:81:9
enum_told : tie.Need-enum_told-1
enum_told c = search rules

-- src/lib.rt:81:9
returns : tie.Need-returns-in_default
returns c =
    let k = c.before in
    let a = k.before.before.before.before.args in (
      scan_refused a.text.now a.rows.now a.table a.scratch.now k.before.scan-arg-1.given.0.1 (sym k.scan.ensures.0 ∙ c.in_default.is),
      k.scan.ensures.1,
    )

-- src/lib.rt:83:9
same_table_requires : tie.Need-same_table-requires
same_table_requires c κs = search rules

-- src/lib.rt:84:9
returns_2 : tie.Need-returns-then-not-same_table
returns_2 c =
    let q = c.before.before in
    let k = q.before in
    let a = k.before.before.before.before.args in (
      other_table a.text.now a.rows.now a.table a.scratch.now q.in-Ok.fresh
          (sym k.scan.ensures.0 ∙ q.in-Ok.is)
          (sym c.before.same_table.ensures ∙ not-true c.before.same_table.result c.if-not-same_table.true-raw),
      k.scan.ensures.1,
    )

-- src/lib.rt:86:33
cast_begins_with : tie.Need-overflow_cast-fresh
cast_begins_with c = search rules

-- src/lib.rt:86:32
mul_begins_with : tie.Need-overflow_mul-fresh
mul_begins_with c = search rules

-- src/lib.rt:86:5
begins_with_requires : tie.Need-begins_with-requires
begins_with_requires c κs =
    let q = c.before.before.before.before.before in
    let k = q.before in
    let a = k.before.before.before.before.args in
    rows_inside a.text.now a.rows.now a.table a.scratch.now q.in-Ok.fresh
    (sym k.scan.ensures.0 ∙ q.in-Ok.is) _ k.scan.ensures.1

-- src/lib.rt:76:1
returns_3 : tie.Need-returns
returns_3 c =
    let l = c.before.before.before.before in
    let q = l.before.before in
    let k = q.before in
    let a = k.before.before.before.before.args in (
      same_rows a.text.now a.rows.now a.table a.scratch.now q.in-Ok.fresh
          (sym k.scan.ensures.0 ∙ q.in-Ok.is) _ k.scan.ensures.1
          (sym l.before.same_table.ensures ∙ not-false l.before.same_table.result l.if-not-same_table.false-raw)
          c.begins_with.ensures,
      k.scan.ensures.1,
    )

pub is_scan_spec : {M : Type 1} → statement M
is_scan_spec =
    tie.close
    (tie.spec
    scan_requires
    enum_known_fresh
    enum_told
    returns
    same_table_requires
    returns_2
    cast_begins_with
    mul_begins_with
    begins_with_requires
    returns_3)
