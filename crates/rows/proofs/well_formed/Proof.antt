-- `well_formed` meets its contract: a law for each way out, which decides the whole test from the rows and the ending.
use Rattle.std.proofs.Common.{◌-◌, sym, ◌∙◌, arith, rules}
use borrow.Author.Tests.{not-true, not-false}
use Rattle.rows.proofs.Tables.{well_unlent, well_long, well_empty, well_none, well_refused}
use Rattle.rows.proofs.Lengths.{length_table}
use Rattle.rows.proofs.well_formed.Statement.{statement}
use Rattle.rows.proofs.well_formed.Tie as tie

cast_count : tie.Need-overflow_cast-count
cast_count c = search rules

mul_if1 : tie.Need-overflow_mul-count
mul_if1 c = search rules

returns : tie.Need-returns-then-rows-count
returns c =
    let a = c.before.before.before.args in
    sym (well_unlent a.rows.now a.table c.if-rows-count.true)

returns_2 : tie.Need-returns-then-size-gt-MOST_BYTES_U32
returns_2 c =
    let a = c.before.before.before.before.args in
    sym (well_long a.rows.now a.table c.if-size-gt-MOST_BYTES_U32.true)

enum_told : tie.Need-enum_told-1
enum_told c = search rules

returns_3 : tie.Need-returns-then-count-eq0
returns_3 c =
    let m = c.before in
    let f = m.before in
    let a = f.before.before.before.before.args in
    sym (well_empty a.rows.now a.table f.before.if-rows-count.false f.if-size-gt-MOST_BYTES_U32.false m.in-None.is c.if-count-eq0.true)

sub_rows_stand : tie.Need-overflow_sub-count
sub_rows_stand c = search rules

rows_stand_requires : tie.Need-rows_stand-requires
rows_stand_requires c κs = (search rules, length_table)

returns_4 : tie.Need-returns-then-not-rows_stand
returns_4 c =
    let r = c.before in
    let z = r.before.before.before in
    let m = z.before in
    let f = m.before in
    let a = f.before.before.before.before.args in
    let no = sym r.rows_stand.ensures ∙ not-true r.rows_stand.result c.if-not-rows_stand.true-raw in
    sym (well_none a.rows.now a.table f.before.if-rows-count.false f.if-size-gt-MOST_BYTES_U32.false m.in-None.is (a.table.count - 1) (omega arith) ∙ rw no)

sub_row_closes : tie.Need-overflow_sub-count-in-None
sub_row_closes c = search rules

row_closes_requires : tie.Need-row_closes-requires
row_closes_requires c κs = (search rules, length_table)

enum_known_ending : tie.Need-enum_known-ending
enum_known_ending c = search rules

rows_stand_requires_2 : tie.Need-rows_stand-requires-in-Some
rows_stand_requires_2 c κs = (search rules, length_table)

returns_5 : tie.Need-returns-then-not-rows_stand-2
returns_5 c =
    let r = c.before in
    let m = r.before.before.before in
    let f = m.before in
    let a = f.before.before.before.before.args in
    let no = sym r.rows_stand-in-Some.ensures ∙ not-true r.rows_stand-in-Some.result c.if-not-rows_stand-2.true-raw in
    sym (well_refused a.rows.now a.table f.before.if-rows-count.false f.if-size-gt-MOST_BYTES_U32.false _ _ m.in-Some.is ∙ rw no)

place_breaks_requires : tie.Need-place_breaks-requires
place_breaks_requires c κs = search rules

returns_6 : tie.Need-returns-else-not-rows_stand
returns_6 c =
    let r = c.before.before.before.before in
    let z = r.before.before.before in
    let m = z.before in
    let f = m.before in
    let a = f.before.before.before.before.args in
    let yes = sym r.rows_stand.ensures ∙ not-false r.rows_stand.result c.before.before.before.if-not-rows_stand.false-raw in
    c.row_closes.ensures
    ∙ sym (well_none a.rows.now a.table f.before.if-rows-count.false f.if-size-gt-MOST_BYTES_U32.false m.in-None.is (a.table.count - 1) (omega arith) ∙ rw yes)

returns_7 : tie.Need-returns-else-not-rows_stand-2
returns_7 c =
    let r = c.before.before in
    let m = r.before.before.before in
    let f = m.before in
    let a = f.before.before.before.before.args in
    let yes = sym r.rows_stand-in-Some.ensures ∙ not-false r.rows_stand-in-Some.result c.before.if-not-rows_stand-2.false-raw in
    c.place_breaks.ensures
    ∙ sym (well_refused a.rows.now a.table f.before.if-rows-count.false f.if-size-gt-MOST_BYTES_U32.false _ _ m.in-Some.is ∙ rw yes)

pub well_formed_spec : {M : Type 1} → statement M
well_formed_spec =
    tie.close
    (tie.spec
    cast_count
    mul_if1
    returns
    returns_2
    enum_told
    returns_3
    sub_rows_stand
    rows_stand_requires
    returns_4
    sub_row_closes
    row_closes_requires
    enum_known_ending
    rows_stand_requires_2
    returns_5
    place_breaks_requires
    returns_6
    returns_7)
