-- `store` meets its contract, a law for each way out.
use mathlib.Core.Path.{◌≡◌, sym, ap, ◌∙◌}
use Prim.Native.Nat.{◌≤◌}
use native.Mathlib.Omega.{arith}
use lib.ListN.{length}
use borrow.Author.Tests.{not-true, not-false}
use Rattle.rows.proofs.Inside.{fine}
use mathlib.Core.Bool.{true}
use Rattle.rules.specs.Rows.{well_formed}
use Rattle.rules_files.specs.Blocks.{file_length}
use Rattle.rules_files.specs.Files.{row_bytes}
use Rattle.theory_files.proofs.Files.{store_untouched, store_written}
use Rattle.file_store.proofs.Going.{most_length, store_unformed, store_many, store_full, store_fits}
use borrow.Author.Rules.{rules}
use Rattle.file_store.proofs.store.Statement.{statement}
use Rattle.file_store.proofs.store.Tie as tie
use Rattle.std.specs.Prelude.{Ok}

-- ---- the places on the way: the function's entry, as it is seen from behind each test

abbrev start : tie.After-well_formed-2 → tie.Start
start c = c.before.before.before

abbrev at_count : tie.Else-count-gt-MOST_ROWS → tie.Start
at_count c = start c.before.before

abbrev at_length : tie.After-length_for-length → tie.Start
at_length c = at_count c.before

abbrev at_room : tie.After-put_file → tie.Else-file-length
at_room c = c.before.before

-- ---- what is known there

well : (c : tie.Else-not-well_formed) → let a = (start c.before).args in well_formed a.rows.now a.table ≡ true
well c = sym c.before.well_formed-2.ensures ∙ not-false c.before.well_formed-2.result c.if-not-well_formed.false-raw

room : (c : tie.Else-file-length) → let a = (at_length c.before).args in file_length row_bytes a.table.count ≤ length a.file.now
room c = rw c.before.length_for-length.ensures at c.if-file-length.false

well_formed_requires : tie.Need-well_formed-requires
well_formed_requires c κs = search rules

returns : tie.Need-returns-then-not-well_formed
returns c =
    let a = (start c.before).args in
    let u = sym c.before.well_formed-2.ensures ∙ not-true c.before.well_formed-2.result c.if-not-well_formed.true-raw in
    let t = store_unformed a.rows.now a.table (length a.file.now) u in
    (sym t, sym (store_untouched a.rows.now a.table a.file.now _ t))

returns_2 : tie.Need-returns-then-count-gt-MOST_ROWS
returns_2 c =
    let a = (start c.before.before).args in
    let t = store_many a.rows.now a.table (length a.file.now) (well c.before) c.if-count-gt-MOST_ROWS.true in
    (sym t, sym (store_untouched a.rows.now a.table a.file.now _ t))

length_for_requires : tie.Need-length_for-length-requires
length_for_requires c κs = search rules

returns_3 : tie.Need-returns-then-file-length
returns_3 c =
    let l = c.before in
    let a = (at_length l).args in
    let h = rw l.length_for-length.ensures at c.if-file-length.true in
    let t = store_full a.rows.now a.table (length a.file.now) (well l.before.before) l.before.if-count-gt-MOST_ROWS.false h in
    (sym t, sym (store_untouched a.rows.now a.table a.file.now _ t))

put_file_requires : tie.Need-put_file-requires
put_file_requires c κs =
    let l = c.before.before in
    let a = (at_length l).args in
    let f = fine a.rows.now a.table (well l.before.before) in
    ((omega (arith, f.lent), l.before.if-count-gt-MOST_ROWS.false), room c.before)

cast_t18 : tie.Need-overflow_cast-result
cast_t18 c =
    let l = (at_room c.before.before).before in
    omega (arith, l.length_for-length.ensures, most_length (at_length l).args.table.count l.before.if-count-gt-MOST_ROWS.false)

same_length : tie.Need-shape_of-file
same_length c = search rules

returns_4 : tie.Need-returns
returns_4 c =
    let f = c.before.before in
    let l = (at_room f).before in
    let a = (at_length l).args in
    let e = l.before in
    let t = store_fits a.rows.now a.table (length a.file.now) (well e.before) e.if-count-gt-MOST_ROWS.false (room (at_room f)) in
    let written = store_written a.rows.now a.table a.file.now _ t in
    (ap Ok l.length_for-length.ensures ∙ sym t, f.put_file.ensures ∙ sym written)

pub store_spec : {M : Type 1} → statement M
store_spec =
    tie.close
    (tie.spec
    well_formed_requires
    returns
    returns_2
    length_for_requires
    returns_3
    put_file_requires
    cast_t18
    same_length
    returns_4)
