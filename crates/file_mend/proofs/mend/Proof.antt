-- `mend` meets its contract: each form by its number, and 44 for any other.
use mathlib.Core.Path.{sym, ap, ◌∙◌}
use borrow.Author.Rules.{rules}
use Rattle.rules.specs.declared.Cursor.{Cursor}
use Rattle.rules_files.specs.declared.Fault.TheVariants as fault
use Rattle.theory_mend.proofs.Ways.{told_form}
use Rattle.file_mend.proofs.Told.{by_number, refused, other_form}
use Rattle.file_mend.proofs.mend.Statement.{statement}
use Rattle.file_mend.proofs.mend.Tie as tie
use Rattle.std.specs.Prelude.{Err}

-- ---- the places on the way

abbrev start : tie.Then-number-eq-NUMBER → tie.Start
start c = c.before.before.before.before

abbrev in_full : tie.After-mend_in → tie.Then-number-eq-NUMBER
in_full c = c.before.before.before

abbrev in_short : tie.After-mend_in-then-number-eq-NUMBER-2 → tie.Then-number-eq-NUMBER-2
in_short c = c.before.before.before

abbrev start_else : tie.Else-number-eq-NUMBER → tie.Start
start_else c = c.before.before.before.before

abbrev done_full : tie.After-slice_known-then-number-eq-NUMBER-2-1 → tie.After-mend_in
done_full c = c.before.before.before.before

abbrev done_short : tie.After-slice_known-then-number-eq-NUMBER-2-3-1 → tie.After-mend_in-then-number-eq-NUMBER-2
done_short c = c.before.before.before.before

mend_in_requires : tie.Need-mend_in-requires
mend_in_requires c κs = search rules

same_length : tie.Need-shape_of-file-then-number-eq-NUMBER
same_length c = search rules

same_length_2 : tie.Need-shape_of-list-then-number-eq-NUMBER
same_length_2 c = search rules

returns : tie.Need-returns-then-number-eq-NUMBER
returns c =
    let m = done_full c in
    let f = in_full m in
    let a = (start f).args in
    by_number a.text.now a.number 1 a.file.now a.n a.list.now _ _ _ f.if-number-eq-NUMBER.true m.mend_in.ensures

mend_in_requires_2 : tie.Need-mend_in-requires-then-number-eq-NUMBER-2
mend_in_requires_2 c κs = search rules

same_length_3 : tie.Need-shape_of-file-then-number-eq-NUMBER-2
same_length_3 c = search rules

same_length_4 : tie.Need-shape_of-list-then-number-eq-NUMBER-2
same_length_4 c = search rules

returns_2 : tie.Need-returns-then-number-eq-NUMBER-2
returns_2 c =
    let m = done_short c in
    let f = in_short m in
    let a = (start_else f.before).args in
    by_number a.text.now a.number 2 a.file.now a.n a.list.now _ _ _ f.if-number-eq-NUMBER-2.true m.mend_in-then-number-eq-NUMBER-2.ensures

start_requires : tie.Need-start-requires
start_requires c κs = search rules

returns_3 : tie.Need-returns
returns_3 c =
    let e = c.before in
    let a = (start_else e.before).args in
    let o = other_form a.number e.before.if-number-eq-NUMBER.false e.if-number-eq-NUMBER-2.false in
    let t = told_form a.text.now a.number a.file.now a.n a.list.now o in
    refused a.text.now a.number a.file.now a.n a.list.now _ _
    (t ∙ ap (λ (p : Cursor). Err (record { why = fault.OtherForm; at = p })) (sym c.start.ensures))

pub mend_spec : {M : Type 1} → statement M
mend_spec =
    tie.close
    (tie.spec
    mend_in_requires
    same_length
    same_length_2
    returns
    mend_in_requires_2
    same_length_3
    same_length_4
    returns_2
    start_requires
    returns_3)
