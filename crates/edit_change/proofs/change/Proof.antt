-- `change` meets its contract: 3, 6 by the text's length, and then what the edit of the tested table gives.
use mathlib.Core.Path.{◌≡◌, sym, ◌∙◌}
use mathlib.Core.Bool.{true}
use Prim.Native.Nat.{◌+◌, ◌≤◌}
use native.Mathlib.Omega.{arith}
use lib.ListN.{length}
use borrow.Author.Tests.{not-true, not-false}
use borrow.Author.Rules.{rules}
use Rattle.rules.specs.Rows.{well_formed}
use Rattle.rules.specs.Scan.{room_of}
use Rattle.edit_change.proofs.Calls.{Fits, fits_by, reaches, change_3, change_6, job_inside, change_job}
use Rattle.edit_change.proofs.change.Statement.{statement}
use Rattle.edit_change.proofs.change.Tie as tie

-- ---- the function's entry, as it is seen from behind each test

abbrev start : tie.After-well_formed-2 → tie.Start
start c = c.before.before.before.before

abbrev at_length : tie.After-fits → tie.Start
at_length c = start c.before.before

abbrev at_job : tie.After-job_of-job → tie.Start
at_job c = at_length c.before.before

formed : (c : tie.Else-not-well_formed) → let a = (start c.before).args in well_formed a.old.now a.table ≡ true
formed c = sym c.before.well_formed-2.ensures ∙ not-false c.before.well_formed-2.result c.if-not-well_formed.false-raw

fitting : (c : tie.Else-not-fits) → let a = (at_length c.before).args in Fits a.table.length a.a a.b a.n (length a.text.now)
fitting c =
    let a = (at_length c.before).args in
    fits_by a.table.length a.a a.b a.n (length a.text.now)
    (sym c.before.fits.ensures ∙ not-false c.before.fits.result c.if-not-fits.false-raw)

-- the restart place lies in the text
within : (c : tie.After-job_of-job) → c.job_of-job.result.begin.offset.0 ≤ length (at_job c).args.text.now
within c =
    let a = (at_job c).args in
    job_inside a.old.now a.table a.a a.b a.n a.text.now (room_of a.new.now) a.new.now
    (formed c.before.before.before) (fitting c.before) c.job_of-job.result c.job_of-job.ensures

-- and so does a: a window from there would lie in the text as well
a_within : (c : tie.After-job_of-job) → let a = (at_job c).args in a.a + a.n ≤ length a.text.now
a_within c = let a = (at_job c).args in reaches a.table.length a.a a.b a.n (length a.text.now) (fitting c.before)

well_formed_requires : tie.Need-well_formed-requires
well_formed_requires c κs = search rules

refused_requires : tie.Need-refused-requires
refused_requires c κs = search rules

returns : tie.Need-returns-then-not-well_formed
returns c =
    let k = c.before.before in
    let a = (start k).args in
    let q = change_3 a.old.now a.table a.a a.b a.n a.text.now (room_of a.new.now) a.new.now
    (sym k.well_formed-2.ensures ∙ not-true k.well_formed-2.result c.before.if-not-well_formed.true-raw) in
    (c.refused.ensures ∙ q.0, q.1)

fits_requires : tie.Need-fits-requires
fits_requires c κs = search rules

refused_requires_2 : tie.Need-refused-requires-then-not-fits
refused_requires_2 c κs = search rules

returns_2 : tie.Need-returns-then-not-fits
returns_2 c =
    let k = c.before.before in
    let a = (at_length k).args in
    let q = change_6 a.old.now a.table a.a a.b a.n a.text.now (room_of a.new.now) a.new.now (formed k.before)
    (sym k.fits.ensures ∙ not-true k.fits.result c.before.if-not-fits.true-raw) in
    (c.refused-then-not-fits.ensures ∙ q.0, q.1)

job_of_requires : tie.Need-job_of-job-requires
job_of_requires c κs = formed c.before.before

cast_edit_tested : tie.Need-overflow_cast-start
cast_edit_tested c = omega (arith, within c)

sub_edit_tested : tie.Need-slice_bounds-edit_tested-count
sub_edit_tested c = omega (arith, within c, a_within c)

part_edit_tested_start : tie.Need-slice_bounds-edit_tested-start
part_edit_tested_start c = sub_edit_tested c

part_edit_tested_end : tie.Need-slice_bounds-edit_tested-end
part_edit_tested_end c = search rules

edit_tested_requires : tie.Need-edit_tested-requires
edit_tested_requires c κs = formed c.before.before.before.before.before

same_length : tie.Need-shape_of-new
same_length c = search rules

returns_3 : tie.Need-returns
returns_3 c =
    let r = c.before.before in
    let k = r.before.before.before in
    let a = (at_job k).args in
    change_job a.old.now a.table a.a a.b a.n a.text.now (room_of a.new.now) a.new.now
    (formed k.before.before.before) (fitting k.before) k.job_of-job.result k.job_of-job.ensures
    r.edit_tested.result r.edit_tested.new.new r.edit_tested.ensures

pub change_spec : {M : Type 1} → statement M
change_spec =
    tie.close
    (tie.spec
    well_formed_requires
    refused_requires
    returns
    fits_requires
    refused_requires_2
    returns_2
    job_of_requires
    cast_edit_tested
    sub_edit_tested
    part_edit_tested_start
    part_edit_tested_end
    edit_tested_requires
    same_length
    returns_3)
