-- `edit_tested` meets its contract: the job is the table and the numbers.
use borrow.Author.Rules.{rules}
use Rattle.rules.specs.Scan.{room_of}
use Rattle.edit.proofs.Calls.{tested_by, edited_by}
use Rattle.edit.proofs.edit_tested.Statement.{statement}
use Rattle.edit.proofs.edit_tested.Tie as tie

abbrev start : tie.After-job_of → tie.Start
start c = c.before.before.before.before

job_of_requires : tie.Need-job_of-requires
job_of_requires c κs = c.before.before.before.requires

do_job_requires : tie.Need-do_job-requires
do_job_requires c κs =
    let k = c.before in
    let a = (start k).args in
    tested_by a.old.now a.table a.a a.b a.n k.job_of.result k.job_of.ensures (start k).requires

same_length : tie.Need-shape_of-new
same_length c = search rules

returns : tie.Need-returns
returns c =
    let r = c.before.before in
    let k = r.before.before in
    let a = (start k).args in
    edited_by a.old.now a.table a.a a.b a.n k.job_of.result k.job_of.ensures
    a.start a.window.now (room_of a.new.now) a.new.now
    r.do_job.result r.do_job.new.new r.do_job.ensures

pub edit_tested_spec : {M : Type 1} → statement M
edit_tested_spec = tie.close (tie.spec job_of_requires do_job_requires same_length returns)
