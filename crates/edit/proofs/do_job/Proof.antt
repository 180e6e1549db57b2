-- `do_job` meets its contract: the refusals behind 3 in their order, and then what the reading of the window gives.
use mathlib.Core.Path.{◌≡◌, sym, ◌∙◌}
use mathlib.Core.Bool.{true}
use Prim.Native.Nat.{◌≤◌}
use native.Mathlib.Omega.{arith}
use lib.ListN.{length}
use borrow.Author.Tests.{not-true, not-false}
use borrow.Author.Rules.{rules}
use Rattle.rules.specs.Scan.{room_of}
use Rattle.edit.specs.Job.{size_after, Ready}
use Rattle.edit.proofs.Calls.{senses, sensible_by, ready_by, edit_6, edit_1, edit_rest}
use Rattle.edit.proofs.do_job.Statement.{statement}
use Rattle.edit.proofs.do_job.Tie as tie

-- ---- the function's entry, as it is seen from behind each test

abbrev start : tie.After-sensible → tie.Start
start c = c.before.before.before.before.before

abbrev at_size : tie.Else-not-sensible → tie.Start
at_size c = start c.before

abbrev at_bytes : tie.Else-new_length-gt-MOST_BYTES_U64 → tie.Start
at_bytes c = at_size c.before.before

-- the edit is sensible
is_sensible : (c : tie.Else-not-sensible) → let s = at_size c in senses s.requires s.args.start s.args.window.now ≡ true
is_sensible c = sym c.before.sensible.ensures ∙ not-false c.before.sensible.result c.if-not-sensible.false-raw

-- the new text is short enough
fits : (c : tie.Else-new_length-gt-MOST_BYTES_U64) → size_after (at_bytes c).args.job ≤ 65536
fits c = omega (arith, c.if-new_length-gt-MOST_BYTES_U64.false, c.before.new_length.ensures)

ready : (c : tie.Else-new_length-gt-MOST_BYTES_U64) → let a = (at_bytes c).args in Ready a.old.now a.job a.window.now
ready c = let s = at_bytes c in ready_by s.requires s.args.start s.args.window.now (is_sensible c.before.before) (fits c)

sensible_requires : tie.Need-sensible-requires
sensible_requires c κs = search rules

refused_requires : tie.Need-refused-requires
refused_requires c κs = search rules

returns : tie.Need-returns-then-not-sensible
returns c =
    let k = c.before.before in
    let s = start k in
    let q = edit_6 s.requires s.args.start s.args.window.now (room_of s.args.new.now) s.args.new.now
    (sym k.sensible.ensures ∙ not-true k.sensible.result c.before.if-not-sensible.true-raw) in
    (c.refused.ensures ∙ q.0, q.1)

new_length_requires : tie.Need-new_length-requires
new_length_requires c κs =
    let a = (at_size c).args in
    let j = a.job in
    let x = sensible_by j.table.length j.a j.b j.n j.begin.offset.0 a.start (length a.window.now)
    (is_sensible c) in
    (x.order, x.inside)

refused_requires_2 : tie.Need-refused-requires-then-new_length-gt-MOST_BYTES_U64
refused_requires_2 c κs = search rules

returns_2 : tie.Need-returns-then-new_length-gt-MOST_BYTES_U64
returns_2 c =
    let k = c.before.before.before in
    let s = at_size k in
    let q = edit_1 s.requires s.args.start s.args.window.now (is_sensible k) (room_of s.args.new.now) s.args.new.now
    (omega (arith, c.before.if-new_length-gt-MOST_BYTES_U64.true, c.before.before.new_length.ensures)) in
    (c.refused-then-new_length-gt-MOST_BYTES_U64.ensures ∙ q.0, q.1)

reread_requires : tie.Need-reread-requires
reread_requires c κs = ready c.before

same_length : tie.Need-shape_of-new
same_length c = search rules

returns_3 : tie.Need-returns
returns_3 c =
    let r = c.before.before in
    let k = r.before.before in
    let s = at_bytes k in
    edit_rest s.requires s.args.start s.args.window.now (is_sensible k.before.before) (fits k)
    (room_of s.args.new.now) s.args.new.now r.reread.result r.reread.new.new r.reread.ensures

pub do_job_spec : {M : Type 1} → statement M
do_job_spec =
    tie.close
    (tie.spec
    sensible_requires
    refused_requires
    returns
    new_length_requires
    refused_requires_2
    returns_2
    reread_requires
    same_length
    returns_3)
