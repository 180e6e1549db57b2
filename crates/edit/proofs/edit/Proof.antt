-- `edit` meets its contract: 3, and then what the edit of a tested table gives.
use mathlib.Core.Path.{◌≡◌, sym, ◌∙◌}
use mathlib.Core.Bool.{true}
use borrow.Author.Tests.{not-true, not-false}
use borrow.Author.Rules.{rules}
use Rattle.rules.specs.Rows.{well_formed}
use Rattle.rules.specs.Scan.{room_of}
use Rattle.edit.proofs.Calls.{edit_3}
use Rattle.edit.proofs.edit.Statement.{statement}
use Rattle.edit.proofs.edit.Tie as tie

abbrev start : tie.After-well_formed-2 → tie.Start
start c = c.before.before.before.before

formed : (c : tie.Else-not-well_formed) → let a = (start c.before).args in well_formed a.old.now a.table ≡ true
formed c = sym c.before.well_formed-2.ensures ∙ not-false c.before.well_formed-2.result c.if-not-well_formed.false-raw

well_formed_requires : tie.Need-well_formed-requires
well_formed_requires c κs = search rules

refused_requires : tie.Need-refused-requires
refused_requires c κs = search rules

returns : tie.Need-returns-then-not-well_formed
returns c =
    let k = c.before.before in
    let a = (start k).args in
    let q = edit_3 a.old.now a.table a.a a.b a.n a.start a.window.now (room_of a.new.now) a.new.now
    (sym k.well_formed-2.ensures ∙ not-true k.well_formed-2.result c.before.if-not-well_formed.true-raw) in
    (c.refused.ensures ∙ q.0, q.1)

edit_tested_requires : tie.Need-edit_tested-requires
edit_tested_requires c κs = formed c.before

same_length : tie.Need-shape_of-new
same_length c = search rules

returns_2 : tie.Need-returns
returns_2 c = c.before.before.edit_tested.ensures

pub edit_spec : {M : Type 1} → statement M
edit_spec = tie.close (tie.spec well_formed_requires refused_requires returns edit_tested_requires same_length returns_2)
