-- `count_block` meets its contract: a right block has no entry, and one that differs has one.
use mathlib.Core.Path.{sym, ap, ◌∙◌}
use lib.ListN.{length}
use borrow.Author.Rules.{rules}
use Rattle.file_patch.proofs.One.{entry_right, entry_wrong}
use Rattle.file_patch.proofs.count_block.Statement.{statement}
use Rattle.file_patch.proofs.count_block.Tie as tie

-- ---- the function's entry, as it is seen from both ends

abbrev at_right : tie.Then-is_right → tie.Start
at_right c = c.before.before.before.before

abbrev at_wrong : tie.Else-is_right → tie.Start
at_wrong c = c.before.before.before.before

is_right_requires : tie.Need-is_right-requires
is_right_requires c κs = search rules

returns : tie.Need-returns-then-is_right
returns c =
    let a = (at_right c).args in
    sym (ap length (entry_right a.fresh.now a.file.now a.k (sym c.before.is_right.ensures ∙ c.if-is_right.true)))

returns_2 : tie.Need-returns
returns_2 c =
    let a = (at_wrong c).args in
    let f = sym c.before.is_right.ensures ∙ c.if-is_right.false in
    sym (ap length (entry_wrong a.fresh.now a.file.now a.k f))

pub count_block_spec : {M : Type 1} → statement M
count_block_spec = tie.close (tie.spec is_right_requires returns returns_2)
