-- `is_whole` meets its contract: the arms are the cases of the definition.
use Rattle.rules_layout.specs.Layout.{is_whole}
use borrow.Author.Rules.{rules}
use Rattle.layout_judge.proofs.is_whole.Statement.{statement}
use Rattle.layout_judge.proofs.is_whole.Tie as tie

-- src/lib.rt:41:25
enum_told : tie.Need-enum_told-1
enum_told c = search rules

-- src/lib.rt:42:34
enum_told_2 : tie.Need-enum_told-in-Some
enum_told_2 c = search rules

-- src/lib.rt:37:1
returns : tie.Need-returns-in-None
unfolding is_whole
returns c = rw c.in-None.is

-- src/lib.rt:37:1
returns_2 : tie.Need-returns-in-Some
unfolding is_whole
returns_2 c = rw c.in-Some.is

pub is_whole_spec : {M : Type 1} → statement M
is_whole_spec = tie.close (tie.spec enum_told enum_told_2 returns returns_2)
