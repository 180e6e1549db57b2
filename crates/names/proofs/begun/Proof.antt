-- `begun` meets its contract: as much of the text as the spelling is long, or a text that is shorter.
use mathlib.Core.Path.{sym, ◌∙◌}
use native.Mathlib.Omega.{arith}
use lib.Seq.{length-take-le}
use Rattle.laws.proofs.Spelled.{same_says}
use Rattle.names.proofs.Spellings.{too_short}
use borrow.Author.Rules.{rules}
use Rattle.names.proofs.begun.Statement.{statement}
use Rattle.names.proofs.begun.Tie as tie

returns : tie.Need-returns-then-text-n
returns c = let a = c.before.before.before.args in rw (too_short a.spelling.now a.text.now (omega arith))

slice_aggregate_same : tie.Need-slice_bounds-same-end
slice_aggregate_same c = sym (length-take-le _ _ (omega arith))

same_requires : tie.Need-same-requires
same_requires c κs = search rules

returns_2 : tie.Need-returns-then-same
returns_2 c = rw (sym (same_says _ _ _ c.before.same.ensures) ∙ c.if-same.true)

returns_3 : tie.Need-returns
returns_3 c = rw (sym (same_says _ _ _ c.before.same.ensures) ∙ c.if-same.false)

pub begun_spec : {M : Type 1} → statement M
begun_spec = tie.close (tie.spec returns slice_aggregate_same same_requires returns_2 returns_3)
