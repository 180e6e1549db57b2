-- `rules::Cursor::advance` meets its contract: the two branches are the two cases of `moved`.
use Rattle.rules.specs.Text.{moved}
use borrow.Author.Tests.{ne_eqb}
use borrow.Author.Rules.{rules}
use Rattle.rules.proofs.Cursor.advance.Statement.{statement}
use Rattle.rules.proofs.Cursor.advance.Tie as tie

add_t5 : tie.Need-overflow_add-offset
add_t5 c = search rules

add_t7 : tie.Need-overflow_add-result
add_t7 c = search rules

returns : tie.Need-returns-then-byte-eq10
unfolding moved
returns c = rw c.before.if-byte-eq10.true

add_t5_2 : tie.Need-overflow_add-result-2
add_t5_2 c = search rules

returns_2 : tie.Need-returns
unfolding moved
returns_2 c = simp (ne_eqb _ _ c.before.before.if-byte-eq10.false)

pub advance_spec : {M : Type 1} → statement M
advance_spec = tie.close (tie.spec add_t5 add_t7 returns add_t5_2 returns_2)
