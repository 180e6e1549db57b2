-- `rules::Cursor::onward` meets its contract by computing.
use Rattle.rules.specs.Text.{along}
use mathlib.Core.Path.{refl}
use borrow.Author.Rules.{rules}
use Rattle.rules.proofs.Cursor.onward.Statement.{statement}
use Rattle.rules.proofs.Cursor.onward.Tie as tie

add_t4 : tie.Need-overflow_add-result
add_t4 c = search rules

add_t6 : tie.Need-overflow_add-result-2
add_t6 c = search rules

returns : tie.Need-returns
unfolding along
returns c = refl

pub onward_spec : {M : Type 1} → statement M
onward_spec = tie.close (tie.spec add_t4 add_t6 returns)
