-- `row::all` meets its contract: the words at its indices are those of the definition, whatever they hold.
use mathlib.Core.Path.{refl}
use Rattle.rules.specs.Rows.{row_words}
use Rattle.rules.specs.Names.{words_at}
use Rattle.rules.proofs.row.all.Statement.{statement}
use Rattle.rules.proofs.row.all.Tie as tie

returns : tie.Need-returns
unfolding words_at row_words
returns c = record { words = λ w. refl }

pub all_spec : {M : Type 1} → statement M
all_spec = tie.close (tie.spec returns)
