-- `pieces::plain_number` meets its contract: a number of which no byte is behind the index.
use native.Mathlib.Nat.{add-zero}
use borrow.Author.Rules.{rules}
use Rattle.scan_reader.proofs.pieces.plain_number.Statement.{statement}
use Rattle.scan_reader.proofs.pieces.plain_number.Tie as tie

number_requires : tie.Need-number-requires
number_requires c κs = rw add-zero c.before.requires

returns : tie.Need-returns
returns c = search rules

pub plain_number_spec : {M : Type 1} → statement M
plain_number_spec = tie.close (tie.spec number_requires returns)
