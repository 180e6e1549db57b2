-- `block_rows` meets its contract, by cases of the form.
use borrow.Author.Rules.{rules}
use Rattle.file_sizes.proofs.block_rows.Statement.{statement}
use Rattle.file_sizes.proofs.block_rows.Tie as tie

enum_told : tie.Need-enum_told-1
enum_told c = search rules

enum_told_2 : tie.Need-enum_told-in-Short
enum_told_2 c = search rules

returns : tie.Need-returns-in-Full
returns c = rw c.in-Full.is

returns_2 : tie.Need-returns-in-Short
returns_2 c = rw c.in-Short.is

pub block_rows_spec : {M : Type 1} → statement M
block_rows_spec = tie.close (tie.spec enum_told enum_told_2 returns returns_2)
