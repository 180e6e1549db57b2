-- `last_of` meets its contract.
use mathlib.Core.Path.{sym, ◌∙◌}
use Rattle.file_load.proofs.Rows.{last_none, last_fits, last_row}
use Rattle.rows.specs.Shape.{as_row}
use lib.ListN.{drop}
use borrow.Author.Rules.{rules}
use Rattle.file_load.proofs.last_of.Statement.{statement}
use Rattle.file_load.proofs.last_of.Tie as tie

returns : tie.Need-returns-then-n-eq0
returns c = let a = c.before.before.args in rw c.if-n-eq0.true (sym (last_none a.form (as_row a.before) (drop 4 a.bytes.now)))

sub_row_in : tie.Need-overflow_sub-n
sub_row_in c = search rules

row_in_requires : tie.Need-row_in-requires
row_in_requires c κs = let s = c.before.before in last_fits s.args.form s.args.n _ c.if-n-eq0.false s.requires

returns_2 : tie.Need-returns
returns_2 c =
    let a = c.before.before.before.args in
    c.row_in.ensures ∙ sym (last_row a.form a.n (as_row a.before) a.bytes.now c.before.if-n-eq0.false)

pub last_of_spec : {M : Type 1} → statement M
last_of_spec = tie.close (tie.spec returns sub_row_in row_in_requires returns_2)
