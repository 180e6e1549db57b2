-- At the loop's head every row below the pair stands, and `last` is the row before it.
use Rattle.std.proofs.Common.{◌≡◌, ◌*◌, true}
use Rattle.laws.specs.Tests.{all_below}
use Rattle.rows.specs.Shape.{as_row, row_before, stands}
use Rattle.rows.proofs.rows_stand.Given as goal

abbrev pub invariant-loop-pair : goal.invariant-loop-pair
invariant-loop-pair l = record {
  passed : all_below (stands l.rows) (2 * l.pair) ≡ true;
  before : as_row l.last ≡ row_before l.rows (2 * l.pair);
}
