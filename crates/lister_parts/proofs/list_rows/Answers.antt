-- The heading and the lines; they are at most so many bytes.
use Rattle.std.proofs.Common.{◌^◌}
use Rattle.laws.proofs.Bounds.{below_from}
use Rattle.lister_parts.specs.Parts.{listed_rows}
use Rattle.lister_parts.proofs.Adding.{adds_then}
use Rattle.lister_parts.proofs.Shorts.{rows_short}
use Rattle.lister_parts.proofs.list_rows.Goals as goal

pub returns-clause-adds : goal.returns-clause-adds
unfolding listed_rows
returns-clause-adds c = adds_then c.heading-headed.ensures c.lines.ensures

pub returns-clause-rows_len_bound : goal.returns-clause-rows_len_bound
returns-clause-rows_len_bound c = rows_short c.args.count c.requires.count_le_most_lines (below_from (2 ^ 32) c.args.rows.now (λ i. (c.type_inv.rows i).fits))
