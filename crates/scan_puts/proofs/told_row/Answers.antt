use Rattle.std.proofs.Common.{refl}
use Rattle.rules.specs.Rows.{row_at}
use Rattle.scan_puts.specs.Put.{row_of}
use Rattle.scan_puts.proofs.told_row.Goals as goal

pub returns : goal.returns
unfolding row_of row_at
returns c = refl
