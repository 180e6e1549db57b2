-- A blank, and the number behind it.
use Rattle.std.proofs.Common.{sym}
use Rattle.lister_parts.proofs.Adding.{adds_then, adds_same}
use Rattle.lister_parts.proofs.Lists.{spaced_one}
use Rattle.lister_parts.proofs.line.word.Goals as goal

pub returns : goal.returns
returns c = adds_same (sym (spaced_one _)) (adds_then c.put-behind.ensures c.number.ensures)
