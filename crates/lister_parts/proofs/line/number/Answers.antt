-- `line::number` writes a number's digits.
use Rattle.std.proofs.Common.{◌∙◌}
use Rattle.lister_parts.proofs.Adding.{adds_same}
use Rattle.lister_parts.proofs.Decimals.{std_decimal}
use Rattle.lister_parts.proofs.line.number.Goals as goal

pub returns : goal.returns
returns c = adds_same (c.as_bytes.ensures.value ∙ c.format.ensures.text ∙ std_decimal c.args.n c.ranges.n.fits) c.bytes.ensures
