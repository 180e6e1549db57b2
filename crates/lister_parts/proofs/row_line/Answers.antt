-- The number, five words, the value and a newline, one behind the other.
use Rattle.std.proofs.Common.{ap, arith}
use Rattle.rules.specs.Rows.{row_in, value_bits}
use Rattle.lister_parts.specs.Parts.{row_line, spaced}
use Rattle.lister_parts.proofs.Adding.{adds_then, adds_same}
use Rattle.lister_parts.proofs.Lists.{front_five}
use Rattle.lister_parts.proofs.row_line.Goals as goal

pub returns : goal.returns
unfolding row_line row_in value_bits
returns c =
    let five = adds_same (ap spaced (front_five c.args.row.now (omega (arith, c.requires)))) c.words-placed.ensures in
    adds_then (adds_then (adds_then c.number-numbered.ensures five) c.value-valued.ensures) c.put.ensures
