-- The number of two words, and a blank behind it.
use Rattle.std.proofs.Common.{◌≡◌, ◌+◌, ◌*◌, ap, arith}
use Rattle.rules_decimal.specs.Decimal.{signed}
use Rattle.layout_back.specs.Words.{number_of}
use Rattle.layout_back.proofs.Back.{wrote_as, wrote_then}
use Rattle.layout_back.proofs.number.Goals as goal

pub returns : goal.returns
returns c =
    let e : c.from.result * 4294967296 + c.from-2.result ≡ number_of c.args.low c.args.high = omega arith in
    wrote_then c.put-to.ensures (wrote_as (ap signed e) c.signed.ensures)
