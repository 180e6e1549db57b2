-- `refused`, the number and the place, one behind the other; they are few bytes.
use Rattle.std.proofs.Common.{arith}
use Rattle.lister_parts.specs.Parts.{refusal_line}
use Rattle.lister_parts.proofs.Adding.{adds_then}
use Rattle.lister_parts.proofs.Shorts.{refusal_short}
use Rattle.lister_parts.proofs.refusal_line.Goals as goal

pub returns-clause-adds : goal.returns-clause-adds
unfolding refusal_line
returns-clause-adds c = adds_then (adds_then c.bytes-named.ensures c.words-placed.ensures) c.put.ensures

pub returns-clause-place_len_bound : goal.returns-clause-place_len_bound
returns-clause-place_len_bound c =
    refusal_short _ c.args.place c.ranges.number.fits (omega (arith, c.well_formed)) (omega (arith, c.well_formed)) (omega (arith, c.well_formed))
