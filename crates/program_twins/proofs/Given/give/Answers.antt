-- the first that is given out
use Rattle.std.proofs.Common.{sym, ◌∙◌}
use Rattle.program_names.specs.Both.{heads, spelled, rows_of}
use Rattle.program_twins.proofs.Steps.{given_first}
use Rattle.program_twins.proofs.Given.give.Goals as goal

pub returns-in-None : goal.returns-in-None
returns-in-None c =
    let b = c.args.both.now in
    let s = c.args.self in
    let t = c.if-not-is_head.false in
    given_first (heads b) (spelled b) (rows_of b) s.last s.count s.least c.requires c.args.k
    (record { is = sym c.is_head.ensures.value ∙ t; below = c.is_head.ensures.inside t })
    c.in-None.is
