-- as many came as there are names, so the least twin of those that came is the first of all
use Rattle.std.proofs.Common.{◌∙◌}
use Rattle.program_names.specs.Both.{heads, spelled, rows_of}
use Rattle.program_names.proofs.Heads.{names_length}
use Rattle.program_twins.proofs.Answer.{twin_answer}
use Rattle.program_twins.proofs.Chain.{settled}
use Rattle.program_twins.proofs.twin.Goals as goal

pub returns-in-Some : goal.returns-in-Some
returns-in-Some c =
    let b = c.args.both.now in
    let s = c.in-Some.given in
    let p = b.prelude in
    let q = b.probe in
    twin_answer b s.least
    (settled (heads b) (spelled b) (rows_of b) s.last s.count s.least c.in-Some.ensures
    (c.if-given-names.true
    ∙ (c.count_names-names.ensures p.text.now q.text.now
    ∙ names_length p.text.now p.rows.now p.count q.text.now q.rows.now (rows_of b))))
