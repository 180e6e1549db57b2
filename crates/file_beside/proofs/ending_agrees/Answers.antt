-- A law for each ending.
use Rattle.std.proofs.Common.{sym, subst, ◌∙◌}
use Rattle.rules.specs.Outcomes.{Ending}
use Rattle.file_beside.specs.Counting.{CountsTo}
use Rattle.file_beside.proofs.Agreeing.{line_same, ending_none, ending_refused}
use Rattle.file_beside.proofs.ending_agrees.Goals as goal

pub place_from-requires : goal.place_from-requires
place_from-requires c = subst (λ (e : Ending). CountsTo c.args.text.now c.args.here e) c.in-Some.is c.requires

pub returns-in-None : goal.returns-in-None
returns-in-None c = sym (ending_none c.args.text.now c.args.ending c.in-None.is)

pub returns-in-Some : goal.returns-in-Some
returns-in-Some c =
    let p = c.in-Some.e.at in
    c.same_line.ensures ∙ line_same c.args.text.now p c.place_from.result c.place_from.ensures
    ∙ sym (ending_refused c.args.text.now c.args.ending c.in-Some.e.why p c.in-Some.is)
