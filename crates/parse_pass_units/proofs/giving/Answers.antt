-- A `return`, from its value.
use Rattle.parse_pass_units.proofs.Parts.{gives}
use Rattle.parse_pass_units.proofs.giving.Goals as goal

pub returns : goal.returns
returns c =
    let s = c.in_ok-closed.ensures in
    gives _ _ c.requires.0.closed c.args.left c.args.row _ c.requires.1 s.0 s.1
