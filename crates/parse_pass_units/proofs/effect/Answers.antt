-- An expression and `;`, or two of them around the sign of an assignment.
use Rattle.std.proofs.Common.{◌≡◌, true, rules, sym, ap, ◌∙◌}
use Rattle.rules.specs.Parse.{is_assign}
use Rattle.parse_pass_units.proofs.Parts.{plains, assigns}
use Rattle.parse_pass_units.proofs.effect.Goals as goal

pub returns-in-32 : goal.returns-in-32
returns-in-32 c =
    plains _ _ c.requires.closed c.args.left c.args.row _ c.in_ok-end.ensures (sym c.kind.ensures ∙ c.in-32.is)

pub returns-in_ok-closed-in-35 : goal.returns-in_ok-closed-in-35
returns-in_ok-closed-in-35 c =
    let b : is_assign c.kind.result ≡ true = search rules in
    let s = c.in_ok-closed-in-35.ensures in
    assigns _ _ c.requires.closed c.args.left c.args.row _ _ c.in_ok-end.ensures (ap is_assign (sym c.kind.ensures) ∙ b) s.0 s.1
