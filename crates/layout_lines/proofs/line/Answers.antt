-- Kind by kind.
use Rattle.std.proofs.Common.{◌≤◌, ◌<◌, sym, ◌∙◌, arith}
use Rattle.layout_expr.specs.Parts.{kind_of}
use Rattle.layout_lines.proofs.ByKind.{field_done, map_done, text_done}
use Rattle.layout_lines.proofs.line.Goals as goal

pub returns-in-0-to-19 : goal.returns-in-0-to-19
returns-in-0-to-19 c =
    let few : kind_of c.args.source.now.nodes.now c.args.j ≤ 19 = omega (arith, c.word-k.ensures) in
    let v = c.statement.ensures in
    record { low = v.low; done = λ q. v.done few q }

pub returns-in-26 : goal.returns-in-26
returns-in-26 c = record { low = omega arith; done = λ q. field_done (sym c.word-k.ensures ∙ c.in-26.is) c.field_line.ensures q }

pub returns-in-28 : goal.returns-in-28
returns-in-28 c = record { low = omega arith; done = λ q. map_done (sym c.word-k.ensures ∙ c.in-28.is) c.map_line.ensures q }

pub returns-in_default : goal.returns-in_default
returns-in_default c =
    let k = c.word-k.ensures in
    let many : 19 < kind_of c.args.source.now.nodes.now c.args.j = omega arith in
    record {
      low = omega arith;
      done = λ q. text_done many (λ e. omega (arith, k, e)) (λ e. omega (arith, k, e)) c.text_line.ensures q;
    }
