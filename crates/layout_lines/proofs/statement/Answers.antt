-- Kind by kind.
use Rattle.std.proofs.Common.{◌≤◌, ◌<◌, sym, ◌∙◌, arith}
use Rattle.layout_expr.specs.Parts.{kind_of}
use Rattle.layout_lines.proofs.ByKind.{plain_done, return_done, assign_done, decl_done}
use Rattle.layout_lines.proofs.statement.Goals as goal

pub returns-in-13 : goal.returns-in-13
returns-in-13 c =
    let v = c.expr-b.ensures in
    record { low = v.low; done = λ h q. plain_done (sym c.word-k.ensures ∙ c.in-13.is) c.bytes-end.ensures v q }

pub returns-in-19 : goal.returns-in-19
returns-in-19 c =
    let v = c.expr-b.ensures in
    record { low = v.low; done = λ h q. return_done (sym c.word-k.ensures ∙ c.in-19.is) c.bytes-end.ensures v c.bytes.ensures q }

pub returns-in-0-to-15 : goal.returns-in-0-to-15
returns-in-0-to-15 c =
    let k = c.word-k.ensures in
    let few : kind_of c.args.source.now.nodes.now c.args.j ≤ 15 = omega arith in
    let v = c.expr-b.ensures in
    let w = c.expr.ensures in
    record {
      low = omega (arith, v.low, w.low);
      done = λ h q. assign_done (λ e. omega (arith, k, e)) few k c.bytes-end.ensures v c.assign_sign-sign.ensures w q;
    }

pub returns-in_default : goal.returns-in_default
returns-in_default c =
    let k = c.word-k.ensures in
    let many : 15 < kind_of c.args.source.now.nodes.now c.args.j = omega arith in
    let v = c.expr-b.ensures in
    record {
      low = v.low;
      done = λ h q. decl_done (λ e. omega (arith, k, e)) (λ e. omega (arith, k, e)) many h k c.word-name.ensures c.bytes-end.ensures v
          c.bytes-equals.ensures c.name-to.ensures c.decl_word.ensures q;
    }
