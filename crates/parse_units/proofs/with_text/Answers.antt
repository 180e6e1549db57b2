-- A licence more, or a section more.
use Rattle.parse_units.proofs.Answers.{with_licence, with_section}
use Rattle.parse_units.proofs.with_text.Goals as goal

pub returns-then-word-eq-LICENSE : goal.returns-then-word-eq-LICENSE
returns-then-word-eq-LICENSE c =
    let a = c.args in
    rw c.new.ensures
    (with_licence a.text.now a.rows.now a.u a.word a.nodes.now _ c.if-word-eq-LICENSE.true c.requires.inside c.close.ensures)

pub returns : goal.returns
returns c =
    let a = c.args in
    rw c.new.ensures
    (with_section a.text.now a.rows.now a.u a.word a.nodes.now _ c.requires.text c.if-word-eq-LICENSE.false _ c.first_kind.ensures
    c.close-2.ensures)
