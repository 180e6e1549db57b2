-- The kind is that of the text between the quotes.
use mathlib.Core.Path.{sym, ap, ◌∙◌}
use Rattle.rules.specs.Sets.{from_section}
use Rattle.parse_sections.proofs.Sections.{text_empty, text_plain, text_quoted}
use Rattle.parse_sections.proofs.kind_of_string.Goals as goal

pub returns-then-to-from : goal.returns-then-to-from
returns-then-to-from c =
    let a = c.args in
    c.section_kind.ensures ∙ ap from_section (sym (text_empty a.text.now a.a a.e c.requires.0 c.requires.1 c.if-to-from.true))

pub returns-then-text-last-eq-QUOTE : goal.returns-then-text-last-eq-QUOTE
returns-then-text-last-eq-QUOTE c =
    let a = c.args in
    c.section_kind-then-text-last-eq-QUOTE.ensures
    ∙ ap from_section (sym (text_quoted a.text.now a.a a.e c.requires.0 c.requires.1 c.if-to-from.false c.if-text-last-eq-QUOTE.true))

pub returns : goal.returns
returns c =
    let a = c.args in
    c.section_kind-2.ensures
    ∙ ap from_section (sym (text_plain a.text.now a.a a.e c.requires.0 c.requires.1 c.if-to-from.false c.if-text-last-eq-QUOTE.false))
