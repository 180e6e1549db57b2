-- `pieces::line_comment` meets its contract: closed by its newline, or by the end of the text.
use mathlib.Core.Path.{sym, ◌∙◌}
use Rattle.scan_reader.proofs.Settled.{line_closed, line_last, line_short}
use borrow.Author.Rules.{rules}
use Rattle.scan_reader.proofs.pieces.line_comment.Statement.{statement}
use Rattle.scan_reader.proofs.pieces.line_comment.Tie as tie

line_end_requires : tie.Need-line_end-end-requires
line_end_requires c κs = search rules

add_told : tie.Need-overflow_add-end
add_told c = search rules

sub_told : tie.Need-overflow_sub-end
sub_told c = search rules

told_requires : tie.Need-told-requires
told_requires c κs = search rules

returns : tie.Need-returns-then-end-text
returns c =
    let k = c.before.before in
    let s = k.before.before in
    c.told.ensures ∙ sym (line_closed s.args.whole s.args.text.now s.args.at s.requires.1 k.line_end-end.result
    k.line_end-end.ensures c.before.if-end-text.true)

sub_told_2 : tie.Need-overflow_sub-end-then-whole
sub_told_2 c = search rules

told_requires_2 : tie.Need-told-requires-then-whole
told_requires_2 c κs = search rules

returns_2 : tie.Need-returns-then-whole
returns_2 c =
    let k = c.before.before.before in
    let s = k.before.before in
    c.told-then-whole.ensures
    ∙ sym (line_last s.args.whole s.args.text.now s.args.at s.requires.1 k.line_end-end.result k.line_end-end.ensures
    c.before.before.if-end-text.false s.requires.0 c.before.if-whole.true)

told_requires_3 : tie.Need-told-requires-2
told_requires_3 c κs = search rules

returns_3 : tie.Need-returns
returns_3 c =
    let k = c.before.before.before in
    let s = k.before.before in
    c.told-2.ensures
    ∙ sym (line_short s.args.whole s.args.text.now s.args.at s.requires.1 k.line_end-end.result k.line_end-end.ensures
    c.before.before.if-end-text.false s.requires.0 c.before.if-whole.false)

pub line_comment_spec : {M : Type 1} → statement M
line_comment_spec =
    tie.close
    (tie.spec
    line_end_requires
    add_told
    sub_told
    told_requires
    returns
    sub_told_2
    told_requires_2
    returns_2
    told_requires_3
    returns_3)
