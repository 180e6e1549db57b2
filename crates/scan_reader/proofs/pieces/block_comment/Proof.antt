-- `pieces::block_comment` meets its contract: closed by its two bytes, or open.
use mathlib.Core.Path.{sym, ◌∙◌}
use Rattle.scan_reader.specs.Brief.{refusal_code}
use Rattle.scan_reader.proofs.Settled.{block_closed, block_open, block_short}
use borrow.Author.Rules.{rules}
use Rattle.scan_reader.proofs.pieces.block_comment.Statement.{statement}
use Rattle.scan_reader.proofs.pieces.block_comment.Tie as tie

add_body_end : tie.Need-overflow_add-at
add_body_end c = search rules

body_end_requires : tie.Need-body_end-end-requires
body_end_requires c κs = search rules

add_told : tie.Need-overflow_add-end
add_told c = search rules

sub_told : tie.Need-overflow_sub-end
sub_told c = search rules

told_requires : tie.Need-told-requires
told_requires c κs = search rules

returns : tie.Need-returns-then-end-text
returns c =
    let k = c.before.before in
    let s = k.before.before in
    c.told.ensures
    ∙ sym (block_closed s.args.whole s.args.text.now s.args.at s.requires.0 s.requires.1 k.body_end-end.result
    k.body_end-end.ensures c.before.if-end-text.true)

told_requires_2 : tie.Need-told-requires-then-whole
told_requires_2 c κs = search rules

returns_2 : tie.Need-returns-then-whole
unfolding refusal_code
returns_2 c =
    let k = c.before.before.before in
    let s = k.before.before in
    c.told-then-whole.ensures
    ∙ sym (block_open s.args.whole s.args.text.now s.args.at s.requires.0 s.requires.1 k.body_end-end.result
    k.body_end-end.ensures c.before.before.if-end-text.false
    c.before.if-whole.true)

told_requires_3 : tie.Need-told-requires-2
told_requires_3 c κs = search rules

returns_3 : tie.Need-returns
returns_3 c =
    let k = c.before.before.before in
    let s = k.before.before in
    c.told-2.ensures
    ∙ sym (block_short s.args.whole s.args.text.now s.args.at s.requires.0 s.requires.1 k.body_end-end.result
    k.body_end-end.ensures c.before.before.if-end-text.false
    c.before.if-whole.false)

pub block_comment_spec : {M : Type 1} → statement M
block_comment_spec =
    tie.close
    (tie.spec
    add_body_end
    body_end_requires
    add_told
    sub_told
    told_requires
    returns
    told_requires_2
    returns_2
    told_requires_3
    returns_3)
