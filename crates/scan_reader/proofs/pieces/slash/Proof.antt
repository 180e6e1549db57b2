-- `pieces::slash` meets its contract: by the byte behind the slash.
use mathlib.Core.Path.{◌≡◌, sym, ap, ◌∙◌}
use Prim.Native.Nat.{◌+◌}
use native.Mathlib.Omega.{arith}
use lib.ListN.{get_or}
use Rattle.laws.proofs.Fronts.{inside}
use Rattle.scan_reader.specs.Brief.{settled}
use Rattle.scan_reader.proofs.Signs.{slash_two, slash_line, slash_block, slash_sign}
use borrow.Author.Rules.{rules}
use Rattle.scan_reader.proofs.pieces.slash.Statement.{statement}
use Rattle.scan_reader.proofs.pieces.slash.Tie as tie

add_peek : tie.Need-overflow_add-at
add_peek c = search rules

peek_requires : tie.Need-peek-next-requires
peek_requires c κs = search rules

line_comment_requires : tie.Need-line_comment-requires
line_comment_requires c κs = search rules

returns : tie.Need-returns-then-next-eq47
returns c =
    let k = c.before.before in
    let s = k.before.before in
    let t = s.args.text.now in
    c.line_comment.ensures ∙ ap (settled s.args.whole t s.args.at)
    (sym (slash_line t s.args.at (sym k.peek-next.ensures ∙ c.before.if-next-eq47.true)))

block_comment_requires : tie.Need-block_comment-requires
block_comment_requires c κs =
    let k = c.before.before in
    let s = k.before.before in
    let t = s.args.text.now in
    let e : get_or t (s.args.at + 1) 0 ≡ 42 = sym k.peek-next.ensures ∙ c.if-next-eq42.true in
    (omega (arith, inside t (s.args.at + 1) 42 e (omega arith)), e)

returns_2 : tie.Need-returns-then-next-eq42
returns_2 c =
    let k = c.before.before.before in
    let s = k.before.before in
    let t = s.args.text.now in
    c.block_comment.ensures ∙ ap (settled s.args.whole t s.args.at)
    (sym (slash_block t s.args.at (sym k.peek-next.ensures ∙ c.before.if-next-eq42.true)))

sign_requires : tie.Need-sign-requires
sign_requires c κs =
    let s = c.before.before.before.before in
    (s.requires.0, slash_two _ s.requires.1)

returns_3 : tie.Need-returns
returns_3 c =
    let k = c.before.before.before in
    let s = k.before.before in
    let t = s.args.text.now in
    c.sign.ensures
    ∙ ap (settled s.args.whole t s.args.at)
    (sym (slash_sign t s.args.at (λ e. c.before.before.if-next-eq47.false (k.peek-next.ensures ∙ e))
    (λ e. c.before.if-next-eq42.false (k.peek-next.ensures ∙ e))))

pub slash_spec : {M : Type 1} → statement M
slash_spec =
    tie.close
    (tie.spec
    add_peek
    peek_requires
    line_comment_requires
    returns
    block_comment_requires
    returns_2
    sign_requires
    returns_3)
