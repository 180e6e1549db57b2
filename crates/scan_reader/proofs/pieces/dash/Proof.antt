-- `pieces::dash` meets its contract: by the byte behind the dash.
use mathlib.Core.Path.{◌≡◌, sym, ap, ◌∙◌}
use Prim.Native.Nat.{◌+◌}
use lib.ListN.{get_or}
use Rattle.rules.specs.Lex.{is_digit}
use Rattle.scan_reader.specs.Brief.{settled}
use Rattle.scan_reader.proofs.Numbers.{digit_inside}
use Rattle.scan_reader.proofs.Signs.{dash_two, dash_number, dash_sign}
use borrow.Author.Rules.{rules}
use Rattle.scan_reader.proofs.pieces.dash.Statement.{statement}
use Rattle.scan_reader.proofs.pieces.dash.Tie as tie

-- what the byte behind the dash is
digit_is : (c : tie.After-is_digit) → c.is_digit.result
    ≡ is_digit (get_or c.before.before.before.args.text.now (c.before.before.before.args.at + 1) 0)
digit_is c = c.is_digit.ensures ∙ ap is_digit c.before.peek.ensures

add_peek : tie.Need-overflow_add-at
add_peek c = search rules

peek_requires : tie.Need-peek-requires
peek_requires c κs = search rules

is_digit_requires : tie.Need-is_digit-requires
is_digit_requires c κs = search rules

number_requires : tie.Need-number-requires
number_requires c κs =
    let s = c.before.before.before.before in
    let e = sym (digit_is c.before) ∙ c.if-is_digit.true in
    (digit_inside s.args.text.now (s.args.at + 1) e, e)

returns : tie.Need-returns-then-is_digit
returns c =
    let k = c.before.before in
    let s = k.before.before.before in
    let t = s.args.text.now in
    c.number.ensures ∙ ap (settled s.args.whole t s.args.at)
    (sym (dash_number t s.args.at (sym (digit_is k) ∙ c.before.if-is_digit.true)))

sign_requires : tie.Need-sign-requires
sign_requires c κs =
    let s = c.before.before.before.before in
    (s.requires.0, dash_two _ s.requires.1)

returns_2 : tie.Need-returns
returns_2 c =
    let k = c.before.before in
    let s = k.before.before.before in
    let t = s.args.text.now in
    c.sign.ensures ∙ ap (settled s.args.whole t s.args.at)
    (sym (dash_sign t s.args.at (sym (digit_is k) ∙ c.before.if-is_digit.false)))

pub dash_spec : {M : Type 1} → statement M
dash_spec =
    tie.close
    (tie.spec
    add_peek
    peek_requires
    is_digit_requires
    number_requires
    returns
    sign_requires
    returns_2)
