-- `pieces::number` meets its contract: the digits behind a sign and `0x`.
use mathlib.Core.Path.{◌≡◌, sym, ap, ◌∙◌}
use mathlib.Core.Bool.{Bool, ◌&&◌}
use Prim.Native.Nat.{ℕ, ◌+◌, ◌-◌}
use native.Mathlib.Nat.{add-zero}
use native.Mathlib.Omega.{arith}
use lib.Dec.{eqb}
use borrow.Author.Tests.{not-true, not-false}
use Rattle.rules.specs.Kinds.{Number}
use Rattle.scan_reader.specs.Brief.{refusal_code}
use Rattle.scan_reader.proofs.Numbers.{opening, hex_at, opened, number_behind, number_unknown, number_none, number_large, number_row}
use borrow.Author.Rules.{rules}
use Rattle.scan_reader.proofs.pieces.number.Statement.{statement}
use Rattle.scan_reader.proofs.pieces.number.Lts as lts
use Rattle.scan_reader.proofs.pieces.number.Tie as tie

-- whether `0x` stands behind the sign
abbrev hexed : tie.Joined-hex → Bool
hexed c = eqb c.before.before.peek.result 48 && eqb c.before.peek-2.result 120

hex_is : (c : tie.Joined-hex) → let s = c.before.before.before.before in hexed c ≡ hex_at s.args.text.now (s.args.at + s.args.m)
hex_is c = rw (c.before.before.peek.ensures, c.before.peek-2.ensures)

-- where the digits start
from_is : (c : tie.Joined-hex) → let s = c.before.before.before.before in c.if-hex.from ≡ s.args.at + s.args.m + opening (hexed c)
from_is c =
    elim c.if-hex.branch [
      | lts.then-hex w ↦ w.from-is ∙ rw w.if-hex.true
      | lts.else-hex w ↦ w.from-is ∙ rw (w.if-hex.false, add-zero)
    ]

add_peek : tie.Need-overflow_add-at
add_peek c = search rules

peek_requires : tie.Need-peek-requires
peek_requires c κs = search rules

add_peek_2 : tie.Need-overflow_add-at-2
add_peek_2 c = search rules

add_peek_3 : tie.Need-overflow_add-at-3
add_peek_3 c = search rules

peek_requires_2 : tie.Need-peek-requires-2
peek_requires_2 c κs = search rules

add_from : tie.Need-overflow_add-from
add_from c = search rules

add_from_2 : tie.Need-overflow_add-from-then-hex
add_from_2 c = search rules

add_from_3 : tie.Need-overflow_add-from-else-hex
add_from_3 c = search rules

read_digits_requires : tie.Need-read_digits-digits-requires
read_digits_requires c κs =
    let s = c.before.before.before.before in
    rw (from_is c) (opened s.args.text.now (s.args.at + s.args.m) (hexed c) (hex_is c) s.requires.0)

shown_requires : tie.Need-shown-requires
shown_requires c κs = search rules

told_requires : tie.Need-told-requires
told_requires c κs = search rules

returns : tie.Need-returns-then-not-shown
returns c =
    let e = c.before.before.before in
    let j = e.before in
    let s = j.before.before.before.before in
    c.told.ensures
    ∙ sym (number_unknown s.args.text.now s.args.at s.args.m s.requires.0 s.requires.1 (hexed j) (hex_is j) j.if-hex.from
    (from_is j) e.read_digits-digits.result e.read_digits-digits.ensures s.args.negative s.args.whole
    (sym c.before.before.shown.ensures ∙ not-true _ c.before.if-not-shown.true-raw))

sub_told : tie.Need-overflow_sub-from
sub_told c =
    let j = c.before.before.before.before.before in
    omega (arith, from_is j)

told_requires_2 : tie.Need-told-requires-then-end-from
told_requires_2 c κs = search rules

returns_2 : tie.Need-returns-then-end-from
unfolding refusal_code
returns_2 c =
    let e = c.before.before.before.before.before in
    let j = e.before in
    let s = j.before.before.before.before in
    c.told-then-end-from.ensures
    ∙ sym (number_none s.args.text.now s.args.at s.args.m s.requires.0 s.requires.1 (hexed j) (hex_is j) j.if-hex.from
    (from_is j) e.read_digits-digits.result e.read_digits-digits.ensures s.args.negative s.args.whole
    (sym c.before.before.before.before.shown.ensures ∙ not-false _ c.before.before.before.if-not-shown.false-raw)
    c.before.before.if-end-from.true)

told_requires_3 : tie.Need-told-requires-then-value-gt-LARGEST
told_requires_3 c κs = search rules

returns_3 : tie.Need-returns-then-value-gt-LARGEST
unfolding refusal_code
returns_3 c =
    let e = c.before.before.before.before.before in
    let j = e.before in
    let s = j.before.before.before.before in
    c.told-then-value-gt-LARGEST.ensures
    ∙ sym (number_large s.args.text.now s.args.at s.args.m s.requires.0 s.requires.1 (hexed j) (hex_is j) j.if-hex.from
    (from_is j) e.read_digits-digits.result e.read_digits-digits.ensures s.args.negative s.args.whole
    (sym c.before.before.before.before.shown.ensures ∙ not-false _ c.before.before.before.if-not-shown.false-raw)
    c.before.before.if-end-from.false c.before.if-value-gt-LARGEST.true)

sub_t12 : tie.Need-overflow_sub-result
sub_t12 c =
    let e = c.before.before.before.before in
    let j = e.before in
    let s = j.before.before.before.before in
    omega (
      arith,
      from_is j,
      number_behind s.args.text.now s.args.at s.args.m s.requires.0 s.requires.1 (hexed j) (hex_is j)
          j.if-hex.from (from_is j) e.read_digits-digits.result e.read_digits-digits.ensures,
    )

bits_of_requires : tie.Need-bits_of-requires
bits_of_requires c κs = search rules

returns_4 : tie.Need-returns
returns_4 c =
    let e = c.before.before.before.before.before in
    let j = e.before in
    let s = j.before.before.before.before in
    ap (λ (x : ℕ). record { size = e.read_digits-digits.result.end - s.args.at; kind = Number; bits = x }) c.bits_of.ensures
    ∙ sym (number_row s.args.text.now s.args.at s.args.m s.requires.0 s.requires.1 (hexed j) (hex_is j) j.if-hex.from
    (from_is j) e.read_digits-digits.result e.read_digits-digits.ensures s.args.negative s.args.whole
    (sym c.before.before.before.before.shown.ensures ∙ not-false _ c.before.before.before.if-not-shown.false-raw)
    c.before.before.if-end-from.false c.before.if-value-gt-LARGEST.false)

pub number_spec : {M : Type 1} → statement M
number_spec =
    tie.close
    (tie.spec
    add_peek
    peek_requires
    add_peek_2
    add_peek_3
    peek_requires_2
    add_from
    add_from_2
    add_from_3
    read_digits_requires
    shown_requires
    told_requires
    returns
    sub_told
    told_requires_2
    returns_2
    told_requires_3
    returns_3
    sub_t12
    bits_of_requires
    returns_4)
