-- `pieces::word` meets its contract: the run of word bytes, and its kind.
use mathlib.Core.Path.{sym, ap, ◌∙◌}
use Prim.Native.Nat.{ℕ, ◌-◌}
use native.Mathlib.Omega.{arith}
use borrow.Author.Tests.{not-true, not-false}
use Rattle.scan_reader.proofs.Settled.{word_end, word_bytes, word_lookup, word_unknown, word_told}
use borrow.Author.Rules.{rules}
use Rattle.scan_reader.proofs.pieces.word.Statement.{statement}
use Rattle.scan_reader.proofs.pieces.word.Tie as tie

read_word_requires : tie.Need-read_word-w-requires
read_word_requires c κs = search rules

shown_requires : tie.Need-shown-requires
shown_requires c κs = search rules

told_requires : tie.Need-told-requires
told_requires c κs = search rules

returns : tie.Need-returns-then-not-shown
returns c =
    let k = c.before.before.before in
    let s = k.before.before in
    c.told.ensures
    ∙ sym (word_unknown s.args.text.now s.args.at k.read_word-w.result k.read_word-w.ensures s.args.whole
    (sym c.before.before.shown.ensures ∙ not-true _ c.before.if-not-shown.true-raw))

kind_of_requires : tie.Need-kind_of-requires
kind_of_requires c κs =
    let k = c.before.before in
    let s = k.before.before in
    word_lookup s.args.text.now s.args.at k.read_word-w.result k.read_word-w.ensures s.requires.1

sub_told : tie.Need-overflow_sub-end
sub_told c =
    let k = c.before.before.before in
    let s = k.before.before in
    omega (arith, word_end s.args.text.now s.args.at k.read_word-w.result k.read_word-w.ensures)

told_requires_2 : tie.Need-told-requires-2
told_requires_2 c κs = search rules

returns_2 : tie.Need-returns
returns_2 c =
    let d = c.before.before in
    let k = d.before.before in
    let s = k.before.before in
    let t = s.args.text.now in
    let a = s.args.at in
    let w = k.read_word-w.result in
    let e = k.read_word-w.ensures in
    c.told-2.ensures
    ∙ ap (λ (x : ℕ). record { size = w.end - a; kind = x; bits = 0 })
    (c.before.kind_of.ensures ∙ word_bytes t a w e)
    ∙ sym (word_told t a w e s.args.whole (sym d.before.shown.ensures ∙ not-false _ d.if-not-shown.false-raw))

pub word_spec : {M : Type 1} → statement M
word_spec =
    tie.close
    (tie.spec
    read_word_requires
    shown_requires
    told_requires
    returns
    kind_of_requires
    sub_told
    told_requires_2
    returns_2)
