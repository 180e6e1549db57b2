-- `listing` writes what is listed of a text, and there is room for all of it.
use mathlib.Core.Path.{sym, ap, ◌∙◌}
use native.Mathlib.Omega.{arith}
use lib.ListN.{length}
use Rattle.rules.specs.declared.Cursor.{Cursor}
use borrow.Author.Rules.{rules}
use Rattle.lister_parts.specs.Parts.{refusal_line}
use Rattle.lister_parts.proofs.Adding.{adds_same, adds_all}
use Rattle.lister_lines.proofs.Rooms.{listed_long, listed_short}
use Rattle.lister_lines.proofs.listing.Statement.{statement}
use Rattle.lister_lines.proofs.listing.Tie as tie

start_requires : tie.Need-start-requires
start_requires c κs = search rules

refusal_line_requires : tie.Need-refusal_line-requires
refusal_line_requires c κs = search rules

returns : tie.Need-returns-then-text-gt-MOST_TEXT
returns c =
    let s = c.before.before.before.before.before in
    let y = c.refusal_line.ensures in
    let e = ap (λ (p : Cursor). refusal_line 1 p) c.before.start.ensures ∙ sym (listed_long s.args.text.now c.before.before.before.if-text-gt-MOST_TEXT.true) in
    adds_all (adds_same e y.0) (omega (arith, ap length e, y.1, s.well_formed))

list_text_requires : tie.Need-list_text-requires
list_text_requires c κs = search rules

returns_2 : tie.Need-returns
returns_2 c =
    let s = c.before.before.before.before in
    let y = c.list_text.ensures in
    let e = sym (listed_short s.args.text.now c.before.before.if-text-gt-MOST_TEXT.false) in
    adds_all (adds_same e y.0) (omega (arith, ap length e, y.1, s.well_formed))

pub listing_spec : {M : Type 1} → statement M
listing_spec =
    tie.close
    (tie.spec
    start_requires
    refusal_line_requires
    returns
    list_text_requires
    returns_2)
