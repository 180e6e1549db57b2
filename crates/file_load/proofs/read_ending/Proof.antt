-- `read_ending` meets its contract, a law for each way out.
use mathlib.Core.Path.{sym, ◌∙◌}
use Rattle.file_load.proofs.Tests.{ending_refused, ending_offset, ending_line, ending_column, ending_none}
use borrow.Author.Rules.{rules}
use Rattle.file_load.proofs.read_ending.Statement.{statement}
use Rattle.file_load.proofs.read_ending.Tie as tie

read_refused_requires : tie.Need-read_refused-requires
read_refused_requires c κs = search rules

returns : tie.Need-returns-then-number-ne0
returns c = let a = c.before.before.args in c.read_refused.ensures ∙ sym (ending_refused a.number a.p c.before.if-number-ne0.true)

returns_2 : tie.Need-returns-then-p-ne0
returns_2 c =
    let e = c.before.before in
    let a = e.before.args in
    sym (ending_offset a.number a.p e.if-number-ne0.false c.if-p-ne0.true)

returns_3 : tie.Need-returns-then-p-ne0-2
returns_3 c =
    let f = c.before.before in
    let e = f.before.before in
    let a = e.before.args in
    sym (ending_line a.number a.p e.if-number-ne0.false f.if-p-ne0.false c.if-p-ne0-2.true)

returns_4 : tie.Need-returns-then-p-ne0-3
returns_4 c =
    let g = c.before.before in
    let f = g.before.before in
    let e = f.before.before in
    let a = e.before.args in
    sym (ending_column a.number a.p e.if-number-ne0.false f.if-p-ne0.false g.if-p-ne0-2.false c.if-p-ne0-3.true)

returns_5 : tie.Need-returns
returns_5 c =
    let g = c.before.before in
    let f = g.before.before in
    let e = f.before.before in
    let a = e.before.args in
    sym (ending_none a.number a.p e.if-number-ne0.false f.if-p-ne0.false g.if-p-ne0-2.false c.if-p-ne0-3.false)

pub read_ending_spec : {M : Type 1} → statement M
read_ending_spec =
    tie.close (tie.spec read_refused_requires returns returns_2 returns_3 returns_4 returns_5)
