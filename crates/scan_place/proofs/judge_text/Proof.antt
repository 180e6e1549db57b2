-- `judge_text` meets its contract, a law for each way out.
use mathlib.Core.Path.{sym}
use native.Mathlib.Omega.{arith}
use borrow.Author.Rules.{rules}
use Rattle.laws.proofs.Places.{over_start}
use Rattle.laws.proofs.Valid.{is_valid, is_bad, text_long, text_bad, text_fine}
use Rattle.scan_place.proofs.judge_text.Statement.{statement}
use Rattle.scan_place.proofs.judge_text.Tie as tie

start_requires : tie.Need-start-start-requires
start_requires c κs = search rules

returns : tie.Need-returns-then-text-gt-MOST_BYTES
returns c = rw c.before.start-start.ensures (sym (text_long c.before.before.before.args.text.now c.if-text-gt-MOST_BYTES.true))

valid_bytes_requires : tie.Need-valid_bytes-valid-requires
valid_bytes_requires c κs = search rules

pass_requires : tie.Need-pass-requires
pass_requires c κs = (omega arith, rw c.before.before.before.start-start.ensures (omega arith))

returns_2 : tie.Need-returns-then-valid-text
returns_2 c =
    let v = c.before.before in
    let s = v.before.before in
    let t = s.before.before.args.text.now in
    let small = c.before.if-valid-text.true in
    rw (c.pass.ensures, s.start-start.ensures, over_start t v.valid_bytes-valid.result (omega arith), v.valid_bytes-valid.ensures)
    (sym (text_bad t v.before.if-text-gt-MOST_BYTES.false (is_bad t (rw v.valid_bytes-valid.ensures at small))))

returns_3 : tie.Need-returns
returns_3 c =
    let v = c.before in
    let t = v.before.before.before.before.args.text.now in
    let whole = c.if-valid-text.false in
    sym (text_fine t v.before.if-text-gt-MOST_BYTES.false (is_valid t (rw v.valid_bytes-valid.ensures at whole)))

pub judge_text_spec : {M : Type 1} → statement M
judge_text_spec = tie.close (tie.spec start_requires returns valid_bytes_requires pass_requires returns_2 returns_3)
