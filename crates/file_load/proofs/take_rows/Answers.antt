use Rattle.std.proofs.Common.{arith}
use Rattle.file_load.proofs.Taking.{taking_start, taking_next, taking_end, rows_left, no_rows_left}
use Rattle.file_load.proofs.take_rows.Goals as goal

pub loop-k-init : goal.loop-k-init
loop-k-init c = taking_start c.args.file.now c.args.count c.args.rows.now c.requires.0

pub loop-k-preserved : goal.loop-k-preserved
loop-k-preserved c =
    let l = c.loop-k in
    let some = rows_left c.args.file.now c.args.count c.args.rows.now c.requires.0 l.rows l.done l.k l.invariant (omega arith) in
    taking_next c.args.file.now c.args.count c.args.rows.now c.requires.0 l.rows l.done l.k l.invariant some
    c.rows_here-n.result c.rows_here-n.ensures c.requires.1 c.take_words.new.words c.take_words.ensures

pub returns : goal.returns
returns c =
    let l = c.loop-k in
    taking_end c.args.file.now c.args.count c.args.rows.now c.requires.0 l.rows l.done l.k l.invariant (no_rows_left c.args.file.now c.args.count c.args.rows.now c.requires.0 l.rows l.done l.k l.invariant (omega arith))
