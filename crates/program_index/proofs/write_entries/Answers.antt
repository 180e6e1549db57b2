-- A turn puts the entry of the next node, if it has one.
use Rattle.std.proofs.Common.{arith}
use Rattle.program_index.proofs.Filling.{filling_start, filling_next, filling_more, asks_next}
use Rattle.program_index.proofs.write_entries.Goals as goal

pub loop-n-init : goal.loop-n-init
loop-n-init c ns rest n e = filling_start ns c.args.index.now

pub put_entry-made-requires : goal.put_entry-made-requires
put_entry-made-requires c =
    let l = c.loop-n in
    asks_next c.requires l.n l.index l.made c.loop-n-test.true (omega arith) l.invariant

pub loop-n-preserved : goal.loop-n-preserved
loop-n-preserved c ns rest n e =
    let l = c.loop-n in
    let f = c.put_entry-made in
    let g = filling_next ns c.args.index.now l.n l.index l.made (l.invariant ns rest n e) (omega (arith, c.loop-n-test.true)) in
    filling_more ns c.args.index.now l.n l.index l.made g c.args.nodes.now rest e _ f.result f.ensures
    (asks_next c.requires l.n l.index l.made c.loop-n-test.true (omega arith) l.invariant).room
