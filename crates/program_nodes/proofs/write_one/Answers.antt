-- What is read is not refused.
use Rattle.std.proofs.Common.{refl}
use Rattle.program_nodes.proofs.Writing.{one_written, one_refused}
use Rattle.program_nodes.proofs.write_one.Goals as goal

pub written-requires : goal.written-requires
written-requires c =
    let p = c.requires.0 in
    (record { ended = p.ended; room = c.requires.1 }, record { tree = p.tree; behind = c.args.source.now.count; is = p.reads })

pub returns-in-Ok : goal.returns-in-Ok
returns-in-Ok c = one_written c.requires.0 c.args.nodes.now _ _ c.in-Ok.ensures _ refl

pub returns-in-Err : goal.returns-in-Err
returns-in-Err c = absurd (one_refused c.requires.0 c.args.nodes.now _ _ c.in-Err.ensures _ _ _ refl)
