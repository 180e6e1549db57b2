-- The four bytes that stand behind those that the check is over.
use Rattle.std.proofs.Common.{arith}
use Rattle.file_check.proofs.Added.{check_own}
use Rattle.file_check.proofs.own_part.Goals as goal

pub returns : goal.returns
returns c = omega (arith, check_own c.args.bytes.now c.requires)
