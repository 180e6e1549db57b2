use Rattle.std.proofs.Common.{◌≡◌, ℕ, ◌-◌, List, length, take, drop, arith}
use borrow.Author.Tests.{eqb-true, eq-eqb}
use Rattle.laws.proofs.Tests.{same_bool}
use Rattle.rules_files.specs.Blocks.{zeros}
use Rattle.file_check.proofs.Laws.{zeros_all, all_zeros}
use Rattle.file_check.proofs.is_filler.Goals as goal

pub returns : goal.returns
returns c =
    let s : List ℕ = take (508 - c.args.from) (drop c.args.from c.args.bytes.now) in
    let n : c.loop-b.b-index ≡ length s = omega arith in
    let each = rw n at c.loop-b.invariant in
    same_bool _ (zeros s) (λ e. zeros_all s (each.0 (eqb-true c.loop-b.most 0 e))) (λ e. eq-eqb c.loop-b.most 0 (each.1 (all_zeros s e)))
