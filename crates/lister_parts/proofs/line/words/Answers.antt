-- One word more is written behind those before it.
use Rattle.std.proofs.Common.{sym, refl, arith, rules}
use Rattle.lister_parts.proofs.Adding.{adds_none, adds_then, adds_same}
use Rattle.lister_parts.proofs.Lists.{spaced_none, spaced_more}
use Rattle.lister_parts.proofs.line.words.Goals as goal

pub loop-n-init : goal.loop-n-init
loop-n-init c = (refl, adds_same (sym spaced_none) (adds_none _ _))

pub loop-n-preserved : goal.loop-n-preserved
loop-n-preserved c =
    (search rules, adds_same (sym (spaced_more c.args.list.now c.loop-n.n-index (omega arith))) (adds_then c.loop-n.invariant.1 c.word-at.ensures))
