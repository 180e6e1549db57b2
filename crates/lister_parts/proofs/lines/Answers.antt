-- One line more is written behind those before it.
use Rattle.std.proofs.Common.{◌≡◌, ℕ, ◌+◌, ◌-◌, ◌*◌, take, drop, sym, refl, ap, arith, rules}
use Rattle.lister_parts.specs.Parts.{line_of}
use Rattle.lister_parts.proofs.Adding.{adds_none, adds_then, adds_same}
use Rattle.lister_parts.proofs.Lists.{lines_none, lines_more}
use Rattle.lister_parts.proofs.lines.Goals as goal

pub loop-i-init : goal.loop-i-init
loop-i-init c = (refl, adds_same (sym (lines_none (line_of c.args.what) 0 _)) (adds_none _ _))

pub loop-i-preserved : goal.loop-i-preserved
loop-i-preserved c =
    let i = c.loop-i.i in
    let ws = c.args.words.now in
    let e : i * 8 + 8 - i * 8 ≡ 8 = omega arith in
    let one = adds_same (ap (λ (k : ℕ). line_of c.args.what i (take k (drop (i * 8) ws))) e) c.listed_line-at.ensures in
    (search rules, adds_same (sym (lines_more (line_of c.args.what) i ws)) (adds_then c.loop-i.invariant.1 one))
