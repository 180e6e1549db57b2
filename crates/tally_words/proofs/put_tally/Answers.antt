use Rattle.std.proofs.Common.{◌≡◌, ℕ, ◌+◌, arith, add-one, ap, ◌∙◌, length, get_or}
use Rattle.std.proofs.Math.ListN.{set}
use Rattle.std.proofs.Math.Seq.{paste, paste-zero, paste-suc, length-paste}
use Rattle.rules_tally.specs.Calls.{tally_words}
use Rattle.tally_words.proofs.Each.{written}
use Rattle.tally_words.proofs.put_tally.Goals as goal

pub loop-k-init : goal.loop-k-init
loop-k-init c = paste-zero c.args.words.now 0 c.args.t.units

pub loop-k-preserved : goal.loop-k-preserved
loop-k-preserved c =
    let w = c.args.words.now in
    let u = c.args.t.units in
    let k = c.loop-k.k in
    let e : k ≡ 0 + k = omega arith in
    rw (c.loop-k.invariant, add-one k)
    (ap (λ (i : ℕ). set (paste w 0 u k) i (get_or u k 0)) e ∙ paste-suc w 0 u k 0 (omega arith) (omega arith))

pub loop-k-2-init : goal.loop-k-2-init
loop-k-2-init c = paste-zero c.loop-k.words 11 c.args.t.maps

pub loop-k-2-preserved : goal.loop-k-2-preserved
loop-k-2-preserved c =
    let long : length c.loop-k.words ≡ 20
    = ap length c.loop-k.invariant ∙ length-paste c.args.words.now 0 c.args.t.units c.loop-k.k (omega arith) (omega arith) ∙ c.told-words in
    rw (c.loop-k-2.invariant, add-one c.loop-k-2.k)
    (paste-suc c.loop-k.words 11 c.args.t.maps c.loop-k-2.k 0 (omega arith) (omega arith))

pub returns : goal.returns
unfolding tally_words
returns c =
    let t = c.args.t in
    let e : c.loop-k.k ≡ 11 = omega arith in
    let f : c.loop-k-2.k ≡ 5 = omega arith in
    rw (c.loop-k-2.invariant, c.loop-k.invariant, e, f)
    (written t.units t.maps c.args.words.now (omega arith) (omega arith) (omega arith) t.events t.statements t.max t.methods)
