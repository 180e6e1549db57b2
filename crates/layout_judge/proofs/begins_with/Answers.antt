-- The words are compared one by one.
use Rattle.std.proofs.Common.{◌≡◌, length, take, eqb, length-take, arith, ◌∙◌}
use Rattle.std.specs.Cmp.Lexicographic.{pointwise}
use Rattle.layout_judge.proofs.Same.{same_pointwise}
use Rattle.layout_judge.proofs.begins_with.Goals as goal

pub returns : goal.returns
returns c =
    let a = c.args.a.now in
    let n = c.args.n in
    let long : length (take n a) ≡ n = omega (arith, length-take n a) in
    let v : c.starts_with.result ≡ pointwise eqb (take n a) (take (length (take n a)) c.args.lent.now) = c.starts_with.ensures.value in
    (rw long at v) ∙ same_pointwise (take n a) (take n c.args.lent.now)
