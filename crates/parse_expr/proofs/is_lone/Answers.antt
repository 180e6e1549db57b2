use Rattle.parse_expr.specs.Lone.{is_lone}
use Rattle.parse_expr.proofs.is_lone.Goals as goal

pub returns : goal.returns
unfolding is_lone
returns c = rw (c.is_leaf.ensures, c.is_mul.ensures, ← c.kind_at-k.ensures, ← c.kind_at-next.ensures)
