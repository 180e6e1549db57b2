use Rattle.std.proofs.Common.{refl}
use Rattle.theory_grammar.proofs.Laws.{sets_eight}
use Rattle.parse_nodes.proofs.store_whole.Goals as goal

pub returns : goal.returns
returns c = let a = c.args in sets_eight a.nodes.now _ _ _ _ _ _ _ _ a.at a.w.kind _ _ _ _ _ _ _ refl refl refl refl refl refl refl refl
