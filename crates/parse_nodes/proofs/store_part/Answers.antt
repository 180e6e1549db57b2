use Rattle.theory_grammar.proofs.Laws.{sets_eight}
use Rattle.parse_nodes.proofs.store_part.Goals as goal

pub returns : goal.returns
returns c =
    let a = c.args in
    sets_eight a.nodes.now _ _ _ _ _ _ _ _ a.at a.w.kind _ _ _ _ _ _ _ c.put.ensures c.put-2.ensures
    c.put-3.ensures c.put-4.ensures c.put-5.ensures c.put-6.ensures c.put-7.ensures c.put-8.ensures
