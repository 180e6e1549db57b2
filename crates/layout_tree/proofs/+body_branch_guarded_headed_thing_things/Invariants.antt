-- What falls with each call of the circle, the node and then the function's rank; and what holds on the way through the things.
use Rattle.std.proofs.Common.{◌+◌, ◌*◌, ◌-◌}
use Rattle.layout_tree.proofs.Braces.{InList}
use Rattle.layout_tree.proofs.+body_branch_guarded_headed_thing_things.Given as goal

abbrev pub decreases-body : goal.decreases-body
decreases-body l = 8 * l.n + 3

abbrev pub decreases-branch : goal.decreases-branch
decreases-branch l = 8 * l.j + 5

abbrev pub decreases-guarded : goal.decreases-guarded
decreases-guarded l = 8 * l.n + 4

abbrev pub decreases-headed : goal.decreases-headed
decreases-headed l = 8 * l.n + 4

abbrev pub decreases-thing : goal.decreases-thing
decreases-thing l = 8 * l.n + 5

abbrev pub decreases-things : goal.decreases-things
decreases-things l = 8 * l.n + 7

abbrev pub invariant-things-loop : goal.invariant-things-loop
invariant-things-loop l =
    InList l.source.text.now l.source.rows.now l.source.nodes.now l.n l.count l.initial.room l.at l.end (l.count - l.counter) l.room l.to
