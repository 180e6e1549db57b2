-- the name comes after the last, or is the same and stands later
use Rattle.program_names.specs.Both.{heads, spelled, rows_of}
use Rattle.program_twins.proofs.Steps.{spelled_before, spelled_same, given_higher, given_same}
use Rattle.program_twins.proofs.Given.give_next.Goals as goal
use Rattle.program_twins.proofs.Given.give_next.Goals.{then-comes_before, else-comes_before+then-last-k+then-same}

pub returns : goal.returns
returns c =
    let b = c.args.both.now in
    let s = c.args.self in
    let q = c.requires in
    elim c.if-comes_before.branch [
      | then-comes_before w ↦
          rw w.least-is
          (given_higher (heads b) (spelled b) (rows_of b) s.last s.count s.least q.checked c.args.last c.args.k q.after q.head
          (spelled_before c.comes_before.result _ _ _ _ c.spelling-a.ensures c.spelling-b.ensures c.comes_before.ensures w.if-comes_before.true))
      | else-comes_before+then-last-k+then-same w ↦
          rw w.least-is
          (rw w.lesser.ensures
          (given_same (heads b) (spelled b) (rows_of b) s.last s.count s.least q.checked c.args.last c.args.k q.after q.head
          (spelled_same w.same.result _ _ _ _ c.spelling-a.ensures c.spelling-b.ensures w.same.ensures w.if-same.true)
          w.if-last-k.true))
    ]
