-- From index i on all are written.
use Rattle.std.proofs.Common.{drop}
use Rattle.layout_back.specs.Back.{Wrote}
use Rattle.layout_back.proofs.bytes.Given as goal

abbrev pub invariant-loop-i : goal.invariant-loop-i
invariant-loop-i l = Wrote (drop l.i l.text) l.initial.room l.at l.room l.to
