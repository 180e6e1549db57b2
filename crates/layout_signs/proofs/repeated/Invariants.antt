-- The bytes are written as often as the loop has turned.
use Rattle.layout_back.specs.Back.{Wrote}
use Rattle.layout_signs.specs.Levels.{repeated}
use Rattle.layout_signs.proofs.repeated.Given as goal

abbrev pub invariant-loop : goal.invariant-loop
invariant-loop l = Wrote (repeated l.counter l.bytes) l.initial.room l.at l.room l.to
