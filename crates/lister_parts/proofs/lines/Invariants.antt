-- After so many turns so many lines are written.
use Rattle.std.proofs.Common.{◌≡◌, length}
use Rattle.lister_parts.specs.Adds.{Adds}
use Rattle.lister_parts.specs.Parts.{lines, line_of}
use Rattle.lister_parts.proofs.lines.Given as goal

abbrev pub invariant-loop-i : goal.invariant-loop-i
invariant-loop-i l = (length l.out ≡ length l.fn.out) × Adds (lines (line_of l.what) 0 l.i l.words) l.fn.out l.fn.at l.out l.at
