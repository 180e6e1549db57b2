-- After so many turns so many words are written.
use Rattle.std.proofs.Common.{◌≡◌, length, take}
use Rattle.lister_parts.specs.Adds.{Adds}
use Rattle.lister_parts.specs.Parts.{spaced}
use Rattle.lister_parts.proofs.line.words.Given as goal

abbrev pub invariant-loop-n : goal.invariant-loop-n
invariant-loop-n l = (length l.out ≡ length l.fn.out) × Adds (spaced (take l.n-index l.list)) l.fn.out l.fn.at l.out l.at
