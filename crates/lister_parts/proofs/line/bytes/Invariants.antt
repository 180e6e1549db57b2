-- After so many turns so many bytes are written.
use Rattle.std.proofs.Common.{◌≡◌, length, take}
use Rattle.lister_parts.specs.Adds.{Adds}
use Rattle.lister_parts.proofs.line.bytes.Given as goal

abbrev pub invariant-loop-byte : goal.invariant-loop-byte
invariant-loop-byte l = (length l.out ≡ length l.fn.out) × Adds (take l.byte-index l.text) l.fn.out l.fn.at l.out l.at
