-- At the loop's head `most` is zero just where the bytes that were passed are.
use Rattle.std.proofs.Common.{◌≡◌, ◌↔◌, ℕ, ◌<◌, get_or}
use Rattle.file_check.proofs.is_filler.Given as goal

abbrev pub invariant-loop-b : goal.invariant-loop-b
invariant-loop-b l = (l.most ≡ 0) ↔ ((k : ℕ) → k < l.b-index → get_or l.b-items k 0 ≡ 0)
