-- The loop of the parser with no bound: while the test holds at the row, a step; it ends where the test fails or a step refuses.
use Rattle.std.specs.Prelude.{◌≡◌, Bool, true, false, ℕ}
use Rattle.rules.specs.declared.Syntax.{Syntax}
use Rattle.rules.specs.Tree.{Tree}
use Rattle.rules.specs.Parse.{Out, ok, no, P}

-- From a tree and a row on the loop comes to an answer.
pub data Runs (test : ℕ → Bool) (step : Tree → P) : Tree → ℕ → Out → Type 0 where
  ends : {t : Tree} {j : ℕ} → test j ≡ false → Runs test step t j (ok t j)
  refuses : {t : Tree} {j r : ℕ} {why : Syntax} → test j ≡ true → step t j ≡ no why r → Runs test step t j (no why r)
  steps : {t u : Tree} {j k : ℕ} {o : Out} → test j ≡ true → step t j ≡ ok u k → Runs test step u k o → Runs test step t j o
