-- Counts that can be added side by side in 64 bits.
use Rattle.std.specs.Prelude.{true, List, ◌≡◌, ℕ, length}
use Rattle.rules_tally.specs.Calls.{add_each, all_fit}

pub record Addable (a b : List ℕ) : Type 0 where
  pub alike : length a ≡ length b
  pub fit : all_fit (add_each a b) ≡ true
