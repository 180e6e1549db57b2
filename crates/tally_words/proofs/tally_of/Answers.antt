-- Each count is the word at its place.
use Rattle.std.proofs.Common.{◌≡◌, ℕ, ◌+◌, ◌<◌, get_or, rules}
use Rattle.rules_tally.specs.Calls.{tally_in}
use Rattle.tally_words.proofs.Each.{same_eleven, same_five}
use Rattle.tally_words.proofs.tally_of.Goals as goal

pub returns : goal.returns
unfolding tally_in
returns c =
    let ws = c.args.words.now in
    let units : (k : ℕ) → k < 11 → get_or c.from_fn.result k 0 ≡ get_or ws k 0 = λ k l. search (rules, c.from_fn.ensures.items.at k 0 l) in
    let maps : (k : ℕ) → k < 5 → get_or c.from_fn-2.result k 0 ≡ get_or ws (11 + k) 0 = λ k l. search (rules, c.from_fn-2.ensures.items.at k 0 l) in
    rw (same_eleven c.from_fn.result ws c.from_fn.ensures.items.long units, same_five c.from_fn-2.result ws c.from_fn-2.ensures.items.long maps)
