-- Tallies in C's words: twenty words tell a tally, and it is told in those words again.
use Prim.Native.Nat.{ℕ, suc, ◌^◌, ◌<◌}
use mathlib.Core.Bool.{true}
use mathlib.Core.List.{List, [], ◌∷◌}
use mathlib.Core.Path.{◌≡◌, refl, ap, sym, ◌∙◌}
use native.Mathlib.Omega.{arith}
use lib.ListN.{length, drop, get_or, replicate, drop_of_length-le}
use lib.Seq.{drop-cons}
use borrow.Author.Tests.{lt-ltb}
use Rattle.laws.specs.Bounds.{Below, none, some}
use Rattle.laws.proofs.Tests.{true_both}
use Rattle.rules_tally.specs.Tally.{Thing, tally_by, empty}
use Rattle.rules_tally.specs.Calls.{add_each, sum, counts_of, all_fit, fits, each, tally_words, tally_in}
use Rattle.theory_tally.proofs.Sums.{Shaped}

pub in_shaped : (ws : List ℕ) → Shaped (tally_in ws)
unfolding tally_in
in_shaped ws = record { units = refl; maps = refl }

-- the tally that is told in the words of a tally
pub told_counts : (g : (Thing → ℕ) → ℕ) → tally_in (tally_words (tally_by g)) ≡ tally_by g
unfolding tally_in tally_words tally_by
told_counts g = refl

pub told_sum : (a b : List ℕ) → tally_in (tally_words (sum (tally_in a) (tally_in b))) ≡ sum (tally_in a) (tally_in b)
unfolding tally_in tally_words sum add_each
told_sum a b = refl

-- twenty zeros
pub told_empty : tally_in (replicate 20 0) ≡ empty
unfolding tally_in tally_by
told_empty = refl

-- words of 64 bits fit
below_fit : {xs : List ℕ} → Below (2 ^ 64) xs → all_fit xs ≡ true
unfolding all_fit
below_fit none = refl
below_fit (some {x = x} l b) = true_both (lt-ltb x (2 ^ 64) l) (below_fit b)

-- the words of the tally that twenty words tell
module _ (a : List ℕ) (e : length a ≡ 20) where
  at : (k : ℕ) {l : List ℕ} → k < length a → drop (suc k) a ≡ l → drop k a ≡ get_or a k 0 ∷ l
  at k h p = drop-cons a k 0 h ∙ ap (λ (l : List ℕ). get_or a k 0 ∷ l) p

  twenty : each a (0 ∷ 1 ∷ 2 ∷ 3 ∷ 4 ∷ 5 ∷ 6 ∷ 7 ∷ 8 ∷ 9 ∷ 10 ∷ 11 ∷ 12 ∷ 13 ∷ 14 ∷ 15 ∷ 16 ∷ 17 ∷ 18 ∷ 19 ∷ []) ≡ a
  twenty = sym (at 0 (omega arith) (at 1 (omega arith) (at 2 (omega arith) (at 3 (omega arith) (at 4 (omega arith) (at 5 (omega arith) (at 6 (omega arith) (at 7 (omega arith) (at 8 (omega arith) (at 9 (omega arith) (at 10 (omega arith) (at 11 (omega arith) (at 12 (omega arith) (at 13 (omega arith) (at 14 (omega arith) (at 15 (omega arith) (at 16 (omega arith) (at 17 (omega arith) (at 18 (omega arith) (at 19 (omega arith) (drop_of_length-le a {i = 20} (omega arith))))))))))))))))))))))

  pub words_same : tally_words (tally_in a) ≡ a
  unfolding tally_in tally_words
  words_same = twenty

  counts_same : counts_of (tally_in a) ≡ a
  unfolding tally_in counts_of
  counts_same = twenty

  pub words_fit : Below (2 ^ 64) a → fits (tally_in a) ≡ true
  words_fit h = rw counts_same (below_fit h)
