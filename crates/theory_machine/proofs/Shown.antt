-- What a part of a text shows: the machine's item holds in every text that goes on from it, and a part that holds the deciding
-- byte shows the item. Nothing is known here of the rules themselves: `begin`, `step` and `finish` stay shut.
use Prim.Native.Nat.{ℕ, zero, suc, ◌+◌, ◌≤◌, ◌<◌}
use native.Mathlib.Omega.{arith}
use mathlib.Core.Bool.{Bool, true, false, cond, true≢false}
use mathlib.Core.List.{List, [], ◌∷◌, ◌++◌}
use mathlib.Core.Path.{◌≡◌, refl, sym}
use lib.ListN.{length}
use lib.Dec.{ltb}
use borrow.Author.Tests.{lt-ltb, le-ltb}
use Rattle.rules.specs.Lex.{Piece, decided_at, Item, known, end, unknown}
use Rattle.theory_machine.specs.Machine.{St, First, go, clear, over, bad, Move, fresh, on, back, Last, clean, ended, cut, begin, step, finish}
use Rattle.theory_machine.specs.Items.{cleared, item_first, item_gap, item_move, item_last, first_bytes, is_known}
use Rattle.theory_machine.proofs.Spans.{run_spans, decided_late}

-- ---- what is shown holds in every text that goes on

module _ (r r' : ℕ → St → Item) (ih : (k : ℕ) (st : St) → is_known (r k st) ≡ true → r' k st ≡ r k st) where
  first_known : (k : ℕ) (x : First) → is_known (item_first r k x) ≡ true → item_first r' k x ≡ item_first r k x
  unfolding item_first
  first_known k (go st) h = ih (suc k) st h
  first_known k clear h = refl
  first_known k (over x) h = refl
  first_known k (bad why x) h = refl

  move_known : (b k : ℕ) (x : Move) → is_known (item_move r b k x) ≡ true → item_move r' b k x ≡ item_move r b k x
  unfolding item_move item_gap
  move_known b zero fresh h = first_known 0 (begin b) h
  move_known b (suc k) fresh h = refl
  move_known b k (on x) h = first_known k x h
  move_known b k (back x) h = refl

pub run_known : (whole : Bool) (w z : List ℕ) (k : ℕ) (st : St) → is_known (first_bytes false w k st) ≡ true →
    first_bytes whole (w ++ z) k st ≡ first_bytes false w k st
unfolding first_bytes is_known
run_known whole [] z k st h = absurd (true≢false (sym h))
run_known whole (b ∷ w) z k st h = move_known (first_bytes false w) (first_bytes whole (w ++ z)) (run_known whole w z) b k (step st k b) h

-- ---- a part that holds the deciding byte shows the item

-- the item of a whole text, of which n bytes are shown
unfoldable pub within : ℕ → Item → Item
within n (known p) = cond (ltb (decided_at p) n) (known p) unknown
within n end = unknown
within n unknown = unknown

decided_in : (p : Piece) (n : ℕ) → decided_at p < n → known p ≡ within n (known p)
unfolding within
decided_in p n h = rw (lt-ltb (decided_at p) n h)

decided_out : (p : Piece) (n : ℕ) → n ≤ decided_at p → unknown ≡ within n (known p)
unfolding within
decided_out p n h = rw (le-ltb (decided_at p) n h)

module _ (r r' : ℕ → St → Item) (n : ℕ) (ih : (k : ℕ) (st : St) → r k st ≡ within (k + n) (r' k st)) where
  first_within : (k : ℕ) (x : First) → item_first r k x ≡ within (k + suc n) (item_first r' k x)
  unfolding item_first cleared decided_at
  first_within k (go st) = let e : suc k + n ≡ k + suc n = omega arith in rw (← e) (ih (suc k) st)
  first_within zero clear = decided_in _ _ (omega arith)
  first_within (suc k) clear = decided_in _ _ (omega arith)
  first_within k (over x) = decided_in _ _ (omega arith)
  first_within k (bad why x) = decided_in _ _ (omega arith)

  move_within : (b k : ℕ) (x : Move) → item_move r b k x ≡ within (k + suc n) (item_move r' b k x)
  unfolding item_move item_gap decided_at
  move_within b zero fresh = first_within 0 (begin b)
  move_within b (suc k) fresh = decided_in _ _ (omega arith)
  move_within b k (on x) = first_within k x
  move_within b k (back x) = decided_in _ _ (omega arith)

end_within : (n : ℕ) → unknown ≡ within n end
unfolding within
end_within n = refl

last_within : (k : ℕ) (x : Last) → unknown ≡ within (k + 0) (item_last k x)
unfolding item_last item_gap decided_at
last_within zero clean = end_within _
last_within (suc k) clean = decided_out _ _ (omega arith)
last_within k (ended x) = decided_out _ _ (omega arith)
last_within k (cut why x) = decided_out _ _ (omega arith)

pub run_within : (s : List ℕ) (k : ℕ) (st : St) → first_bytes false s k st ≡ within (k + length s) (first_bytes true s k st)
unfolding first_bytes
run_within [] k st = last_within k (finish st k)
run_within (b ∷ s) k st = move_within (first_bytes false s) (first_bytes true s) (length s) (run_within s) b k (step st k b)

module _ (r r' : ℕ → St → Item) (p : Piece) (n : ℕ) (ih : (k : ℕ) (st : St) → decided_at p < k + n → r k st ≡ known p → r' k st ≡ known p) where
  first_enough : (k : ℕ) (x : First) → decided_at p < k + suc n → item_first r k x ≡ known p → item_first r' k x ≡ known p
  unfolding item_first
  first_enough k (go st) l h = ih (suc k) st (omega arith) h
  first_enough k clear l h = h
  first_enough k (over x) l h = h
  first_enough k (bad why x) l h = h

  move_enough : (b k : ℕ) (x : Move) → decided_at p < k + suc n → item_move r b k x ≡ known p → item_move r' b k x ≡ known p
  unfolding item_move item_gap
  move_enough b zero fresh l h = first_enough 0 (begin b) l h
  move_enough b (suc k) fresh l h = h
  move_enough b k (on x) l h = first_enough k x l h
  move_enough b k (back x) l h = h

pub run_enough : (whole : Bool) (u x : List ℕ) (p : Piece) (k : ℕ) (st : St) → decided_at p < k + length u →
    first_bytes whole (u ++ x) k st ≡ known p → first_bytes false u k st ≡ known p
unfolding first_bytes
run_enough whole [] x p k st l h = absurd (let z : ⊥ = omega (arith, decided_late (rw h at (run_spans whole x k st))) in z)
run_enough whole (b ∷ u) x p k st l h =
    move_enough (first_bytes whole (u ++ x)) (first_bytes false u) p (length u) (run_enough whole u x p) b k (step st k b) l h
