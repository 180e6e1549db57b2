-- Lists of eleven and of five counts, one by one, and twenty words that are written in three parts.
use Rattle.std.proofs.Common.{◌≡◌, ℕ, suc, ◌+◌, ◌<◌, List, [], ◌∷◌, ◌++◌, append_assoc, length, get_or, take, drop, ap, ◌∙◌, arith, drop-cons}
use Rattle.std.proofs.Math.ListN.{set}
use Rattle.std.proofs.Math.Seq.{paste, take-paste, length-paste, take_all, sets-eq}
use Rattle.std.proofs.lemmas.List.{drop_all}
use Rattle.rules_tally.specs.Calls.{each}

abbrev pub eleven : List ℕ → List ℕ
eleven a = each a (0 ∷ 1 ∷ 2 ∷ 3 ∷ 4 ∷ 5 ∷ 6 ∷ 7 ∷ 8 ∷ 9 ∷ 10 ∷ [])

abbrev pub five : List ℕ → List ℕ
five a = each a (0 ∷ 1 ∷ 2 ∷ 3 ∷ 4 ∷ [])

module _ (a : List ℕ) where
  at : (k : ℕ) {l : List ℕ} → k < length a → drop (suc k) a ≡ l → drop k a ≡ get_or a k 0 ∷ l
  at k h p = drop-cons a k 0 h ∙ ap (λ (l : List ℕ). get_or a k 0 ∷ l) p

  pub is_eleven : length a ≡ 11 → a ≡ eleven a
  is_eleven e =
      at 0 (omega arith) (at 1 (omega arith) (at 2 (omega arith) (at 3 (omega arith) (at 4 (omega arith) (at 5 (omega arith) (at 6 (omega arith) (at 7 (omega arith) (at 8 (omega arith) (at 9 (omega arith) (at 10 (omega arith) (drop_all 11 a (omega arith))))))))))))

  pub is_five : length a ≡ 5 → a ≡ five a
  is_five e = at 0 (omega arith) (at 1 (omega arith) (at 2 (omega arith) (at 3 (omega arith) (at 4 (omega arith) (drop_all 5 a (omega arith))))))

-- the same counts at each index, and behind eleven
module _ (a b : List ℕ) where
  pub same_eleven : length a ≡ 11 → ((k : ℕ) → k < 11 → get_or a k 0 ≡ get_or b k 0) → a ≡ eleven b
  same_eleven e h =
      is_eleven a e
      ∙ rw (h 0 (omega arith), h 1 (omega arith), h 2 (omega arith), h 3 (omega arith), h 4 (omega arith), h 5 (omega arith), h 6 (omega arith), h 7 (omega arith), h 8 (omega arith), h 9 (omega arith), h 10 (omega arith))

  pub same_five : length a ≡ 5 → ((k : ℕ) → k < 5 → get_or a k 0 ≡ get_or b (11 + k) 0) → a ≡ each b (11 ∷ 12 ∷ 13 ∷ 14 ∷ 15 ∷ [])
  same_five e h = is_five a e ∙ rw (h 0 (omega arith), h 1 (omega arith), h 2 (omega arith), h 3 (omega arith), h 4 (omega arith))

-- the units, the maps and the last four are written into twenty words
module _ (a b ws : List ℕ) (la : length a ≡ 11) (lb : length b ≡ 5) (lw : length ws ≡ 20) where
  pub written : (e s m k : ℕ) → set (set (set (set (paste (paste ws 0 a 11) 11 b 5) 16 e) 17 s) 18 m) 19 k
      ≡ eleven a ++ (five b ++ (e ∷ s ∷ m ∷ k ∷ []))
  written e s m k =
      let w : List ℕ = paste ws 0 a 11 in
      let v : List ℕ = paste w 11 b 5 in
      let lw' : length w ≡ 20 = length-paste ws 0 a 11 (omega arith) (omega arith) ∙ lw in
      let lv : length v ≡ 20 = length-paste w 11 b 5 (omega arith) (omega arith) ∙ lw' in
      let tw : take 11 w ≡ eleven a = take-paste ws 0 a 11 (omega arith) (omega arith) ∙ take_all 11 a (omega arith) ∙ is_eleven a la in
      let tv : take 16 v ≡ eleven a ++ five b
      = take-paste w 11 b 5 (omega arith) (omega arith) ∙ rw (tw, take_all 5 b (omega arith)) (ap (λ (l : List ℕ). eleven a ++ l) (is_five b lb)) in
      sets-eq (e ∷ s ∷ m ∷ k ∷ []) v 16 (omega arith) ∙ rw (tv, drop_all 20 v (omega arith)) (append_assoc (eleven a) (five b) (e ∷ s ∷ m ∷ k ∷ []))
