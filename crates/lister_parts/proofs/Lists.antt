-- Laws of the lines: words one behind the other, and lines one behind the other.
use Rattle.std.proofs.Common.{◌≡◌, ℕ, zero, suc, ◌+◌, ◌*◌, ◌<◌, ◌≤◌, List, [], ◌∷◌, ◌++◌, length, get_or, take, drop, refl, ap, ◌∙◌, append_assoc, append-nil, add-zero, add-one, arith, take-suc, drop-drop}
use Rattle.rules.specs.Text.{bytes}
use Rattle.rules_decimal.specs.Decimal.{decimal}
use Rattle.lister_parts.specs.Parts.{spaced, lines}

pub spaced_none : spaced [] ≡ []
unfolding spaced
spaced_none = refl

pub spaced_one : (n : ℕ) → spaced (n ∷ []) ≡ bytes " " ++ decimal n
unfolding spaced
spaced_one n = append-nil (bytes " " ++ decimal n)

pub spaced_append : (ms ns : List ℕ) → spaced (ms ++ ns) ≡ spaced ms ++ spaced ns
unfolding spaced
spaced_append [] ns = refl
spaced_append (m ∷ ms) ns = rw (spaced_append ms ns, append_assoc)

-- one word more
pub spaced_more : (ns : List ℕ) (i : ℕ) → i < length ns → spaced (take (i + 1) ns) ≡ spaced (take i ns) ++ spaced (get_or ns i 0 ∷ [])
spaced_more ns i h = rw (add-one, take-suc ns i 0 h) (spaced_append (take i ns) (get_or ns i 0 ∷ []))

-- the first five words
pub front_five : (ws : List ℕ) → 5 ≤ length ws → take 5 ws ≡ get_or ws 0 0 ∷ get_or ws 1 0 ∷ get_or ws 2 0 ∷ get_or ws 3 0 ∷ get_or ws 4 0 ∷ []
front_five [] h = absurd (omega arith)
front_five (a ∷ []) h = absurd (omega arith)
front_five (a ∷ b ∷ []) h = absurd (omega arith)
front_five (a ∷ b ∷ c ∷ []) h = absurd (omega arith)
front_five (a ∷ b ∷ c ∷ d ∷ []) h = absurd (omega arith)
front_five (a ∷ b ∷ c ∷ d ∷ e ∷ ws) h = refl

-- one line more
module _ (line : ℕ → List ℕ → List ℕ) where
  lines_from : (j n : ℕ) (ws : List ℕ) → lines line j (suc n) ws ≡ lines line j n ws ++ line (j + n) (take 8 (drop (8 * n) ws))
  unfolding lines
  lines_from j zero ws = rw add-zero (append-nil _)
  lines_from j (suc n) ws =
      let e : 8 + 8 * n ≡ 8 * suc n = omega arith in
      let f : suc j + n ≡ j + suc n = omega arith in
      rw (← e, ← drop-drop (8 * n) 8 ws, ← f, append_assoc) (ap (λ (l : List ℕ). line j (take 8 ws) ++ l) (lines_from (suc j) n (drop 8 ws)))

  pub lines_none : (j : ℕ) (ws : List ℕ) → lines line j 0 ws ≡ []
  unfolding lines
  lines_none j ws = refl

  pub lines_more : (n : ℕ) (ws : List ℕ) → lines line 0 (n + 1) ws ≡ lines line 0 n ws ++ line n (take 8 (drop (n * 8) ws))
  lines_more n ws =
      let e : 8 * n ≡ n * 8 = omega arith in
      let f : 0 + n ≡ n = omega arith in
      rw add-one (lines_from 0 n ws ∙ rw (e, f))
