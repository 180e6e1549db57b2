-- Edits with whole windows: each gives the fresh scan's rows and ending, so two in a row are one, and two apart commute.
use Prim.Native.Nat.{ℕ, ◌+◌, ◌-◌, ◌≤◌}
use native.Mathlib.Omega.{arith}
use mathlib.Core.Bool.{true}
use mathlib.Core.List.{List, [], ◌++◌, append_assoc, append-nil}
use mathlib.Core.Logic.{◌⊎◌, inl, inr}
use mathlib.Core.Path.{◌≡◌, ap, sym, ◌∙◌}
use lib.ListN.{length, drop, take, length-append, length-drop, take-append-drop}
use lib.Seq.{length-take-le, drop-drop, take-append_seam, drop-append_seam, drop-append-add}
use Rattle.rules.specs.Text.{valid}
use Rattle.rules.specs.Scan.{read_rows, read_ending, scan}
use Rattle.theory_edits.specs.Change.{Change, old_text, new_text, a, b, n, old_rows, starts, stops, Window, Unjudged, Unmet, edit_rows, edit_ending}
use Rattle.theory_edits.specs.Demand3.{Due}
use Rattle.theory_edits.specs.Whole.{changed, change_of, read_of, edit_whole, twice, edit_twice}
use Rattle.theory_edits.proofs.Kept.{restart_le}
use Rattle.theory_edits.proofs.Fresh.{edit_fresh, whole_suffices}

-- ---- the whole window

module _ (c : Change) where
  pub whole_window : Window c (drop (starts c) (new_text c))
  whole_window = record { rest = []; text = sym (append-nil (drop (starts c) (new_text c))) }

  new_long : length (new_text c) ≡ a c + (n c + length c.behind)
  new_long = simp length-append

  pub whole_stops : stops c (drop (starts c) (new_text c)) ≡ length (new_text c)
  whole_stops =
      let r : starts c ≤ a c = restart_le (a c) (old_rows c) in
      let m : length (drop (starts c) (new_text c)) ≡ length (new_text c) - starts c = length-drop (starts c) (new_text c) in
      omega (arith, new_long)

  -- with it 7 is never due
  pub whole_not_due : Due c (drop (starts c) (new_text c)) → ⊥
  whole_not_due d = by d.short
    where
      by : Unjudged c (drop (starts c) (new_text c)) ⊎ ((valid (new_text c) ≡ true) × Unmet c (drop (starts c) (new_text c))) → ⊥
      by (inl h) = h.1 whole_stops
      by (inr h) = h.1.0 whole_stops

  whole_fresh : edit_whole (new_text c) (length (old_text c)) (a c) (b c) (n c) (read_of (old_text c)) ≡ read_of (new_text c)
  unfolding edit_whole
  whole_fresh =
      let f : (edit_rows c (drop (starts c) (new_text c)) ≡ read_rows (scan (new_text c))) × (edit_ending c (drop (starts c) (new_text c)) ≡ read_ending (scan (new_text c)))
      = edit_fresh c (drop (starts c) (new_text c)) whole_window (whole_suffices c (drop (starts c) (new_text c)) whole_window whole_stops) in
      λ i. record { rows = f.0 i; ending = f.1 i }

-- ---- the theorems

-- An edit with a whole window gives the rows and ending of the scan of the new text.
pub edit_changed : (t : List ℕ) (a b : ℕ) (i : List ℕ) → a ≤ b → b ≤ length t
    → edit_whole (changed t a b i) (length t) a b (length i) (read_of t) ≡ read_of (changed t a b i)
edit_changed t a b i h l =
    let la : length (take a t) ≡ a = length-take-le a t (omega arith) in
    let ld : length (drop a t) ≡ length t - a = length-drop a t in
    let lo : length (take (b - a) (drop a t)) ≡ b - a = length-take-le (b - a) (drop a t) (omega arith) in
    let e₁ : drop b t ≡ drop (b - a) (drop a t) = sym (drop-drop (b - a) a t ∙ ap (λ (n : ℕ). drop n t) (let z : a + (b - a) ≡ b = omega arith in z)) in
    let e₂ : take a t ++ (take (b - a) (drop a t) ++ drop b t) ≡ t = rw (e₁, take-append-drop (b - a) (drop a t), take-append-drop a t) in
    let lb : length (take a t) + length (take (b - a) (drop a t)) ≡ b = omega arith in
    rw (e₂, lb, la) at (whole_fresh (change_of t a b i))

pub edit_twice_lem : (t : List ℕ) (a b : ℕ) (i : List ℕ) (c d : ℕ) (j : List ℕ) → a ≤ b → b ≤ length t → c ≤ d → d ≤ length (changed t a b i)
    → edit_twice t a b i c d j ≡ read_of (twice t a b i c d j)
edit_twice_lem t a b i c d j h l h' l' = rw (edit_changed t a b i h l) (edit_changed (changed t a b i) c d j h' l')

-- Two edits in a row give what one edit of the whole change gives.
pub in_a_row : (t : List ℕ) (a b : ℕ) (i : List ℕ) (c d : ℕ) (j : List ℕ) → a ≤ b → b ≤ length t → c ≤ d → d ≤ length (changed t a b i)
    → (e f : ℕ) (k : List ℕ) → e ≤ f → f ≤ length t → changed t e f k ≡ twice t a b i c d j
    → edit_twice t a b i c d j ≡ edit_whole (changed t e f k) (length t) e f (length k) (read_of t)
in_a_row t a b i c d j h l h' l' e f k g m same =
    edit_twice_lem t a b i c d j h l h' l' ∙ ap (λ (u : List ℕ). read_of u) (sym same) ∙ sym (edit_changed t e f k g m)

-- Edits that lead to the same text give the same.
pub either_way : (t : List ℕ) (a b : ℕ) (i : List ℕ) (c d : ℕ) (j : List ℕ) → a ≤ b → b ≤ length t → c ≤ d → d ≤ length (changed t a b i)
    → (a' b' : ℕ) (i' : List ℕ) (c' d' : ℕ) (j' : List ℕ) → a' ≤ b' → b' ≤ length t → c' ≤ d' → d' ≤ length (changed t a' b' i')
    → twice t a b i c d j ≡ twice t a' b' i' c' d' j'
    → edit_twice t a b i c d j ≡ edit_twice t a' b' i' c' d' j'
either_way t a b i c d j h l h' l' a' b' i' c' d' j' g m g' m' same =
    edit_twice_lem t a b i c d j h l h' l' ∙ ap (λ (u : List ℕ). read_of u) same ∙ sym (edit_twice_lem t a' b' i' c' d' j' g m g' m')

-- Two edits apart, in either order, make the same text: the second's place is moved by what the first did before it.
changed_at : (p o q i : List ℕ) → changed (p ++ (o ++ q)) (length p) (length p + length o) i ≡ p ++ (i ++ q)
changed_at p o q i = rw (take-append_seam p (o ++ q), drop-append-add p (o ++ q) (length o), drop-append_seam o q)

pub commute : (p o m o' q i j : List ℕ)
    → twice (p ++ (o ++ (m ++ (o' ++ q)))) (length p) (length p + length o) i (length (p ++ (i ++ m))) (length (p ++ (i ++ m)) + length o') j
    ≡ twice (p ++ (o ++ (m ++ (o' ++ q)))) (length (p ++ (o ++ m))) (length (p ++ (o ++ m)) + length o') j (length p) (length p + length o) i
commute p o m o' q i j =
    let g : (x : List ℕ) → p ++ (x ++ (m ++ (o' ++ q))) ≡ (p ++ (x ++ m)) ++ (o' ++ q) = λ x. simp append_assoc in
    let h : (x : List ℕ) → (p ++ (x ++ m)) ++ (j ++ q) ≡ p ++ (x ++ (m ++ (j ++ q))) = λ x. simp append_assoc in
    rw (changed_at p o (m ++ (o' ++ q)) i, g i, changed_at (p ++ (i ++ m)) o' q j)
    (sym (rw (g o, changed_at (p ++ (o ++ m)) o' q j, h o, changed_at p o (m ++ (j ++ q)) i, h i)))

-- So two edits apart give the same rows and ending in either order.
pub edits_commute : (p o m o' q i j : List ℕ)
    → edit_twice (p ++ (o ++ (m ++ (o' ++ q)))) (length p) (length p + length o) i (length (p ++ (i ++ m))) (length (p ++ (i ++ m)) + length o') j
    ≡ edit_twice (p ++ (o ++ (m ++ (o' ++ q)))) (length (p ++ (o ++ m))) (length (p ++ (o ++ m)) + length o') j (length p) (length p + length o) i
edits_commute p o m o' q i j =
    let t : List ℕ = p ++ (o ++ (m ++ (o' ++ q))) in
    let a' : ℕ = length (p ++ (i ++ m)) in
    let c : ℕ = length (p ++ (o ++ m)) in
    let la : a' ≡ length p + (length i + length m) = simp length-append in
    let lc : c ≡ length p + (length o + length m) = simp length-append in
    let lt : length t ≡ length p + (length o + (length m + (length o' + length q))) = simp length-append in
    let f : t ≡ (p ++ (o ++ m)) ++ (o' ++ q) = simp append_assoc in
    let e₁ : changed t (length p) (length p + length o) i ≡ p ++ (i ++ (m ++ (o' ++ q))) = changed_at p o (m ++ (o' ++ q)) i in
    let e₂ : changed t c (c + length o') j ≡ (p ++ (o ++ m)) ++ (j ++ q) = rw f (changed_at (p ++ (o ++ m)) o' q j) in
    let n₁ : length (changed t (length p) (length p + length o) i) ≡ length p + (length i + (length m + (length o' + length q)))
    = ap length e₁ ∙ simp length-append in
    let n₂ : length (changed t c (c + length o') j) ≡ length p + (length o + length m) + (length j + length q) = ap length e₂ ∙ simp length-append in
    either_way t (length p) (length p + length o) i a' (a' + length o') j (omega arith) (omega arith) (omega arith) (omega arith)
    c (c + length o') j (length p) (length p + length o) i (omega arith) (omega arith) (omega arith) (omega arith) (commute p o m o' q i j)
