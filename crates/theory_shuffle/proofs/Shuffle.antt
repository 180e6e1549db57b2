-- Entries in another order are the same entries.
use mathlib.Core.Path.{◌≡◌, refl, sym, ap, ◌∙◌, subst}
use mathlib.Core.Bool.{Bool, true, false}
use mathlib.Core.List.{List, [], ◌∷◌, ◌++◌}
use Prim.Native.Nat.{ℕ, zero, suc, ◌+◌, ◌*◌, ◌≤◌, ◌<◌}
use native.Mathlib.Omega.{arith}
use lib.Dec.{eqb}
use lib.ListN.{length, get_or, set}
use borrow.Author.Tests.{eqb-true, eqb-false}
use Rattle.rules_program.specs.Both.{Declared, name_row}
use Rattle.rules_program.specs.Names.{entry_words}
use Rattle.theory_program.specs.Index.{Among, here, later}
use Rattle.theory_shuffle.specs.Shuffle.{exchanged, Shuffled, s_none, s_more}

-- ---- one entry among others

-- entry i of some, or d
unfoldable pub entry_at : Declared → List Declared → ℕ → Declared
entry_at d [] i = d
entry_at d (e ∷ es) zero = e
entry_at d (e ∷ es) (suc i) = entry_at d es i

-- entry i replaced
unfoldable pub replaced : List Declared → ℕ → Declared → List Declared
replaced [] i x = []
replaced (e ∷ es) zero x = x ∷ es
replaced (e ∷ es) (suc i) x = e ∷ replaced es i x

twice : (i : ℕ) → 2 * suc i ≡ suc (suc (2 * i))
twice i = omega arith

row_word : (d : Declared) (es : List Declared) (rest : List ℕ) (i : ℕ) → i < length es
    → get_or (entry_words es ++ rest) (2 * i) 0 ≡ name_row (entry_at d es i)
unfolding entry_words entry_at
row_word d [] rest i h = absurd (omega arith)
row_word d (e ∷ es) rest zero h = refl
row_word d (e ∷ es) rest (suc i) h =
    ap (λ (n : ℕ). get_or (entry_words (e ∷ es) ++ rest) n 0) (twice i) ∙ row_word d es rest i (omega arith)

node_word : (d : Declared) (es : List Declared) (rest : List ℕ) (i : ℕ) → i < length es
    → get_or (entry_words es ++ rest) (2 * i + 1) 0 ≡ (entry_at d es i).node
unfolding entry_words entry_at
node_word d [] rest i h = absurd (omega arith)
node_word d (e ∷ es) rest zero h = refl
node_word d (e ∷ es) rest (suc i) h =
    let z : 2 * suc i + 1 ≡ suc (suc (2 * i + 1)) = omega arith in
    ap (λ (n : ℕ). get_or (entry_words (e ∷ es) ++ rest) n 0) z ∙ node_word d es rest i (omega arith)

-- both words of an entry written
put_entry : (es : List Declared) (rest : List ℕ) (i : ℕ) (x : Declared) → i < length es
    → set (set (entry_words es ++ rest) (2 * i) (name_row x)) (2 * i + 1) x.node ≡ entry_words (replaced es i x) ++ rest
unfolding entry_words replaced
put_entry [] rest i x h = absurd (omega arith)
put_entry (e ∷ es) rest zero x h = refl
put_entry (e ∷ es) rest (suc i) x h =
    let z : 2 * suc i + 1 ≡ suc (suc (2 * i + 1)) = omega arith in
    ap (λ (n : ℕ). set (set (entry_words (e ∷ es) ++ rest) n (name_row x)) (2 * suc i + 1) x.node) (twice i)
    ∙ (ap (λ (n : ℕ). set (set (entry_words (e ∷ es) ++ rest) (suc (suc (2 * i))) (name_row x)) n x.node) z
    ∙ ap (λ (l : List ℕ). name_row e ∷ e.node ∷ l) (put_entry es rest i x (omega arith)))

replaced_long : (es : List Declared) (i : ℕ) (x : Declared) → length (replaced es i x) ≡ length es
unfolding replaced
replaced_long [] i x = refl
replaced_long (e ∷ es) zero x = refl
replaced_long (e ∷ es) (suc i) x = ap (λ (n : ℕ). suc n) (replaced_long es i x)

-- ---- two exchanged

-- entries i and j of some, exchanged
abbrev pub swapped : Declared → (i j : ℕ) → List Declared → List Declared
swapped d i j es = replaced (replaced es i (entry_at d es j)) j (entry_at d es i)

exchanged_entries : (d : Declared) (es : List Declared) (rest : List ℕ) (i j : ℕ) → i < length es → j < length es
    → exchanged i j (entry_words es ++ rest) ≡ entry_words (swapped d i j es) ++ rest
unfolding exchanged
exchanged_entries d es rest i j h k =
    let ws : List ℕ = entry_words es ++ rest in
    let x : Declared = entry_at d es i in
    let y : Declared = entry_at d es j in
    ap (λ (w : ℕ). set (set (set (set ws (2 * i) w) (2 * i + 1) (get_or ws (2 * j + 1) 0)) (2 * j) (get_or ws (2 * i) 0)) (2 * j + 1) (get_or ws (2 * i + 1) 0))
    (row_word d es rest j k)
    ∙ (ap (λ (w : ℕ). set (set (set (set ws (2 * i) (name_row y)) (2 * i + 1) w) (2 * j) (get_or ws (2 * i) 0)) (2 * j + 1) (get_or ws (2 * i + 1) 0))
    (node_word d es rest j k)
    ∙ (ap (λ (l : List ℕ). set (set l (2 * j) (get_or ws (2 * i) 0)) (2 * j + 1) (get_or ws (2 * i + 1) 0)) (put_entry es rest i y h)
    ∙ (ap (λ (w : ℕ). set (set (entry_words (replaced es i y) ++ rest) (2 * j) w) (2 * j + 1) (get_or ws (2 * i + 1) 0)) (row_word d es rest i h)
    ∙ (ap (λ (w : ℕ). set (set (entry_words (replaced es i y) ++ rest) (2 * j) (name_row x)) (2 * j + 1) w) (node_word d es rest i h)
    ∙ put_entry (replaced es i y) rest j x (omega (arith, replaced_long es i y))))))

-- ---- the same entries

at_among : (d : Declared) (es : List Declared) (i : ℕ) → i < length es → Among (entry_at d es i) es
unfolding entry_at
at_among d [] i h = absurd (omega arith)
at_among d (e ∷ es) zero h = here
at_among d (e ∷ es) (suc i) h = later (at_among d es i (omega arith))

-- what was replaced by x at i: x, or what was there
replaced_only : (es : List Declared) (i : ℕ) (x y : Declared) (C : Type 0) → (y ≡ x → C) → (Among y es → C) → Among y (replaced es i x) → C
unfolding replaced
replaced_only [] i x y C f g m = g m
replaced_only (e ∷ es) zero x y C f g here = f refl
replaced_only (e ∷ es) zero x y C f g (later m) = g (later m)
replaced_only (e ∷ es) (suc i) x y C f g here = g here
replaced_only (e ∷ es) (suc i) x y C f g (later m) = replaced_only es i x y C f (λ (k : Among y es). g (later k)) m

swapped_only : (d : Declared) (i j : ℕ) (es : List Declared) → i < length es → j < length es → (y : Declared) → Among y (swapped d i j es) → Among y es
swapped_only d i j es h k y m =
    replaced_only (replaced es i (entry_at d es j)) j (entry_at d es i) y (Among y es)
    (λ (e : y ≡ entry_at d es i). subst (λ (x : Declared). Among x es) (sym e) (at_among d es i h))
    (λ (n : Among y (replaced es i (entry_at d es j))).
    replaced_only es i (entry_at d es j) y (Among y es)
    (λ (e : y ≡ entry_at d es j). subst (λ (x : Declared). Among x es) (sym e) (at_among d es j k)) (λ (x : Among y es). x) n)
    m

-- where something stands
record Place (d : Declared) (es : List Declared) (y : Declared) : Type 0 where
  at : ℕ
  inside : at < length es
  is : entry_at d es at ≡ y

place_of : (d : Declared) (es : List Declared) (y : Declared) → Among y es → Place d es y
unfolding entry_at
place_of d (e ∷ es) y here = record { at = 0; inside = omega arith; is = refl }
place_of d (e ∷ es) y (later m) =
    let p : Place d es y = place_of d es y m in record { at = suc p.at; inside = omega (arith, p.inside); is = p.is }
place_of d [] y m = elim m [ ]

at_replaced : (d : Declared) (es : List Declared) (i : ℕ) (x : Declared) → i < length es → entry_at d (replaced es i x) i ≡ x
unfolding entry_at replaced
at_replaced d [] i x h = absurd (omega arith)
at_replaced d (e ∷ es) zero x h = refl
at_replaced d (e ∷ es) (suc i) x h = at_replaced d es i x (omega arith)

at_other : (d : Declared) (es : List Declared) (i k : ℕ) (x : Declared) → (i ≡ k → ⊥) → entry_at d (replaced es i x) k ≡ entry_at d es k
unfolding entry_at replaced
at_other d [] i k x n = refl
at_other d (e ∷ es) zero zero x n = absurd (n refl)
at_other d (e ∷ es) zero (suc k) x n = refl
at_other d (e ∷ es) (suc i) zero x n = refl
at_other d (e ∷ es) (suc i) (suc k) x n = at_other d es i k x (λ (e : i ≡ k). n (ap (λ (m : ℕ). suc m) e))

swapped_long : (d : Declared) (i j : ℕ) (es : List Declared) → length (swapped d i j es) ≡ length es
swapped_long d i j es = replaced_long (replaced es i (entry_at d es j)) j (entry_at d es i) ∙ replaced_long es i (entry_at d es j)

-- what stands at k after the exchange
at_swapped : (d : Declared) (i j : ℕ) (es : List Declared) → i < length es → j < length es → (k : ℕ) → (i ≡ k → ⊥) → (j ≡ k → ⊥)
    → entry_at d (swapped d i j es) k ≡ entry_at d es k
at_swapped d i j es h g k n m =
    at_other d (replaced es i (entry_at d es j)) j k (entry_at d es i) m ∙ at_other d es i k (entry_at d es j) n

at_second : (d : Declared) (i j : ℕ) (es : List Declared) → j < length es → entry_at d (swapped d i j es) j ≡ entry_at d es i
at_second d i j es h =
    at_replaced d (replaced es i (entry_at d es j)) j (entry_at d es i) (omega (arith, replaced_long es i (entry_at d es j)))

at_first : (d : Declared) (i j : ℕ) (es : List Declared) → i < length es → (j ≡ i → ⊥) → entry_at d (swapped d i j es) i ≡ entry_at d es j
at_first d i j es h n =
    at_other d (replaced es i (entry_at d es j)) j i (entry_at d es i) n ∙ at_replaced d es i (entry_at d es j) h

swapped_each : (d : Declared) (i j : ℕ) (es : List Declared) → i < length es → j < length es → (y : Declared) → Among y es → Among y (swapped d i j es)
swapped_each d i j es h g y m = by_place (place_of d es y m)
  where
    stands : (k : ℕ) → k < length es → entry_at d (swapped d i j es) k ≡ y → Among y (swapped d i j es)
    stands k b e = subst (λ (x : Declared). Among x (swapped d i j es)) e (at_among d (swapped d i j es) k (omega (arith, swapped_long d i j es)))

    by_place : Place d es y → Among y (swapped d i j es)
    by_place p = by_tests (eqb i p.at) refl (eqb j p.at) refl
      where
        by_tests : (a : Bool) → eqb i p.at ≡ a → (b : Bool) → eqb j p.at ≡ b → Among y (swapped d i j es)
        by_tests true e b f =
            stands j g (at_second d i j es g ∙ (ap (λ (n : ℕ). entry_at d es n) (eqb-true i p.at e) ∙ p.is))
        by_tests false e true f =
            let same : j ≡ p.at = eqb-true j p.at f in
            stands i h
            (at_first d i j es h (λ (x : j ≡ i). eqb-false i p.at e (sym x ∙ same)) ∙ (ap (λ (n : ℕ). entry_at d es n) same ∙ p.is))
        by_tests false e false f =
            stands p.at p.inside (at_swapped d i j es h g p.at (eqb-false i p.at e) (eqb-false j p.at f) ∙ p.is)

-- ---- any number of exchanges

-- the same entries in the words, and what stands after them is as it was
pub record SameEntries (es : List Declared) (rest ws : List ℕ) : Type 0 where
  pub entries : List Declared
  pub words : ws ≡ entry_words entries ++ rest
  pub many : length entries ≡ length es
  pub each : (y : Declared) → Among y es → Among y entries
  pub only : (y : Declared) → Among y entries → Among y es

pub shuffled_entries : (es : List Declared) (rest ws : List ℕ) → Shuffled (length es) (entry_words es ++ rest) ws → SameEntries es rest ws
shuffled_entries es rest ws s_none =
    record { entries = es; words = refl; many = refl; each = λ (y : Declared). λ (m : Among y es). m; only = λ (y : Declared). λ (m : Among y es). m }
shuffled_entries es rest ws (s_more {vs = vs} i j h k s) =
    let p : SameEntries es rest vs = shuffled_entries es rest vs s in
    let xs : List Declared = p.entries in
    let b : i < length xs = omega (arith, p.many) in
    let c : j < length xs = omega (arith, p.many) in
    record {
      entries = swapped none i j xs;
      words = ap (λ (l : List ℕ). exchanged i j l) p.words ∙ exchanged_entries none xs rest i j b c;
      many = swapped_long none i j xs ∙ p.many;
      each = λ (y : Declared). λ (m : Among y es). swapped_each none i j xs b c y (p.each y m);
      only = λ (y : Declared). λ (m : Among y (swapped none i j xs)). p.only y (swapped_only none i j xs b c y m);
    }
  where
    none : Declared
    none = record { kind = 0; name = []; row = 0; rows = 0; first = 0; node = 0 }
