-- The index: of declarations whose names differ there is exactly one.
use mathlib.Core.Path.{◌≡◌, refl, sym, ap, ◌∙◌}
use mathlib.Core.Bool.{Bool, true, false, cond, ◌&&◌, ◌||◌, true≢false}
use mathlib.Core.Logic.{◌⊎◌, inl, inr}
use mathlib.Core.List.{List, [], ◌∷◌, ◌++◌}
use Prim.Native.Nat.{ℕ, suc, ◌+◌, ◌≤◌, ◌<◌}
use native.Mathlib.Omega.{arith}
use lib.Dec.{eqb, ltb}
use lib.ListN.{length}
use borrow.Author.Tests.{eqb-true, eqb-false, eq-eqb, ne_eqb, ltb-true, ltb-false, lt-ltb, le-ltb}
use Rattle.laws.proofs.Tests.{both_true}
use Rattle.rules.specs.Kinds.{same_bytes}
use Rattle.rules_program.specs.Both.{Declared, name_row}
use Rattle.rules_program.specs.Names.{Name, names_of, has_name, twin_rows, comes_before, placed_in, rising}
use Rattle.theory_program.specs.Index.{Among, here, later, Rises, r_none, r_one, r_more, IsIndex}

-- ---- the order of names

unequal : (x y : ℕ) → (x ≡ y → ⊥) → y ≤ x → y < x
unequal x y n h = go (ltb y x) refl
  where
    go : (b : Bool) → ltb y x ≡ b → y < x
    go true e = ltb-true y x e
    go false e = absurd (n (omega (arith, ltb-false y x e)))

-- how a byte stands to another
three_ways : (x y : ℕ) → (x ≡ y) ⊎ ((x < y) ⊎ (y < x))
three_ways x y = go (eqb x y) refl (ltb x y) refl
  where
    go : (b : Bool) → eqb x y ≡ b → (c : Bool) → ltb x y ≡ c → (x ≡ y) ⊎ ((x < y) ⊎ (y < x))
    go true e c f = inl (eqb-true x y e)
    go false e true f = inr (inl (ltb-true x y f))
    go false e false f = inr (inr (unequal x y (eqb-false x y e) (ltb-false x y f)))

-- a name that begins with the same byte, or with a smaller one
before_same : (x : ℕ) (a b : List ℕ) → comes_before (x ∷ a) (x ∷ b) ≡ comes_before a b
unfolding comes_before
before_same x a b = rw (eq-eqb x x refl) refl

before_less : (x y : ℕ) (a b : List ℕ) → x < y → comes_before (x ∷ a) (y ∷ b) ≡ true
unfolding comes_before
before_less x y a b h = rw (ne_eqb x y (λ (e : x ≡ y). absurd (omega arith)), lt-ltb x y h) refl

before_more : (x y : ℕ) (a b : List ℕ) → y < x → comes_before (x ∷ a) (y ∷ b) ≡ false
unfolding comes_before
before_more x y a b h = rw (ne_eqb x y (λ (e : x ≡ y). absurd (omega arith))) (le-ltb x y (omega arith))

pub before_itself : (a : List ℕ) → comes_before a a ≡ false
unfolding comes_before
before_itself [] = refl
before_itself (x ∷ a) = before_same x a a ∙ before_itself a

by_bytes : (x y z : ℕ) (a b c : List ℕ) → comes_before (x ∷ a) (y ∷ b) ≡ true → comes_before (y ∷ b) (z ∷ c) ≡ true
    → (comes_before a b ≡ true → comes_before b c ≡ true → comes_before a c ≡ true)
    → ((x ≡ y) ⊎ ((x < y) ⊎ (y < x))) → ((y ≡ z) ⊎ ((y < z) ⊎ (z < y)))
    → comes_before (x ∷ a) (z ∷ c) ≡ true
by_bytes x y z a b c e f on (inl p) (inl q) =
    let e' : comes_before a b ≡ true = sym (before_same y a b) ∙ (ap (λ (u : ℕ). comes_before (u ∷ a) (y ∷ b)) (sym p) ∙ e) in
    let f' : comes_before b c ≡ true = sym (before_same z b c) ∙ (ap (λ (u : ℕ). comes_before (u ∷ b) (z ∷ c)) (sym q) ∙ f) in
    ap (λ (u : ℕ). comes_before (u ∷ a) (z ∷ c)) (p ∙ q) ∙ (before_same z a c ∙ on e' f')
by_bytes x y z a b c e f on (inl p) (inr (inl q)) = before_less x z a c (omega arith)
by_bytes x y z a b c e f on (inl p) (inr (inr q)) = absurd (true≢false (sym f ∙ before_more y z b c q))
by_bytes x y z a b c e f on (inr (inl p)) (inl q) = before_less x z a c (omega arith)
by_bytes x y z a b c e f on (inr (inl p)) (inr (inl q)) = before_less x z a c (omega arith)
by_bytes x y z a b c e f on (inr (inl p)) (inr (inr q)) = absurd (true≢false (sym f ∙ before_more y z b c q))
by_bytes x y z a b c e f on (inr (inr p)) q = absurd (true≢false (sym e ∙ before_more x y a b p))

other_byte : (x y : ℕ) (a b : List ℕ) → comes_before (x ∷ a) (y ∷ b) ≡ false → eqb x y && same_bytes a b ≡ false
    → (comes_before a b ≡ false → same_bytes a b ≡ false → comes_before b a ≡ true)
    → ((x ≡ y) ⊎ ((x < y) ⊎ (y < x)))
    → comes_before (y ∷ b) (x ∷ a) ≡ true
other_byte x y a b e f on (inl p) =
    let e' : comes_before a b ≡ false = sym (before_same y a b) ∙ (ap (λ (u : ℕ). comes_before (u ∷ a) (y ∷ b)) (sym p) ∙ e) in
    let f' : same_bytes a b ≡ false = ap (λ (t : Bool). t && same_bytes a b) (sym (eq-eqb x y p)) ∙ f in
    ap (λ (u : ℕ). comes_before (y ∷ b) (u ∷ a)) p ∙ (before_same y b a ∙ on e' f')
other_byte x y a b e f on (inr (inl p)) = absurd (true≢false (sym (before_less x y a b p) ∙ e))
other_byte x y a b e f on (inr (inr p)) = before_less y x b a p

pub before_onward : (a b c : List ℕ) → comes_before a b ≡ true → comes_before b c ≡ true → comes_before a c ≡ true
unfolding comes_before
before_onward [] [] c e f = absurd (true≢false (sym e))
before_onward [] (y ∷ b) [] e f = absurd (true≢false (sym f))
before_onward [] (y ∷ b) (z ∷ c) e f = refl
before_onward (x ∷ a) [] c e f = absurd (true≢false (sym e))
before_onward (x ∷ a) (y ∷ b) [] e f = absurd (true≢false (sym f))
before_onward (x ∷ a) (y ∷ b) (z ∷ c) e f = by_bytes x y z a b c e f (before_onward a b c) (three_ways x y) (three_ways y z)

-- of two names one comes before the other, or they are the same
pub before_other : (a b : List ℕ) → comes_before a b ≡ false → same_bytes a b ≡ false → comes_before b a ≡ true
unfolding comes_before same_bytes
before_other [] [] e f = absurd (true≢false f)
before_other [] (y ∷ b) e f = absurd (true≢false e)
before_other (x ∷ a) [] e f = refl
before_other (x ∷ a) (y ∷ b) e f = other_byte x y a b e f (before_other a b) (three_ways x y)

-- ---- an index has an order

head_before : {d : Declared} {es : List Declared} → Rises (d ∷ es) → (e : Declared) → Among e es → comes_before d.name e.name ≡ true
head_before (r_more h r) e here = h
head_before {d = d} (r_more {e = x} h r) e (later m) = before_onward d.name x.name e.name h (head_before r e m)
head_before r_one e m = elim m [ ]

tail_rises : {d : Declared} {es : List Declared} → Rises (d ∷ es) → Rises es
tail_rises r_one = r_none
tail_rises (r_more h r) = r

-- nothing comes before itself
never : (d : Declared) → comes_before d.name d.name ≡ true → ⊥
never d e = true≢false (sym e ∙ before_itself d.name)

-- ---- of the same declarations there is one index

same_first : {d e : Declared} {ds es : List Declared} → Rises (d ∷ ds) → Rises (e ∷ es)
    → Among d (e ∷ es) → Among e (d ∷ ds) → d ≡ e
same_first r s here m = refl
same_first r s (later k) here = refl
same_first {d = d} {e = e} r s (later k) (later m) =
    absurd (never d (before_onward d.name e.name d.name (head_before r e m) (head_before s d k)))

-- what is among a list and is not its first is among the rest
behind_first : {d x : Declared} {es : List Declared} → comes_before d.name x.name ≡ true → Among x (d ∷ es) → Among x es
behind_first {d = d} h here = absurd (never d h)
behind_first h (later m) = m

same_index : (ds es : List Declared) → Rises ds → Rises es → ((x : Declared) → Among x ds → Among x es)
    → ((x : Declared) → Among x es → Among x ds)
    → ds ≡ es
same_index [] [] r s f g = refl
same_index [] (e ∷ es) r s f g = elim (g e here) [ ]
same_index (d ∷ ds) [] r s f g = elim (f d here) [ ]
same_index (d ∷ ds) (e ∷ es) r s f g =
    let p : d ≡ e = same_first r s (f d here) (g e here) in
    let to : (x : Declared) → Among x ds → Among x es =
    λ (x : Declared). λ (m : Among x ds). behind_first (ap (λ (u : Declared). comes_before u.name x.name) (sym p) ∙ head_before r x m) (f x (later m)) in
    let back : (x : Declared) → Among x es → Among x ds =
    λ (x : Declared). λ (m : Among x es). behind_first (ap (λ (u : Declared). comes_before u.name x.name) p ∙ head_before s x m) (g x (later m)) in
    ap (λ (u : Declared). u ∷ ds) p ∙ ap (λ (l : List Declared). e ∷ l) (same_index ds es (tail_rises r) (tail_rises s) to back)

pub one_index : (xs ds es : List Declared) → IsIndex xs ds → IsIndex xs es → ds ≡ es
one_index xs ds es a b =
    same_index ds es a.rises b.rises (λ (x : Declared). λ (m : Among x ds). b.each x (a.only x m))
    (λ (x : Declared). λ (m : Among x es). a.each x (b.only x m))
