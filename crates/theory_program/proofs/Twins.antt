-- Names that were declared before: there is none exactly if all names differ, and the first is told. Declarations whose names differ have an
-- index.
use mathlib.Core.Path.{◌≡◌, refl, sym, ap, ◌∙◌, subst}
use mathlib.Core.Bool.{Bool, true, false, cond, ◌&&◌, ◌||◌, true≢false}
use mathlib.Core.List.{List, [], ◌∷◌, ◌++◌, append_assoc}
use Prim.Native.Nat.{ℕ}
use lib.Dec.{eqb}
use borrow.Author.Tests.{eqb-true, eq-eqb, ne_eqb, eqb-false}
use Rattle.laws.proofs.Tests.{both_true}
use Rattle.rules.specs.Kinds.{same_bytes}
use Rattle.rules_program.specs.Both.{Declared, name_row}
use Rattle.rules_program.specs.Names.{Name, names_of, has_name, twin_rows, comes_before, placed_in, rising}
use Rattle.theory_program.specs.Index.{Among, here, later, Rises, r_none, r_one, r_more, IsIndex, Differ, d_none, d_more, FirstTwin}
use Rattle.theory_program.proofs.Index.{before_other, before_onward}

-- ---- names that are the same

pub same_equal : (a b : List ℕ) → same_bytes a b ≡ true → a ≡ b
unfolding same_bytes
same_equal [] [] e = refl
same_equal [] (y ∷ b) e = absurd (true≢false (sym e))
same_equal (x ∷ a) [] e = absurd (true≢false (sym e))
same_equal (x ∷ a) (y ∷ b) e =
    let h : (eqb x y ≡ true) × (same_bytes a b ≡ true) = both_true (eqb x y) (same_bytes a b) e in
    ap (λ (u : ℕ). u ∷ a) (eqb-true x y h.0) ∙ ap (λ (l : List ℕ). y ∷ l) (same_equal a b h.1)

pub same_itself : (a : List ℕ) → same_bytes a a ≡ true
unfolding same_bytes
same_itself [] = refl
same_itself (x ∷ a) = rw (eq-eqb x x refl) (same_itself a)

pub differ_back : (a b : List ℕ) → same_bytes a b ≡ false → same_bytes b a ≡ false
differ_back a b e = go (same_bytes b a) refl
  where
    go : (c : Bool) → same_bytes b a ≡ c → c ≡ false
    go true f = absurd (true≢false (sym (same_itself b) ∙ (ap (λ (l : List ℕ). same_bytes l b) (same_equal b a f) ∙ e)))
    go false f = refl

-- ---- seen names

-- one of two
either_false : (a b : Bool) → a || b ≡ false → (a ≡ false) × (b ≡ false)
either_false true b e = absurd (true≢false e)
either_false false b e = (refl, e)

not_named : (w : List ℕ) (ds : List Declared) → has_name w (names_of ds) ≡ false → (e : Declared) → Among e ds → same_bytes w e.name ≡ false
unfolding has_name names_of
not_named w [] h e m = elim m [ ]
not_named w (d ∷ ds) h e here = (either_false (same_bytes w d.name) (has_name w (names_of ds)) h).0
not_named w (d ∷ ds) h e (later m) = not_named w ds (either_false (same_bytes w d.name) (has_name w (names_of ds)) h).1 e m

none_named : (w : List ℕ) (ds : List Declared) → ((e : Declared) → Among e ds → same_bytes w e.name ≡ false) → has_name w (names_of ds) ≡ false
unfolding has_name names_of
none_named w [] f = refl
none_named w (d ∷ ds) f = rw (f d here) (none_named w ds (λ (e : Declared). λ (m : Among e ds). f e (later m)))

-- one that is named so
record NamedSo (w : List ℕ) (ds : List Declared) : Type 0 where
  one : Declared
  stands : Among one ds
  same : w ≡ one.name

is_named : (w : List ℕ) (ds : List Declared) → has_name w (names_of ds) ≡ true → NamedSo w ds
unfolding has_name names_of
is_named w [] h = absurd (true≢false (sym h))
is_named w (d ∷ ds) h = go (same_bytes w d.name) refl h (is_named w ds)
  where
    go : (b : Bool) → same_bytes w d.name ≡ b → b || has_name w (names_of ds) ≡ true → (has_name w (names_of ds) ≡ true → NamedSo w ds)
        → NamedSo w (d ∷ ds)
    go true e g f = record { one = d; stands = here; same = same_equal w d.name e }
    go false e g f = let x : NamedSo w ds = f g in record { one = x.one; stands = later x.stands; same = x.same }

-- ---- no twins

-- those of `seen` and those that follow: none that follows has a name that was declared before
record Fresh (seen ds : List Declared) : Type 0 where
  among : Differ ds
  apart : (e : Declared) → Among e ds → (d : Declared) → Among d seen → same_bytes e.name d.name ≡ false

no_twins : (seen ds : List Declared) → twin_rows (names_of seen) (names_of ds) ≡ [] → Fresh seen ds
unfolding twin_rows names_of
no_twins seen [] h = record { among = d_none; apart = λ (e : Declared). λ (m : Among e []). elim m [ ] }
no_twins seen (x ∷ ds) h = go (has_name x.name (names_of seen)) refl h (no_twins (x ∷ seen) ds)
  where
    go : (b : Bool) → has_name x.name (names_of seen) ≡ b
        → cond b (name_row x ∷ twin_rows (names_of (x ∷ seen)) (names_of ds)) (twin_rows (names_of (x ∷ seen)) (names_of ds)) ≡ []
        → (twin_rows (names_of (x ∷ seen)) (names_of ds) ≡ [] → Fresh (x ∷ seen) ds)
        → Fresh seen (x ∷ ds)
    go true e g f = let z : ◌≡◌ {A = ℕ} 0 1 = cc in absurd (true≢false (zero_one z))
      where
        zero_one : ◌≡◌ {A = ℕ} 0 1 → true ≡ false
        zero_one z = ap (λ (n : ℕ). eqb n 0) z
    go false e g f =
        let r : Fresh (x ∷ seen) ds = f g in
        record {
          among = d_more (λ (y : Declared). λ (m : Among y ds). r.apart y m x here) r.among;
          apart = apart_of r e;
        }
      where
        apart_of : Fresh (x ∷ seen) ds → has_name x.name (names_of seen) ≡ false
            → (y : Declared) → Among y (x ∷ ds) → (d : Declared) → Among d seen → same_bytes y.name d.name ≡ false
        apart_of r e y here d k = not_named x.name seen e d k
        apart_of r e y (later m) d k = r.apart y m d (later k)

-- all names differ
pub untwinned : (ds : List Declared) → twin_rows [] (names_of ds) ≡ [] → Differ ds
unfolding names_of
untwinned ds h = (no_twins [] ds h).among

fresh_untwinned : (seen ds : List Declared) → Fresh seen ds → twin_rows (names_of seen) (names_of ds) ≡ []
unfolding twin_rows names_of
fresh_untwinned seen [] h = refl
fresh_untwinned seen (x ∷ ds) h =
    rw (none_named x.name seen (h.apart x here)) (fresh_untwinned (x ∷ seen) ds (onward h.among))
  where
    onward : Differ (x ∷ ds) → Fresh (x ∷ seen) ds
    onward (d_more f r) = record { among = r; apart = apart_of f }
      where
        apart_of : ((e : Declared) → Among e ds → same_bytes e.name x.name ≡ false)
            → (e : Declared) → Among e ds → (d : Declared) → Among d (x ∷ seen) → same_bytes e.name d.name ≡ false
        apart_of f e m d here = f e m
        apart_of f e m d (later k) = h.apart e (later m) d k

pub differ_untwinned : (ds : List Declared) → Differ ds → twin_rows [] (names_of ds) ≡ []
unfolding names_of
differ_untwinned ds h =
    fresh_untwinned [] ds (record { among = h; apart = λ (e : Declared). λ (m : Among e ds). λ (d : Declared). λ (k : Among d []). elim k [ ] })

-- ---- the first twin

among_last : (x : Declared) (ds : List Declared) → Among x (ds ++ (x ∷ []))
among_last x [] = here
among_last x (d ∷ ds) = later (among_last x ds)

among_front : (x y : Declared) (ds : List Declared) → Among y ds → Among y (ds ++ (x ∷ []))
among_front x y ds here = here
among_front x y (d ∷ ds) (later m) = later (among_front x y ds m)

-- what is among a list with one more at its end
among_more : (C : Declared → Type 0) (x y : Declared) (ds : List Declared) → C x → (Among y ds → C y) → Among y (ds ++ (x ∷ [])) → C y
among_more C x y [] c f here = c
among_more C x y [] c f (later m) = elim m [ ]
among_more C x y (d ∷ ds) c f here = f here
among_more C x y (d ∷ ds) c f (later m) = among_more C x y ds c (λ (k : Among y ds). f (later k)) m

differ_last : (x : Declared) (ds : List Declared) → Differ ds → ((d : Declared) → Among d ds → same_bytes x.name d.name ≡ false)
    → Differ (ds ++ (x ∷ []))
differ_last x [] h f = d_more {d = x} (λ (e : Declared). λ (m : Among e []). elim m [ ]) d_none
differ_last x (d ∷ ds) (d_more g h) f =
    d_more (λ (e : Declared). λ (m : Among e (ds ++ (x ∷ []))). among_more (λ (y : Declared). same_bytes y.name d.name ≡ false) x e ds (f d here) (g e) m)
    (differ_last x ds h (λ (y : Declared). λ (m : Among y ds). f y (later m)))

-- `seen` are those of `front`; what follows them has a twin
find_twin : (front seen ds : List Declared) (r : ℕ) (rs : List ℕ) → Differ front → ((d : Declared) → Among d seen → Among d front)
    → ((d : Declared) → Among d front → Among d seen) → twin_rows (names_of seen) (names_of ds) ≡ r ∷ rs
    → FirstTwin (front ++ ds) r
unfolding twin_rows names_of
find_twin front seen [] r rs h f g e = let z : ◌≡◌ {A = ℕ} 0 1 = cc in absurd (true≢false (ap (λ (n : ℕ). eqb n 0) z))
find_twin front seen (x ∷ ds) r rs h f g e =
    go (has_name x.name (names_of seen)) refl e (find_twin (front ++ (x ∷ [])) (x ∷ seen) ds r rs)
  where
    go : (b : Bool) → has_name x.name (names_of seen) ≡ b
        → cond b (name_row x ∷ twin_rows (names_of (x ∷ seen)) (names_of ds)) (twin_rows (names_of (x ∷ seen)) (names_of ds)) ≡ r ∷ rs
        → (Differ (front ++ (x ∷ [])) → ((d : Declared) → Among d (x ∷ seen) → Among d (front ++ (x ∷ [])))
        → ((d : Declared) → Among d (front ++ (x ∷ [])) → Among d (x ∷ seen))
        → twin_rows (names_of (x ∷ seen)) (names_of ds) ≡ r ∷ rs → FirstTwin ((front ++ (x ∷ [])) ++ ds) r)
        → FirstTwin (front ++ (x ∷ ds)) r
    go true k c on =
        let y : NamedSo x.name seen = is_named x.name seen k in
        record {
          before = front;
          twin = x;
          after = ds;
          stands = refl;
          place = cc;
          differ = h;
          first = y.one;
          earlier = f y.one y.stands;
          same = y.same;
        }
    go false k c on =
        subst (λ (l : List Declared). FirstTwin l r) (append_assoc front (x ∷ []) ds)
        (on (differ_last x front h (λ (d : Declared). λ (m : Among d front). not_named x.name seen k d (g d m))) to back c)
      where
        to : (d : Declared) → Among d (x ∷ seen) → Among d (front ++ (x ∷ []))
        to d here = among_last x front
        to d (later m) = among_front x d front (f d m)

        back : (d : Declared) → Among d (front ++ (x ∷ [])) → Among d (x ∷ seen)
        back d m = among_more (λ (y : Declared). Among y (x ∷ seen)) x d front here (λ (k : Among d front). later (g d k)) m

-- the first of the rows is that of the first name that was declared before
pub first_twin : (ds : List Declared) (r : ℕ) (rs : List ℕ) → twin_rows [] (names_of ds) ≡ r ∷ rs → FirstTwin ds r
unfolding names_of
first_twin ds r rs e = find_twin [] [] ds r rs d_none (λ (d : Declared). λ (m : Among d []). m) (λ (d : Declared). λ (m : Among d []). m) e

-- ---- an index

-- in front of what has one more in it
rises_on : (e d : Declared) (es : List Declared) → comes_before e.name d.name ≡ true → Rises (e ∷ es) → Rises (placed_in d es)
    → Rises (e ∷ placed_in d es)
unfolding placed_in
rises_on e d [] h r q = r_more h q
rises_on e d (x ∷ xs) h (r_more k r) q = go (comes_before d.name x.name) q
  where
    go : (b : Bool) → Rises (cond b (d ∷ x ∷ xs) (x ∷ placed_in d xs)) → Rises (e ∷ cond b (d ∷ x ∷ xs) (x ∷ placed_in d xs))
    go true q = r_more h q
    go false q = r_more k q

rest_rises : {e : Declared} {es : List Declared} → Rises (e ∷ es) → Rises es
rest_rises r_one = r_none
rest_rises (r_more h r) = r

placed_rises : (d : Declared) (es : List Declared) → Rises es → ((e : Declared) → Among e es → same_bytes d.name e.name ≡ false)
    → Rises (placed_in d es)
unfolding placed_in
placed_rises d [] r f = r_one
placed_rises d (e ∷ es) r f =
    go (comes_before d.name e.name) refl (placed_rises d es (rest_rises r) (λ (x : Declared). λ (m : Among x es). f x (later m)))
  where
    go : (b : Bool) → comes_before d.name e.name ≡ b → Rises (placed_in d es) → Rises (cond b (d ∷ e ∷ es) (e ∷ placed_in d es))
    go true h q = r_more h r
    go false h q = rises_on e d es (before_other d.name e.name h (f e here)) r q

placed_among : (d : Declared) (es : List Declared) → Among d (placed_in d es)
unfolding placed_in
placed_among d [] = here
placed_among d (e ∷ es) = go (comes_before d.name e.name) (placed_among d es)
  where
    go : (b : Bool) → Among d (placed_in d es) → Among d (cond b (d ∷ e ∷ es) (e ∷ placed_in d es))
    go true m = here
    go false m = later m

placed_keeps : (x d : Declared) (es : List Declared) → Among x es → Among x (placed_in d es)
unfolding placed_in
placed_keeps x d (e ∷ es) here = go (comes_before d.name e.name)
  where
    go : (b : Bool) → Among e (cond b (d ∷ e ∷ es) (e ∷ placed_in d es))
    go true = later here
    go false = here
placed_keeps x d (e ∷ es) (later m) = go (comes_before d.name e.name) (placed_keeps x d es m)
  where
    go : (b : Bool) → Among x (placed_in d es) → Among x (cond b (d ∷ e ∷ es) (e ∷ placed_in d es))
    go true k = later (later m)
    go false k = later k
placed_keeps x d [] m = elim m [ ]

among_case : (B : Type 0) (x e : Declared) (es : List Declared) → (x ≡ e → B) → (Among x es → B) → Among x (e ∷ es) → B
among_case B x e es f g here = f refl
among_case B x e es f g (later m) = g m

-- what is among a list with one put in its place
placed_only : (C : Declared → Type 0) (x d : Declared) (es : List Declared) → C d → (Among x es → C x) → Among x (placed_in d es) → C x
unfolding placed_in
placed_only C x d [] c f here = c
placed_only C x d [] c f (later m) = elim m [ ]
placed_only C x d (e ∷ es) c f m =
    go (comes_before d.name e.name) m (placed_only C x d es c (λ (k : Among x es). f (later k)))
  where
    go : (b : Bool) → Among x (cond b (d ∷ e ∷ es) (e ∷ placed_in d es)) → (Among x (placed_in d es) → C x) → C x
    go true k on = among_case (C x) x d (e ∷ es) (λ (p : x ≡ d). subst C (sym p) c) f k
    go false k on = among_case (C x) x e (placed_in d es) (λ (p : x ≡ e). f (subst (λ (y : Declared). Among x (y ∷ es)) p here)) on k

rising_each : (x : Declared) (ds : List Declared) → Among x ds → Among x (rising ds)
unfolding rising
rising_each x (d ∷ ds) here = placed_among d (rising ds)
rising_each x (d ∷ ds) (later m) = placed_keeps x d (rising ds) (rising_each x ds m)
rising_each x [] m = elim m [ ]

rising_only : (x : Declared) (ds : List Declared) → Among x (rising ds) → Among x ds
unfolding rising
rising_only x [] m = elim m [ ]
rising_only x (d ∷ ds) m =
    placed_only (λ (y : Declared). Among y (d ∷ ds)) x d (rising ds) here (λ (k : Among x (rising ds)). later (rising_only x ds k)) m

rising_rises : (ds : List Declared) → Differ ds → Rises (rising ds)
unfolding rising
rising_rises [] d_none = r_none
rising_rises (d ∷ ds) (d_more f h) =
    placed_rises d (rising ds) (rising_rises ds h)
    (λ (e : Declared). λ (m : Among e (rising ds)). differ_back e.name d.name (f e (rising_only e ds m)))

-- declarations whose names differ have an index, which is what is written
pub rising_index : (ds : List Declared) → Differ ds → IsIndex ds (rising ds)
rising_index ds h =
    record {
      rises = rising_rises ds h;
      each = λ (x : Declared). λ (m : Among x ds). rising_each x ds m;
      only = λ (x : Declared). λ (m : Among x (rising ds)). rising_only x ds m;
    }
