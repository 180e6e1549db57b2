-- Sets of kinds taken apart: what holds of each kind that a set is made of holds of every kind in it.
use mathlib.Core.Path.{◌≡◌, refl, sym, ap, ◌∙◌, subst}
use mathlib.Core.Bool.{Bool, true, false, not, cond, ◌&&◌, ◌||◌, true≢false}
use mathlib.Core.List.{List, [], ◌∷◌, ◌++◌}
use Prim.Native.Nat.{ℕ, suc, ◌+◌, ◌-◌, ◌/◌, ◌%◌, ◌^◌, ◌≤◌, ◌<◌}
use native.Mathlib.Nat.{div-eq_of_lt, div_self, div-add-mod', mul-div_cancel, pow-suc}
use native.Mathlib.Omega.{arith}
use lib.Arith.{digits_mod}
use lib.Dec.{eqb, ltb}
use lib.Pow.{pow_pos, pow_mono, pow-lt, pow-add}
use borrow.Author.Tests.{eqb-true, ltb-true, ltb-false}
use Rattle.laws.specs.Tests.{all_below}
use Rattle.laws.proofs.Tests.{both_true, below}
use Rattle.rules.specs.declared.Syntax.{Syntax}
use Rattle.rules.specs.declared.Syntax.TheVariants.{Wanted, NotTopLevel, NotMapField, MapTypeUnknown, NotType, MaxNegative, OutOfRange, ShiftCount, MapLacks, NotEventType, CallOnOther, TooDeep}
use Rattle.rules.specs.Kinds.{KeywordElse, Dot, LParen, Plus, Minus, Star, Slash, Percent, Shr, Shl}
use Rattle.rules.specs.Fits.{only, has, ons, shifts, wrong, set_told, retold}

-- ---- a set and a list of kinds

-- more than there are kinds
abbrev bound : ℕ
bound = 64

-- bit k of a set: `has`, which computes
abbrev bit : ℕ → ℕ → Bool
bit s k = eqb (s / 2 ^ k % 2) 1

abbrev among : List ℕ → ℕ → Bool
among [] k = false
among (x ∷ xs) k = eqb k x || among xs k

-- each kind in the set is in the list
abbrev pub covers : ℕ → List ℕ → Bool
covers s ks = ltb s (2 ^ bound) && all_below (λ k. not (bit s k) || among ks k) bound

-- what holds of each kind of a list
infixr 20 ◌and◌
pub data Each (C : ℕ → Type 0) : List ℕ → Type 0 where
  done : Each C []
  ◌and◌ : {k : ℕ} {ks : List ℕ} → C k → Each C ks → Each C (k ∷ ks)

each_among : (C : ℕ → Type 0) (ks : List ℕ) → Each C ks → (k : ℕ) → among ks k ≡ true → C k
each_among C ks done k e = absurd (true≢false (sym e))
each_among C ks (◌and◌ {k = x} {ks = xs} c h) k e = go (eqb k x) refl e (each_among C xs h k)
  where
    go : (b : Bool) → eqb k x ≡ b → b || among xs k ≡ true → (among xs k ≡ true → C k) → C k
    go true q e r = subst C (sym (eqb-true k x q)) c
    go false q e r = r e

-- of two lists
each_more : {C : ℕ → Type 0} {xs ys : List ℕ} → Each C xs → Each C ys → Each C (xs ++ ys)
each_more done b = b
each_more (c and a) b = c and each_more a b

-- no set below the bound has a bit behind it
none_behind : (s k : ℕ) → s < 2 ^ bound → bound ≤ k → has s k ≡ true → ⊥
unfolding has
none_behind s k l h e =
    let z : s / 2 ^ k ≡ 0 = div-eq_of_lt (omega (arith, pow_mono {i = bound} {j = k} h)) in
    true≢false (sym (rw z at e))

-- What holds of each kind of a list holds of every kind of a set that the list covers.
pub each : (C : ℕ → Type 0) (s : ℕ) (ks : List ℕ) → covers s ks ≡ true → Each C ks → (k : ℕ) → has s k ≡ true → C k
unfolding has
each C s ks c h k e = go (ltb k bound) refl
  where
    parts : (ltb s (2 ^ bound) ≡ true) × (all_below (λ k. not (bit s k) || among ks k) bound ≡ true)
    parts = both_true (ltb s (2 ^ bound)) (all_below (λ k. not (bit s k) || among ks k) bound) c

    go : (b : Bool) → ltb k bound ≡ b → C k
    go true l = each_among C ks h k (rw e at (below (λ k. not (bit s k) || among ks k) bound parts.1 k (ltb-true k bound l)))
    go false l = absurd (none_behind s k (ltb-true s (2 ^ bound) parts.0) (ltb-false k bound l) e)

-- a kind in a set
pub holds : (s k : ℕ) → bit s k ≡ true → has s k ≡ true
unfolding has
holds s k e = e

-- ---- the set of one kind

pub only_has : (k : ℕ) → has (only k) k ≡ true
unfolding has
only_has k = rw (div_self (pow_pos k))

pub only_one : (k x : ℕ) → has (only k) x ≡ true → x ≡ k
unfolding has
only_one k x e = go (ltb k x) (ltb x k) refl refl
  where
    -- the bits below that of the kind
    low : (n : ℕ) → 2 ^ (x + suc n) / 2 ^ x % 2 ≡ 0
    low n =
        ap (λ (y : ℕ). y / 2 ^ x % 2) (pow-add 2 x (suc n) ∙ omega arith)
        ∙ ap (λ (y : ℕ). y % 2) (mul-div_cancel (2 ^ suc n) (pow_pos x))
        ∙ ap (λ (y : ℕ). y % 2) (pow-suc 2 n ∙ omega arith) ∙ digits_mod (2 ^ n) {m = 2} {r = 0} (omega arith)

    go : (b c : Bool) → ltb k x ≡ b → ltb x k ≡ c → x ≡ k
    go true c p q = absurd (true≢false (sym (rw (div-eq_of_lt (pow-lt (ltb-true k x p))) at e)))
    go false true p q =
        let l : x < k = ltb-true x k q in
        let z : k ≡ x + suc (k - x - 1) = omega arith in
        absurd (true≢false (sym (ap (λ (y : ℕ). eqb y 1) (sym (low (k - x - 1)) ∙ ap (λ (y : ℕ). 2 ^ y / 2 ^ x % 2) (sym z)) ∙ e)))
    go false false p q = omega (arith, ltb-false k x p, ltb-false x k q)

-- ---- sets in refusals

pub told_wrong : (s : ℕ) → set_told (wrong s) ≡ s
unfolding set_told
told_wrong s = omega (arith, div-add-mod' s (2 ^ 32))

-- what holds of a refusal, and if it is 21 of 21 with another set, holds of it with that set
pub retold_as : (C : Syntax → Type 0) (s : ℕ) (why : Syntax) → C why → ((low high : ℕ) → why ≡ Wanted low high → C (wrong s))
    → C (retold s why)
unfolding retold
retold_as C s (Wanted low high) h w = w low high refl
retold_as C s NotTopLevel h w = h
retold_as C s NotMapField h w = h
retold_as C s MapTypeUnknown h w = h
retold_as C s NotType h w = h
retold_as C s MaxNegative h w = h
retold_as C s OutOfRange h w = h
retold_as C s ShiftCount h w = h
retold_as C s (MapLacks m) h w = h
retold_as C s NotEventType h w = h
retold_as C s CallOnOther h w = h
retold_as C s TooDeep h w = h

-- ---- what may stand in a list

-- the set s of a list, with `else` behind an `if` without it (b)
abbrev pub list_set : ℕ → Bool → ℕ
list_set s b = s + cond b (only KeywordElse) 0

-- The set is of the kind that ends the list and of the kinds ks; `else` is none of them.
abbrev pub listed : ℕ → ℕ → List ℕ → Bool
listed s stop ks =
    (covers (list_set s false) (stop ∷ ks) && covers (list_set s true) (KeywordElse ∷ stop ∷ ks)) && (bit (list_set s false) stop && bit
    (list_set s true) stop)

module _ (s stop : ℕ) (ks : List ℕ) (e : listed s stop ks ≡ true) where
  abbrev covering : Bool
  covering = covers (list_set s false) (stop ∷ ks) && covers (list_set s true) (KeywordElse ∷ stop ∷ ks)

  abbrev ending : Bool
  ending = bit (list_set s false) stop && bit (list_set s true) stop

  pub each_listed : (C : ℕ → Type 0) (b : Bool) → (b ≡ true → C KeywordElse) → C stop → Each C ks → (k : ℕ) → has (list_set s b) k ≡ true
      → C k
  each_listed C true c t h =
      each C (list_set s true) (KeywordElse ∷ stop ∷ ks)
      (both_true (covers (list_set s false) (stop ∷ ks)) (covers (list_set s true) (KeywordElse ∷ stop ∷ ks))
      (both_true covering ending e).0).1 (c refl and t and h)
  each_listed C false c t h =
      each C (list_set s false) (stop ∷ ks)
      (both_true (covers (list_set s false) (stop ∷ ks)) (covers (list_set s true) (KeywordElse ∷ stop ∷ ks))
      (both_true covering ending e).0).0 (t and h)

  pub listed_stop : (b : Bool) → has (list_set s b) stop ≡ true
  unfolding has
  listed_stop true = (both_true (bit (list_set s false) stop) (bit (list_set s true) stop) (both_true covering ending e).1).1
  listed_stop false = (both_true (bit (list_set s false) stop) (bit (list_set s true) stop) (both_true covering ending e).1).0

-- ---- what goes on with an expression, or stands behind it

-- what goes on with an expression, a sum (b) or not, behind the name of a field (c) or not, and the set s of what may stand behind it
abbrev pub onward_set : Bool → Bool → ℕ → ℕ
onward_set b c s = ons + cond b 0 shifts + cond c (only LParen) 0 + s

-- what goes on with every expression
abbrev pub joins : List ℕ
joins = Dot ∷ Star ∷ Slash ∷ Percent ∷ Plus ∷ Minus ∷ []

abbrev open_kinds : Bool → List ℕ → List ℕ
open_kinds true ks = LParen ∷ ks
open_kinds false ks = ks

abbrev onward_kinds : Bool → Bool → List ℕ → List ℕ
onward_kinds true c ks = joins ++ open_kinds c ks
onward_kinds false c ks = joins ++ (Shr ∷ Shl ∷ open_kinds c ks)

abbrev covers_by : Bool → ℕ → List ℕ → Bool
covers_by b s ks = covers (onward_set b true s) (onward_kinds b true ks) && covers (onward_set b false s) (onward_kinds b false ks)

-- in each of the four cases the kinds ks cover what may stand behind
abbrev pub covers_onward : ℕ → List ℕ → Bool
covers_onward s ks = covers_by true s ks && covers_by false s ks

-- and in each of them a kind is among what may stand behind
abbrev pub ends_onward : ℕ → ℕ → Bool
ends_onward s k =
    (bit (onward_set true true s) k && bit (onward_set true false s) k) && (bit (onward_set false true s) k && bit (onward_set false false s) k)

-- what holds of a test of two choices in all four cases
four_cases : (T : Bool → Bool → Bool) → (T true true && T true false) && (T false true && T false false) ≡ true → (b c : Bool)
    → T b c ≡ true
four_cases T e b c = go b c (both_true (T true true && T true false) (T false true && T false false) e)
  where
    go : (b c : Bool) → (T true true && T true false ≡ true) × (T false true && T false false ≡ true) → T b c ≡ true
    go true true h = (both_true (T true true) (T true false) h.0).0
    go true false h = (both_true (T true true) (T true false) h.0).1
    go false true h = (both_true (T false true) (T false false) h.1).0
    go false false h = (both_true (T false true) (T false false) h.1).1

pub ends_onward_lem : (s k : ℕ) → ends_onward s k ≡ true → (b c : Bool) → has (onward_set b c s) k ≡ true
unfolding has
ends_onward_lem s k e b c = four_cases (λ b c. bit (onward_set b c s) k) e b c

module _ (C : ℕ → Type 0) (s : ℕ) (ks : List ℕ) (e : covers_onward s ks ≡ true) where
  -- Of each kind that goes on with every expression, of the shifts behind no sum, of `(` behind the name of a field, and of what may stand
  -- behind: then of every kind in the set.
  pub each_onward : Each C joins → (b c : Bool) → (b ≡ false → Each C (Shr ∷ Shl ∷ []))
      → (c ≡ true → C LParen) → Each C ks → (k : ℕ) → has (onward_set b c s) k ≡ true → C k
  each_onward on b c shift call ends =
      each C (onward_set b c s) (onward_kinds b c ks) (four_cases (λ b c. covers (onward_set b c s) (onward_kinds b c ks)) e b c)
      (go b c shift call)
    where
      opens : (c : Bool) → (c ≡ true → C LParen) → Each C (open_kinds c ks)
      opens true h = h refl and ends
      opens false h = ends

      go : (b c : Bool) → (b ≡ false → Each C (Shr ∷ Shl ∷ [])) → (c ≡ true → C LParen) → Each C (onward_kinds b c ks)
      go true c g h = each_more on (opens c h)
      go false c g h = each_more on (each_more (g refl) (opens c h))
