-- The calls over sections and sets of methods.
use Prim.Native.Nat.{ℕ, zero, suc, ◌+◌, ◌≤◌, ◌<◌}
use native.Mathlib.Omega.{arith}
use mathlib.Core.Bool.{Bool, true, false, cond, ◌||◌, true≢false}
use mathlib.Core.List.{List, [], ◌∷◌, ◌++◌}
use mathlib.Core.Logic.{◌⊎◌, inl, inr}
use mathlib.Core.Path.{◌≡◌, refl, ap, sym, ◌∙◌}
use lib.Dec.{eqb, leb}
use lib.ListN.{length, take, drop, get_or, take-append-drop}
use lib.Seq.{take_at}
use borrow.Author.Tests.{le-leb, lt-leb, eqb-true, eqb-false, eq-eqb}
use Rattle.rules.specs.Text.{start_place}
use Rattle.rules.specs.Kinds.{same_bytes}
use Rattle.rules.specs.Sets.{Section, sections, fits, kind_of_section, from_section, Unknown}
use Rattle.rules.specs.Sets.{ProbeReadKernelStr, allowed, member, allows, set_size}
use Rattle.rules.specs.Calls.{member_asked, size_asked}
use Rattle.laws.proofs.Spelled.{same_eq, same_self}
use Rattle.theory_mend.specs.Mended.{Member, here, there}
use Rattle.answers.specs.Layout.{words, nowhere}
use Rattle.theory_outer.specs.Calls.{AllowsCall, SetSizeCall, SectionKindCall}
use Rattle.theory_outer.specs.Said as said
use Rattle.theory_outer.specs.Said.{Fits, is, begins, First, none, later, ones}
use Rattle.theory_outer.proofs.Calls.{allows_says, size_says, section_says}

-- ---- a set is its list

in_list : (m : ℕ) (xs : List ℕ) → member m xs ≡ true → Member m xs
unfolding member
in_list m [] e = absurd (true≢false (sym e))
in_list m (x ∷ xs) e = by (eqb m x) refl e (in_list m xs)
  where
    by : (b : Bool) → eqb m x ≡ b → (b || member m xs) ≡ true → (member m xs ≡ true → Member m xs) → Member m (x ∷ xs)
    by true f g r = rw (eqb-true m x f) here
    by false f g r = there (r g)

not_in_list : (m : ℕ) (xs : List ℕ) → member m xs ≡ false → Member m xs → ⊥
unfolding member
not_in_list m [] e q = elim q [ ]
not_in_list m (x ∷ xs) e here = true≢false (rw (eq-eqb m m refl) at e)
not_in_list m (x ∷ xs) e (there q) = by (eqb m x) e (λ f. not_in_list m xs f q)
  where
    by : (b : Bool) → (b || member m xs) ≡ false → (member m xs ≡ false → ⊥) → ⊥
    by true f r = true≢false f
    by false f r = r f

-- ---- the calls

module _ {kind method : ℕ} {answer : List ℕ} (s : AllowsCall kind method answer) where
  -- Of a kind from 0 to 10 and a method from 0 to 15: 1 if the kind's list has the method, and else 0.
  pub allows_exactly : kind ≤ Unknown → method ≤ ProbeReadKernelStr
      → (Member method (get_or allowed kind []) × (answer ≡ words 0 nowhere 1 0 0 0))
      ⊎ ((Member method (get_or allowed kind []) → ⊥) × (answer ≡ words 0 nowhere 0 0 0 0))
  unfolding member_asked allows
  allows_exactly h l = by (member method (get_or allowed kind [])) refl
    where
      by : (x : Bool) → member method (get_or allowed kind []) ≡ x
          → (Member method (get_or allowed kind []) × (answer ≡ words 0 nowhere 1 0 0 0))
          ⊎ ((Member method (get_or allowed kind []) → ⊥) × (answer ≡ words 0 nowhere 0 0 0 0))
      by true e = inl (in_list method _ e, allows_says s ∙ rw (le-leb kind Unknown h, le-leb method ProbeReadKernelStr l, e))
      by false e = inr (not_in_list method _ e, allows_says s ∙ rw (le-leb kind Unknown h, le-leb method ProbeReadKernelStr l, e))

  -- Of another kind 3, and so of another method.
  pub allows_no_kind : Unknown < kind → answer ≡ words 3 start_place 0 0 0 0
  unfolding member_asked
  allows_no_kind h = allows_says s ∙ rw (lt-leb kind Unknown h)

  pub allows_no_method : kind ≤ Unknown → ProbeReadKernelStr < method → answer ≡ words 3 start_place 0 0 0 0
  unfolding member_asked
  allows_no_method h l = allows_says s ∙ rw (le-leb kind Unknown h, lt-leb method ProbeReadKernelStr l)

-- the size of a kind's set is the number of its ones
size_ones : (kind : ℕ) → kind ≤ Unknown → set_size kind ≡ ones kind 16
unfolding set_size ones allows allowed member
size_ones zero h = refl
size_ones (suc zero) h = refl
size_ones (suc (suc zero)) h = refl
size_ones (suc (suc (suc zero))) h = refl
size_ones (suc (suc (suc (suc zero)))) h = refl
size_ones (suc (suc (suc (suc (suc zero))))) h = refl
size_ones (suc (suc (suc (suc (suc (suc zero)))))) h = refl
size_ones (suc (suc (suc (suc (suc (suc (suc zero))))))) h = refl
size_ones (suc (suc (suc (suc (suc (suc (suc (suc zero)))))))) h = refl
size_ones (suc (suc (suc (suc (suc (suc (suc (suc (suc zero))))))))) h = refl
size_ones (suc (suc (suc (suc (suc (suc (suc (suc (suc (suc zero)))))))))) h = refl
size_ones (suc (suc (suc (suc (suc (suc (suc (suc (suc (suc (suc k))))))))))) h = absurd (omega arith)

module _ {kind : ℕ} {answer : List ℕ} (s : SetSizeCall kind answer) where
  -- Of a kind from 0 to 10: how many of the sixteen methods it allows.
  pub size_exactly : kind ≤ Unknown → answer ≡ words 0 nowhere (ones kind 16) 0 0 0
  unfolding size_asked
  size_exactly h = size_says s ∙ rw (le-leb kind Unknown h, size_ones kind h)

  pub size_no_kind : Unknown < kind → answer ≡ words 3 start_place 0 0 0 0
  unfolding size_asked
  size_no_kind h = size_says s ∙ rw (lt-leb kind Unknown h)

-- ---- sections

does_fit : (e : Section) (w : List ℕ) → fits e w ≡ true → Fits w e
unfolding fits
does_fit e w f = by e.whole refl f
  where
    by : (b : Bool) → e.whole ≡ b → same_bytes e.spelling (cond b w (take (length e.spelling) w)) ≡ true → Fits w e
    by true x g = is x (sym (same_eq _ _ g))
    by false x g =
        let n : ℕ = length e.spelling in
        begins x (drop n w) (sym (take-append-drop n w) ∙ ap (λ (s : List ℕ). s ++ drop n w) (sym (same_eq _ _ g)))

does_not : (e : Section) (w : List ℕ) → fits e w ≡ false → Fits w e → ⊥
unfolding fits
does_not e w f (is x g) = true≢false (sym (same_self e.spelling) ∙ rw (x, g) at f)
does_not e w f (begins x rest g) =
    true≢false (sym (same_self e.spelling) ∙ rw (x, g, take_at e.spelling rest (length e.spelling) refl) at f)

first_of : (es : List Section) (w : List ℕ) → First w es (kind_of_section es w)
unfolding kind_of_section
first_of [] w = none
first_of (e ∷ es) w = by (fits e w) refl (first_of es w)
  where
    by : (b : Bool) → fits e w ≡ b → First w es (kind_of_section es w)
        → First w (e ∷ es) (elim b as (λ _. ℕ) [ true ↦ e.kind | false ↦ kind_of_section es w ])
    by true f r = said.here (does_fit e w f)
    by false f r = later (does_not e w f) r

-- The kind of the first entry whose spelling the section's text is, or begins with, and Unknown where there is none.
pub section_first : {text : List ℕ} {r : ℕ} → SectionKindCall text r → First text sections r
unfolding from_section
section_first {text} s = rw (section_says s) (first_of sections text)
