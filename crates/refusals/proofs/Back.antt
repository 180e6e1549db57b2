-- Each lexical refusal is read back from its number, and each number of one is that of the refusal read from it.
use Prim.Native.Nat.{ℕ, zero, suc, ◌+◌, ◌-◌, ◌≤◌}
use native.Mathlib.Omega.{arith}
use mathlib.Core.Bool.{true, false, true≢false, and-eq-true_iff}
use mathlib.Core.Path.{◌≡◌, refl, sym, ◌∙◌}
use lib.Dec.{eqb, leb}
use borrow.Author.Tests.{leb-true, ne_eqb}
use Rattle.rules.specs.declared.Lexical.{Lexical}
use Rattle.rules.specs.declared.Lexical.TheVariants.{NoRowBegins, LoneSign, NoHexDigit, OpenComment, OpenString, BadEscape, NumberTooLarge}
use Rattle.rules.specs.Refusals.{lexical_number}
use Rattle.rules.specs.Back.{is_lexical, lexical_of}

-- The refusal read from a refusal's number is that refusal.
pub number_back : (why : Lexical) → lexical_of (lexical_number why) ≡ why
unfolding lexical_of
number_back NoRowBegins = refl
number_back OpenComment = refl
number_back OpenString = refl
number_back BadEscape = refl
number_back NumberTooLarge = refl
number_back LoneSign = refl
number_back NoHexDigit = refl

-- A number of none is read as the first.
pub number_else : (number : ℕ) → is_lexical number ≡ false → lexical_of number ≡ NoRowBegins
unfolding lexical_of
number_else number h =
    rw (
      ne_eqb number 12 (λ e. no e refl),
      ne_eqb number 13 (λ e. no e refl),
      ne_eqb number 14 (λ e. no e refl),
      ne_eqb number 15 (λ e. no e refl),
      ne_eqb number 16 (λ e. no e refl),
      ne_eqb number 17 (λ e. no e refl),
    )
  where
    no : {k : ℕ} → number ≡ k → is_lexical k ≡ true → ⊥
    no e q = true≢false (sym q ∙ rw e at h)

-- Its number is one of 11 to 17.
pub number_lexical : (why : Lexical) → is_lexical (lexical_number why) ≡ true
number_lexical NoRowBegins = refl
number_lexical OpenComment = refl
number_lexical OpenString = refl
number_lexical BadEscape = refl
number_lexical NumberTooLarge = refl
number_lexical LoneSign = refl
number_lexical NoHexDigit = refl

pub number_most : (why : Lexical) → lexical_number why ≤ 17
number_most why = leb-true (lexical_number why) 17 ((and-eq-true_iff (leb 11 (lexical_number why)) _).0 (number_lexical why)).1

-- So it is not 0, the number of no refusal.
pub number_some : (why : Lexical) → eqb (lexical_number why) 0 ≡ false
number_some NoRowBegins = refl
number_some OpenComment = refl
number_some OpenString = refl
number_some BadEscape = refl
number_some NumberTooLarge = refl
number_some LoneSign = refl
number_some NoHexDigit = refl

-- Each number of 11 to 17 is that of the refusal read from it, so that nothing else is taken for one.
pub reason_again : (number : ℕ) → is_lexical number ≡ true → lexical_number (lexical_of number) ≡ number
unfolding lexical_of
reason_again number h =
    let b = (and-eq-true_iff (leb 11 number) (leb number 17)).0 h in
    let lo : 11 ≤ number = leb-true 11 number b.0 in
    let hi : number ≤ 17 = leb-true number 17 b.1 in
    let e : 11 + (number - 11) ≡ number = omega arith in
    rw (← e) (by (number - 11) (omega arith))
  where
    by : (k : ℕ) → k ≤ 6 → lexical_number (lexical_of (11 + k)) ≡ 11 + k
    by zero h = refl
    by (suc zero) h = refl
    by (suc (suc zero)) h = refl
    by (suc (suc (suc zero))) h = refl
    by (suc (suc (suc (suc zero)))) h = refl
    by (suc (suc (suc (suc (suc zero))))) h = refl
    by (suc (suc (suc (suc (suc (suc zero)))))) h = refl
    by (suc (suc (suc (suc (suc (suc (suc k))))))) h = omega arith
