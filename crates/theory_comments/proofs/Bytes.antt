-- What one byte more does to the comments of a text: nothing where it opens nothing, and what the slash, the star and the quotes do.
use Prim.Native.Nat.{ℕ, suc}
use mathlib.Core.Bool.{Bool, true, false, not, ◌&&◌, true≢false, and-false}
use mathlib.Core.List.{List, [], ◌∷◌}
use mathlib.Core.Path.{◌≡◌, refl, ap, sym, ◌∙◌}
use lib.ListN.{drop}
use lib.Dec.{eqb}
use borrow.Author.Tests.{eqb-true, ne_eqb, not-true}
use Rattle.rules.specs.Kinds
use Rattle.rules.specs.Kinds.{Spelt, same_bytes, signs, kind_in}
use Rattle.laws.proofs.Tests.{both_true, false_by}
use Rattle.theory_comments.specs.Comments.{code, line, block, string, escaped, comments}

-- a byte that meets a test which x does not
pub differs : (p : ℕ → Bool) (x b : ℕ) → p x ≡ false → p b ≡ true → eqb b x ≡ false
differs p x b h e = ne_eqb b x (λ (z : b ≡ x). true≢false (sym e ∙ ap p z ∙ h))

-- ---- outside of comments and strings

module _ (s : List ℕ) where
  -- neither a slash nor a quote
  pub plain : (b : ℕ) → eqb b 47 ≡ false → eqb b 34 ≡ false → comments code (b ∷ s) ≡ comments code s
  unfolding comments
  plain b e f = rw (comments, e, e, f)

  pub plain_by : (p : ℕ → Bool) (b : ℕ) → p 47 ≡ false → p 34 ≡ false → p b ≡ true → comments code (b ∷ s) ≡ comments code s
  plain_by p b g h e = plain b (differs p 47 b g e) (differs p 34 b h e)

  pub quote_opens : comments code (34 ∷ s) ≡ comments string s
  unfolding comments
  quote_opens = refl

  pub line_opens : comments code (47 ∷ 47 ∷ s) ≡ comments line s
  unfolding comments
  line_opens = refl

  pub block_opens : comments code (47 ∷ 42 ∷ s) ≡ comments block s
  unfolding comments
  block_opens = refl

  -- a slash before any other byte
  pub slash_alone : (b : ℕ) → eqb b 47 ≡ false → eqb b 42 ≡ false → comments code (47 ∷ b ∷ s) ≡ comments code (b ∷ s)
  unfolding comments
  slash_alone b e f = by (comments code (b ∷ s)) refl
    where
      by : (n : ℕ) → comments code (b ∷ s) ≡ n → comments code (47 ∷ b ∷ s) ≡ n
      by n h = rw (comments, e, f) h

  -- ---- inside

  pub line_closes : comments line (10 ∷ s) ≡ suc (comments code s)
  unfolding comments
  line_closes = refl

  pub line_goes_on : (b : ℕ) → eqb b 10 ≡ false → comments line (b ∷ s) ≡ comments line s
  unfolding comments
  line_goes_on b e = rw (comments, e)

  pub block_closes : comments block (42 ∷ 47 ∷ s) ≡ suc (comments code s)
  unfolding comments
  block_closes = refl

  pub block_goes_on : (b : ℕ) → eqb b 42 ≡ false → comments block (b ∷ s) ≡ comments block s
  unfolding comments
  block_goes_on b e = rw (comments, e)

  -- a star before any byte but a slash
  pub star_alone : (b : ℕ) → eqb b 47 ≡ false → comments block (42 ∷ b ∷ s) ≡ comments block (b ∷ s)
  unfolding comments
  star_alone b e = rw (comments, e)

  pub string_closes : comments string (34 ∷ s) ≡ comments code s
  unfolding comments
  string_closes = refl

  pub string_escapes : comments string (92 ∷ s) ≡ comments escaped s
  unfolding comments
  string_escapes = refl

  pub string_goes_on : (b : ℕ) → eqb b 34 ≡ false → eqb b 92 ≡ false → comments string (b ∷ s) ≡ comments string s
  unfolding comments
  string_goes_on b e f = rw (comments, e, f)

  pub escape_passes : (b : ℕ) → comments escaped (b ∷ s) ≡ comments string s
  unfolding comments
  escape_passes b = refl

-- ---- signs of two bytes

-- y is the second byte of no spelling
unfoldable no_second : ℕ → List Spelt → Bool
no_second y [] = true
no_second y (e ∷ es) = not (same_bytes (drop 1 e.spelling) (y ∷ [])) && no_second y es

second_not : (w : List ℕ) (x y : ℕ) → same_bytes (drop 1 w) (y ∷ []) ≡ false → same_bytes w (x ∷ y ∷ []) ≡ false
unfolding same_bytes
second_not [] x y h = refl
second_not (z ∷ w) x y h = rw h (and-false (eqb z x))

kind_without : (es : List Spelt) (d x y : ℕ) → no_second y es ≡ true → kind_in es d (x ∷ y ∷ []) ≡ d
unfolding kind_in no_second
kind_without [] d x y h = refl
kind_without (e ∷ es) d x y h =
    let b = both_true (not (same_bytes (drop 1 e.spelling) (y ∷ []))) (no_second y es) h in
    rw (kind_in, second_not e.spelling x y (not-true _ b.0)) (kind_without es d x y b.1)

-- neither a slash nor a quote is one
pub sign_second : (x b : ℕ) → eqb (kind_in signs Kinds.Eof (x ∷ b ∷ [])) Kinds.Eof ≡ false → (eqb b 47 ≡ false) × (eqb b 34 ≡ false)
unfolding no_second signs same_bytes
sign_second x b h = (by 47 (kind_without signs Kinds.Eof x 47 refl), by 34 (kind_without signs Kinds.Eof x 34 refl))
  where
    by : (y : ℕ) → kind_in signs Kinds.Eof (x ∷ y ∷ []) ≡ Kinds.Eof → eqb b y ≡ false
    by y e = false_by (eqb b y) (λ g. true≢false (rw (eqb-true b y g, e) at h))
