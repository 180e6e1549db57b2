-- Rows and the tokens that they tell: each table tells some tokens, and what a row's words say is what its token says.
use mathlib.Core.Path.{◌≡◌, refl, sym, ap, ◌∙◌}
use mathlib.Core.Bool.{Bool, true, false, cond, true≢false}
use mathlib.Core.List.{List, [], ◌∷◌}
use Prim.Native.Nat.{ℕ, zero, suc, ◌+◌, ◌*◌, ◌/◌, ◌%◌, ◌^◌, ◌≤◌, ◌<◌}
use native.Mathlib.Nat.{not-suc-le-zero, le_of_suc-le-suc, add-suc, suc-add, add-zero, zero-add, mul-add-mod_self_right, mul-add-div_right, mod-eq_of_lt, div-eq_of_lt}
use native.Mathlib.Omega.{arith}
use lib.Dec.{eqb, ltb}
use lib.ListN.{length, get_or, get_or-eq_default}
use borrow.Author.Tests.{lt-ltb, ltb-true, ltb-false, eq-eqb, eqb-true, eqb-false, ne_eqb}
use Rattle.rules.specs.Kinds.{Number, Eof}
use Rattle.rules.specs.Tree.{Tok, sign, value, kind_of, bits_in}
use Rattle.rules.specs.Parse.{tok_at, kind_at}
use Rattle.parse_nodes.specs.Post.{kind_word, Tells}

-- ---- the tokens of a table: a number with its value, and of any other row its kind

tok_in : List ℕ → ℕ → Tok
tok_in ws i = cond (eqb (get_or ws (i * 8) 0) Number) (value (get_or ws (i * 8 + 6) 0 * 2 ^ 32 + get_or ws (i * 8 + 5) 0)) (sign (get_or ws (i * 8) 0))

run : List ℕ → ℕ → ℕ → List Tok
run ws zero i = []
run ws (suc n) i = tok_in ws i ∷ run ws n (suc i)

run_long : (ws : List ℕ) (n i : ℕ) → length (run ws n i) ≡ n
unfolding run
run_long ws zero i = refl
run_long ws (suc n) i = ap suc (run_long ws n (suc i))

run_at : (ws : List ℕ) (n i k : ℕ) → k < n → get_or (run ws n i) k (sign Eof) ≡ tok_in ws (i + k)
unfolding run
run_at ws zero i k h = absurd (not-suc-le-zero h)
run_at ws (suc n) i zero h = rw add-zero
run_at ws (suc n) i (suc k) h = run_at ws n (suc i) k (le_of_suc-le-suc h) ∙ ap (tok_in ws) (suc-add i k ∙ sym (add-suc i k))

tok_kind : (ws : List ℕ) (i : ℕ) → kind_of (tok_in ws i) ≡ get_or ws (i * 8) 0
unfolding tok_in kind_of
tok_kind ws i = go (eqb (get_or ws (i * 8) 0) Number) refl
  where
    go : (b : Bool) → eqb (get_or ws (i * 8) 0) Number ≡ b → kind_of (cond b (value (get_or ws (i * 8 + 6) 0 * 2 ^ 32 + get_or ws (i * 8 + 5) 0)) (sign (get_or ws (i * 8) 0))) ≡ get_or ws (i * 8) 0
    go true e = sym (eqb-true (get_or ws (i * 8) 0) Number e)
    go false e = refl

tok_bits : (ws : List ℕ) (i : ℕ) → get_or ws (i * 8) 0 ≡ Number → bits_in (tok_in ws i) ≡ get_or ws (i * 8 + 6) 0 * 2 ^ 32 + get_or ws (i * 8 + 5) 0
unfolding tok_in bits_in
tok_bits ws i e = rw (eq-eqb (get_or ws (i * 8) 0) Number e)

pub tokens : List ℕ → ℕ → List Tok
tokens ws n = run ws n 0

-- each table tells some tokens
pub tells_some : (ws : List ℕ) (n : ℕ) → Tells (tokens ws n) ws n
unfolding tokens
tells_some ws n = record {
  long = run_long ws n 0;
  kinds = λ i h. ap kind_of (run_at ws n 0 i h ∙ ap (tok_in ws) (zero-add i)) ∙ tok_kind ws i;
  values = λ i h e. ap bits_in (run_at ws n 0 i h ∙ ap (tok_in ws) (zero-add i)) ∙ tok_bits ws i e;
}

-- ---- a row

module _ (ts : List Tok) (ws : List ℕ) (n : ℕ) (tells : Tells ts ws n) where
  -- what the words say of a row's kind is what the tokens say
  pub tells_kind : (i : ℕ) → kind_word ws n i ≡ kind_at ts i
  unfolding kind_word kind_of
  tells_kind i = go (ltb i n) refl
    where
      go : (b : Bool) → ltb i n ≡ b → cond b (get_or ws (i * 8) 0) Eof ≡ kind_at ts i
      go true e = sym (tells.kinds i (ltb-true i n e))
      go false e =
          let h : length ts ≤ i = omega (arith, tells.long, ltb-false i n e) in
          sym (ap kind_of (get_or-eq_default ts (sign Eof) h))

  -- and of a number's value
  pub tells_value : (i : ℕ) → i < n → get_or ws (i * 8) 0 ≡ Number → bits_in (tok_at ts i) ≡ get_or ws (i * 8 + 6) 0 * 2 ^ 32 + get_or ws (i * 8 + 5) 0
  tells_value i h e = tells.values i h e

-- a row in the table has the kind of its first word
pub word_at_lem : (ws : List ℕ) (n i : ℕ) → i < n → kind_word ws n i ≡ get_or ws (i * 8) 0
unfolding kind_word
word_at_lem ws n i h = rw (lt-ltb i n h)

-- a row whose kind passes a test that Eof fails is in the table
pub word_test : (ws : List ℕ) (n i : ℕ) (test : ℕ → Bool) → test Eof ≡ false → test (kind_word ws n i) ≡ true → i < n
unfolding kind_word
word_test ws n i test f e = go (ltb i n) refl e
  where
    go : (b : Bool) → ltb i n ≡ b → test (cond b (get_or ws (i * 8) 0) Eof) ≡ true → i < n
    go true q h = ltb-true i n q
    go false q h = let z : true ≡ false = sym h ∙ f in absurd (true≢false z)

-- a row whose kind is not Eof is in the table
pub word_here : (ws : List ℕ) (n i k : ℕ) → kind_word ws n i ≡ k → eqb k Eof ≡ false → i < n
word_here ws n i k e f = word_test ws n i (λ x. eqb x k) (eqb_other k f) (eq-eqb (kind_word ws n i) k e)
  where
    eqb_other : (k : ℕ) → eqb k Eof ≡ false → eqb Eof k ≡ false
    eqb_other k f = ne_eqb Eof k (λ e. eqb-false k Eof f (sym e))

-- ---- a number's words

pub low_word : (h l : ℕ) → l < 2 ^ 32 → (h * 2 ^ 32 + l) % 2 ^ 32 ≡ l
low_word h l f = mul-add-mod_self_right h (2 ^ 32) l ∙ mod-eq_of_lt f

pub high_word : (h l : ℕ) → l < 2 ^ 32 → (h * 2 ^ 32 + l) / 2 ^ 32 ≡ h
high_word h l f = mul-add-div_right {m = 2 ^ 32} (omega arith) h l ∙ rw (div-eq_of_lt f, add-zero)
