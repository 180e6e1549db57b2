-- What the class of a byte says of it, and what a table of classes does: a word's bytes, a sign of one byte, or a class.
use mathlib.Core.Path.{◌≡◌, refl, sym, ◌∙◌}
use mathlib.Core.Bool.{Bool, true, false, cond, not, ◌&&◌}
use mathlib.Core.List.{List, [], ◌∷◌}
use Prim.Native.Nat.{ℕ, ◌-◌, ◌≤◌, ◌<◌}
use native.Mathlib.Omega.{arith}
use lib.ListN.{get_or}
use lib.Dec.{eqb, leb, ltb}
use borrow.Author.Tests.{eqb-true, eqb-false, leb-true, ltb-true, not-true, eq-eqb, le-leb, lt-leb, lt-ltb, le-ltb}
use Rattle.rules.specs.Text.{is_blank}
use Rattle.rules.specs.Kinds.{Eof, signs, same_bytes, kind_in}
use Rattle.rules.specs.Lex.{is_letter, is_digit, is_word, maybe_two, is_lone}
use Rattle.scan_words.specs.Class.{Digit, class_of, mark_of, Classes}
use Rattle.laws.specs.Tests.{all_below}
use Rattle.laws.proofs.Tests.{below, both_true}

-- ---- what a class says

-- a byte of class k meets a test
unfoldable pub class_test : ℕ → (ℕ → Bool) → ℕ → Bool
class_test k p b = cond (eqb (class_of b) k) (p b) true

pub class_byte : (k : ℕ) (p : ℕ → Bool) → all_below (class_test k p) 256 ≡ true → (b : ℕ) → b < 256 → class_of b ≡ k → p b ≡ true
unfolding class_test
class_byte k p a b h e = rw (eq-eqb (class_of b) k e) at (below (class_test k p) 256 a b h)

pub class_two : (b : ℕ) → b < 256 → class_of b ≡ 7 → maybe_two b ≡ true
unfolding class_test class_of is_blank is_letter is_digit maybe_two kind_in signs same_bytes
class_two = class_byte 7 maybe_two refl

pub class_slash : (b : ℕ) → b < 256 → class_of b ≡ 4 → b ≡ 47
unfolding class_test class_of is_blank is_letter is_digit maybe_two kind_in signs same_bytes
class_slash b h e = eqb-true _ _ (class_byte 4 (λ b. eqb b 47) refl b h e)

pub class_dash : (b : ℕ) → b < 256 → class_of b ≡ 5 → b ≡ 45
unfolding class_test class_of is_blank is_letter is_digit maybe_two kind_in signs same_bytes
class_dash b h e = eqb-true _ _ (class_byte 5 (λ b. eqb b 45) refl b h e)

pub class_quote : (b : ℕ) → b < 256 → class_of b ≡ 6 → b ≡ 34
unfolding class_test class_of is_blank is_letter is_digit maybe_two kind_in signs same_bytes
class_quote b h e = eqb-true _ _ (class_byte 6 (λ b. eqb b 34) refl b h e)

pub class_digit : (b : ℕ) → b < 256 → class_of b ≡ 1 → is_digit b ≡ true
unfolding class_test class_of is_blank is_letter is_digit maybe_two kind_in signs same_bytes
class_digit = class_byte 1 is_digit refl

-- ---- what a table says

-- a mark says whether the byte is in words
word_test : ℕ → Bool
word_test b = cond (is_word b) (leb (mark_of b) Digit) (ltb Digit (mark_of b))

word_test_lem : all_below word_test 256 ≡ true
unfolding word_test mark_of class_of is_blank is_word is_letter is_digit maybe_two kind_in signs same_bytes
word_test_lem = refl

module _ {t : List ℕ} (c : Classes t) (b : ℕ) (h : b < 256) where
  by_mark : cond (is_word b) (leb (get_or t b 0) Digit) (ltb Digit (get_or t b 0)) ≡ true
  unfolding word_test
  by_mark = rw (c.mark b h) (below word_test 256 word_test_lem b h)

  pub mark_word : get_or t b 0 ≤ Digit → is_word b ≡ true
  mark_word e = pick (is_word b) (rw (le-leb (get_or t b 0) Digit e, le-ltb Digit (get_or t b 0) e) at by_mark)
    where
      pick : (p : Bool) → cond p true false ≡ true → p ≡ true
      pick true q = refl
      pick false q = q

  pub mark_other : Digit < get_or t b 0 → is_word b ≡ false
  mark_other e = pick (is_word b) (rw (lt-leb (get_or t b 0) Digit e, lt-ltb Digit (get_or t b 0) e) at by_mark)
    where
      pick : (p : Bool) → cond p false true ≡ true → p ≡ false
      pick true q = sym q
      pick false q = refl

-- the kind of a sign of one byte
abbrev pub one_sign : ℕ → ℕ
one_sign b = kind_in signs Eof (b ∷ [])

-- m is a byte; above 32 it is the kind of a sign of one byte, counted from 32, and else the class of b
judged : ℕ → ℕ → Bool
judged m b =
    ltb m 256
    && cond (ltb 32 m) ((eqb (m - 32) (one_sign b) && eqb (class_of b) 8) && (not (eqb (one_sign b) Eof) && not (is_lone b))) (eqb m (class_of b) && leb (class_of b) 7)

mark_test : ℕ → Bool
mark_test b = judged (mark_of b) b

mark_test_lem : all_below mark_test 256 ≡ true
unfolding mark_test judged mark_of class_of is_blank is_letter is_digit maybe_two kind_in signs same_bytes
mark_test_lem = refl

-- a sign of one byte, of kind k, that is the first byte of no other
pub record Alone (b k : ℕ) : Type 0 where
  pub kind : k ≡ one_sign b
  pub class : class_of b ≡ 8
  pub some : one_sign b ≡ Eof → ⊥
  pub plain : is_lone b ≡ false

module _ {t : List ℕ} (c : Classes t) (b : ℕ) (h : b < 256) where
  abbrev mark : ℕ
  mark = get_or t b 0

  marked : judged mark b ≡ true
  unfolding mark_test
  marked = rw (c.mark b h) (below mark_test 256 mark_test_lem b h)

  pub mark_size : mark < 256
  unfolding judged
  mark_size = ltb-true _ _ (both_true _ _ marked).0

  pub alone : 32 < mark → Alone b (mark - 32)
  unfolding judged
  alone l =
      let e = both_true _ _ (both_true (ltb mark 256) _ (rw (lt-ltb 32 mark l) at marked)).1 in
      let x = both_true _ _ e.0 in
      let y = both_true _ _ e.1 in
      record {
        kind = eqb-true _ _ x.0;
        class = eqb-true _ _ x.1;
        some = eqb-false _ _ (not-true _ y.0);
        plain = not-true _ y.1;
      }

  pub low : mark ≤ 32 → (mark ≡ class_of b) × (class_of b ≤ 7)
  unfolding judged
  low l =
      let e = both_true (eqb mark (class_of b)) (leb (class_of b) 7) (both_true (ltb mark 256) _ (rw (le-ltb 32 mark l) at marked)).1 in
      (eqb-true _ _ e.0, leb-true _ _ e.1)

  pub mark_class : (k : ℕ) → mark ≡ k → k < 32 → class_of b ≡ k
  mark_class k e l = sym (low (omega arith)).0 ∙ e
