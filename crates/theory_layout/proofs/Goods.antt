-- Names, strings, numbers, words and signs are read as themselves in front of a blank.
use mathlib.Core.Path.{◌≡◌, refl, sym, ap, ◌∙◌, subst}
use mathlib.Core.Bool.{Bool, true, false, cond, not, ◌&&◌, ◌||◌, true≢false}
use mathlib.Core.List.{List, [], ◌∷◌, ◌++◌, map, append_assoc}
use Prim.Native.Nat.{ℕ, zero, suc, ◌+◌, ◌-◌, ◌*◌, ◌/◌, ◌%◌, ◌^◌, ◌≤◌, ◌<◌}
use native.Mathlib.Nat.{zero-add}
use native.Mathlib.Omega.{arith}
use lib.Dec.{eqb, leb, ltb}
use lib.ListN.{length, take, drop, get_or, length-append}
use lib.Seq.{take-append_seam}
use borrow.Author.Tests.{leb-true, eqb-true, eqb-false, eq-eqb, ne_eqb, le-leb, lt-leb, ltb-true, ltb-false, lt-ltb, le-ltb}
use Rattle.rules.specs.Text
use Rattle.rules.specs.Text.{front, is_blank, within, valid}
use Rattle.rules.specs.Kinds
use Rattle.rules.specs.Kinds.{Identifier, StringLiteral, Number, Eof, reserved, signs, same_bytes, kind_in, is_made}
use Rattle.rules.specs.Rows.{Row, bits_of, spelling, value_bits}
use Rattle.rules.specs.Lex
use Rattle.rules.specs.Lex.{Piece, blank, row, piece, decided_at, beginning, is_digit, is_letter, is_word, word, digit_value, spelt, largest, number_of, decimal as plain_number, number, dashed, known, item}
use Rattle.theory_machine.specs.Items.{is_known}
use Rattle.theory_machine.proofs.Same.{known_item}
use Rattle.rules_decimal.specs.Decimal.{digits, decimal, signed}
use Rattle.theory_decimal.proofs.Decimals.{signed_low, signed_high}
use Rattle.rules.specs.Tree.{Tok, sign, name, string, value, kind_of, bits_in, tok_of}
use Rattle.laws.proofs.Tests.{both_true, either}
use Rattle.laws.proofs.Fronts.{front_in, front_out}
use Rattle.laws.proofs.Valid.{all_low, is_valid, valid_both, valid_one}
use Rattle.rules_layout.specs.Rows.{spelling_in}
use Rattle.rules_layout.specs.Bytes.{spelled}
use Rattle.theory_layout.proofs.Scanned.{Good}
use Rattle.theory_layout.proofs.Shape.{is_fixed}

-- ---- blanks

-- what holds of each of the six holds of a blank
by_blank : (C : ℕ → Type 0) → C 9 → C 10 → C 11 → C 12 → C 13 → C 32 → (b : ℕ) → is_blank b ≡ true → C b
unfolding is_blank
by_blank C c9 c10 c11 c12 c13 c32 b e =
    either (within 9 13 b) (eqb b 32) e
    (λ h. low b (leb-true 9 b (both_true (leb 9 b) (leb b 13) h).0) (leb-true b 13 (both_true (leb 9 b) (leb b 13) h).1))
    (λ h. subst C (sym (eqb-true b 32 h)) c32)
  where
    is : (b n : ℕ) → b ≡ n → C n → C b
    is b n e c = subst C (sym e) c

    low : (b : ℕ) → 9 ≤ b → b ≤ 13 → C b
    low b x y = go (eqb b 9) (eqb b 10) (eqb b 11) (eqb b 12) refl refl refl refl
      where
        go : (p q r s : Bool) → eqb b 9 ≡ p → eqb b 10 ≡ q → eqb b 11 ≡ r → eqb b 12 ≡ s → C b
        go true q r s f g h i = is b 9 (eqb-true b 9 f) c9
        go false true r s f g h i = is b 10 (eqb-true b 10 g) c10
        go false false true s f g h i = is b 11 (eqb-true b 11 h) c11
        go false false false true f g h i = is b 12 (eqb-true b 12 i) c12
        go false false false false f g h i = is b 13 (omega (arith, eqb-false b 9 f, eqb-false b 10 g, eqb-false b 11 h, eqb-false b 12 i)) c13

blank_ends : (b : ℕ) → is_blank b ≡ true → is_word b ≡ false
unfolding is_word is_letter is_digit
blank_ends b e = by_blank (λ b. is_word b ≡ false) refl refl refl refl refl refl b e

-- ---- names

module _ (p : ℕ → Bool) where
  -- bytes that all pass a test, and one that does not
  front_all : (w : List ℕ) (b : ℕ) (s : List ℕ) → front p w ≡ length w → p b ≡ false → front p (w ++ (b ∷ s)) ≡ length w
  front_all [] b s e f = front_out p b s f
  front_all (x ∷ w) b s e f = go (p x) refl (front_all w b s)
    where
      go : (q : Bool) → p x ≡ q → (front p w ≡ length w → p b ≡ false → front p (w ++ (b ∷ s)) ≡ length w)
          → front p (x ∷ (w ++ (b ∷ s))) ≡ suc (length w)
      go true g ih = front_in p x (w ++ (b ∷ s)) g ∙ ap suc (ih (omega (arith, e, front_in p x w g)) f)
      go false g ih = absurd (omega (arith, e, front_out p x w g))

  -- all of them pass, at each place
  front_each : (w : List ℕ) → front p w ≡ length w → (k : ℕ) → k < length w → p (get_or w k 0) ≡ true
  front_each [] e k h = absurd (omega arith)
  front_each (x ∷ w) e k h = go (p x) refl k h (front_each w)
    where
      go : (q : Bool) → p x ≡ q → (k : ℕ) → k < suc (length w)
          → (front p w ≡ length w → (k : ℕ) → k < length w → p (get_or w k 0) ≡ true) → p (get_or (x ∷ w) k 0) ≡ true
      go true g zero h ih = g
      go true g (suc k) h ih = ih (omega (arith, e, front_in p x w g)) k (omega arith)
      go false g k h ih = absurd (omega (arith, e, front_out p x w g))

-- a byte of a word is below 128
word_low : (b : ℕ) → is_word b ≡ true → b < 128
unfolding is_word is_letter is_digit
word_low b e =
    either _ (within 48 57 b) e
    (λ e. either _ (eqb b 95) e (λ e. either (within 65 90 b) (within 97 122 b) e (low 65 90 refl) (low 97 122 refl)) (λ e. omega (arith, eqb-true b 95 e)))
    (low 48 57 refl)
  where
    low : (x y : ℕ) → ltb y 128 ≡ true → within x y b ≡ true → b < 128
    low x y l e = omega (arith, ltb-true y 128 l, leb-true b y (both_true (leb x b) (leb b y) e).1)

letter_no_blank : (b : ℕ) → is_letter b ≡ true → (is_blank b ≡ false) × (eqb b 47 ≡ false)
unfolding is_letter is_blank
letter_no_blank b e =
    either _ (eqb b 95) e
    (λ e. either (within 65 90 b) (within 97 122 b) e (by 65 90 refl) (by 97 122 refl))
    (λ e. subst (λ n. ((within 9 13 n || eqb n 32) ≡ false) × (eqb n 47 ≡ false)) (sym (eqb-true b 95 e)) (refl, refl))
  where
    by : (x y : ℕ) → ltb 47 x ≡ true → within x y b ≡ true → ((within 9 13 b || eqb b 32) ≡ false) × (eqb b 47 ≡ false)
    by x y l e =
        let h : x ≤ b = leb-true x b (both_true (leb x b) (leb b y) e).0 in
        let m : 47 < x = ltb-true 47 x l in
        (rw (lt-leb b 13 (omega arith), le-leb 9 b (omega arith), ne_eqb b 32 (λ z. omega (arith, z))), ne_eqb b 47 (λ z. omega (arith, z)))

-- an identifier
pub record IsName (w : List ℕ) : Type 0 where
  pub letter : is_letter (get_or w 0 0) ≡ true
  pub letters : front is_word w ≡ length w
  pub free : kind_in reserved Identifier w ≡ Identifier

name_some : (w : List ℕ) → is_letter (get_or w 0 0) ≡ true → 0 < length w
unfolding is_letter
name_some [] e = absurd (true≢false (sym e))
name_some (b ∷ w) e = omega arith

name_reads : (w : List ℕ) → IsName w → (b : ℕ) (s : List ℕ) → is_blank b ≡ true → piece (w ++ (b ∷ s)) ≡ row Identifier (length w) 0 (length w)
unfolding piece beginning word
name_reads [] n b s e = absurd (omega (arith, name_some [] n.letter))
name_reads (x ∷ w) n b s e =
    let h : front is_word ((x ∷ w) ++ (b ∷ s)) ≡ length (x ∷ w) = front_all is_word (x ∷ w) b s n.letters (blank_ends b e) in
    let l : (is_blank x ≡ false) × (eqb x 47 ≡ false) = letter_no_blank x n.letter in
    rw (l.0, l.1, n.letter, h, take-append_seam (x ∷ w) (b ∷ s), n.free)

low_valid : (w : List ℕ) → ((k : ℕ) → k < length w → get_or w k 0 < 128) → valid w ≡ true
low_valid w h = is_valid w (omega (arith, all_low w h))

pub good_name : (w : List ℕ) → IsName w → Good (name w)
unfolding spelled kind_of bits_in tok_of spelling
good_name w n = record {
  some = name_some w n.letter;
  decided = length w;
  reads = name_reads w n;
  more = refl;
  named = λ t r e f g. rw e (ap name f);
  valid = low_valid w (λ k h. word_low (get_or w k 0) (front_each is_word w n.letters k h));
}

-- ---- strings

-- bytes that are a string, shown by themselves
pub record IsString (w : List ℕ) : Type 0 where
  pub some : 0 < length w
  pub decided : ℕ
  pub shown : item false w ≡ known (row StringLiteral (length w) 0 decided)
  pub valid : valid w ≡ true

whole_piece : (s : List ℕ) (p : Piece) → 0 < length s → item true s ≡ known p → piece s ≡ p
unfolding item
whole_piece [] p h e = absurd (omega arith)
whole_piece (b ∷ s) p h e = cc

string_reads : (w : List ℕ) (n : IsString w) (z : List ℕ) → piece (w ++ z) ≡ row StringLiteral (length w) 0 n.decided
unfolding is_known
string_reads w n z =
    whole_piece (w ++ z) _ (omega (arith, n.some, length-append w z)) (known_item true w z (rw n.shown refl) ∙ n.shown)

pub good_string : (w : List ℕ) → IsString w → Good (string w)
unfolding spelled kind_of bits_in tok_of spelling
good_string w n = record {
  some = n.some;
  decided = n.decided;
  reads = λ b s e. string_reads w n (b ∷ s);
  more = refl;
  named = λ t r e f g. rw e (ap string f);
  valid = n.valid;
}

-- ---- numbers

digit_is : (d : ℕ) → d < 10 → (is_digit (48 + d) ≡ true) × (digit_value (48 + d) ≡ d)
unfolding is_digit digit_value
digit_is d h =
    let e : within 48 57 (48 + d) ≡ true = rw (le-leb 48 (48 + d) (omega arith), le-leb (48 + d) 57 (omega arith)) in
    (e, rw e (omega arith))

spelt_more : (xs : List ℕ) (v b : ℕ) → spelt 10 v (xs ++ (b ∷ [])) ≡ spelt 10 v xs * 10 + digit_value b
unfolding spelt
spelt_more [] v b = refl
spelt_more (x ∷ xs) v b = spelt_more xs (v * 10 + digit_value x) b

front_none : (p : ℕ → Bool) → front p [] ≡ 0
unfolding front
front_none p = refl

front_more : (p : ℕ → Bool) (xs : List ℕ) (b : ℕ) → front p xs ≡ length xs → p b ≡ true → front p (xs ++ (b ∷ [])) ≡ length (xs ++ (b ∷ []))
front_more p [] b e f = front_in p b [] f ∙ ap suc (front_none p)
front_more p (x ∷ xs) b e f = go (p x) refl (front_more p xs b)
  where
    go : (q : Bool) → p x ≡ q → (front p xs ≡ length xs → p b ≡ true → front p (xs ++ (b ∷ [])) ≡ length (xs ++ (b ∷ [])))
        → front p (x ∷ (xs ++ (b ∷ []))) ≡ suc (length (xs ++ (b ∷ [])))
    go true g ih = front_in p x (xs ++ (b ∷ [])) g ∙ ap suc (ih (omega (arith, e, front_in p x xs g)) f)
    go false g ih = absurd (omega (arith, e, front_out p x xs g))

-- digits that spell n
record Spells (n : ℕ) (xs : List ℕ) : Type 0 where
  spells : spelt 10 0 xs ≡ n
  all : front is_digit xs ≡ length xs
  some : 0 < length xs

one : (n : ℕ) → n < 10 → Spells n ((48 + n) ∷ [])
unfolding spelt
one n h = record {
  spells = rw (digit_is n h).1 (omega arith);
  all = front_in is_digit (48 + n) [] (digit_is n h).0 ∙ ap suc (front_none is_digit);
  some = omega arith;
}

ten : (n : ℕ) (xs : List ℕ) → Spells (n / 10) xs → Spells n (xs ++ ((48 + n % 10) ∷ []))
ten n xs z = record {
  spells = spelt_more xs 0 (48 + n % 10) ∙ rw (z.spells, (digit_is (n % 10) (omega arith)).1) (omega arith);
  all = front_more is_digit xs (48 + n % 10) z.all (digit_is (n % 10) (omega arith)).0;
  some = omega (arith, length-append xs ((48 + n % 10) ∷ []));
}

digits_spell : (k n : ℕ) → n ≤ k → Spells n (digits k n)
unfolding digits spelt
digits_spell zero n h = one n (omega arith)
digits_spell (suc k) n h = go (ltb n 10) refl (digits_spell k (n / 10))
  where
    go : (b : Bool) → ltb n 10 ≡ b → (n / 10 ≤ k → Spells (n / 10) (digits k (n / 10)))
        → Spells n (elim b [ true ↦ (48 + n) ∷ [] | false ↦ digits k (n / 10) ++ ((48 + n % 10) ∷ []) ])
    go true e ih = one n (ltb-true n 10 e)
    go false e ih = ten n (digits k (n / 10)) (ih (omega (arith, ltb-false n 10 e)))

decimal_spells : (n : ℕ) → Spells n (decimal n)
unfolding decimal
decimal_spells n = digits_spell n n (omega arith)

digit_no_x : (b : ℕ) → is_digit b ≡ true → eqb b 120 ≡ false
unfolding is_digit
digit_no_x b e = ne_eqb b 120 (λ z. omega (arith, z, leb-true b 57 (both_true (leb 48 b) (leb b 57) e).1))

blank_no_digit : (b : ℕ) → is_blank b ≡ true → is_digit b ≡ false
unfolding is_digit
blank_no_digit b e = by_blank (λ b. is_digit b ≡ false) refl refl refl refl refl refl b e

and_no : (b : Bool) → b && false ≡ false
and_no true = refl
and_no false = refl

-- what the byte behind the first is, where all are digits and a blank follows
second : (xs : List ℕ) (b : ℕ) (s : List ℕ) → front is_digit xs ≡ length xs → 0 < length xs → is_blank b ≡ true
    → (is_digit (get_or (xs ++ (b ∷ s)) 0 0) ≡ true) × (eqb (get_or (xs ++ (b ∷ s)) 1 0) 120 ≡ false)
second [] b s e h f = absurd (omega arith)
second (x ∷ []) b s e h f = (front_each is_digit (x ∷ []) e 0 (omega arith), by_blank (λ b. eqb b 120 ≡ false) refl refl refl refl refl refl b f)
second (x ∷ y ∷ xs) b s e h f =
    (front_each is_digit (x ∷ y ∷ xs) e 0 (omega arith), digit_no_x y (front_each is_digit (x ∷ y ∷ xs) e 1 (omega arith)))

-- digits in front of a blank
plain_reads : (negative : Bool) (m n : ℕ) (xs : List ℕ) (b : ℕ) (s : List ℕ) → Spells n xs → n ≤ largest → is_blank b ≡ true
    → number negative m (xs ++ (b ∷ s)) ≡ row Number (m + length xs) (bits_of negative n) (m + length xs)
unfolding number plain_number number_of
plain_reads negative m n xs b s z h e =
    let f : front is_digit (xs ++ (b ∷ s)) ≡ length xs = front_all is_digit xs b s z.all (blank_no_digit b e) in
    rw ((second xs b s z.all z.some e).1, and_no (eqb (get_or (xs ++ (b ∷ s)) 0 0) 48), f, take-append_seam xs (b ∷ s), z.spells, le-leb n largest h)

digit_begins : (x : ℕ) → is_digit x ≡ true → (is_blank x ≡ false) × (eqb x 47 ≡ false) × (is_letter x ≡ false)
unfolding is_digit is_blank is_letter
digit_begins x e =
    let h : 48 ≤ x = leb-true 48 x (both_true (leb 48 x) (leb x 57) e).0 in
    let m : x ≤ 57 = leb-true x 57 (both_true (leb 48 x) (leb x 57) e).1 in (
      rw (lt-leb x 13 (omega arith), le-leb 9 x (omega arith), ne_eqb x 32 (λ z. omega (arith, z))),
      ne_eqb x 47 (λ z. omega (arith, z)),
      rw (lt-leb 65 x (omega arith), lt-leb 97 x (omega arith), ne_eqb x 95 (λ z. omega (arith, z))),
    )

-- a number from 0 on
natural_reads : (n : ℕ) (xs : List ℕ) (b : ℕ) (s : List ℕ) → Spells n xs → n ≤ largest → is_blank b ≡ true
    → piece (xs ++ (b ∷ s)) ≡ row Number (length xs) n (length xs)
unfolding piece beginning bits_of
natural_reads n xs b s z h e =
    let d : is_digit (get_or (xs ++ (b ∷ s)) 0 0) ≡ true = (second xs b s z.all z.some e).0 in
    let k : (is_blank (get_or (xs ++ (b ∷ s)) 0 0) ≡ false) × (eqb (get_or (xs ++ (b ∷ s)) 0 0) 47 ≡ false) × (is_letter (get_or (xs ++ (b ∷ s)) 0 0) ≡ false) =
    digit_begins (get_or (xs ++ (b ∷ s)) 0 0) d in
    rw (k.0, k.1, k.2, d) (plain_reads false 0 n xs b s z h e ∙ rw zero-add)

dash_digit : {n : ℕ} (xs : List ℕ) (b : ℕ) (s : List ℕ) → Spells n xs → is_blank b ≡ true → is_digit (get_or (45 ∷ (xs ++ (b ∷ s))) 1 0) ≡ true
dash_digit xs b s z e = (second xs b s z.all z.some e).0

-- a number below 0, with its sign
negative_reads : (n : ℕ) (xs : List ℕ) (b : ℕ) (s : List ℕ) → Spells n xs → n ≤ largest → is_blank b ≡ true
    → piece (45 ∷ (xs ++ (b ∷ s))) ≡ row Number (1 + length xs) (bits_of true n) (1 + length xs)
unfolding piece beginning dashed is_blank is_letter is_digit
negative_reads n xs b s z h e =
    rw (dash_digit xs b s z e) (plain_reads true 1 n xs b s z h e)

digit_low : (b : ℕ) → is_digit b ≡ true → b < 128
unfolding is_digit
digit_low b e = omega (arith, leb-true b 57 (both_true (leb 48 b) (leb b 57) e).1)

digits_valid : {n : ℕ} (xs : List ℕ) → Spells n xs → valid xs ≡ true
digits_valid xs z = low_valid xs (λ k h. digit_low (get_or xs k 0) (front_each is_digit xs z.all k h))

signed_natural : (n : ℕ) → n ≤ largest → signed n ≡ decimal n
signed_natural n h = signed_low n (omega arith)

signed_negative : (v : ℕ) → 0 < v → v ≤ largest → signed (2 ^ 64 - v) ≡ 45 ∷ decimal v
signed_negative v p h = signed_high (2 ^ 64 - v) (omega arith) ∙ ap (λ (n : ℕ). 45 ∷ decimal n) (omega arith)

good_natural : (n : ℕ) → n ≤ largest → Good (value n)
unfolding spelled kind_of bits_in tok_of value_bits
good_natural n h = record {
  some = rw (signed_natural n h) z.some;
  decided = length (decimal n);
  reads = λ b s e. rw (signed_natural n h) (natural_reads n (decimal n) b s z h e);
  more = refl;
  named = λ t r e f g. rw e (ap value g);
  valid = rw (signed_natural n h) (digits_valid (decimal n) z);
}
  where
    z : Spells n (decimal n)
    z = decimal_spells n

negative_bits : (v : ℕ) → 0 < v → v ≤ largest → bits_of true v ≡ 2 ^ 64 - v
unfolding bits_of
negative_bits v p h = omega arith

good_negative : (v : ℕ) → 0 < v → v ≤ largest → Good (value (2 ^ 64 - v))
unfolding spelled kind_of bits_in tok_of value_bits
good_negative v p h = record {
  some = rw (signed_negative v p h) (omega arith);
  decided = 1 + length (decimal v);
  reads = λ b s e. rw (signed_negative v p h) (negative_reads v (decimal v) b s z h e ∙ long);
  more = refl;
  named = λ t r e f g. rw e (ap value g);
  valid = rw (signed_negative v p h) (valid_both (45 ∷ []) (decimal v) (valid_one 45 (omega arith)) (digits_valid (decimal v) z));
}
  where
    z : Spells v (decimal v)
    z = decimal_spells v

    bits : bits_of true v ≡ 2 ^ 64 - v
    bits = negative_bits v p h

    long : row Number (1 + length (decimal v)) (bits_of true v) (1 + length (decimal v)) ≡ row Number (suc (length (decimal v))) (2 ^ 64 - v) (1 + length (decimal v))
    long = rw bits (ap (λ (n : ℕ). row Number n (2 ^ 64 - v) (1 + length (decimal v))) (omega arith))

-- A number's bits are read as they are.
pub good_value : (negative : Bool) (v : ℕ) → v ≤ largest → Good (value (bits_of negative v))
unfolding bits_of
good_value false v h = good_natural v h
good_value true zero h = good_natural 0 h
good_value true (suc v) h = subst (λ (n : ℕ). Good (value n)) (sym (negative_bits (suc v) (omega arith) h)) (good_negative (suc v) (omega arith) h)

-- ---- reserved words and signs

-- the numbers below n
up_to : ℕ → List ℕ
up_to zero = []
up_to (suc n) = n ∷ up_to n

-- the kinds of rows
kinds : List ℕ
kinds = up_to 53

-- what is read of a fixed kind in front of bytes, and what is to be read; of the others nothing is asked
read_of : List ℕ → ℕ → Piece
read_of s k = cond (is_fixed k) (piece (spelled (sign k) ++ s)) blank

wanted_of : ℕ → Piece
wanted_of k = cond (is_fixed k) (row k (length (spelled (sign k))) 0 (decided_at (piece (spelled (sign k) ++ (32 ∷ []))))) blank

read_nine : (s : List ℕ) → map (read_of (9 ∷ s)) kinds ≡ map wanted_of kinds
unfolding
    is_fixed is_made piece beginning spelled spelling_in signs reserved word is_word is_letter is_digit is_blank Lex.maybe_two Lex.sign
    Lex.single Lex.slashed Lex.dashed kind_in same_bytes front decided_at read_of wanted_of kinds up_to
read_nine s = refl

read_ten : (s : List ℕ) → map (read_of (10 ∷ s)) kinds ≡ map wanted_of kinds
unfolding
    is_fixed is_made piece beginning spelled spelling_in signs reserved word is_word is_letter is_digit is_blank Lex.maybe_two Lex.sign
    Lex.single Lex.slashed Lex.dashed kind_in same_bytes front decided_at read_of wanted_of kinds up_to
read_ten s = refl

read_eleven : (s : List ℕ) → map (read_of (11 ∷ s)) kinds ≡ map wanted_of kinds
unfolding
    is_fixed is_made piece beginning spelled spelling_in signs reserved word is_word is_letter is_digit is_blank Lex.maybe_two Lex.sign
    Lex.single Lex.slashed Lex.dashed kind_in same_bytes front decided_at read_of wanted_of kinds up_to
read_eleven s = refl

read_twelve : (s : List ℕ) → map (read_of (12 ∷ s)) kinds ≡ map wanted_of kinds
unfolding
    is_fixed is_made piece beginning spelled spelling_in signs reserved word is_word is_letter is_digit is_blank Lex.maybe_two Lex.sign
    Lex.single Lex.slashed Lex.dashed kind_in same_bytes front decided_at read_of wanted_of kinds up_to
read_twelve s = refl

read_thirteen : (s : List ℕ) → map (read_of (13 ∷ s)) kinds ≡ map wanted_of kinds
unfolding
    is_fixed is_made piece beginning spelled spelling_in signs reserved word is_word is_letter is_digit is_blank Lex.maybe_two Lex.sign
    Lex.single Lex.slashed Lex.dashed kind_in same_bytes front decided_at read_of wanted_of kinds up_to
read_thirteen s = refl

read_space : (s : List ℕ) → map (read_of (32 ∷ s)) kinds ≡ map wanted_of kinds
unfolding
    is_fixed is_made piece beginning spelled spelling_in signs reserved word is_word is_letter is_digit is_blank Lex.maybe_two Lex.sign
    Lex.single Lex.slashed Lex.dashed kind_in same_bytes front decided_at read_of wanted_of kinds up_to
read_space s = refl

same_at : {A : Type 0} (f g : ℕ → A) (n k : ℕ) → map f (up_to n) ≡ map g (up_to n) → k < n → f k ≡ g k
unfolding up_to
same_at f g zero k e h = absurd (omega arith)
same_at f g (suc n) k e h = go (eqb k n) refl (same_at f g n k)
  where
    first : f n ≡ g n
    first = cc

    rest : map f (up_to n) ≡ map g (up_to n)
    rest = cc

    go : (b : Bool) → eqb k n ≡ b → (map f (up_to n) ≡ map g (up_to n) → k < n → f k ≡ g k) → f k ≡ g k
    go true x ih = rw (eqb-true k n x) first
    go false x ih = ih rest (omega (arith, eqb-false k n x))

fixed_kind : (k : ℕ) → is_fixed k ≡ true → k < 53
unfolding is_fixed is_made
fixed_kind k e = omega (arith, leb-true k 52 (both_true (leb k 52) _ (both_true (is_made k) _ e).0).0)

fixed_reads : (k : ℕ) → is_fixed k ≡ true → (b : ℕ) (s : List ℕ) → is_blank b ≡ true
    → piece (spelled (sign k) ++ (b ∷ s)) ≡ row k (length (spelled (sign k))) 0 (decided_at (piece (spelled (sign k) ++ (32 ∷ []))))
unfolding read_of wanted_of kinds
fixed_reads k e b s f =
    by_blank (λ b. piece (spelled (sign k) ++ (b ∷ s)) ≡ row k (length (spelled (sign k))) 0 (decided_at (piece (spelled (sign k) ++ (32 ∷ [])))))
    (of 9 (read_nine s)) (of 10 (read_ten s)) (of 11 (read_eleven s)) (of 12 (read_twelve s)) (of 13 (read_thirteen s)) (of 32 (read_space s)) b f
  where
    of : (b : ℕ) → map (read_of (b ∷ s)) (up_to 53) ≡ map wanted_of (up_to 53)
        → piece (spelled (sign k) ++ (b ∷ s)) ≡ row k (length (spelled (sign k))) 0 (decided_at (piece (spelled (sign k) ++ (32 ∷ []))))
    of b h = rw e at (same_at (read_of (b ∷ s)) wanted_of 53 k h (fixed_kind k e))

-- spelled with at least a byte, all of them below 128
sound_of : ℕ → Bool
sound_of k = cond (is_fixed k) (ltb 0 (length (spelled (sign k))) && valid (spelled (sign k))) true

all_sound : map sound_of kinds ≡ map (λ (k : ℕ). true) kinds
unfolding
    is_fixed is_made spelled spelling_in signs reserved sound_of kinds up_to valid Text.valid_bytes Text.valid_from Text.char_at Text.line_in Text.met Text.utf8
all_sound = refl

fixed_sound : (k : ℕ) → is_fixed k ≡ true → (ltb 0 (length (spelled (sign k))) && valid (spelled (sign k))) ≡ true
unfolding sound_of kinds
fixed_sound k e = rw e at (same_at sound_of (λ (k : ℕ). true) 53 k all_sound (fixed_kind k e))

-- such a kind is no name's, string's or number's, nor Eof
pub record Apart (k : ℕ) : Type 0 where
  pub name : eqb k Identifier ≡ false
  pub string : eqb k StringLiteral ≡ false
  pub number : eqb k Number ≡ false
  pub eof : eqb k Eof ≡ false

pub fixed_apart : (k : ℕ) → is_fixed k ≡ true → Apart k
unfolding is_fixed
fixed_apart k e = go (eqb k Identifier) (eqb k StringLiteral) (eqb k Number) (eqb k Eof) refl refl refl refl (both_true (is_made k) _ e).1
  where
    go : (a b c d : Bool) → eqb k Identifier ≡ a → eqb k StringLiteral ≡ b → eqb k Number ≡ c → eqb k Eof ≡ d
        → not ((a || b) || (c || d)) ≡ true → Apart k
    go true b c d p q r s h = absurd (true≢false (sym h))
    go false true c d p q r s h = absurd (true≢false (sym h))
    go false false true d p q r s h = absurd (true≢false (sym h))
    go false false false true p q r s h = absurd (true≢false (sym h))
    go false false false false p q r s h = record { name = p; string = q; number = r; eof = s }

pub good_sign : (k : ℕ) → is_fixed k ≡ true → Good (sign k)
unfolding kind_of bits_in tok_of
good_sign k e = record {
  some = ltb-true 0 (length (spelled (sign k))) (both_true _ (valid (spelled (sign k))) (fixed_sound k e)).0;
  decided = decided_at (piece (spelled (sign k) ++ (32 ∷ [])));
  reads = fixed_reads k e;
  more = (fixed_apart k e).eof;
  named = λ t r f g h. rw (f, (fixed_apart k e).name, (fixed_apart k e).string, (fixed_apart k e).number);
  valid = (both_true (ltb 0 (length (spelled (sign k)))) (valid (spelled (sign k))) (fixed_sound k e)).1;
}
