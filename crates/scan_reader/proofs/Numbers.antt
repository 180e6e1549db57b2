-- Laws of numbers at an index: what a numeral's digits spell behind a sign and `0x`, and what is told of it.
use mathlib.Core.Path.{◌≡◌, refl, sym, ap, ◌∙◌}
use mathlib.Core.Bool.{Bool, true, false, cond, ◌&&◌, ◌||◌}
use mathlib.Core.List.{List}
use Prim.Native.Nat.{ℕ, ◌+◌, ◌-◌, ◌≤◌, ◌<◌}
use native.Mathlib.Nat.{add-zero, add_assoc}
use native.Mathlib.Decide.{ℕ_discrete}
use native.Mathlib.Omega.{arith}
use lib.ListN.{length, drop, take, get_or}
use lib.Seq.{drop-drop, get_or-drop}
use lib.Dec.{eqb, leb, ltb}
use borrow.Author.Tests.{le-leb, lt-leb, leb-true, ne_eqb, eqb-true}
use Rattle.rules.specs.Text.{front, not_newline}
use Rattle.rules.specs.Kinds.{Number}
use Rattle.rules.specs.Rows.{bits_of}
use Rattle.rules.specs.Lex.{Piece, row, refused, known, decided_at, largest, number_of, spelt, decimal, hex, number, is_digit, is_hex_digit}
use Rattle.rules.specs.declared.Lexical.TheVariants.{NumberTooLarge, NoHexDigit}
use Rattle.laws.proofs.Tests.{both_true}
use Rattle.laws.proofs.Fronts.{front_on, front_drop, front_more, front_in_line, inside}
use Rattle.scan_runs.specs.Leaf.{digit_in, digits_of, spelt_front}
use Rattle.scan_runs.specs.declared.Digits.{Digits}
use Rattle.scan_runs.proofs.Runs.{number_clipped}
use Rattle.scan_reader.specs.Brief.{refusal_code, told, settled}
use Rattle.scan_reader.proofs.Settled.{nothing, settled_known, settled_unknown}

pub number_decided : (negative : Bool) (n v : ℕ) → decided_at (number_of negative n v) ≡ n
unfolding number_of decided_at
number_decided negative n v = pick (leb v largest)
  where
    pick : (p : Bool) → decided_at (cond p (row Number n (bits_of negative v) n) (refused NumberTooLarge 0 n)) ≡ n
    pick true = refl
    pick false = refl

-- ---- digits, m bytes behind the index a; u is what stands m bytes on

module _ (negative : Bool) (a m : ℕ) (u : List ℕ) where
  behind : (n : ℕ) → a + m + n - a ≡ m + n
  behind n = omega arith

  decimal_digits : decimal negative m u ≡ number_of negative ((digits_of false (a + m) u).end - a) (digits_of false (a + m) u).value
  unfolding decimal digits_of spelt_front digit_in
  decimal_digits = rw (behind (front is_digit u), number_clipped negative (m + front is_digit u) (spelt 10 0 (take (front is_digit u) u)))

  hex_none : (digits_of true (a + m) u).end ≡ a + m → hex negative m u ≡ refused NoHexDigit m m
  unfolding hex digits_of digit_in
  hex_none e = let z : front is_hex_digit u ≡ 0 = omega arith in rw z

  hex_digits : ((digits_of true (a + m) u).end ≡ a + m → ⊥) → hex negative m u
      ≡ number_of negative ((digits_of true (a + m) u).end - a) (digits_of true (a + m) u).value
  unfolding hex digits_of spelt_front digit_in
  hex_digits e =
      rw (ne_eqb (front is_hex_digit u) 0 (λ (z : front is_hex_digit u ≡ 0). e (rw z (add-zero (a + m)))))
      (rw (behind (front is_hex_digit u), number_clipped negative (m + front is_hex_digit u) (spelt 16 0 (take (front is_hex_digit u) u))))

digit_line : (h : Bool) → digit_in h 10 ≡ false
unfolding digit_in is_digit is_hex_digit
digit_line true = refl
digit_line false = refl

-- what the digits m bytes behind an index spell
abbrev pub digits_at : List ℕ → ℕ → ℕ → Bool → Digits
digits_at t a m h = digits_of h (a + m) (drop (a + m) t)

module _ (t : List ℕ) (a m : ℕ) where
  module _ (h : Bool) where
    pub digits_front : m ≤ front not_newline (drop a t) → (digits_at t a m h).end - a ≤ front not_newline (drop a t)
    unfolding digits_of
    digits_front l =
        let n = front (digit_in h) (drop (a + m) t) in
        let k : n ≤ front not_newline (drop (a + m) t) = front_in_line (digit_in h) (digit_line h) (drop (a + m) t) in
        let d : front not_newline (drop a t) ≡ m + front not_newline (drop (a + m) t) =
        rw (← drop-drop m a t) (front_drop not_newline m (drop a t) l) in
        omega arith

  byte_at : (k : ℕ) → get_or (drop m (drop a t)) k 0 ≡ get_or t (a + m + k) 0
  byte_at k = ap (λ (x : List ℕ). get_or x k 0) (drop-drop m a t) ∙ get_or-drop (a + m) t k 0

  module _ (negative : Bool) where
    pub decimal_is : decimal negative m (drop m (drop a t))
        ≡ number_of negative ((digits_at t a m false).end - a) (digits_at t a m false).value
    decimal_is = ap (decimal negative m) (drop-drop m a t) ∙ decimal_digits negative a m (drop (a + m) t)

    pub hex_is : ((digits_at t a m true).end ≡ a + m → ⊥) →
        hex negative m (drop m (drop a t)) ≡ number_of negative ((digits_at t a m true).end - a) (digits_at t a m true).value
    hex_is e = ap (hex negative m) (drop-drop m a t) ∙ hex_digits negative a m (drop (a + m) t) e

    pub hex_is_none : (digits_at t a m true).end ≡ a + m → hex negative m (drop m (drop a t)) ≡ refused NoHexDigit m m
    hex_is_none e = ap (hex negative m) (drop-drop m a t) ∙ hex_none negative a m (drop (a + m) t) e

    pub number_is_hex : (eqb (get_or t (a + m) 0) 48 && eqb (get_or t (a + m + 1) 0) 120) ≡ true →
        number negative m (drop m (drop a t)) ≡ hex negative (m + 2) (drop (m + 2) (drop a t))
    unfolding number
    number_is_hex e = rw (byte_at 0, byte_at 1, add-zero, e, drop-drop 2 m (drop a t))

    pub number_is_decimal : (eqb (get_or t (a + m) 0) 48 && eqb (get_or t (a + m + 1) 0) 120) ≡ false →
        number negative m (drop m (drop a t)) ≡ decimal negative m (drop m (drop a t))
    unfolding number
    number_is_decimal e = rw (byte_at 0, byte_at 1, add-zero, e)

  -- the bytes of `0x` are bytes of the line
  pub hex_front : m ≤ front not_newline (drop a t) → (eqb (get_or t (a + m) 0) 48 && eqb (get_or t (a + m + 1) 0) 120) ≡ true →
      m + 2 ≤ front not_newline (drop a t)
  hex_front l e =
      let b = both_true (eqb (get_or t (a + m) 0) 48) (eqb (get_or t (a + m + 1) 0) 120) e in
      let x : get_or t (a + m) 0 ≡ 48 = eqb-true _ _ b.0 in
      let y : get_or t (a + (m + 1)) 0 ≡ 120 = rw (← add_assoc a m 1) (eqb-true _ _ b.1) in
      let i : a + m < length t = inside t (a + m) 48 x (omega arith) in
      let j : a + (m + 1) < length t = inside t (a + (m + 1)) 120 y (omega arith) in
      let one : m + 1 ≤ front not_newline (drop a t) = front_more not_newline t a m l i (rw x) in
      let two : m + 1 + 1 ≤ front not_newline (drop a t) = front_more not_newline t a (m + 1) one j (rw y) in
      omega arith

-- ---- a number, m bytes behind the index

-- a digit stands inside the text
pub digit_inside : (t : List ℕ) (i : ℕ) → is_digit (get_or t i 0) ≡ true → i < length t
unfolding is_digit
digit_inside t i e =
    let b = both_true (leb 48 (get_or t i 0)) (leb (get_or t i 0) 57) e in
    inside t i (get_or t i 0) refl (omega (arith, leb-true 48 (get_or t i 0) b.0))

-- how many bytes stand before its digits, behind its sign
abbrev pub opening : Bool → ℕ
opening h = cond h 2 0

abbrev pub hex_at : List ℕ → ℕ → Bool
hex_at t i = eqb (get_or t i 0) 48 && eqb (get_or t (i + 1) 0) 120

pub opened : (t : List ℕ) (i : ℕ) (h : Bool) → h ≡ hex_at t i → i < length t → i + opening h ≤ length t
opened t i true x l =
    let b = both_true (eqb (get_or t i 0) 48) (eqb (get_or t (i + 1) 0) 120) (sym x) in
    omega (arith, inside t (i + 1) 120 (eqb-true _ _ b.1) (omega arith))
opened t i false x l = omega arith

module _ (t : List ℕ) (a m : ℕ) (i : a + m < length t) (g : is_digit (get_or t (a + m) 0) ≡ true) (negative : Bool) where
  none_at : (h : Bool) → h ≡ hex_at t (a + m) → (digits_at t a (m + opening h) h).end ≡ a + (m + opening h) →
      number negative m (drop m (drop a t)) ≡ refused NoHexDigit (m + opening h) (m + opening h)
  unfolding digits_of digit_in
  none_at true x z = number_is_hex t a m negative (sym x) ∙ hex_is_none t a (m + 2) negative z
  none_at false x z = absurd (some (rw (add-zero m) at z))
    where
      some : a + m + front is_digit (drop (a + m) t) ≡ a + m → ⊥
      some e = omega (arith, front_on is_digit t (a + m) i g)

  some_at : (h : Bool) → h ≡ hex_at t (a + m) → ((digits_at t a (m + opening h) h).end ≡ a + (m + opening h) → ⊥) →
      number negative m (drop m (drop a t))
      ≡ number_of negative ((digits_at t a (m + opening h) h).end - a) (digits_at t a (m + opening h) h).value
  some_at true x z = number_is_hex t a m negative (sym x) ∙ hex_is t a (m + 2) negative z
  some_at false x z = rw (add-zero m) (number_is_decimal t a m negative (sym x) ∙ decimal_is t a m negative)

-- h: `0x` stands there; d: the digits that were read from the index behind it
module _ (t : List ℕ) (a m : ℕ) (i : a + m < length t) (g : is_digit (get_or t (a + m) 0) ≡ true) (h : Bool) (x : h ≡ hex_at t (a + m))
    (from : ℕ) (f : from ≡ a + m + opening h) (d : Digits) (e : d ≡ digits_of h from (drop from t)) where
  d_is : d ≡ digits_at t a (m + opening h) h
  d_is = e ∙ rw (f, add_assoc a m (opening h))

  pub number_behind : from ≤ d.end
  unfolding digits_of
  number_behind = rw e (omega arith)

  end_is : d.end ≡ from → (digits_at t a (m + opening h) h).end ≡ a + (m + opening h)
  end_is z = rw (← d_is) (z ∙ f ∙ add_assoc a m (opening h))

  begin_is : (digits_at t a (m + opening h) h).end ≡ a + (m + opening h) → d.end ≡ from
  begin_is z = rw (d_is, f) (z ∙ sym (add_assoc a m (opening h)))

  size_is : m + opening h ≡ from - a
  size_is = omega arith

  module _ (negative : Bool) where
    abbrev numeral : Piece
    numeral = number negative m (drop m (drop a t))

    pub none_is : d.end ≡ from → numeral ≡ refused NoHexDigit (from - a) (from - a)
    none_is z = rw (← size_is) (none_at t a m i g negative h x (end_is z))

    pub some_is : (d.end ≡ from → ⊥) → numeral ≡ number_of negative (d.end - a) d.value
    some_is z = rw d_is (some_at t a m i g negative h x (λ y. z (begin_is y)))

    number_at : a + decided_at numeral ≡ d.end
    unfolding decided_at
    number_at = pick (ℕ_discrete d.end from)
      where
        pick : Dec (d.end ≡ from) → a + decided_at numeral ≡ d.end
        pick (yes z) = rw (none_is z) (omega (arith, number_behind, f))
        pick (no z) = rw (some_is z, number_decided negative (d.end - a) d.value) (omega (arith, number_behind, f))

    module _ (whole : Bool) where
      pub number_unknown : (whole || ltb d.end (length t)) ≡ false → settled whole t a numeral ≡ nothing
      number_unknown s = settled_unknown whole t a numeral d.end number_at s

      module _ (s : (whole || ltb d.end (length t)) ≡ true) where
        number_known : (p : Piece) → numeral ≡ p → settled whole t a numeral ≡ told (drop a t) (known p)
        number_known p z = settled_known whole t a numeral d.end number_at s ∙ ap (λ (y : Piece). told (drop a t) (known y)) z

        pub number_none : d.end ≡ from → settled whole t a numeral ≡ record { size = from - a; kind = refusal_code NoHexDigit; bits = 0 }
        unfolding told
        number_none z = number_known (refused NoHexDigit (from - a) (from - a)) (none_is z)

        module _ (z : d.end ≡ from → ⊥) where
          pub number_large : largest < d.value → settled whole t a numeral
              ≡ record { size = 0; kind = refusal_code NumberTooLarge; bits = 0 }
          unfolding told number_of
          number_large b = number_known (number_of negative (d.end - a) d.value) (some_is z) ∙ rw (lt-leb d.value largest b)

          pub number_row : d.value ≤ largest → settled whole t a numeral
              ≡ record { size = d.end - a; kind = Number; bits = bits_of negative d.value }
          unfolding told number_of
          number_row b = number_known (number_of negative (d.end - a) d.value) (some_is z) ∙ rw (le-leb d.value largest b)
