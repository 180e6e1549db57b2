-- Numbers: the machine's row or refusal is the page's, decimal and hex, with a sign before or none.
use Prim.Native.Nat.{ℕ, suc, ◌+◌, ◌-◌, ◌*◌}
use native.Mathlib.Omega.{arith}
use mathlib.Core.Bool.{Bool, true, false, cond}
use mathlib.Core.List.{List, [], ◌∷◌}
use mathlib.Core.Path.{◌≡◌, refl, ap, sym, ◌∙◌}
use lib.ListN.{take}
use lib.Dec.{eqb, leb, eqb-suc-zero}
use borrow.Author.Tests.{eqb-true}
use Rattle.rules.specs.Text.{front}
use Rattle.rules.specs.Lex
use Rattle.rules.specs.Lex.{Piece, Item, known, is_digit, is_hex_digit, digit_value, spelt, largest, number_of, decimal}
use Rattle.theory_machine.specs.Machine.{St, zer, hex0, dec, hex, on, go, spot, number, number_end, step, finish}
use Rattle.theory_machine.specs.Items.{item_first, item_move, item_last, first_bytes}
use Rattle.laws.proofs.Fronts.{front_in, front_out}
use Rattle.theory_machine.proofs.Runs.{branch, gathered, run_class}

-- ---- a number whose digits spell v ends

abbrev numbered : Bool → Bool → ℕ → ℕ → Item
numbered negative more v k = known (number_of negative k v)

number_moves : (r : ℕ → St → Item) (negative : Bool) (v k b : ℕ) → item_move r b k (number negative v) ≡ known (number_of negative k v)
unfolding number number_of item_move item_first spot
number_moves r negative v k b = branch (λ x y. item_move r b k x ≡ known y) (leb v largest) (λ e. refl) (λ e. refl)

number_ends : (negative : Bool) (v k : ℕ) → item_last k (number_end negative v) ≡ known (number_of negative k v)
unfolding number_end number_of item_last spot
number_ends negative v k = branch (λ x y. item_last k x ≡ known y) (leb v largest) (λ e. refl) (λ e. refl)

-- ---- digits

abbrev add : ℕ → ℕ → ℕ → ℕ
add base v b = v * base + digit_value b

spelt_gathers : (base v : ℕ) (s : List ℕ) → gathered (add base) v s ≡ spelt base v s
unfolding gathered spelt
spelt_gathers base v [] = refl
spelt_gathers base v (b ∷ s) = spelt_gathers base (add base v b) s

spelt_first : (base b : ℕ) (s : List ℕ) → spelt base 0 (b ∷ s) ≡ spelt base (digit_value b) s
unfolding spelt
spelt_first base b s = let z : 0 * base + digit_value b ≡ digit_value b = omega arith in ap (λ v. spelt base v s) z

digit_value_lem : (b : ℕ) → is_digit b ≡ true → digit_value b ≡ b - 48
unfolding digit_value
digit_value_lem b e = rw e

digit_zero : is_digit 48 ≡ true
unfolding is_digit
digit_zero = refl

-- a state that takes each digit of a base
module _ (negative : Bool) (base : ℕ) (is_one : ℕ → Bool) (state : ℕ → St)
    (steps : (v k b : ℕ) → step (state v) k b ≡ cond (is_one b) (on (go (state (add base v b)))) (number negative v))
    (closes : (v k : ℕ) → finish (state v) k ≡ number_end negative v) where
  digits_stay : (v k b : ℕ) → is_one b ≡ true → step (state v) k b ≡ on (go (state (add base v b)))
  digits_stay v k b e = rw (steps v k b, e)

  digits_stop : (r : ℕ → St → Item) (v k b : ℕ) → is_one b ≡ false → item_move r b k (step (state v) k b) ≡ numbered negative true v k
  digits_stop r v k b e = rw (steps v k b, e) (number_moves r negative v k b)

  digits_end : (v k : ℕ) → item_last k (finish (state v) k) ≡ numbered negative false v k
  digits_end v k = rw (closes v k) (number_ends negative v k)

  digits_run : (s : List ℕ) (k v : ℕ) →
      first_bytes true s k (state v) ≡ known (number_of negative (k + front is_one s) (spelt base v (take (front is_one s) s)))
  digits_run s k v =
      rw (← (spelt_gathers base v (take (front is_one s) s)))
      (run_class is_one state (add base) (numbered negative) digits_stay digits_stop digits_end s k v)

module _ (negative : Bool) where
  dec_run : (s : List ℕ) (k v : ℕ) →
      first_bytes true s k (dec negative v) ≡ known (number_of negative (k + front is_digit s) (spelt 10 v (take (front is_digit s) s)))
  unfolding step finish
  dec_run = digits_run negative 10 is_digit (dec negative) (λ v k b. refl) (λ v k. refl)

  hex_run : (s : List ℕ) (k v : ℕ) →
      first_bytes true s k (hex negative v) ≡ known (number_of negative (k + front is_hex_digit s) (spelt 16 v (take (front is_hex_digit s) s)))
  unfolding step finish
  hex_run = digits_run negative 16 is_hex_digit (hex negative) (λ v k b. refl) (λ v k. refl)

  -- ---- decimal: m bytes of the number stand before its first digit b

  decimal_same : (m b : ℕ) (s : List ℕ) → is_digit b ≡ true → first_bytes true s (suc m) (dec negative (b - 48)) ≡ known (decimal negative m (b ∷ s))
  unfolding decimal
  decimal_same m b s e =
      let n : m + suc (front is_digit s) ≡ suc m + front is_digit s = omega arith in
      rw (front_in is_digit b s e, n, spelt_first 10 b (take (front is_digit s) s), digit_value_lem b e) (dec_run s (suc m) (b - 48))

  -- ---- hex: m bytes, `0x` the last of them, stand before s

  hex_byte : (m b : ℕ) (s : List ℕ) (p : Bool) → is_hex_digit b ≡ p → first_bytes true (b ∷ s) m (hex0 negative) ≡ known (Lex.hex negative m (b ∷ s))
  unfolding first_bytes step item_move item_first spot Lex.hex
  hex_byte m b s true e =
      let n : m + suc (front is_hex_digit s) ≡ suc m + front is_hex_digit s = omega arith in
      let z : eqb (suc (front is_hex_digit s)) 0 ≡ false = eqb-suc-zero (front is_hex_digit s) in
      rw (step, e, front_in is_hex_digit b s e, z, n, spelt_first 16 b (take (front is_hex_digit s) s)) (hex_run s (suc m) (digit_value b))
  hex_byte m b s false e = rw (step, e, front_out is_hex_digit b s e)

  hex_same : (m : ℕ) (s : List ℕ) → first_bytes true s m (hex0 negative) ≡ known (Lex.hex negative m s)
  unfolding first_bytes finish item_last spot Lex.hex front
  hex_same m [] = refl
  hex_same m (b ∷ s) = hex_byte m b s (is_hex_digit b) refl

  -- ---- the digit 0, behind m bytes

  -- where no `x` follows, 0 is a digit like another
  zero_steps : (k b : ℕ) (q : Bool) → eqb b 120 ≡ false → is_digit b ≡ q → step (zer negative) k b ≡ step (dec negative 0) k b
  unfolding step
  zero_steps k b true e f =
      let z : 0 * 10 + digit_value b ≡ b - 48 = omega (arith, digit_value_lem b f) in
      rw (step, e, f) (ap (λ v. on (go (dec negative v))) (sym z))
  zero_steps k b false e f = rw (step, e, f)

  zero_byte : (m b : ℕ) (s : List ℕ) (p : Bool) → eqb b 120 ≡ p →
      first_bytes true (b ∷ s) (suc m) (zer negative) ≡ known (Lex.number negative m (48 ∷ b ∷ s))
  unfolding first_bytes step item_move item_first Lex.number
  zero_byte m b s true e =
      let n : m + 2 ≡ suc (suc m) = omega arith in
      rw (eqb-true b 120 e, n) (hex_same (suc (suc m)) s)
  zero_byte m b s false e = rw (zero_steps (suc m) b (is_digit b) e refl, Lex.number, e) (decimal_same m 48 (b ∷ s) digit_zero)

  zero_same : (m : ℕ) (s : List ℕ) → first_bytes true s (suc m) (zer negative) ≡ known (Lex.number negative m (48 ∷ s))
  unfolding first_bytes finish Lex.number
  zero_same m [] = decimal_same m 48 [] digit_zero
  zero_same m (b ∷ s) = zero_byte m b s (eqb b 120) refl

  -- ---- a number's first digit b, behind m bytes

  other_same : (m b : ℕ) (s : List ℕ) → is_digit b ≡ true → eqb b 48 ≡ false →
      first_bytes true s (suc m) (dec negative (b - 48)) ≡ known (Lex.number negative m (b ∷ s))
  unfolding Lex.number
  other_same m b s e f = rw (Lex.number, f) (decimal_same m b s e)

  -- a machine that goes to `zer` at 0, to `dec` at another digit and to w at any other byte
  pub number_same : {A : Type 0} (read : A → Item) (z d w : A) (y : Piece) (m b : ℕ) (s : List ℕ) → read z ≡ first_bytes true s (suc m) (zer negative) →
      read d ≡ first_bytes true s (suc m) (dec negative (b - 48)) → (is_digit b ≡ false → read w ≡ known y) → (p q : Bool) → eqb b 48 ≡ p → is_digit b ≡ q →
      read (cond p z (cond q d w)) ≡ known (cond q (Lex.number negative m (b ∷ s)) y)
  number_same read z d w y m b s hz hd hw true q e f =
      let i : q ≡ true = sym f ∙ ap is_digit (eqb-true b 48 e) ∙ digit_zero in
      rw (i, eqb-true b 48 e) (hz ∙ zero_same m s)
  number_same read z d w y m b s hz hd hw false true e f = hd ∙ other_same m b s f e
  number_same read z d w y m b s hz hd hw false false e f = hw f
