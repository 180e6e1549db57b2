-- What the machine makes of the bytes of a row is as a well-formed row has it: its kind is made and has that length, its value is in range.
-- A comment has two bytes or more.
use Prim.Native.Nat.{ℕ, zero, suc, ◌+◌, ◌-◌, ◌*◌, ◌^◌, ◌≤◌, ◌<◌}
use native.Mathlib.Nat.{div-add-mod', mod-eq_of_lt}
use native.Mathlib.Omega.{arith}
use mathlib.Core.Bool.{Bool, true, false, cond, not, ◌&&◌, ◌||◌, true≢false}
use mathlib.Core.List.{List, [], ◌∷◌, ◌++◌}
use mathlib.Core.Path.{◌≡◌, refl, ap, sym, ◌∙◌}
use lib.Dec.{eqb, leb}
use lib.ListN.{length, length-append}
use borrow.Author.Tests.{eqb-true, eq-eqb, ne_eqb, leb-true, le-leb}
use Rattle.rules.specs.declared.Cursor.{Cursor}
use Rattle.rules.specs.declared.Lexical.{Lexical}
use Rattle.rules.specs.Kinds
use Rattle.rules.specs.Kinds.{Identifier, StringLiteral, Number, SlashEquals, Slash, MinusEquals, Minus, is_made, Spelt, reserved, signs, same_bytes, kind_in, length_in}
use Rattle.rules.specs.Rows.{bits_of, value_bits, row_at, length_fits, value_fits}
use Rattle.rules.specs.Text.{is_blank}
use Rattle.rules.specs.Lex.{is_digit, is_letter, is_word, is_hex_digit, is_escape, largest, is_lone, maybe_two}
use Rattle.theory_machine.specs.Machine.{Token, tok, St, gap, slash, line, block, star, minus, str, esc, two, name, zer, hex0, dec, hex, Spot, First, go, clear, over, bad, Move, fresh, on, back, Last, clean, ended, cut, word, number, number_end, one_sign, two_sign, begin, step, finish, passed}
use Rattle.laws.proofs.Tests.{both_true, either}
use Rattle.laws.proofs.Spelled.{same_eq}

-- a row of n bytes may have this kind and value
pub record Fit (x : Token) (n : ℕ) : Type 0 where
  pub made : is_made x.kind ≡ true
  pub proper : eqb x.kind Kinds.Eof ≡ false
  pub long : length_fits x.kind n ≡ true
  pub value : (p : Cursor) (c e : ℕ) → value_fits (row_at p c x.kind e x.bits) ≡ true

-- ---- kinds that have no value

no_value : (kind : ℕ) (p : Cursor) (c e : ℕ) → value_fits (row_at p c kind e 0) ≡ true
unfolding value_fits row_at value_bits
no_value kind p c e = by (eqb kind Number)
  where
    by : (t : Bool) → cond t true true ≡ true
    by true = refl
    by false = refl

-- a kind, and how long its row is
unfoldable pub is_fit : ℕ → ℕ → Bool
is_fit kind n = is_made kind && (not (eqb kind Kinds.Eof) && length_fits kind n)

not_yes : (t : Bool) → not t ≡ true → t ≡ false
not_yes true h = absurd (true≢false (sym h))
not_yes false h = refl

fit : (kind n : ℕ) → is_fit kind n ≡ true → Fit (tok kind) n
unfolding is_fit
fit kind n h =
    let h' : (not (eqb kind Kinds.Eof) && length_fits kind n) ≡ true = (both_true (is_made kind) _ h).1 in
    record {
      made = (both_true (is_made kind) _ h).0;
      proper = not_yes (eqb kind Kinds.Eof) (both_true (not (eqb kind Kinds.Eof)) (length_fits kind n) h').0;
      long = (both_true (not (eqb kind Kinds.Eof)) (length_fits kind n) h').1;
      value = no_value kind;
    }

-- every spelling of a table has its kind's length
all_fit : List Spelt → Bool
all_fit [] = true
all_fit (e ∷ es) = is_fit e.kind (length e.spelling) && all_fit es

same_length : (s w : List ℕ) → same_bytes s w ≡ true → length s ≡ length w
same_length s w h = ap length (same_eq s w h)

-- a kind that a table gives n bytes, or d
data Kinded (d n : ℕ) : ℕ → Type 0 where
  default : {k : ℕ} → k ≡ d → Kinded d n k
  kinded : {k : ℕ} → is_fit k n ≡ true → Kinded d n k

kind_fits : (es : List Spelt) (d : ℕ) (w : List ℕ) → all_fit es ≡ true → Kinded d (length w) (kind_in es d w)
unfolding kind_in all_fit
kind_fits [] d w h = default refl
kind_fits (e ∷ es) d w h = by (same_bytes e.spelling w) refl (kind_fits es d w (both_true (is_fit e.kind (length e.spelling)) (all_fit es) h).1)
  where
    fits : is_fit e.kind (length e.spelling) ≡ true
    fits = (both_true (is_fit e.kind (length e.spelling)) (all_fit es) h).0

    by : (q : Bool) → same_bytes e.spelling w ≡ q → Kinded d (length w) (kind_in es d w) → Kinded d (length w) (kind_in (e ∷ es) d w)
    by true q ih = rw (kind_in, q) (kinded (rw (same_length e.spelling w q) at fits))
    by false q ih = rw (kind_in, q) ih

reserved_fit : all_fit reserved ≡ true
unfolding all_fit is_fit is_made length_fits reserved signs length_in
reserved_fit = refl

signs_fit : all_fit signs ≡ true
unfolding all_fit is_fit is_made length_fits reserved signs length_in
signs_fit = refl

identifier_fits : (n : ℕ) → 1 ≤ n → is_fit Identifier n ≡ true
unfolding is_fit is_made length_fits
identifier_fits n h = le-leb 1 n h

string_fits : (n : ℕ) → 2 ≤ n → is_fit StringLiteral n ≡ true
unfolding is_fit is_made length_fits
string_fits n h = le-leb 2 n h

word_fit : (w : List ℕ) → 1 ≤ length w → Fit (word w) (length w)
word_fit w h = by (kind_fits reserved Identifier w reserved_fit)
  where
    by : {k : ℕ} → Kinded Identifier (length w) k → Fit (tok k) (length w)
    by (default e) = fit _ _ (rw e (identifier_fits (length w) h))
    by (kinded f) = fit _ _ f

-- a sign, if the table has it
sign_fit : (w : List ℕ) → eqb (kind_in signs Kinds.Eof w) Kinds.Eof ≡ false → Fit (tok (kind_in signs Kinds.Eof w)) (length w)
sign_fit w h = by (kind_fits signs Kinds.Eof w signs_fit) h
  where
    by : {k : ℕ} → Kinded Kinds.Eof (length w) k → eqb k Kinds.Eof ≡ false → Fit (tok k) (length w)
    by (default e) h = absurd (true≢false (rw e at h))
    by (kinded f) h = fit _ _ f

-- ---- numbers

bits_in_range : (negative : Bool) (v : ℕ) → v ≤ largest → bits_of negative v ≡ 2 ^ 63 → ⊥
unfolding bits_of
bits_in_range false v h e = omega arith
bits_in_range true zero h e = omega arith
bits_in_range true (suc v) h e =
    let l : 2 ^ 64 - suc v < 2 ^ 64 = omega arith in
    let f : 2 ^ 64 - suc v ≡ 2 ^ 63 = sym (mod-eq_of_lt l) ∙ e in
    omega arith

value_fits_lem : (negative : Bool) (v : ℕ) → v ≤ largest → (p : Cursor) (c e : ℕ) → value_fits (row_at p c Number e (bits_of negative v)) ≡ true
unfolding value_fits row_at value_bits
value_fits_lem negative v h p c e =
    rw (div-add-mod' (bits_of negative v) (2 ^ 32), ne_eqb (bits_of negative v) (2 ^ 63) (bits_in_range negative v h))

number_fit : (negative : Bool) (v n : ℕ) → v ≤ largest → 1 ≤ n → Fit (record { kind = Number; bits = bits_of negative v }) n
unfolding is_made length_fits
number_fit negative v n h l = record { made = refl; proper = refl; long = le-leb 1 n l; value = value_fits_lem negative v h }

-- ---- a comment has two bytes or more

-- where a gap is passed with k bytes of its last piece read, it has two bytes for each of its comments more
pub record Wide (k : ℕ) : Type 0 where
  pub wide : (c : ℕ) → 2 * passed c k ≤ 2 * c + k

nothing_wide : (k : ℕ) → k ≡ 0 → Wide k
unfolding passed
nothing_wide zero h = record { wide = λ c. omega arith }
nothing_wide (suc k) h = absurd (let z : ⊥ = omega arith in z)

comment_wide : (k : ℕ) → 2 ≤ k → Wide k
unfolding passed
comment_wide zero h = absurd (let z : ⊥ = omega arith in z)
comment_wide (suc k) h = record { wide = λ c. omega arith }

-- and so it has behind a byte that closes the piece
pub closed_wide : (c k : ℕ) → 2 * passed c k ≤ 2 * c + suc k
unfolding passed
closed_wide c zero = omega arith
closed_wide c (suc k) = omega arith

-- ---- the states: what has been read of a piece, and how many bytes

unfoldable pub good : St → ℕ → Bool
good gap k = eqb k 0
good slash k = eqb k 1
good line k = leb 2 k
good block k = true
good star k = true
good minus k = eqb k 1
good str k = leb 1 k
good esc k = leb 1 k
good (two x) k = eqb k 1 && maybe_two x
good (name w) k = eqb (length w) k && leb 1 k
good (zer n) k = leb 1 k
good (hex0 n) k = leb 1 k
good (dec n v) k = leb 1 k
good (hex n v) k = leb 1 k

pub data GoodFirst (k : ℕ) : First → Type 0 where
  good_go : {st : St} → good st (suc k) ≡ true → GoodFirst k (go st)
  good_clear : GoodFirst k clear
  good_over : {x : Token} → Fit x (suc k) → GoodFirst k (over x)
  good_bad : {why : Lexical} {x : Spot} → GoodFirst k (bad why x)

pub data GoodMove (k : ℕ) : Move → Type 0 where
  good_fresh : Wide k → GoodMove k fresh
  good_on : {x : First} → GoodFirst k x → GoodMove k (on x)
  good_back : {x : Token} → Fit x k → GoodMove k (back x)

pub data GoodLast (k : ℕ) : Last → Type 0 where
  good_clean : Wide k → GoodLast k clean
  good_ended : {x : Token} → Fit x k → GoodLast k (ended x)
  good_cut : {why : Lexical} {x : Spot} → GoodLast k (cut why x)

if_first : {k : ℕ} (t : Bool) {x y : First} → (t ≡ true → GoodFirst k x) → (t ≡ false → GoodFirst k y) → GoodFirst k (cond t x y)
if_first true p q = p refl
if_first false p q = q refl

if_move : {k : ℕ} (t : Bool) {x y : Move} → (t ≡ true → GoodMove k x) → (t ≡ false → GoodMove k y) → GoodMove k (cond t x y)
if_move true p q = p refl
if_move false p q = q refl

if_last : {k : ℕ} (t : Bool) {x y : Last} → (t ≡ true → GoodLast k x) → (t ≡ false → GoodLast k y) → GoodLast k (cond t x y)
if_last true p q = p refl
if_last false p q = q refl

fit_at : {x : Token} {n : ℕ} (k : ℕ) → k ≡ n → Fit x n → Fit x k
fit_at k e f = rw e f

long_enough : (k : ℕ) → leb 1 (suc k) ≡ true
long_enough k = le-leb 1 (suc k) (omega arith)

-- the first byte
pub begin_good : (b : ℕ) → GoodFirst 0 (begin b)
unfolding begin good
begin_good b =
    if_first (is_blank b) (λ h. good_clear) (λ h.
    if_first (eqb b 47) (λ h. good_go refl) (λ h.
    if_first (is_letter b) (λ h. good_go refl) (λ h.
    if_first (eqb b 48) (λ h. good_go refl) (λ h.
    if_first (is_digit b) (λ h. good_go refl) (λ h.
    if_first (eqb b 45) (λ h. good_go refl) (λ h.
    if_first (eqb b 34) (λ h. good_go refl) (λ h.
    if_first (maybe_two b) (λ h. good_go h) (λ h.
    if_first (eqb (one_sign b) Kinds.Eof) (λ h. good_bad) (λ h.
    good_over (sign_fit (b ∷ []) h))))))))))

number_good : (n : Bool) (v k : ℕ) → leb 1 k ≡ true → GoodMove k (number n v)
unfolding number
number_good n v k h = if_move (leb v largest) (λ l. good_back (number_fit n v k (leb-true v largest l) (leb-true 1 k h))) (λ l. good_on good_bad)

number_end_good : (n : Bool) (v k : ℕ) → leb 1 k ≡ true → GoodLast k (number_end n v)
unfolding number_end
number_end_good n v k h = if_last (leb v largest) (λ l. good_ended (number_fit n v k (leb-true v largest l) (leb-true 1 k h))) (λ l. good_cut)

fixed : (kind n : ℕ) → is_fit kind n ≡ true → (k : ℕ) → k ≡ n → Fit (tok kind) k
fixed kind n h k e = rw e (fit kind n h)

slash_equals : is_fit SlashEquals 2 ≡ true
unfolding is_fit is_made length_fits reserved signs length_in
slash_equals = refl

slash_alone : is_fit Slash 1 ≡ true
unfolding is_fit is_made length_fits reserved signs length_in
slash_alone = refl

minus_equals : is_fit MinusEquals 2 ≡ true
unfolding is_fit is_made length_fits reserved signs length_in
minus_equals = refl

minus_alone : is_fit Minus 1 ≡ true
unfolding is_fit is_made length_fits reserved signs length_in
minus_alone = refl

-- a sign that may be the first byte of two, and is not refused alone, is in the table
maybe_is : (x : ℕ) → maybe_two x ≡ true → is_lone x ≡ false → eqb (one_sign x) Kinds.Eof ≡ false
unfolding maybe_two signs same_bytes kind_in
maybe_is x h l =
    either ((((eqb x 43 || eqb x 45) || eqb x 42) || eqb x 47) || eqb x 37) (is_lone x) h
    (λ h. either (((eqb x 43 || eqb x 45) || eqb x 42) || eqb x 47) (eqb x 37) h
    (λ h. either ((eqb x 43 || eqb x 45) || eqb x 42) (eqb x 47) h
    (λ h. either (eqb x 43 || eqb x 45) (eqb x 42) h
    (λ h. either (eqb x 43) (eqb x 45) h (is 43 refl) (is 45 refl)) (is 42 refl)) (is 47 refl)) (is 37 refl))
    (λ h. absurd (true≢false (sym h ∙ l)))
  where
    is : (c : ℕ) → eqb (one_sign c) Kinds.Eof ≡ false → eqb x c ≡ true → eqb (one_sign x) Kinds.Eof ≡ false
    is c f e = rw (eqb-true x c e) f

pub step_good : (st : St) (k b : ℕ) → good st k ≡ true → GoodMove k (step st k b)
unfolding step good
step_good gap k b h = good_fresh (nothing_wide k (eqb-true k 0 h))
step_good slash k b h =
    let e : k ≡ 1 = eqb-true k 1 h in
    if_move (eqb b 47) (λ t. good_on (good_go (le-leb 2 (suc k) (omega arith)))) (λ t.
    if_move (eqb b 42) (λ t. good_on (good_go refl)) (λ t.
    if_move (eqb b 61) (λ t. good_on (good_over (fixed SlashEquals 2 slash_equals (suc k) (ap suc e)))) (λ t.
    good_back (fixed Slash 1 slash_alone k e))))
step_good line k b h =
    let l : 2 ≤ k = leb-true 2 k h in
    if_move (eqb b 10) (λ t. good_on good_clear) (λ t. good_on (good_go (le-leb 2 (suc k) (omega arith))))
step_good block k b h = if_move (eqb b 42) (λ t. good_on (good_go refl)) (λ t. good_on (good_go refl))
step_good star k b h =
    if_move (eqb b 47) (λ t. good_on good_clear) (λ t.
    if_move (eqb b 42) (λ t. good_on (good_go refl)) (λ t. good_on (good_go refl)))
step_good minus k b h =
    let e : k ≡ 1 = eqb-true k 1 h in
    if_move (eqb b 48) (λ t. good_on (good_go (long_enough k))) (λ t.
    if_move (is_digit b) (λ t. good_on (good_go (long_enough k))) (λ t.
    if_move (eqb b 61) (λ t. good_on (good_over (fixed MinusEquals 2 minus_equals (suc k) (ap suc e)))) (λ t.
    good_back (fixed Minus 1 minus_alone k e))))
step_good str k b h =
    let l : 1 ≤ k = leb-true 1 k h in
    if_move (eqb b 34) (λ t. good_on (good_over (fit StringLiteral (suc k) (string_fits (suc k) (omega arith))))) (λ t.
    if_move (eqb b 10) (λ t. good_on good_bad) (λ t.
    if_move (eqb b 92) (λ t. good_on (good_go (long_enough k))) (λ t. good_on (good_go (long_enough k)))))
step_good esc k b h = if_move (is_escape b) (λ t. good_on (good_go (long_enough k))) (λ t. good_on good_bad)
step_good (two x) k b h =
    let e : k ≡ 1 = eqb-true k 1 (both_true (eqb k 1) (maybe_two x) h).0 in
    if_move (eqb (two_sign x b) Kinds.Eof) (λ t.
    if_move (is_lone x) (λ l. good_on good_bad) (λ l. good_back (fit_at k e (sign_fit (x ∷ []) (maybe_is x (both_true (eqb k 1) (maybe_two x) h).1 l))))) (λ t.
    good_on (good_over (fit_at (suc k) (ap suc e) (sign_fit (x ∷ b ∷ []) t))))
step_good (name w) k b h =
    let e : length w ≡ k = eqb-true (length w) k (both_true (eqb (length w) k) (leb 1 k) h).0 in
    let l : 1 ≤ k = leb-true 1 k (both_true (eqb (length w) k) (leb 1 k) h).1 in
    if_move (is_word b) (λ t. good_on (good_go (rw (eq-eqb (length (w ++ b ∷ [])) (suc k) (simp length-append (omega arith))) (long_enough k)))) (λ t.
    good_back (fit_at k (sym e) (word_fit w (omega arith))))
step_good (zer n) k b h =
    if_move (eqb b 120) (λ t. good_on (good_go (long_enough k))) (λ t.
    if_move (is_digit b) (λ t. good_on (good_go (long_enough k))) (λ t. number_good n 0 k h))
step_good (hex0 n) k b h = if_move (is_hex_digit b) (λ t. good_on (good_go (long_enough k))) (λ t. good_on good_bad)
step_good (dec n v) k b h = if_move (is_digit b) (λ t. good_on (good_go (long_enough k))) (λ t. number_good n v k h)
step_good (hex n v) k b h = if_move (is_hex_digit b) (λ t. good_on (good_go (long_enough k))) (λ t. number_good n v k h)

pub finish_good : (st : St) (k : ℕ) → good st k ≡ true → GoodLast k (finish st k)
unfolding finish good
finish_good gap k h = good_clean (nothing_wide k (eqb-true k 0 h))
finish_good slash k h = good_ended (fixed Slash 1 slash_alone k (eqb-true k 1 h))
finish_good line k h = good_clean (comment_wide k (leb-true 2 k h))
finish_good block k h = good_cut
finish_good star k h = good_cut
finish_good minus k h = good_ended (fixed Minus 1 minus_alone k (eqb-true k 1 h))
finish_good str k h = good_cut
finish_good esc k h = good_cut
finish_good (two x) k h =
    let e : k ≡ 1 = eqb-true k 1 (both_true (eqb k 1) (maybe_two x) h).0 in
    if_last (is_lone x) (λ l. good_cut) (λ l. good_ended (fit_at k e (sign_fit (x ∷ []) (maybe_is x (both_true (eqb k 1) (maybe_two x) h).1 l))))
finish_good (name w) k h =
    let e : length w ≡ k = eqb-true (length w) k (both_true (eqb (length w) k) (leb 1 k) h).0 in
    let l : 1 ≤ k = leb-true 1 k (both_true (eqb (length w) k) (leb 1 k) h).1 in
    good_ended (fit_at k (sym e) (word_fit w (omega arith)))
finish_good (zer n) k h = number_end_good n 0 k h
finish_good (hex0 n) k h = good_cut
finish_good (dec n v) k h = number_end_good n v k h
finish_good (hex n v) k h = number_end_good n v k h
