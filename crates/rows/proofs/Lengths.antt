-- The tables of spelling lengths say what the rules' spellings say, and how a row's span is tested by them.
use Rattle.std.proofs.Common.{◌≡◌, ℕ, ◌+◌, ◌-◌, ◌^◌, ◌<◌, ◌≤◌, Bool, true, false, cond, ◌&&◌, eqb, ltb, leb, List, [], ◌∷◌, get_or, sym, refl, arith, ltb-true, le-ltb, lt-ltb, eq-eqb, ne_eqb, eqb-true, le-leb, leb-true}
use mathlib.Core.Bool.{and-true, and-false}
use native.Mathlib.Decide.{ℕ_discrete, dec_le}
use borrow.Author.Tests.{lt-leb}
use Rattle.rules.specs.Text.{within}
use Rattle.rules.specs.Kinds.{Identifier, StringLiteral, Number, Eof, is_made, signs, reserved, length_in}
use Rattle.rules.specs.Rows.{length_fits}
use Rattle.laws.specs.Tests.{all_below}
use Rattle.rows.specs.Shape.{LengthTable}
use Rattle.laws.proofs.Tests.{false_by, same_bool, both_true, true_both, below}

abbrev pub least : List ℕ
least =
    4 ∷ 7 ∷ 7 ∷ 6 ∷ 3 ∷ 3 ∷ 3 ∷ 4 ∷ 3 ∷ 5 ∷ 3 ∷ 2 ∷ 4 ∷ 5 ∷ 4 ∷ 5 ∷ 1 ∷ 1 ∷ 1 ∷ 1 ∷ 1 ∷ 3 ∷ 3 ∷ 3 ∷ 3 ∷ 1 ∷ 1 ∷ 1 ∷
    1 ∷ 1 ∷ 1 ∷ 1 ∷ 1 ∷ 1 ∷ 1 ∷ 1 ∷ 2 ∷ 2 ∷ 2 ∷ 2 ∷ 2 ∷ 1 ∷ 1 ∷ 1 ∷ 1 ∷ 1 ∷ 2 ∷ 2 ∷ 1 ∷ 2 ∷ 1 ∷ 5 ∷ 0 ∷ []

abbrev pub span : List ℕ
span =
    1 ∷ 1 ∷ 1 ∷ 1 ∷ 1 ∷ 1 ∷ 1 ∷ 1 ∷ 1 ∷ 1 ∷ 1 ∷ 1 ∷ 1 ∷ 1 ∷ 1 ∷ 1 ∷ 0 ∷ 0 ∷ 0 ∷ 0 ∷ 0 ∷ 1 ∷ 1 ∷ 1 ∷ 1 ∷ 1 ∷ 1 ∷ 1 ∷
    1 ∷ 1 ∷ 1 ∷ 1 ∷ 1 ∷ 1 ∷ 1 ∷ 1 ∷ 1 ∷ 1 ∷ 1 ∷ 1 ∷ 1 ∷ 1 ∷ 1 ∷ 1 ∷ 1 ∷ 1 ∷ 1 ∷ 1 ∷ 4294967295 ∷ 4294967295 ∷ 4294967295 ∷ 1 ∷ 1 ∷ []

-- the length that the rules give a kind that has one spelling; of the others, the least
own_length : ℕ → ℕ
own_length k =
    cond (eqb k Identifier) 1
    (cond (eqb k Number) 1 (cond (eqb k StringLiteral) 2 (length_in signs (length_in reserved 0 k) k)))

-- the entries of a kind, which fit no length unless it is made
least_of : ℕ → ℕ
least_of k = cond (is_made k) (own_length k) 1

span_of : ℕ → ℕ
span_of k = cond (is_made k) (cond (within Identifier Number k) 4294967295 1) 0

right : ℕ → Bool
right k = eqb (get_or least k 0) (least_of k) && eqb (get_or span k 0) (span_of k)

all_right : all_below right 53 ≡ true
unfolding right least_of span_of own_length is_made signs reserved length_in
all_right = refl

entries : (k : ℕ) → k ≤ 52 → (get_or least k 0 ≡ least_of k) × (get_or span k 0 ≡ span_of k)
unfolding right
entries k h =
    let b = both_true (eqb (get_or least k 0) (least_of k)) (eqb (get_or span k 0) (span_of k)) (below right 53 all_right k (omega arith)) in
    (eqb-true (get_or least k 0) (least_of k) b.0, eqb-true (get_or span k 0) (span_of k) b.1)

-- ---- so many lengths from one on

-- none of no lengths
never : (x n : ℕ) → (leb x n && ltb (n - x) 0) ≡ false
never x n = rw (le-ltb (n - x) 0 (omega arith)) (and-false (leb x n))

-- of one length just the first
exactly : (x n : ℕ) → (leb x n && ltb (n - x) 1) ≡ eqb n x
exactly x n =
    same_bool (leb x n && ltb (n - x) 1) (eqb n x)
    (λ a. let b = both_true (leb x n) (ltb (n - x) 1) a in
    eq-eqb n x (omega (arith, leb-true x n b.0, ltb-true (n - x) 1 b.1)))
    (λ a. let e = eqb-true n x a in true_both (le-leb x n (omega (arith, e))) (lt-ltb (n - x) 1 (omega (arith, e))))

-- of as many as a word has, all from the first on, unless it is 0
at_least : (x n : ℕ) → 1 ≤ x → n < 2 ^ 32 → (leb x n && ltb (n - x) 4294967295) ≡ leb x n
at_least x n l h = rw (lt-ltb (n - x) 4294967295 (omega arith)) (and-true (leb x n))

no_length : length_in signs (length_in reserved 0 52) 52 ≡ 0
unfolding length_in signs reserved
no_length = refl

-- a kind's entries fit the lengths that the rules fit, if it is made
made_fits : (k n : ℕ) → n < 2 ^ 32 →
    (leb (own_length k) n && ltb (n - own_length k) (cond (within Identifier Number k) 4294967295 1)) ≡ length_fits k n
unfolding length_fits own_length
made_fits k n h = go (ℕ_discrete k Identifier) (ℕ_discrete k StringLiteral) (ℕ_discrete k Number) (ℕ_discrete k Eof)
  where
    go : Dec (k ≡ 48) → Dec (k ≡ 49) → Dec (k ≡ 50) → Dec (k ≡ 52) →
        (leb (own_length k) n && ltb (n - own_length k) (cond (within Identifier Number k) 4294967295 1)) ≡ length_fits k n
    go (yes p) q r s = rw p (at_least 1 n (omega arith) h)
    go (no p) (yes q) r s = rw q (at_least 2 n (omega arith) h)
    go (no p) (no q) (yes r) s = rw r (at_least 1 n (omega arith) h)
    go (no p) (no q) (no r) (yes s) = rw (s, no_length) (exactly 0 n)
    go (no p) (no q) (no r) (no s) =
        let w : within Identifier Number k ≡ false = false_by (within Identifier Number k) (λ z.
        let b = both_true (leb 48 k) (leb k 50) z in
        omega (arith, leb-true 48 k b.0, leb-true k 50 b.1)) in
        rw (w, ne_eqb k 48 p, ne_eqb k 49 q, ne_eqb k 50 r, ne_eqb k 52 s) (exactly (length_in signs (length_in reserved 0 k) k) n)

entries_fit : (k n : ℕ) → n < 2 ^ 32 → (m : Bool) → is_made k ≡ m →
    (leb (least_of k) n && ltb (n - least_of k) (span_of k)) ≡ (m && length_fits k n)
unfolding least_of span_of
entries_fit k n l true e = rw e (made_fits k n l)
entries_fit k n l false e = rw e (never 1 n)

pub length_table : LengthTable least span
length_table =
    record { fits = λ k n h l. let x = entries k h in rw (x.0, x.1) (entries_fit k n l (is_made k) refl) }

-- ---- a span from s to e

-- it fits a kind: what it has over the kind's least is within the kind's span
pub span_fits : {ls ss : List ℕ} → LengthTable ls ss → (k s e : ℕ) → k ≤ 52 → e < 2 ^ 32 →
    (leb (s + get_or ls k 0) e && ltb (e - (s + get_or ls k 0)) (get_or ss k 0)) ≡ (is_made k && (leb s e && length_fits k (e - s)))
span_fits {ls} {ss} t k s e h l = go (dec_le s e)
  where
    x : ℕ
    x = get_or ls k 0

    y : ℕ
    y = get_or ss k 0

    low : s ≤ e → leb (s + x) e ≡ leb x (e - s)
    low p =
        same_bool (leb (s + x) e) (leb x (e - s)) (λ a. le-leb x (e - s) (omega (arith, leb-true (s + x) e a)))
        (λ a. le-leb (s + x) e (omega (arith, leb-true x (e - s) a)))

    go : Dec (s ≤ e) → (leb (s + x) e && ltb (e - (s + x)) y) ≡ (is_made k && (leb s e && length_fits k (e - s)))
    go (yes p) =
        let over : e - (s + x) ≡ e - s - x = omega arith in
        rw (low p, over, t.fits k (e - s) h (omega arith), le-leb s e p)
    go (no p) = rw (lt-leb (s + x) e (omega arith), lt-leb s e (omega arith)) (sym (and-false (is_made k)))
