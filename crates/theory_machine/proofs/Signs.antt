-- Signs: the machine's row or refusal is the page's, for the seven that may be the first byte of two and for the others.
use Prim.Native.Nat.{ℕ}
use mathlib.Core.Bool.{Bool, true, false, cond, ◌||◌, true≢false}
use mathlib.Core.List.{List, [], ◌∷◌}
use mathlib.Core.Path.{◌≡◌, refl, sym}
use lib.Dec.{eqb}
use borrow.Author.Tests.{eqb-true, eqb-false, ne_eqb}
use Rattle.rules.specs.declared.Lexical.TheVariants.{NoRowBegins, LoneSign}
use Rattle.rules.specs.Kinds
use Rattle.rules.specs.Kinds.{same_bytes, signs, kind_in, SlashEquals, Slash, MinusEquals, Minus}
use Rattle.rules.specs.Lex.{Item, known, is_lone, maybe_two, single, sign}
use Rattle.laws.proofs.Tests.{neither}
use Rattle.theory_machine.specs.Machine.{St, slash, minus, two, over, bad, on, go, back, mark, here, spot, tok, one_sign, two_sign, step, finish}
use Rattle.theory_machine.specs.Items.{item_first, item_move, item_last, first_bytes}
use Rattle.theory_machine.proofs.Runs.{branch}

-- ---- a byte that may be the first of two

-- what holds of + - * / % < > holds of such a byte
by_two : (P : ℕ → Type 0) → P 43 → P 45 → P 42 → P 47 → P 37 → P 60 → P 62 → (x : ℕ) → maybe_two x ≡ true → P x
unfolding maybe_two
by_two P a b c d e f g x h = pick (eqb x 43) (eqb x 45) (eqb x 42) (eqb x 47) (eqb x 37) (eqb x 60) (eqb x 62) refl refl refl refl refl refl refl h
  where
    pick : (p q r s t u v : Bool) → eqb x 43 ≡ p → eqb x 45 ≡ q → eqb x 42 ≡ r → eqb x 47 ≡ s → eqb x 37 ≡ t → eqb x 60 ≡ u → eqb x 62 ≡ v →
        (((((p || q) || r) || s) || t) || (u || v)) ≡ true → P x
    pick true q r s t u v i j k l m n o h = rw (eqb-true x 43 i) a
    pick false true r s t u v i j k l m n o h = rw (eqb-true x 45 j) b
    pick false false true s t u v i j k l m n o h = rw (eqb-true x 42 k) c
    pick false false false true t u v i j k l m n o h = rw (eqb-true x 47 l) d
    pick false false false false true u v i j k l m n o h = rw (eqb-true x 37 m) e
    pick false false false false false true v i j k l m n o h = rw (eqb-true x 60 n) f
    pick false false false false false false true i j k l m n o h = rw (eqb-true x 62 o) g
    pick false false false false false false false i j k l m n o h = absurd (true≢false (sym h))

-- the text ends behind it
two_last : (x : ℕ) → maybe_two x ≡ true → item_last 1 (finish (two x) 1) ≡ known (sign (x ∷ []))
unfolding finish item_last spot sign single maybe_two kind_in signs same_bytes
two_last = by_two (λ x. item_last 1 (finish (two x) 1) ≡ known (sign (x ∷ []))) refl refl refl refl refl refl refl

-- it stands alone before b
Alone : (ℕ → St → Item) → ℕ → ℕ → Type 0
Alone r b x = item_move r b 1 (cond (is_lone x) (on (bad LoneSign mark)) (back (tok (one_sign x)))) ≡ known (single x 1)

two_alone : (r : ℕ → St → Item) (b x : ℕ) → maybe_two x ≡ true → Alone r b x
unfolding Alone item_move item_first spot single kind_in signs same_bytes
two_alone r b = by_two (Alone r b) refl refl refl refl refl refl refl

pub two_byte : (x b : ℕ) (s : List ℕ) → maybe_two x ≡ true → first_bytes true (b ∷ s) 1 (two x) ≡ known (sign (x ∷ b ∷ s))
unfolding Alone first_bytes step sign item_move item_first
two_byte x b s e =
    rw (sign, e)
    (branch (λ u v. item_move (first_bytes true s) b 1 u ≡ known v) (eqb (two_sign x b) Kinds.Eof) (λ f. two_alone (first_bytes true s) b x e) (λ f. refl))

two_same : (x : ℕ) (s : List ℕ) → maybe_two x ≡ true → first_bytes true s 1 (two x) ≡ known (sign (x ∷ s))
unfolding first_bytes
two_same x [] e = two_last x e
two_same x (b ∷ s) e = two_byte x b s e

-- ---- `/` and `-`, where they open no comment and no number, are two such bytes

not_equals : (b : ℕ) → eqb b 61 ≡ false → eqb 61 b ≡ false
not_equals b e = ne_eqb 61 b (λ h. eqb-false b 61 e (sym h))

pub slash_last : item_last 1 (finish slash 1) ≡ known (sign (47 ∷ []))
unfolding finish item_last sign single maybe_two kind_in signs same_bytes
slash_last = refl

pub minus_last : item_last 1 (finish minus 1) ≡ known (sign (45 ∷ []))
unfolding finish item_last sign single maybe_two kind_in signs same_bytes
minus_last = refl

pub slash_two : maybe_two 47 ≡ true
unfolding maybe_two
slash_two = refl

pub minus_two : maybe_two 45 ≡ true
unfolding maybe_two
minus_two = refl

pub slash_steps : (k b : ℕ) (p : Bool) → eqb b 61 ≡ p → cond p (on (over (tok SlashEquals))) (back (tok Slash)) ≡ step (two 47) k b
unfolding step kind_in signs same_bytes
slash_steps k b true e = rw (eqb-true b 61 e)
slash_steps k b false e = rw (step, kind_in, not_equals b e)

pub minus_steps : (k b : ℕ) (p : Bool) → eqb b 61 ≡ p → cond p (on (over (tok MinusEquals))) (back (tok Minus)) ≡ step (two 45) k b
unfolding step kind_in signs same_bytes
minus_steps k b true e = rw (eqb-true b 61 e)
minus_steps k b false e = rw (step, kind_in, not_equals b e)

-- ---- any other byte

lone_not : (b : ℕ) → maybe_two b ≡ false → is_lone b ≡ false
unfolding maybe_two
lone_not b e = (neither ((((eqb b 43 || eqb b 45) || eqb b 42) || eqb b 47) || eqb b 37) (is_lone b) e).1

one_same : (r : ℕ → St → Item) (b : ℕ) (s : List ℕ) → maybe_two b ≡ false →
    item_first r 0 (cond (eqb (one_sign b) Kinds.Eof) (bad NoRowBegins here) (over (tok (one_sign b)))) ≡ known (sign (b ∷ s))
unfolding item_first sign single spot
one_same r b s e =
    rw (sign, e, single, lone_not b e)
    (branch (λ u v. item_first r 0 u ≡ known v) (eqb (one_sign b) Kinds.Eof) (λ f. refl) (λ f. refl))

-- ---- a byte that begins nothing else

pub sign_same : (b : ℕ) (s : List ℕ) (t : Bool) → maybe_two b ≡ t →
    item_first (first_bytes true s) 0 (cond t (go (two b)) (cond (eqb (one_sign b) Kinds.Eof) (bad NoRowBegins here) (over (tok (one_sign b))))) ≡ known (sign (b ∷ s))
unfolding item_first
sign_same b s true e = two_same b s e
sign_same b s false e = one_same (first_bytes true s) b s e
