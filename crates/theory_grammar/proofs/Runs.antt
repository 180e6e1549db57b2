-- A run of rows: which tokens stand from a row on up to another. And what holds of an answer of the parser, if it is a tree.
use mathlib.Core.Path.{◌≡◌, refl, sym, ap, ◌∙◌, subst}
use mathlib.Core.Bool.{Bool, true, false, not, ◌&&◌, true≢false}
use mathlib.Core.List.{List, [], ◌∷◌, ◌++◌, append_assoc}
use Prim.Native.Nat.{ℕ, zero, suc, ◌+◌, ◌≤◌, ◌<◌}
use native.Mathlib.Omega.{arith}
use lib.Dec.{eqb, ltb}
use lib.ListN.{length, drop, length-append}
use borrow.Author.Tests.{eqb-true, ltb-true, ltb-false}
use Rattle.rules.specs.Kinds.{Identifier, StringLiteral, Number, Eof}
use Rattle.rules.specs.Fits.{only}
use Rattle.rules.specs.Tree.{Tok, sign, name, string, value, kind_of, spelling_of, bits_in, Tree}
use Rattle.rules.specs.Parse
use Rattle.rules.specs.Parse.{Out, ok, no, P, then, or, many, tok_at, kind_at}
use Rattle.theory_grammar.specs.Tokens.{is_sign, is_proper, Proper}
use Rattle.theory_grammar.proofs.Laws.{here, from}

-- ---- tokens by their kinds

-- a kind that says all of its row, and is not Eof
abbrev pub is_mark : ℕ → Bool
is_mark k = is_sign k && not (eqb k Eof)

mark_row : (k : ℕ) → is_mark k ≡ true → (is_sign k ≡ true) × (eqb k Eof ≡ false)
mark_row k e = go (is_sign k) (eqb k Eof) e
  where
    go : (a b : Bool) → a && not b ≡ true → (a ≡ true) × (b ≡ false)
    go true true e = absurd (true≢false (sym e))
    go true false e = (refl, refl)
    go false b e = absurd (true≢false (sym e))

pub sign_of : (x : Tok) (k : ℕ) → kind_of x ≡ k → is_sign k ≡ true → x ≡ sign k
unfolding kind_of
sign_of (sign c) k e b = ap sign e
sign_of (name w) k e b = let z : true ≡ false = sym b ∙ ap is_sign (sym e) in absurd (true≢false z)
sign_of (string w) k e b = let z : true ≡ false = sym b ∙ ap is_sign (sym e) in absurd (true≢false z)
sign_of (value v) k e b = let z : true ≡ false = sym b ∙ ap is_sign (sym e) in absurd (true≢false z)

name_of : (x : Tok) → kind_of x ≡ Identifier → is_proper x ≡ true → x ≡ name (spelling_of x)
unfolding kind_of is_proper spelling_of
name_of (sign k) e b = let z : true ≡ false = sym b ∙ ap is_sign e in absurd (true≢false z)
name_of (name w) e b = refl
name_of (string w) e b = absurd (omega (arith, e))
name_of (value v) e b = absurd (omega (arith, e))

string_of : (x : Tok) → kind_of x ≡ StringLiteral → is_proper x ≡ true → x ≡ string (spelling_of x)
unfolding kind_of is_proper spelling_of
string_of (sign k) e b = let z : true ≡ false = sym b ∙ ap is_sign e in absurd (true≢false z)
string_of (name w) e b = absurd (omega (arith, e))
string_of (string w) e b = refl
string_of (value v) e b = absurd (omega (arith, e))

value_of : (x : Tok) → kind_of x ≡ Number → is_proper x ≡ true → x ≡ value (bits_in x)
unfolding kind_of is_proper bits_in
value_of (sign k) e b = let z : true ≡ false = sym b ∙ ap is_sign e in absurd (true≢false z)
value_of (name w) e b = absurd (omega (arith, e))
value_of (string w) e b = absurd (omega (arith, e))
value_of (value v) e b = refl

-- ---- runs of rows

-- The rows from i to j are xs, as far as kinds say; and are xs where names, strings and numbers are given as such. None is Eof.
pub record Run (ts : List Tok) (i : ℕ) (xs : List Tok) (j : ℕ) : Type 0 where
  pub next : j ≡ i + length xs
  pub inside : j ≤ length ts
  pub clear : (r : ℕ) → i ≤ r → r < j → kind_at ts r ≡ Eof → ⊥
  pub same : Proper ts → drop i ts ≡ xs ++ drop j ts

module _ (ts : List Tok) where
  pub run_none : (i : ℕ) → i ≤ length ts → Run ts i [] i
  run_none i h = record { next = omega arith; inside = h; clear = λ r a b e. omega arith; same = λ p. refl }

  run_one : (i : ℕ) (x : Tok) → i < length ts → (kind_at ts i ≡ Eof → ⊥) → (Proper ts → tok_at ts i ≡ x) → Run ts i (x ∷ []) (i + 1)
  run_one i x h c e = record {
    next = refl;
    inside = omega arith;
    clear = λ r a b f. c (subst (λ (n : ℕ). kind_at ts n ≡ Eof) (omega arith) f);
    same = λ p. from ts i h ∙ ap (λ (y : Tok). y ∷ drop (i + 1) ts) (e p);
  }

  -- a row that its kind says all of
  pub row : (i k : ℕ) → kind_at ts i ≡ k → is_mark k ≡ true → Run ts i (sign k ∷ []) (i + 1)
  row i k e b =
      let m : (is_sign k ≡ true) × (eqb k Eof ≡ false) = mark_row k b in
      run_one i (sign k) (here ts i k e m.1) (λ f. true≢false (sym (ap (λ (x : ℕ). eqb x Eof) (sym e ∙ f)) ∙ m.1)) (λ p. sign_of (tok_at ts i) k e m.0)

  other : (i k : ℕ) → kind_at ts i ≡ k → eqb k Eof ≡ false → kind_at ts i ≡ Eof → ⊥
  other i k e b f = true≢false (sym (ap (λ (x : ℕ). eqb x Eof) (sym e ∙ f)) ∙ b)

  pub name_row : (i : ℕ) → kind_at ts i ≡ Identifier → Run ts i (name (spelling_of (tok_at ts i)) ∷ []) (i + 1)
  name_row i e = run_one i _ (here ts i Identifier e refl) (other i Identifier e refl) (λ p. name_of (tok_at ts i) e (p.at i))

  pub string_row : (i : ℕ) → kind_at ts i ≡ StringLiteral → Run ts i (string (spelling_of (tok_at ts i)) ∷ []) (i + 1)
  string_row i e = run_one i _ (here ts i StringLiteral e refl) (other i StringLiteral e refl) (λ p. string_of (tok_at ts i) e (p.at i))

  pub value_row : (i : ℕ) → kind_at ts i ≡ Number → Run ts i (value (bits_in (tok_at ts i)) ∷ []) (i + 1)
  value_row i e = run_one i _ (here ts i Number e refl) (other i Number e refl) (λ p. value_of (tok_at ts i) e (p.at i))

-- one run behind another
module _ {ts : List Tok} {i j k : ℕ} {xs ys : List Tok} where
  infixr 30 ◌▸◌
  pub ◌▸◌ : Run ts i xs j → Run ts j ys k → Run ts i (xs ++ ys) k
  a ▸ b = record {
    next = omega (arith, a.next, b.next, length-append xs ys);
    inside = b.inside;
    clear = λ r p q e. go r p q e (ltb r j) refl;
    same = λ p. a.same p ∙ rw (b.same p) (sym (append_assoc xs ys (drop k ts)));
  }
    where
      go : (r : ℕ) → i ≤ r → r < k → kind_at ts r ≡ Eof → (c : Bool) → ltb r j ≡ c → ⊥
      go r p q e true c = a.clear r p (ltb-true r j c) e
      go r p q e false c = b.clear r (ltb-false r j c) q e

-- ---- what holds of an answer, if it is a tree

abbrev pub All : (Tree → ℕ → Type 0) → Out → Type 0
All C (ok t j) = C t j
All C (no why r) = Unit {0}

pub all_ok : (C : Tree → ℕ → Type 0) (o : Out) (t : Tree) (j : ℕ) → All C o → o ≡ ok t j → C t j
all_ok C o t j h e = subst (λ (x : Out). All C x) e h

-- nothing need be known
pub all_any : (o : Out) → All (λ t j. Unit {0}) o
all_any (ok t j) = tt
all_any (no why r) = tt

pub all_both : (C D : Tree → ℕ → Type 0) (o : Out) → All C o → All D o → All (λ t j. C t j × D t j) o
all_both C D (ok t j) a b = (a, b)
all_both C D (no why r) a b = tt

module _ (C D : Tree → ℕ → Type 0) where
  pub then_all : (o : Out) (f : Tree → P) → All C o → ((t : Tree) (j : ℕ) → C t j → All D (f t j)) → All D (then o f)
  unfolding then
  then_all (ok t j) f h k = k t j h
  then_all (no why r) f h k = tt

  pub map_all : (o : Out) → All C o → ((t : Tree) (j : ℕ) → C t j → D t j) → All D o
  map_all (ok t j) h k = k t j h
  map_all (no why r) h k = tt

pub or_all : (C : Tree → ℕ → Type 0) (s i : ℕ) (o : Out) → All C o → All C (or s i o)
unfolding or
or_all C s i (ok t j) h = h
or_all C s i (no why r) h = tt

pub many_all : (C : Tree → ℕ → Type 0) (test : ℕ → Bool) (step : Tree → P) → ((t : Tree) (j : ℕ) → C t j → test j ≡ true → All C (step t j))
    → (f : ℕ) (b : Bool) (t : Tree) (j : ℕ) → test j ≡ b → C t j → All C (many test step f b t j)
unfolding many
many_all C test step s zero b t j e h = h
many_all C test step s (suc f) false t j e h = h
many_all C test step s (suc f) true t j e h =
    then_all C C (step t j) (λ u k. many test step f (test k) u k) (s t j h e) (λ u k h'. many_all C test step s f (test k) u k refl h')

module _ (ts : List Tok) where
  -- a loop that goes on through the rows ends where its test fails
  module _ (C : Tree → ℕ → Type 0) (test : ℕ → Bool) (step : Tree → P) (inside : (t : Tree) (j : ℕ) → C t j → j ≤ length ts)
      (s : (t : Tree) (j : ℕ) → C t j → test j ≡ true → All (λ u k. C u k × (j < k)) (step t j)) where
    many_ends : (f : ℕ) (b : Bool) (t : Tree) (j : ℕ) → test j ≡ b → length ts < f + j → C t j → All (λ u k. C u k × (test k ≡ false)) (many test step f b t j)
    unfolding many
    many_ends zero b t j e l h = absurd (omega (arith, inside t j h))
    many_ends (suc f) false t j e l h = (h, e)
    many_ends (suc f) true t j e l h =
        then_all (λ u k. C u k × (j < k)) (λ u k. C u k × (test k ≡ false)) (step t j) (λ u k. many test step f (test k) u k) (s t j h e)
        (λ u k h'. many_ends f (test k) u k refl (omega (arith, h'.1)) h'.0)

    pub loop_ends : (t : Tree) (j : ℕ) → C t j → All (λ u k. C u k × (test k ≡ false)) (Parse.loop ts test step t j)
    unfolding Parse.loop
    loop_ends t j h = many_ends (suc (length ts)) (test j) t j refl (omega arith) h

  pub loop_all : (C : Tree → ℕ → Type 0) (test : ℕ → Bool) (step : Tree → P) → ((t : Tree) (j : ℕ) → C t j → test j ≡ true → All C (step t j))
      → (t : Tree) (j : ℕ) → C t j → All C (Parse.loop ts test step t j)
  unfolding Parse.loop
  loop_all C test step s t j h = many_all C test step s (suc (length ts)) (test j) t j refl h

  module _ (C : Tree → ℕ → Type 0) where
    pub want_in_all : (s k : ℕ) (f : P) (i : ℕ) → (kind_at ts i ≡ k → All C (f (i + 1))) → All C (Parse.want_in ts s k f i)
    unfolding Parse.want_in Parse.want_by
    want_in_all s k f i h = go (eqb (kind_at ts i) k) refl
      where
        go : (b : Bool) → eqb (kind_at ts i) k ≡ b → All C (Parse.want_by ts b s f i)
        go true b = h (eqb-true (kind_at ts i) k b)
        go false b = tt

    pub want_all : (k : ℕ) (f : P) (i : ℕ) → (kind_at ts i ≡ k → All C (f (i + 1))) → All C (Parse.want ts k f i)
    unfolding Parse.want
    want_all k f i h = want_in_all (only k) k f i h

    pub end_in_all : (s k : ℕ) (t : Tree) (f : P) (i : ℕ) → (kind_at ts i ≡ k → All C (f (i + 1))) → All C (Parse.end_in ts s k t f i)
    unfolding Parse.end_in
    end_in_all s k t f i h = want_in_all (Parse.onward ts t i + s) k f i h

    pub end_all : (k : ℕ) (t : Tree) (f : P) (i : ℕ) → (kind_at ts i ≡ k → All C (f (i + 1))) → All C (Parse.end ts k t f i)
    unfolding Parse.end
    end_all k t f i h = end_in_all (only k) k t f i h

    pub need_all : (k : ℕ) (f : P) (i : ℕ) → (kind_at ts i ≡ k → All C (f i)) → All C (Parse.need ts k f i)
    unfolding Parse.need Parse.need_by
    need_all k f i h = go (eqb (kind_at ts i) k) refl
      where
        go : (b : Bool) → eqb (kind_at ts i) k ≡ b → All C (Parse.need_by ts b k f i)
        go true b = h (eqb-true (kind_at ts i) k b)
        go false b = tt

    pub named_all : (f : List ℕ → P) (i : ℕ) → (kind_at ts i ≡ Identifier → All C (f (spelling_of (tok_at ts i)) (i + 1))) → All C (Parse.named ts f i)
    unfolding Parse.named
    named_all f i h = want_all Identifier (f (spelling_of (tok_at ts i))) i h

    pub quoted_all : (f : List ℕ → P) (i : ℕ) → (kind_at ts i ≡ StringLiteral → All C (f (spelling_of (tok_at ts i)) (i + 1))) → All C (Parse.quoted ts f i)
    unfolding Parse.quoted
    quoted_all f i h = want_all StringLiteral (f (spelling_of (tok_at ts i))) i h

    pub valued_all : (f : ℕ → P) (i : ℕ) → (kind_at ts i ≡ Number → All C (f (bits_in (tok_at ts i)) (i + 1))) → All C (Parse.valued ts f i)
    unfolding Parse.valued
    valued_all f i h = want_all Number (f (bits_in (tok_at ts i))) i h
