-- What a lone variable or number is to the parser: `mul` reads it and stops.
use mathlib.Core.Path.{◌≡◌, refl, sym, ap, ◌∙◌}
use mathlib.Core.Bool.{Bool, true, false, cond, not, ◌&&◌, ◌||◌, true≢false}
use mathlib.Core.List.{List}
use Prim.Native.Nat.{ℕ, suc, ◌+◌}
use native.Mathlib.Omega.{arith}
use lib.Dec.{eqb}
use lib.ListN.{length}
use borrow.Author.Tests.{ne_eqb, eq-eqb, eqb-false}
use Rattle.rules.specs.Kinds.{Dot, Star, Identifier, Number}
use Rattle.rules.specs.Tree.{Tok, kind_of, spelling_of, bits_in, Tree, num, var}
use Rattle.rules.specs.Nodes.{width}
use Rattle.rules.specs.Parse
use Rattle.rules.specs.Parse.{ok, P, is_mul, tok_at, kind_at, Sort}
use Rattle.theory_grammar.proofs.Laws.{either_kind}
use Rattle.theory_grammar.proofs.Cases.{then_ok, many_stop, unary_else, prim_is, mul_is}
use Rattle.parse_nodes.specs.Post.{Met, Stands}
use Rattle.parse_nodes.specs.declared.At.{At}
use Rattle.std.specs.Prelude.{Ok}
use Rattle.parse_nodes.proofs.Turn.{met_ok}
use Rattle.parse_expr.specs.Lone.{is_lone, leaf_of}

-- ---- the leaf

leaf_width : (x : Tok) → width (leaf_of x) ≡ 1
unfolding leaf_of width
leaf_width x = go (eqb (kind_of x) Number)
  where
    go : (b : Bool) → width (cond b (num (bits_in x)) (var (spelling_of x))) ≡ 1
    go true = refl
    go false = refl

pub leaf_num : (x : Tok) → kind_of x ≡ Number → leaf_of x ≡ num (bits_in x)
unfolding leaf_of
leaf_num x e = rw (eq-eqb (kind_of x) Number e)

pub leaf_var : (x : Tok) → (kind_of x ≡ Number → ⊥) → leaf_of x ≡ var (spelling_of x)
unfolding leaf_of
leaf_var x h = rw (ne_eqb (kind_of x) Number h)

-- no leaf is neither a variable nor a number
pub no_leaf : (x : ℕ) → (eqb x Identifier || eqb x Number) ≡ false → (x ≡ Identifier → ⊥) × (x ≡ Number → ⊥)
no_leaf x h =
    (λ e. true≢false (sym (ap (λ (y : ℕ). eqb y Identifier || eqb y Number) e) ∙ h), λ e. true≢false (sym (ap (λ (y : ℕ). eqb y Identifier || eqb y Number) e) ∙ h))

-- ---- the parser

module _ (ts : List Tok) (g : Sort → P) (i : ℕ) where
  -- a variable or a number is what `atom` reads
  pub atom_leaf : (eqb (kind_at ts i) Identifier || eqb (kind_at ts i) Number) ≡ true → Parse.atom ts g i ≡ ok (leaf_of (tok_at ts i)) (i + 1)
  unfolding Parse.atom Parse.atom_by Parse.lead leaf_of
  atom_leaf b =
      either_kind
      (λ x. Parse.atom_by ts g (Parse.lead x) i
      ≡ ok (cond (eqb x Number) (num (bits_in (tok_at ts i))) (var (spelling_of (tok_at ts i)))) (i + 1))
      (kind_at ts i) Identifier Number b refl refl

  -- and so it answers with the state behind it
  pub met_leaf : (n : ℕ) (m m' : List ℕ) (s : At) → (eqb (kind_at ts i) Identifier || eqb (kind_at ts i) Number) ≡ true
      → Stands i n (leaf_of (tok_at ts i)) m s m' → Met (Parse.atom ts g i) i n m m' (Ok s)
  met_leaf n m m' s e h =
      let r : i + 1 ≡ s.row = omega (arith, h.rows, leaf_width (tok_at ts i)) in
      met_ok (Parse.atom ts g i) i n (leaf_of (tok_at ts i)) m m' s (atom_leaf e ∙ ap (ok (leaf_of (tok_at ts i))) r) h

  -- an atom with neither a dot nor an operator behind it
  mul_stops : (t : Tree) (j : ℕ) → Parse.atom ts g i ≡ ok t j → eqb (kind_at ts i) Star ≡ false → eqb (kind_at ts j) Dot ≡ false
      → is_mul (kind_at ts j) ≡ false → Parse.mul ts g i ≡ ok t j
  mul_stops t j a s d m =
      let p : Parse.prim ts g i ≡ ok t j =
      prim_is ts g i ∙ then_ok _ _ t j a ∙ many_stop (λ r. eqb (kind_at ts r) Dot) (Parse.post ts g) (suc (length ts)) t j d in
      let u : Parse.unary ts g i ≡ ok t j = unary_else ts g i (eqb-false (kind_at ts i) Star s) ∙ p in
      mul_is ts g i ∙ then_ok _ _ t j u
      ∙ many_stop (λ r. is_mul (kind_at ts r)) (Parse.bin_step ts g (Parse.unary ts g)) (suc (length ts)) t j m

  -- a lone variable or number is all that `mul` reads
  pub mul_lone : is_lone (kind_at ts i) (kind_at ts (i + 1)) ≡ true → Parse.mul ts g i ≡ ok (leaf_of (tok_at ts i)) (i + 1)
  unfolding is_lone
  mul_lone e =
      let b = eqb (kind_at ts i) Identifier || eqb (kind_at ts i) Number in
      let h = parts b (eqb (kind_at ts (i + 1)) Dot) (is_mul (kind_at ts (i + 1))) e in
      let s = either_kind (λ x. eqb x Star ≡ false) (kind_at ts i) Identifier Number h.0 refl refl in
      mul_stops (leaf_of (tok_at ts i)) (i + 1) (atom_leaf h.0) s h.1.0 h.1.1
    where
      parts : (a b c : Bool) → a && not (b || c) ≡ true → (a ≡ true) × ((b ≡ false) × (c ≡ false))
      parts true false false e = (refl, (refl, refl))
      parts true false true e = absurd (true≢false (sym e))
      parts true true c e = absurd (true≢false (sym e))
      parts false b c e = absurd (true≢false (sym e))

  -- and so `mul` answers with the state behind it
  pub met_lone : (n : ℕ) (m m' : List ℕ) (s : At) → is_lone (kind_at ts i) (kind_at ts (i + 1)) ≡ true
      → Stands i n (leaf_of (tok_at ts i)) m s m' → Met (Parse.mul ts g i) i n m m' (Ok s)
  met_lone n m m' s e h =
      let r : i + 1 ≡ s.row = omega (arith, h.rows, leaf_width (tok_at ts i)) in
      met_ok (Parse.mul ts g i) i n (leaf_of (tok_at ts i)) m m' s (mul_lone e ∙ ap (ok (leaf_of (tok_at ts i))) r) h
