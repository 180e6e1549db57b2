-- A refusal that a function made, and an answer whose refusal was changed by `map_err`.
use mathlib.Core.Path.{◌≡◌, refl, sym, ap, ◌∙◌, subst}
use mathlib.Core.List.{List}
use Prim.Native.Nat.{ℕ}
use Rattle.std.specs.Prelude.{Result, Ok, Err, MatchResult, IsErrAnd}
use Rattle.rules.specs.declared.Syntax.{Syntax}
use Rattle.rules.specs.Parse.{Out, no}
use Rattle.parse_nodes.specs.Post.{refusal, refused_at, Met}
use Rattle.parse_nodes.specs.declared.Refusal.{Refusal}

-- an answer with the refusal e, whose reason a function gave
pub met_err : (o : Out) (i n : ℕ) (m m' : List ℕ) (why x : Syntax) (p : ℕ) (e : Refusal) → o ≡ no why p → x ≡ why → e ≡ refusal x p
    → Met o i n m m' (Err e)
met_err o i n m m' why x p e q s r =
    subst (λ (y : Out). Met y i n m m' (Err e)) (sym q) (ap Err r ∙ ap (λ (y : Syntax). refused_at y p) s)

-- what `map_err` says of the answer r that it was given and the answer q that it gave
module _ {A E D : Type 0} (P : E → D → Type 0) (r : Result A E) (q : Result A D) where
  pub mapped_ok : {x : A} → MatchResult r (λ y. q ≡ Ok y) (λ e. IsErrAnd q (P e)) → q ≡ Ok x → r ≡ Ok x
  mapped_ok {x} h w = go r h
    where
      go : (r : Result A E) → MatchResult r (λ y. q ≡ Ok y) (λ e. IsErrAnd q (P e)) → r ≡ Ok x
      go (Ok y) h = cc
      go (Err e) h = let z : IsErrAnd (Ok x) (P e) = subst (λ (y : Result A D). IsErrAnd y (P e)) w h in absurd z

  -- where it changed the refusal e to `told e`
  pub mapped_err : {x : D} (told : E → D) → MatchResult r (λ y. q ≡ Ok y) (λ e. IsErrAnd q (P e)) → q ≡ Err x
      → ((e : E) (y : D) → P e y → y ≡ told e) → (e : E) × (r ≡ Err e) × (x ≡ told e)
  mapped_err {x} told h w k = go r h
    where
      go : (r : Result A E) → MatchResult r (λ y. q ≡ Ok y) (λ e. IsErrAnd q (P e)) → (e : E) × (r ≡ Err e) × (x ≡ told e)
      go (Ok y) h = cc
      go (Err e) h = (e, refl, k e x (subst (λ (y : Result A D). IsErrAnd y (P e)) w h))
