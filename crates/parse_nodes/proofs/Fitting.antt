-- What would have fitted, as the code tells it of words, is what the parser tells; and the header of a declaration.
use mathlib.Core.Path.{◌≡◌, sym, ap, ◌∙◌}
use mathlib.Core.Bool.{Bool, true, false, cond}
use mathlib.Core.List.{List}
use Prim.Native.Nat.{ℕ, ◌+◌, ◌-◌, ◌^◌, ◌<◌}
use native.Mathlib.Omega.{arith}
use Rattle.std.specs.Prelude.{Result, Ok, Err}
use Rattle.rules.specs.Kinds.{Identifier, LBrace, RBrace, LParen}
use Rattle.rules.specs.Fits.{only, ons, shifts, wrong}
use Rattle.rules.specs.Tree.{Tok, Tree, spelling_of, is_sum}
use Rattle.rules.specs.Parse
use Rattle.rules.specs.Parse.{no, P, then, tok_at}
use Rattle.theory_grammar.proofs.Cases.{end_in_yes, end_in_no, want_yes, want_no, named_yes, named_no, braced_is}
use Rattle.parse_nodes.specs.Post.{kind_word, state_at, Tells}
use Rattle.parse_nodes.specs.declared.At.{At}
use Rattle.parse_nodes.specs.declared.Refusal.{Refusal}
use Rattle.parse_nodes.specs.Fitting.{dotted_words, onward_words, Header, no_name, no_brace, opens}
use Rattle.parse_nodes.proofs.Rows.{tells_kind}
use Rattle.parse_nodes.proofs.Turn.{told}

-- every such set has kinds below 53 alone
pub onward_low : (ws : List ℕ) (n : ℕ) (b : Bool) (i : ℕ) → onward_words ws n b i < 2 ^ 53
unfolding onward_words
onward_low ws n b i = go b (dotted_words ws n i)
  where
    go : (b d : Bool) → ons + cond b 0 shifts + cond d (only LParen) 0 < 2 ^ 53
    go true true = omega arith
    go true false = omega arith
    go false true = omega arith
    go false false = omega arith

module _ (ts : List Tok) (ws : List ℕ) (n : ℕ) (tells : Tells ts ws n) where
  -- what goes on with an expression or arguments
  pub onward_told : (t : Tree) (b : Bool) (i : ℕ) → b ≡ is_sum t → onward_words ws n b i ≡ Parse.onward ts t i
  unfolding onward_words dotted_words Parse.onward
  onward_told t b i e = rw (e, tells_kind ts ws n tells (i - 1), tells_kind ts ws n tells (i - 2))

  -- a row behind them, of the kind that ends them or another
  module _ (s k : ℕ) (t : Tree) (f : P) (i : ℕ) where
    pub end_met : kind_word ws n i ≡ k → Parse.end_in ts s k t f i ≡ f (i + 1)
    end_met e = end_in_yes ts s k f i t (sym (tells_kind ts ws n tells i) ∙ e)

    pub end_unmet : (b : Bool) → b ≡ is_sum t → (kind_word ws n i ≡ k → ⊥) → Parse.end_in ts s k t f i ≡ no (wrong (onward_words ws n b i + s)) i
    end_unmet b e h =
        end_in_no ts s k f i t (λ q. h (tells_kind ts ws n tells i ∙ q))
        ∙ ap (λ (x : ℕ). no (wrong (x + s)) i) (sym (onward_told t b i e))

  -- a declaration whose word is at row i: no name, no brace, or its list
  module _ (s : ℕ) (p : P) (f : List ℕ → Tree → P) (i : ℕ) where
    pub nameless : (kind_word ws n (i + 1) ≡ Identifier → ⊥) → Parse.braced ts s p f i ≡ no (wrong (only Identifier)) (i + 1)
    nameless h = braced_is ts s p f i ∙ named_no ts _ (i + 1) (λ q. h (tells_kind ts ws n tells (i + 1) ∙ q))

    module _ (e : kind_word ws n (i + 1) ≡ Identifier) where
      pub named_on : Parse.braced ts s p f i
          ≡ Parse.want ts LBrace (λ j. then (Parse.list_to ts RBrace s p j) (λ l k. f (spelling_of (tok_at ts (i + 1))) l (k + 1))) (i + 1 + 1)
      named_on = braced_is ts s p f i ∙ named_yes ts _ (i + 1) (sym (tells_kind ts ws n tells (i + 1)) ∙ e)

      pub braceless : (kind_word ws n (i + 1 + 1) ≡ LBrace → ⊥) → Parse.braced ts s p f i ≡ no (wrong (only LBrace)) (i + 1 + 1)
      braceless h = named_on ∙ want_no ts LBrace _ (i + 1 + 1) (λ q. h (tells_kind ts ws n tells (i + 1 + 1) ∙ q))

      pub listed_on : kind_word ws n (i + 1 + 1) ≡ LBrace → Parse.braced ts s p f i
          ≡ then (Parse.list_to ts RBrace s p (i + 1 + 1 + 1)) (λ l k. f (spelling_of (tok_at ts (i + 1))) l (k + 1))
      listed_on h = named_on ∙ want_yes ts LBrace _ (i + 1 + 1) (sym (tells_kind ts ws n tells (i + 1 + 1)) ∙ h)

-- ---- the header's answer, taken apart

-- it gave the state at the first thing in the braces
pub record Opens (ws : List ℕ) (n i nd : ℕ) (s : At) : Type 0 where
  pub name : kind_word ws n (i + 1) ≡ Identifier
  pub brace : kind_word ws n (i + 1 + 1) ≡ LBrace
  pub state : s ≡ state_at (i + 1 + 1 + 1) nd (i + 1 + 1 + 1)

module _ (ws : List ℕ) (n i nd : ℕ) (r : Result At Refusal) where
  pub header_gave : (s : At) → Header ws n i nd r → r ≡ Ok s → Opens ws n i nd s
  header_gave s (no_name a q) e = let z : ◌≡◌ {A = ℕ} 0 1 = cc (q, e) in absurd (omega arith)
  header_gave s (no_brace a b q) e = let z : ◌≡◌ {A = ℕ} 0 1 = cc (q, e) in absurd (omega arith)
  header_gave s (opens a b q) e = record { name = a; brace = b; state = cc (q, e) }

  pub header_refused : (ts : List Tok) → Tells ts ws n → (x : Refusal) → Header ws n i nd r → r ≡ Err x
      → (s : ℕ) (p : P) (f : List ℕ → Tree → P) → Parse.braced ts s p f i ≡ no x.why x.row
  header_refused ts tells x (no_name a q) e s p f = nameless ts ws n tells s p f i a ∙ told _ _ x (sym q ∙ e)
  header_refused ts tells x (no_brace a b q) e s p f = braceless ts ws n tells s p f i a b ∙ told _ _ x (sym q ∙ e)
  header_refused ts tells x (opens a b q) e s p f = let z : ◌≡◌ {A = ℕ} 0 1 = cc (q, e) in absurd (omega arith)
