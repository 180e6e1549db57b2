-- Where every refusal of the parser stands: by which row a program is lost, and that it is the first such row.
use mathlib.Core.Path.{◌≡◌, sym, ap, ◌∙◌, subst}
use mathlib.Core.Bool.{true, false}
use mathlib.Core.List.{List}
use mathlib.Core.Logic.{◌⊎◌, inl, inr}
use Prim.Native.Nat.{ℕ, ◌+◌}
use native.Mathlib.Omega.{arith}
use Rattle.rules.specs.declared.Syntax.{Syntax}
use Rattle.rules.specs.declared.Syntax.TheVariants.{CallOnOther}
use Rattle.rules.specs.Tree.{Tok, yield}
use Rattle.rules.specs.Nodes.{width}
use Rattle.rules.specs.Parse
use Rattle.rules.specs.Parse.{ok, no}
use Rattle.theory_grammar.specs.Tokens.{Proper}
use Rattle.theory_grammar.specs.Lost.{is_misfit, is_check, LostAt, own, around, GoesOn, First}
use Rattle.theory_grammar.proofs.Complete.{parse_complete}
use Rattle.theory_grammar.proofs.Local.{Dead, Alike, alike, none_goes_on}
use Rattle.theory_grammar.proofs.GoesOn.{Lost, some_goes_on}

-- no program within the checks begins with the rows up to one that dooms
none_behind : (ts : List Tok) (why : Syntax) (r s : ℕ) → Parse.parse ts ≡ no why r
    → ((ts' : List Tok) → Alike ts ts' (s + 1) → Dead CallOnOther (Parse.parse ts')) → GoesOn true 64 ts (s + 1) → ⊥
none_behind ts why r s e doom g = go (alike ts (yield g.tree) (s + 1) g.begins) (parse_complete g.tree g.is)
  where
    go : Alike ts (yield g.tree) (s + 1) ⊎ (yield g.tree ≡ ts) → Parse.parse (yield g.tree) ≡ ok g.tree (width g.tree) → ⊥
    go (inl a) q = subst (Dead CallOnOther) q (doom (yield g.tree) a)
    go (inr x) q = let y : Parse.parse ts ≡ ok g.tree (width g.tree) = ap Parse.parse (sym x) ∙ q in let z : ◌≡◌ {A = ℕ} 0 1 = cc in omega arith

-- The theorem: what is refused, with any of 21 to 32, is refused for the first row with which no program goes on.
pub refused_first : (ts : List Tok) (why : Syntax) (r : ℕ) → Proper ts → Parse.parse ts ≡ no why r → First ts why r
unfolding is_misfit is_check
refused_first ts why r p e =
    let h : Lost ts why r = some_goes_on ts why r p e in
    record { row = h.row; at = h.at; goes = h.goes; stops = go h h.at }
  where
    go : (h : Lost ts why r) → LostAt ts why r h.row → (n : ℕ) → (is_misfit why ≡ false → n ≡ 64) → GoesOn (is_check why) n ts (h.row + 1) → ⊥
    go h (own q) n d g = none_goes_on ts why r e n d (subst (λ (s : ℕ). GoesOn (is_check why) n ts (s + 1)) q g)
    go h (around q l o) n d g =
        none_behind ts why r h.row e (h.dooms q)
        (subst (λ (m : ℕ). GoesOn true m ts (h.row + 1)) (d (ap is_misfit q)) (subst (λ (y : Syntax). GoesOn (is_check y) n ts (h.row + 1)) q g))
