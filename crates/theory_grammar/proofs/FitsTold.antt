-- What would have fitted, from the grammar to the parser: a kind with which some program goes on in place of the lost row is in the set
-- that
-- is told, and the kind that was found is none of these.
use mathlib.Core.Path.{◌≡◌, refl, sym, ap, ◌∙◌, subst}
use mathlib.Core.Bool.{Bool, true, false, true≢false}
use mathlib.Core.List.{List, [], append-nil}
use mathlib.Core.Logic.{◌⊎◌, inl, inr}
use Prim.Native.Nat.{ℕ}
use native.Mathlib.Omega.{arith}
use Rattle.rules.specs.declared.Syntax.{Syntax}
use Rattle.rules.specs.declared.Syntax.TheVariants.{Wanted, NotTopLevel, NotMapField, MapTypeUnknown, NotType, MaxNegative, OutOfRange, ShiftCount, MapLacks, NotEventType, CallOnOther, TooDeep}
use Rattle.rules.specs.Fits.{has, set_told}
use Rattle.rules.specs.Tree.{Tok, Tree, yield}
use Rattle.rules.specs.Nodes.{width}
use Rattle.rules.specs.Parse
use Rattle.rules.specs.Parse.{Out, ok, no, kind_at}
use Rattle.rules.specs.Grammar.{Program, Is}
use Rattle.theory_grammar.specs.Lost.{is_misfit, is_check, lost}
use Rattle.theory_grammar.specs.Fitting.{Fitting}
use Rattle.theory_grammar.proofs.Complete.{Gives, gives, checked, nested, program_given}
use Rattle.theory_grammar.proofs.Local.{Alike, alike}
use Rattle.theory_grammar.proofs.Held.{Misfit, Spared, out}
use Rattle.theory_grammar.proofs.Held as held
use Rattle.theory_grammar.proofs.AgainProgram.{misfit_again}

misfit_no_check : (why : Syntax) → is_misfit why ≡ true → is_check why ≡ true → ⊥
unfolding is_misfit is_check
misfit_no_check (Wanted low high) m c = true≢false (sym c)
misfit_no_check NotTopLevel m c = true≢false (sym c)
misfit_no_check NotMapField m c = true≢false (sym c)
misfit_no_check MapTypeUnknown m c = true≢false (sym m)
misfit_no_check NotType m c = true≢false (sym c)
misfit_no_check MaxNegative m c = true≢false (sym m)
misfit_no_check OutOfRange m c = true≢false (sym m)
misfit_no_check ShiftCount m c = true≢false (sym m)
misfit_no_check (MapLacks field) m c = true≢false (sym m)
misfit_no_check NotEventType m c = true≢false (sym c)
misfit_no_check CallOnOther m c = true≢false (sym m)
misfit_no_check TooDeep m c = true≢false (sym m)

-- the tokens of a program are no misfit, of whatever nesting it is, the checks among its rules or not
pub program_fits : {strict : Bool} (n : ℕ) (t : Tree) → Is strict Program n t → Misfit (Parse.parse (yield t)) → ⊥
program_fits {strict} n t h m =
    go (Parse.parse (yield t)) m (program_given (yield t) strict false n t [] (sym (append-nil (yield t))) h
    (λ e. absurd (true≢false (sym e))))
  where
    go : (o : Out) → Misfit o → Gives strict false o (ok t (width t)) → ⊥
    go (ok u j) m g = m
    go (no why r) m (gives e) = let z : ◌≡◌ {A = ℕ} 0 1 = cc in omega arith
    go (no why r) m (checked s c) = misfit_no_check why m c
    go (no why r) m (nested s c) = true≢false (sym m ∙ c.0)

module _ (ts : List Tok) (why : Syntax) (r : ℕ) (refused : Parse.parse ts ≡ no why r) (misfit : is_misfit why ≡ true) where
  -- no program has at the lost row a kind that is spared
  none_spared : (k : ℕ) (f : Fitting ts (lost ts why r) k) → Spared ts (yield f.tree) (lost ts why r) (set_told why) → ⊥
  none_spared k f x = program_fits _ f.tree f.is (go (alike ts (yield f.tree) (lost ts why r) f.begins))
    where
      go : Alike ts (yield f.tree) (lost ts why r) ⊎ (yield f.tree ≡ ts) → Misfit (Parse.parse (yield f.tree))
      go (inl a) = misfit_again a why r refused misfit refl x
      go (inr e) = subst Misfit (sym (ap Parse.parse e ∙ refused)) misfit

  -- what would have fitted is told
  pub fits_told : (k : ℕ) → Fitting ts (lost ts why r) k → has (set_told why) k ≡ true
  fits_told k f = go (has (set_told why) k) refl
    where
      go : (b : Bool) → has (set_told why) k ≡ b → b ≡ true
      go true e = refl
      go false e = absurd (none_spared k f (out (ap (has (set_told why)) f.next ∙ e)))

  -- what was found would not have fitted
  pub found_unfit : Fitting ts (lost ts why r) (kind_at ts (lost ts why r)) → ⊥
  found_unfit f = none_spared (kind_at ts (lost ts why r)) f (held.alike f.next)
