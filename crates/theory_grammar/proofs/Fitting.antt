-- What a refusal tells: the kinds with which some program goes on in place of the row that it is about.
use mathlib.Core.Path.{◌≡◌, refl, sym, ap, ◌∙◌, subst}
use mathlib.Core.Bool.{Bool, true, false, true≢false}
use mathlib.Core.List.{List}
use Prim.Native.Nat.{ℕ}
use Rattle.rules.specs.declared.Syntax.{Syntax}
use Rattle.rules.specs.Fits.{has, set_told}
use Rattle.rules.specs.Tree.{Tok}
use Rattle.rules.specs.Parse
use Rattle.rules.specs.Parse.{no, kind_at}
use Rattle.theory_grammar.specs.Tokens.{Proper}
use Rattle.theory_grammar.specs.Lost.{is_misfit, lost, LostAt, own, around}
use Rattle.theory_grammar.specs.Fitting.{Fitting, ToldExactly, in_grammar}
use Rattle.theory_grammar.proofs.GoesOn.{Lost, some_goes_on}
use Rattle.theory_grammar.proofs.FitsTold.{fits_told, found_unfit}
use Rattle.theory_grammar.proofs.Lines.{fits_lined}

-- with each kind that is told some program goes on
pub told_fits : (ts : List Tok) (why : Syntax) (r : ℕ) → Proper ts → Parse.parse ts ≡ no why r → is_misfit why ≡ true → (k : ℕ)
    → has (set_told why) k ≡ true → Fitting ts (lost ts why r) k
unfolding is_misfit
told_fits ts why r p e m k t = go (some_goes_on ts why r p e) (some_goes_on ts why r p e).at
  where
    go : (h : Lost ts why r) → LostAt ts why r h.row → Fitting ts (lost ts why r) k
    go h (own q) = subst (λ (s : ℕ). Fitting ts s k) q (h.fits m k t)
    go h (around q l o) = absurd (true≢false (sym m ∙ ap is_misfit q))

-- The theorem: a refusal with 21, 22, 23, 25 or 30 tells exactly the kinds that would have fitted in place of the row that it is about.
pub told_exactly : (ts : List Tok) (why : Syntax) (r : ℕ) → Proper ts → Parse.parse ts ≡ no why r → is_misfit why ≡ true
    → ToldExactly ts why r
told_exactly ts why r p e m = record { told_fits = told_fits ts why r p e m; fits_told = fits_told ts why r e m }

-- So the kind that was found is not among them.
pub found_untold : (ts : List Tok) (why : Syntax) (r : ℕ) → Proper ts → Parse.parse ts ≡ no why r → is_misfit why ≡ true
    → has (set_told why) (kind_at ts (lost ts why r)) ≡ false
found_untold ts why r p e m = go (has (set_told why) (kind_at ts (lost ts why r))) refl
  where
    go : (b : Bool) → has (set_told why) (kind_at ts (lost ts why r)) ≡ b → b ≡ false
    go true q = absurd (found_unfit ts why r e m (told_fits ts why r p e m (kind_at ts (lost ts why r)) q))
    go false q = refl

-- Nor is a kind that no line of the grammar has: 16 to 20, 37 to 40, and all from 53 on.
pub never_told : (ts : List Tok) (why : Syntax) (r : ℕ) → Proper ts → Parse.parse ts ≡ no why r → is_misfit why ≡ true → (k : ℕ)
    → in_grammar k ≡ false → has (set_told why) k ≡ false
never_told ts why r p e m k n = go (has (set_told why) k) refl
  where
    go : (b : Bool) → has (set_told why) k ≡ b → b ≡ false
    go true q = absurd (true≢false (sym (fits_lined ts (lost ts why r) k (told_fits ts why r p e m k q)) ∙ n))
    go false q = refl
