-- `fits` meets its contract, test by test.
use mathlib.Core.Path.{◌≡◌, refl, sym}
use mathlib.Core.Bool.{Bool, true, false}
use Prim.Native.Nat.{ℕ}
use native.Mathlib.Omega.{arith}
use lib.Dec.{eqb}
use borrow.Author.Tests.{le-leb, lt-leb, eqb-true, eqb-false, eq-eqb, ne_eqb}
use borrow.Author.Rules.{rules}
use Rattle.edit_change.specs.Change.{fits_change}
use Rattle.edit_change.proofs.fits.Statement.{statement}
use Rattle.edit_change.proofs.fits.Tie as tie

-- a test that tells whether two numbers are the same
same_by : (p : Bool) (m n : ℕ) → (p ≡ true → m ≡ n) → (p ≡ false → m ≡ n → ⊥) → p ≡ eqb m n
same_by true m n f g = sym (eq-eqb m n (f refl))
same_by false m n f g = sym (ne_eqb m n (g refl))

returns : tie.Need-returns-then-b-a
unfolding fits_change
returns c = let a = c.before.args in rw (lt-leb a.a a.b c.if-b-a.true)

returns_2 : tie.Need-returns-then-length-b
unfolding fits_change
returns_2 c =
    let a = c.before.before.args in
    rw (le-leb a.a a.b c.before.if-b-a.false, lt-leb a.b a.length c.if-length-b.true)

new_length_requires : tie.Need-new_length-made-requires
new_length_requires c κs = search rules

returns_3 : tie.Need-returns
unfolding fits_change
returns_3 c =
    let k = c.before in
    let a = k.before.before.args in
    rw (le-leb a.a a.b k.before.if-b-a.false, le-leb a.b a.length k.if-length-b.false, ← c.new_length-made.ensures)
    (same_by _ a.size c.new_length-made.result (λ e. omega (arith, eqb-true)) (λ e h. omega (arith, eqb-false)))

pub fits_spec : {M : Type 1} → statement M
fits_spec = tie.close (tie.spec returns returns_2 new_length_requires returns_3)
