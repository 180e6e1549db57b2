-- The two words of a refusal that tell a set tell exactly the kinds that would have fitted.
use mathlib.Core.Path.{◌≡◌, refl, sym, subst}
use mathlib.Core.Bool.{true, false, true≢false}
use mathlib.Core.List.{List}
use Prim.Native.Nat.{ℕ, ◌+◌, ◌*◌, ◌^◌}
use Rattle.rules.specs.declared.Syntax.{Syntax}
use Rattle.rules.specs.declared.Syntax.TheVariants.{Wanted, NotTopLevel, NotMapField, MapTypeUnknown, NotType, MaxNegative, OutOfRange, ShiftCount, MapLacks, NotEventType, CallOnOther, TooDeep}
use Rattle.rules.specs.Rows.{Row}
use Rattle.rules.specs.Fits.{has, set_told}
use Rattle.rules.specs.Refusals.{first_told, second_told}
use Rattle.theory_grammar.specs.Lost.{is_misfit, lost}
use Rattle.theory_grammar.specs.Fitting.{Fitting}
use Rattle.theory_calls.specs.Demand2.{tokens_of, RefusedRow}

-- the set of 21, 22, 23, 25 and 30 from its words
words_tell : (why : Syntax) → is_misfit why ≡ true → second_told why * 2 ^ 32 + first_told why ≡ set_told why
unfolding is_misfit set_told
words_tell (Wanted low high) m = refl
words_tell NotTopLevel m = refl
words_tell NotMapField m = refl
words_tell MapTypeUnknown m = absurd (true≢false (sym m))
words_tell NotType m = refl
words_tell MaxNegative m = absurd (true≢false (sym m))
words_tell OutOfRange m = absurd (true≢false (sym m))
words_tell ShiftCount m = absurd (true≢false (sym m))
words_tell (MapLacks field) m = absurd (true≢false (sym m))
words_tell NotEventType m = refl
words_tell CallOnOther m = absurd (true≢false (sym m))
words_tell TooDeep m = absurd (true≢false (sym m))

-- a kind's bit in the two words
abbrev pub bit_in : Syntax → ℕ → Type 0
bit_in why k = has (second_told why * 2 ^ 32 + first_told why) k ≡ true

-- The theorem: of 21, 22, 23, 25 and 30 bit k of the words stands exactly if some program goes on with a row of kind k in place of the row that
-- they are about, behind the rows in front of it.
module _ (t : List ℕ) (why : Syntax) (row : Row) (h : RefusedRow t why row) (m : is_misfit why ≡ true) (k : ℕ) where
  pub bit_fits : bit_in why k → Fitting (tokens_of t) (lost (tokens_of t) why h.before) k
  bit_fits b = (h.exactly m).told_fits k (subst (λ (s : ℕ). has s k ≡ true) (words_tell why m) b)

  pub fits_bit : Fitting (tokens_of t) (lost (tokens_of t) why h.before) k → bit_in why k
  fits_bit f = subst (λ (s : ℕ). has s k ≡ true) (sym (words_tell why m)) ((h.exactly m).fits_told k f)
