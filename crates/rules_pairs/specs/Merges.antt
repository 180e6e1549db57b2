-- Several edits since a common text, ours and theirs: theirs across ours, and ours after theirs.
use Rattle.std.specs.Prelude.{List, [], ◌∷◌, ℕ}
use Rattle.rules_pairs.specs.Pairs.{Edit, Lies, after, Pair, adjusted}

-- the text after several, each told in places of the text after those before it
abbrev pub after_all : List ℕ → List Edit → List ℕ
after_all t [] = t
after_all t (e ∷ es) = after_all (after t e) es

-- each lies in the text that it is told in places of
pub data AllLie : (t : List ℕ) (es : List Edit) → Type 0 where
  none : {t : List ℕ} → AllLie t []
  next : {t : List ℕ} {e : Edit} {es : List Edit} → Lies e t → AllLie (after t e) es → AllLie t (e ∷ es)

-- their edit e, told in places of the common text, in places of the text after ours
abbrev pub across : List Edit → Edit → Edit
across [] e = e
across (o ∷ os) e = across os (adjusted o e)

-- ours after their edit e, which then belongs to the common text
abbrev pub rebased : Edit → List Edit → List Edit
rebased e [] = []
rebased e (o ∷ os) = adjusted e o ∷ rebased (adjusted o e) os

-- the same of several of theirs, one after the other
abbrev pub across_all : List Edit → List Edit → List Edit
across_all ours [] = []
across_all ours (e ∷ es) = across ours e ∷ across_all (rebased e ours) es

abbrev pub rebased_all : List Edit → List Edit → List Edit
rebased_all ours [] = ours
rebased_all ours (e ∷ es) = rebased_all (rebased e ours) es

-- On its way e is apart from each of ours, in the text that this one was made for.
pub data Clear : (t : List ℕ) (ours : List Edit) (e : Edit) → Type 0 where
  through : {t : List ℕ} {e : Edit} → Lies e t → Clear t [] e
  over : {t : List ℕ} {o e : Edit} {os : List Edit} → Pair t o e → Clear (after t o) os (adjusted o e) → Clear t (o ∷ os) e

pub data AllClear : (t : List ℕ) (ours theirs : List Edit) → Type 0 where
  done : {t : List ℕ} {ours : List Edit} → AllLie t ours → AllClear t ours []
  then : {t : List ℕ} {ours : List Edit} {e : Edit} {es : List Edit} → Clear t ours e → AllClear (after t e) (rebased e ours) es
      → AllClear t ours (e ∷ es)
