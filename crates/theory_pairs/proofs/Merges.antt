-- Two consoles with a common text, each with edits of its own, take each other's edits in order and end in the same text.
-- The theorem is `consoles_alike`; that every edit lies in its text, `here_lie` and `there_lie`.
use Prim.Native.Nat.{ℕ}
use mathlib.Core.List.{List, [], ◌∷◌, ◌++◌}
use mathlib.Core.Path.{◌≡◌, refl, ap, sym, subst, ◌∙◌}
use Rattle.rules_pairs.specs.Pairs.{Edit, Lies, after, adjusted}
use Rattle.rules_pairs.specs.Merges.{after_all, AllLie, none, next, across, rebased, across_all, rebased_all}
use Rattle.rules_pairs.specs.Merges.{Clear, through, over, AllClear, done, then}
use Rattle.theory_pairs.proofs.Texts.{same_text, adjusted_lies, turned}

-- ---- texts

-- Ours and then theirs across ours make the text that theirs and then ours, rebased, make.
pub across_text : {t : List ℕ} {ours : List Edit} {e : Edit} → Clear t ours e
    → after (after_all t ours) (across ours e) ≡ after_all (after t e) (rebased e ours)
across_text (through h) = refl
across_text (over {o = o} {e = e} {os = os} p c) =
    across_text c ∙ ap (λ (s : List ℕ). after_all s (rebased (adjusted o e) os)) (same_text p)

all_text : {t : List ℕ} {ours theirs : List Edit} → AllClear t ours theirs
    → after_all (after_all t ours) (across_all ours theirs) ≡ after_all (after_all t theirs) (rebased_all ours theirs)
all_text (done h) = refl
all_text (then {ours = ours} {e = e} {es = es} c h) =
    ap (λ (s : List ℕ). after_all s (across_all (rebased e ours) es)) (across_text c) ∙ all_text h

-- ours after theirs, the first of ours by itself
rebased_first : (o : Edit) (os es : List Edit) → rebased_all (o ∷ os) es ≡ across es o ∷ rebased_all os (rebased o es)
rebased_first o os [] = refl
rebased_first o os (e ∷ es) = rebased_first (adjusted e o) (rebased (adjusted o e) os) es

-- so what the other console makes of ours is what ours are after theirs
turned_round : (ours theirs : List Edit) → across_all theirs ours ≡ rebased_all ours theirs
turned_round [] [] = refl
turned_round [] (e ∷ es) = turned_round [] es
turned_round (o ∷ os) es = ap (◌∷◌ (across es o)) (turned_round os (rebased o es)) ∙ sym (rebased_first o os es)

-- one list of edits behind another
after_both : (t : List ℕ) (es fs : List Edit) → after_all t (es ++ fs) ≡ after_all (after_all t es) fs
after_both t [] fs = refl
after_both t (e ∷ es) fs = after_both (after t e) es fs

-- Each console makes its own edits and then the other's, across its own: both end in the same text.
pub consoles_alike : {t : List ℕ} {ours theirs : List Edit} → AllClear t ours theirs
    → after_all t (ours ++ across_all ours theirs) ≡ after_all t (theirs ++ across_all theirs ours)
consoles_alike {t} {ours} {theirs} h =
    after_both t ours (across_all ours theirs) ∙ all_text h
    ∙ ap (after_all (after_all t theirs)) (sym (turned_round ours theirs)) ∙ sym (after_both t theirs (across_all theirs ours))

-- ---- every edit lies in its text

lie_both : {t : List ℕ} {es fs : List Edit} → AllLie t es → AllLie (after_all t es) fs → AllLie t (es ++ fs)
lie_both none i = i
lie_both (next h k) i = next h (lie_both k i)

theirs_lies : {t : List ℕ} {ours : List Edit} {e : Edit} → Clear t ours e → Lies e t
theirs_lies (through h) = h
theirs_lies (over p c) = p.other

ours_lie : {t : List ℕ} {ours : List Edit} {e : Edit} → Clear t ours e → AllLie t ours
ours_lie (through h) = none
ours_lie (over p c) = next p.one (ours_lie c)

across_lies : {t : List ℕ} {ours : List Edit} {e : Edit} → Clear t ours e → Lies (across ours e) (after_all t ours)
across_lies (through h) = h
across_lies (over p c) = across_lies c

all_ours_lie : {t : List ℕ} {ours theirs : List Edit} → AllClear t ours theirs → AllLie t ours
all_ours_lie (done h) = h
all_ours_lie (then c h) = ours_lie c

all_theirs_lie : {t : List ℕ} {ours theirs : List Edit} → AllClear t ours theirs → AllLie t theirs
all_theirs_lie (done h) = none
all_theirs_lie (then c h) = next (theirs_lies c) (all_theirs_lie h)

across_all_lie : {t : List ℕ} {ours theirs : List Edit} → AllClear t ours theirs → AllLie (after_all t ours) (across_all ours theirs)
across_all_lie (done h) = none
across_all_lie (then {ours = ours} {e = e} {es = es} c h) =
    next (across_lies c) (subst (λ (s : List ℕ). AllLie s (across_all (rebased e ours) es)) (sym (across_text c)) (across_all_lie h))

rebased_all_lie : {t : List ℕ} {ours theirs : List Edit} → AllClear t ours theirs → AllLie (after_all t theirs) (rebased_all ours theirs)
rebased_all_lie (done h) = h
rebased_all_lie (then c h) = rebased_all_lie h

pub here_lie : {t : List ℕ} {ours theirs : List Edit} → AllClear t ours theirs → AllLie t (ours ++ across_all ours theirs)
here_lie h = lie_both (all_ours_lie h) (across_all_lie h)

pub there_lie : {t : List ℕ} {ours theirs : List Edit} → AllClear t ours theirs → AllLie t (theirs ++ across_all theirs ours)
there_lie {t} {ours} {theirs} h =
    lie_both (all_theirs_lie h)
    (subst (λ (es : List Edit). AllLie (after_all t theirs) es) (sym (turned_round ours theirs)) (rebased_all_lie h))
