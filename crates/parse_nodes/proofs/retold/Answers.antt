-- 21 takes the set, and any other refusal stays.
use Rattle.std.proofs.Common.{◌≡◌, refl, ℕ}
use Rattle.rules.specs.declared.Syntax.{Syntax}
use Rattle.rules.specs.declared.Syntax.TheVariants.{Wanted, NotTopLevel, NotMapField, MapTypeUnknown, NotType, MaxNegative, OutOfRange, ShiftCount, MapLacks, NotEventType, CallOnOther, TooDeep}
use Rattle.rules.specs.Fits.{retold}
use Rattle.parse_nodes.proofs.retold.Goals as goal

kept : (s : ℕ) (w : Syntax) → ((x y : ℕ) → w ≡ Wanted x y → ⊥) → w ≡ retold s w
unfolding retold
kept s (Wanted x y) h = absurd (h x y refl)
kept s NotTopLevel h = refl
kept s NotMapField h = refl
kept s MapTypeUnknown h = refl
kept s NotType h = refl
kept s MaxNegative h = refl
kept s OutOfRange h = refl
kept s ShiftCount h = refl
kept s (MapLacks field) h = refl
kept s NotEventType h = refl
kept s CallOnOther h = refl
kept s TooDeep h = refl

pub returns-in-Wanted : goal.returns-in-Wanted
unfolding retold
returns-in-Wanted c = rw c.in-Wanted.is c.wrong.ensures

pub returns-in_default : goal.returns-in_default
returns-in_default c = kept c.args.set c.args.why c.in_default.not-Wanted
