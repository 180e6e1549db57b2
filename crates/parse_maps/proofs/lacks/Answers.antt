-- Test by test.
use mathlib.Core.Path.{ap, ◌∙◌}
use mathlib.Core.Bool.{true, false, not, ◌&&◌}
use lib.Dec.{eqb}
use Rattle.parse_maps.proofs.Limits.{none_told, lacks_type, lacks_key, lacks_value, lacks_max, lacks_nothing}
use Rattle.parse_maps.proofs.lacks.Goals as goal

pub returns-in_default : goal.returns-in_default
returns-in_default c = lacks_type c.args.f c.in_default.is

pub returns-then-keyed-is_none : goal.returns-then-keyed-is_none
returns-then-keyed-is_none c =
    let t = c.in-Some.maptype in
    lacks_key c.args.f t c.in-Some.is (ap (λ x. not (eqb t 3) && x) (none_told _ _ c.is_none.ensures) ∙ c.if-keyed-is_none.true)

pub returns-then-keyed-is_none-2 : goal.returns-then-keyed-is_none-2
returns-then-keyed-is_none-2 c =
    let t = c.in-Some.maptype in
    lacks_value c.args.f t c.in-Some.is (ap (λ x. not (eqb t 3) && x) (none_told _ _ c.is_none.ensures) ∙ c.if-keyed-is_none.false)
    (ap (λ x. not (eqb t 3) && x) (none_told _ _ c.is_none-2.ensures) ∙ c.if-keyed-is_none-2.true)

pub returns-then-is_none : goal.returns-then-is_none
returns-then-is_none c =
    let t = c.in-Some.maptype in
    lacks_max c.args.f t c.in-Some.is (ap (λ x. not (eqb t 3) && x) (none_told _ _ c.is_none.ensures) ∙ c.if-keyed-is_none.false)
    (ap (λ x. not (eqb t 3) && x) (none_told _ _ c.is_none-2.ensures) ∙ c.if-keyed-is_none-2.false)
    (none_told _ true c.if-is_none.ensures)

pub returns : goal.returns
returns c =
    let t = c.in-Some.maptype in
    lacks_nothing c.args.f t c.in-Some.is (ap (λ x. not (eqb t 3) && x) (none_told _ _ c.is_none.ensures) ∙ c.if-keyed-is_none.false)
    (ap (λ x. not (eqb t 3) && x) (none_told _ _ c.is_none-2.ensures) ∙ c.if-keyed-is_none-2.false)
    (none_told _ false c.if-is_none.ensures)
