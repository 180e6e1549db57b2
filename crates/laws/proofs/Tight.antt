-- By what a contract is shown to be tight.
use mathlib.Core.Path.{◌≡◌, sym, ◌∙◌}

-- any two values that are equal to one are equal
pub alike : {A : Type 0} {x y z : A} → x ≡ z → y ≡ z → x ≡ y
alike p q = p ∙ sym q

infixr 20 ◌▸◌
-- last values are equal parameter by parameter
pub ◌▸◌ : {A B : Type 0} {x y : A} {l m : B} → x ≡ y → l ≡ m → ◌≡◌ {A = A × B} (x, l) (y, m)
p ▸ q = λ i. (p i, q i)
