-- A refusal's code is one reason's.
use mathlib.Core.Path.{◌≡◌, refl, sym, ap, ◌∙◌}
use mathlib.Core.Bool.{cond}
use Prim.Native.Nat.{ℕ, ◌<◌}
use native.Mathlib.Omega.{arith}
use lib.Dec.{eqb}
use Rattle.rules.specs.declared.Lexical.{Lexical}
use Rattle.rules.specs.declared.Lexical.TheVariants.{NoRowBegins, LoneSign, NoHexDigit, OpenComment, OpenString, BadEscape, NumberTooLarge}
use Rattle.scan_reader.specs.Brief.{Unknown, refusal_code}

pub code_least : (why : Lexical) → Unknown < refusal_code why
unfolding refusal_code
code_least NoRowBegins = omega arith
code_least LoneSign = omega arith
code_least NoHexDigit = omega arith
code_least OpenComment = omega arith
code_least OpenString = omega arith
code_least BadEscape = omega arith
code_least NumberTooLarge = omega arith

-- the reasons have codes of their own
reason_of : ℕ → Lexical
reason_of k =
    cond (eqb k 69) NoRowBegins
    (cond (eqb k 70) LoneSign
    (cond (eqb k 71) NoHexDigit (cond (eqb k 72) OpenComment (cond (eqb k 73) OpenString (cond (eqb k 74) BadEscape NumberTooLarge)))))

reason_is : (why : Lexical) → reason_of (refusal_code why) ≡ why
unfolding reason_of refusal_code
reason_is NoRowBegins = refl
reason_is LoneSign = refl
reason_is NoHexDigit = refl
reason_is OpenComment = refl
reason_is OpenString = refl
reason_is BadEscape = refl
reason_is NumberTooLarge = refl

pub code_is : (k : ℕ) (r : Lexical) → k ≡ refusal_code r → (why : Lexical) → k ≡ refusal_code why → r ≡ why
code_is k r e why f = sym (reason_is r) ∙ ap reason_of (sym e ∙ f) ∙ reason_is why

pub code_rest : (k : ℕ) → (k ≡ 69 → ⊥) → (k ≡ 70 → ⊥) → (k ≡ 71 → ⊥) → (k ≡ 72 → ⊥) → (k ≡ 73 → ⊥) → (k ≡ 74 → ⊥) → (why : Lexical) → k
    ≡ refusal_code why → NumberTooLarge ≡ why
unfolding refusal_code
code_rest k a b c d e f NoRowBegins z = absurd (a z)
code_rest k a b c d e f LoneSign z = absurd (b z)
code_rest k a b c d e f NoHexDigit z = absurd (c z)
code_rest k a b c d e f OpenComment z = absurd (d z)
code_rest k a b c d e f OpenString z = absurd (e z)
code_rest k a b c d e f BadEscape z = absurd (f z)
code_rest k a b c d e f NumberTooLarge z = refl
