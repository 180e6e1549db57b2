-- Strings: the machine's row or refusal is the page's.
use Prim.Native.Nat.{ℕ, suc}
use native.Mathlib.Numerals.{add-one}
use mathlib.Core.Bool.{Bool, true, false}
use mathlib.Core.List.{List, [], ◌∷◌}
use mathlib.Core.Path.{◌≡◌, refl}
use lib.Dec.{eqb}
use Rattle.rules.specs.Lex.{known, is_escape, string}
use Rattle.theory_machine.specs.Machine.{St, str, esc, spot, step, finish}
use Rattle.theory_machine.specs.Items.{item_first, item_move, item_last, first_bytes}

-- the states inside; escaped: the byte before is a backslash
unfoldable pub in_string : (escaped : Bool) → St
in_string false = str
in_string true = esc

module _ (b : ℕ) (s : List ℕ) (k : ℕ) where
  plain_byte : (p q r : Bool) → eqb b 34 ≡ p → eqb b 10 ≡ q → eqb b 92 ≡ r → first_bytes true s (suc k) esc ≡ known (string true (suc k) s) →
      first_bytes true s (suc k) str ≡ known (string false (suc k) s) → item_move (first_bytes true s) b k (step str k b) ≡ known (string false k (b ∷ s))
  unfolding step item_move item_first string spot
  plain_byte true q r e f g es st = rw (step, string, e, add-one)
  plain_byte false true r e f g es st = rw (step, string, e, f)
  plain_byte false false true e f g es st = rw (step, string, e, f, g) es
  plain_byte false false false e f g es st = rw (step, string, e, f, g) st

  escaped_byte : (p : Bool) → is_escape b ≡ p → first_bytes true s (suc k) str ≡ known (string false (suc k) s) →
      item_move (first_bytes true s) b k (step esc k b) ≡ known (string true k (b ∷ s))
  unfolding step item_move item_first string spot
  escaped_byte true e st = rw (step, string, e) st
  escaped_byte false e st = rw (step, string, e)

pub string_same : (escaped : Bool) (s : List ℕ) (k : ℕ) → first_bytes true s k (in_string escaped) ≡ known (string escaped k s)
unfolding in_string first_bytes finish item_last spot string
string_same false [] k = refl
string_same true [] k = refl
string_same false (b ∷ s) k =
    plain_byte b s k (eqb b 34) (eqb b 10) (eqb b 92) refl refl refl (string_same true s (suc k)) (string_same false s (suc k))
string_same true (b ∷ s) k = escaped_byte b s k (is_escape b) refl (string_same false s (suc k))
