-- What a text's first byte begins: the machine's item at the front of a whole text is the page's piece.
use Prim.Native.Nat.{ℕ}
use mathlib.Core.Bool.{true, false}
use mathlib.Core.List.{List, [], ◌∷◌}
use mathlib.Core.Path.{◌≡◌, refl}
use lib.Dec.{eqb}
use borrow.Author.Tests.{eqb-true}
use Rattle.rules.specs.Text.{is_blank}
use Rattle.rules.specs.Lex.{Piece, known, is_digit, is_letter, maybe_two, slashed, dashed, beginning, piece}
use Rattle.theory_machine.specs.Machine.{slash, minus, First, begin, step}
use Rattle.theory_machine.specs.Items.{cleared, item_first, item_move, first_bytes}
use Rattle.theory_machine.proofs.Runs.{branch}
use Rattle.theory_machine.proofs.Words.{word_same}
use Rattle.theory_machine.proofs.Comments.{line_same, block_same}
use Rattle.theory_machine.proofs.Strings.{in_string, string_same}
use Rattle.theory_machine.proofs.Numbers.{number_same}
use Rattle.theory_machine.proofs.Signs.{two_byte, sign_same, slash_last, slash_two, slash_steps, minus_last, minus_two, minus_steps}

slash_byte : (b : ℕ) (s : List ℕ) → first_bytes true (b ∷ s) 1 slash ≡ known (slashed (47 ∷ b ∷ s))
unfolding first_bytes step slashed item_move item_first
slash_byte b s =
    branch (λ u v. item_move (first_bytes true s) b 1 u ≡ known v) (eqb b 47) (λ e. rw (eqb-true b 47 e) (line_same s)) (λ e.
    branch (λ u v. item_move (first_bytes true s) b 1 u ≡ known v) (eqb b 42) (λ f. rw (eqb-true b 42 f) (block_same s)) (λ f.
    rw (slash_steps 1 b (eqb b 61) refl) (two_byte 47 b s slash_two)))

slash_same : (s : List ℕ) → first_bytes true s 1 slash ≡ known (slashed (47 ∷ s))
unfolding first_bytes slashed
slash_same [] = slash_last
slash_same (b ∷ s) = slash_byte b s

minus_byte : (b : ℕ) (s : List ℕ) → first_bytes true (b ∷ s) 1 minus ≡ known (dashed (45 ∷ b ∷ s))
unfolding first_bytes step dashed item_move item_first
minus_byte b s =
    number_same true (item_move (first_bytes true s) b 1) _ _ _ _ 1 b s refl refl
    (λ e. rw (minus_steps 1 b (eqb b 61) refl) (two_byte 45 b s minus_two)) (eqb b 48) (is_digit b) refl refl

minus_same : (s : List ℕ) → first_bytes true s 1 minus ≡ known (dashed (45 ∷ s))
unfolding first_bytes dashed is_digit
minus_same [] = minus_last
minus_same (b ∷ s) = minus_byte b s

pub first_same : (b : ℕ) (s : List ℕ) → item_first (first_bytes true s) 0 (begin b) ≡ known (piece (b ∷ s))
unfolding begin piece beginning item_first cleared in_string
first_same b s =
    branch P (is_blank b) (λ e. refl) (λ e.
    branch P (eqb b 47) (λ f. rw (eqb-true b 47 f) (slash_same s)) (λ f.
    branch P (is_letter b) (λ g. word_same b s g) (λ g.
    number_same false (item_first (first_bytes true s) 0) _ _ _ _ 0 b s refl refl (λ h.
    branch P (eqb b 45) (λ i. rw (eqb-true b 45 i) (minus_same s)) (λ i.
    branch P (eqb b 34) (λ j. string_same false s 1) (λ j.
    sign_same b s (maybe_two b) refl)))
    (eqb b 48) (is_digit b) refl refl)))
  where
    P : First → Piece → Type 0
    P u v = item_first (first_bytes true s) 0 u ≡ known v
