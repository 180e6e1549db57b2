-- Identifiers and reserved words: the machine's row is the page's.
use Prim.Native.Nat.{ℕ, suc, ◌+◌}
use native.Mathlib.Omega.{arith}
use mathlib.Core.Bool.{Bool, true, false}
use mathlib.Core.List.{List, [], ◌∷◌, ◌++◌, append-nil, append_assoc}
use mathlib.Core.Path.{◌≡◌, refl, sym, ◌∙◌}
use lib.ListN.{take}
use Rattle.rules.specs.Text.{front}
use Rattle.rules.specs.Kinds.{Identifier, reserved, kind_in}
use Rattle.rules.specs.Lex
use Rattle.rules.specs.Lex.{row, Item, known, is_letter, is_word}
use Rattle.theory_machine.specs.Machine.{St, name, on, go, word, step, finish}
use Rattle.theory_machine.specs.Items.{item_move, item_last, first_bytes}
use Rattle.laws.proofs.Fronts.{front_in}
use Rattle.theory_machine.proofs.Runs.{gathered, run_class}

abbrev behind : List ℕ → ℕ → List ℕ
behind w b = w ++ b ∷ []

word_gathers : (w s : List ℕ) → gathered behind w s ≡ w ++ s
unfolding gathered
word_gathers w [] = sym (append-nil w)
word_gathers w (b ∷ s) = word_gathers (behind w b) s ∙ append_assoc w (b ∷ []) s

abbrev spelled : Bool → List ℕ → ℕ → Item
spelled more w k = known (row (kind_in reserved Identifier w) k 0 k)

name_stays : (w : List ℕ) (k b : ℕ) → is_word b ≡ true → step (name w) k b ≡ on (go (name (behind w b)))
unfolding step
name_stays w k b e = rw (step, e)

name_stops : (r : ℕ → St → Item) (w : List ℕ) (k b : ℕ) → is_word b ≡ false → item_move r b k (step (name w) k b) ≡ spelled true w k
unfolding step item_move
name_stops r w k b e = rw (step, e)

name_ends : (w : List ℕ) (k : ℕ) → item_last k (finish (name w) k) ≡ spelled false w k
unfolding finish item_last
name_ends w k = refl

pub word_same : (b : ℕ) (s : List ℕ) → is_letter b ≡ true → first_bytes true s 1 (name (b ∷ [])) ≡ known (Lex.word (b ∷ s))
unfolding Lex.word is_word
word_same b s e =
    let i : is_word b ≡ true = rw e in
    let n : 1 + front is_word s ≡ suc (front is_word s) = omega arith in
    rw (front_in is_word b s i, ← n, ← (word_gathers (b ∷ []) (take (front is_word s) s)))
    (run_class is_word name behind spelled name_stays name_stops name_ends s 1 (b ∷ []))
