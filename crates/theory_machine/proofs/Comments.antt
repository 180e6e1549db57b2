-- Comments: the machine's piece is the page's, for `//` to newline or end and for `/*` to the next `*/`.
use Prim.Native.Nat.{ℕ, suc, ◌+◌, ◌≤◌, min}
use native.Mathlib.Numerals.{add-one}
use native.Mathlib.Omega.{arith}
use mathlib.Core.Bool.{Bool, true, false, cond, ◌&&◌}
use mathlib.Core.List.{List, [], ◌∷◌}
use mathlib.Core.Path.{◌≡◌, refl, ap, ◌∙◌}
use lib.ListN.{length, get_or}
use lib.Dec.{eqb, ltb, leb-suc-suc}
use borrow.Author.Tests.{eqb-true, not-true, not-false, ltb-false, lt-ltb}
use Rattle.rules.specs.declared.Lexical.TheVariants.{OpenComment}
use Rattle.rules.specs.Text.{front, not_newline}
use Rattle.rules.specs.Lex.{Piece, comment, refused, Item, known, end, line_comment, before_close, block_comment}
use Rattle.theory_machine.specs.Machine.{St, line, block, star, on, go, spot, step, finish}
use Rattle.theory_machine.specs.Items.{cleared, item_first, item_gap, item_move, item_last, first_bytes}
use Rattle.laws.proofs.Fronts.{front_in, front_le}
use Rattle.theory_machine.proofs.Runs.{run_class}

-- ---- to newline or end

abbrev line_out : Bool → Unit {0} → ℕ → Item
line_out more u k = cond more (known (cleared k)) (item_gap end k)

line_stays : (u : Unit {0}) (k b : ℕ) → not_newline b ≡ true → step line k b ≡ on (go line)
unfolding step
line_stays u k b e = rw (step, not-true (eqb b 10) e)

line_stops : (r : ℕ → St → Item) (u : Unit {0}) (k b : ℕ) → not_newline b ≡ false → item_move r b k (step line k b) ≡ line_out true u k
unfolding step item_move item_first
line_stops r u k b e = rw (step, not-false (eqb b 10) e)

line_ends : (u : Unit {0}) (k : ℕ) → item_last k (finish line k) ≡ line_out false u k
unfolding finish item_last
line_ends u k = refl

-- n bytes stand before the newline, or all the m bytes there are
line_known : (more : Bool) (n m : ℕ) (u : Unit {0}) → (more ≡ false → n ≡ m) →
    line_out more u (suc (suc n)) ≡ known (cond more (comment (suc (suc n) + 1) (suc (suc n))) (comment (suc (suc m)) (suc (suc m))))
unfolding cleared item_gap
line_known true n m u h = rw add-one
line_known false n m u h = rw (h refl)

pub line_same : (s : List ℕ) → first_bytes true s 2 line ≡ known (line_comment (47 ∷ 47 ∷ s))
unfolding line_comment
line_same s =
    let n = front not_newline s in
    let two : 2 + n ≡ suc (suc n) = omega arith in
    let h : ltb n (length s) ≡ false → n ≡ length s = λ e. omega (arith, ltb-false n (length s) e, front_le not_newline s) in
    rw (front_in not_newline 47 (47 ∷ s) refl, front_in not_newline 47 s refl, leb-suc-suc (suc (suc n)) (suc (length s)), leb-suc-suc (suc n) (length s))
    (run_class not_newline (λ u. line) (λ u b. u) line_out line_stays line_stops line_ends s 2 tt
    ∙ rw two (line_known (ltb n (length s)) n (length s) _ h))

-- ---- to the next `*/`

-- k bytes of the comment stand before s
unfoldable block_from : ℕ → List ℕ → Piece
block_from k s =
    cond (ltb (before_close s) (length s)) (comment (k + before_close s + 2) (k + before_close s + 1)) (refused OpenComment 2 (k + length s))

closes_not : (b : ℕ) (s : List ℕ) → (eqb b 42 && eqb (get_or s 0 0) 47) ≡ false → before_close (b ∷ s) ≡ suc (before_close s)
unfolding before_close
closes_not b s e = rw (before_close, e)

from_next : (k b : ℕ) (s : List ℕ) → (eqb b 42 && eqb (get_or s 0 0) 47) ≡ false → block_from k (b ∷ s) ≡ block_from (suc k) s
unfolding block_from
from_next k b s e =
    let n = before_close s in
    let m : k + suc n ≡ suc k + n = omega arith in
    let l : k + suc (length s) ≡ suc k + length s = omega arith in
    rw (closes_not b s e, leb-suc-suc (suc n) (length s), m, l)

from_two : (s : List ℕ) → block_from 2 s ≡ block_comment (47 ∷ 42 ∷ s)
unfolding block_from block_comment
from_two s =
    let n = before_close s in
    let a : 2 + n + 2 ≡ n + 4 = omega arith in
    let b : 2 + n + 1 ≡ n + 3 = omega arith in
    let c : 2 + length s ≡ suc (suc (length s)) = omega arith in
    rw (a, b, c)

-- the states inside, and what stands behind k bytes: a star may be the first byte of `*/`
unfoldable inside : (starred : Bool) → St
inside false = block
inside true = star

unfoldable count : (starred : Bool) → ℕ → ℕ
count false k = k
count true k = suc k

unfoldable bytes : (starred : Bool) → List ℕ → List ℕ
bytes false s = s
bytes true s = 42 ∷ s

from_closed : (k : ℕ) (s : List ℕ) → comment (suc (suc k)) (suc k) ≡ block_from k (42 ∷ 47 ∷ s)
unfolding block_from before_close
from_closed k s =
    let a : k + 0 + 2 ≡ suc (suc k) = omega arith in
    let b : k + 0 + 1 ≡ suc k = omega arith in
    rw (lt-ltb 0 (suc (suc (length s))) (omega arith), a, b)

module _ (b : ℕ) (s : List ℕ) (k : ℕ) where
  block_byte : (p : Bool) → eqb b 42 ≡ p → first_bytes true s (suc k) star ≡ known (block_from k (42 ∷ s)) →
      first_bytes true s (suc k) block ≡ known (block_from (suc k) s) → item_move (first_bytes true s) b k (step block k b) ≡ known (block_from k (b ∷ s))
  unfolding step item_move item_first
  block_byte true e st bl = rw (eqb-true b 42 e) st
  block_byte false e st bl = rw (step, e, from_next k b s (rw e)) bl

  star_byte : (p q : Bool) → eqb b 47 ≡ p → eqb b 42 ≡ q → first_bytes true s (suc (suc k)) star ≡ known (block_from (suc k) (42 ∷ s)) →
      first_bytes true s (suc (suc k)) block ≡ known (block_from (suc (suc k)) s) →
      item_move (first_bytes true s) b (suc k) (step star (suc k) b) ≡ known (block_from k (42 ∷ b ∷ s))
  unfolding step item_move item_first cleared
  star_byte true q e f st bl = rw (eqb-true b 47 e) (ap known (from_closed k s))
  star_byte false true e f st bl = rw (eqb-true b 42 f, from_next k 42 (42 ∷ s) refl) st
  star_byte false false e f st bl = rw (step, e, f, from_next k 42 (b ∷ s) (rw e), from_next (suc k) b s (rw f)) bl

open_end : (k m n : ℕ) → 2 ≤ n → k + m ≡ n → known (refused OpenComment (min 2 n) n) ≡ known (refused OpenComment 2 (k + m))
open_end k m n h e = let two : min 2 n ≡ 2 = omega arith in rw (two, e)

block_run : (starred : Bool) (s : List ℕ) (k : ℕ) → 2 ≤ k → first_bytes true s (count starred k) (inside starred) ≡ known (block_from k (bytes starred s))
unfolding inside count bytes first_bytes finish item_last spot block_from before_close
block_run false [] k h = open_end k 0 k h (omega arith)
block_run true [] k h = open_end k 1 (suc k) (omega arith) (omega arith)
block_run false (b ∷ s) k h = block_byte b s k (eqb b 42) refl (block_run true s k h) (block_run false s (suc k) (omega arith))
block_run true (b ∷ s) k h =
    star_byte b s k (eqb b 47) (eqb b 42) refl refl (block_run true s (suc k) (omega arith)) (block_run false s (suc (suc k)) (omega arith))

pub block_same : (s : List ℕ) → first_bytes true s 2 block ≡ known (block_comment (47 ∷ 42 ∷ s))
unfolding inside count bytes
block_same s = block_run false s 2 (omega arith) ∙ ap known (from_two s)
