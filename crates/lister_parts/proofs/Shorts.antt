-- How long lines of u32 words may be.
use Rattle.std.proofs.Common.{◌≡◌, ℕ, zero, suc, ◌+◌, ◌-◌, ◌*◌, ◌^◌, ◌<◌, ◌≤◌, Bool, true, false, ltb, List, length, get_or, take, refl, zero-le, arith, length-append, length-take, ltb-false, ltb-true}
use Rattle.rules.specs.declared.Cursor.{Cursor}
use Rattle.rules.specs.Rows.{row_in, value_bits}
use Rattle.rules.specs.Text.{bytes}
use Rattle.laws.specs.Bounds.{Words, none, some}
use Rattle.laws.proofs.Bounds.{below_take, below_drop, below_at}
use Rattle.rules_decimal.specs.Decimal.{decimal, signed}
use Rattle.lister_parts.specs.Parts.{spaced, heading, row_line, node_line, refusal_line, lines, listed_rows, listed_nodes, most_lines}
use Rattle.lister_parts.specs.Adds.{most_of_rows, most_of_nodes, most_of_refusal}
use Rattle.theory_decimal.proofs.Decimals.{signed_low, signed_high}
use Rattle.lister_parts.proofs.Decimals.{decimal_short}

-- ---- numbers and lines

word_short : (n : ℕ) → n < 2 ^ 32 → length (decimal n) ≤ 10
word_short n h = decimal_short 9 n (omega arith)

spaced_short : {ns : List ℕ} → Words ns → length (spaced ns) ≤ 11 * length ns
unfolding spaced
spaced_short none = zero-le
spaced_short (some {x = n} {xs = ns} h s) = simp length-append (omega (arith, word_short n h, spaced_short s))

signed_short : (bits : ℕ) → bits < 2 ^ 64 → length (signed bits) ≤ 20
signed_short bits h = by (ltb bits (2 ^ 63)) refl
  where
    by : (b : Bool) → ltb bits (2 ^ 63) ≡ b → length (signed bits) ≤ 20
    by true e = let g = ltb-true bits (2 ^ 63) e in rw (signed_low bits g) (omega (arith, decimal_short 18 bits (omega arith)))
    by false e =
        let g = ltb-false bits (2 ^ 63) e in
        rw (signed_high bits g) (omega (arith, decimal_short 18 (2 ^ 64 - bits) (omega arith)))

heading_short : (name : List ℕ) (n : ℕ) → n ≤ most_lines → length (heading name n) ≤ length name + 6
unfolding heading spaced
heading_short name n h = simp length-append (omega (arith, decimal_short 3 n (omega arith)))

module _ (i : ℕ) (few : i < most_lines) {ws : List ℕ} (s : Words ws) where
  number_short : length (decimal i) ≤ 4
  number_short = decimal_short 3 i (omega arith)

  row_short : length (row_line i ws) ≤ 81
  unfolding row_line row_in value_bits
  row_short =
      let z : 0 < 2 ^ 32 = omega arith in
      let five = spaced_short (some (below_at s 0 z) (some (below_at s 1 z) (some (below_at s 2 z) (some (below_at s 3 z) (some (below_at s 4 z) none))))) in
      let v = signed_short (get_or ws 6 0 * 2 ^ 32 + get_or ws 5 0) (omega (arith, below_at s 5 z, below_at s 6 z)) in
      simp length-append (omega (arith, number_short, five, v))

  node_short : length ws ≤ 8 → length (node_line i ws) ≤ 93
  unfolding node_line
  node_short h = simp length-append (omega (arith, number_short, spaced_short s))

-- lines of at most so many bytes each
module _ (line : ℕ → List ℕ → List ℕ) (most : ℕ) (short : (i : ℕ) → i < most_lines → (ws : List ℕ) → Words ws → length ws ≤ 8 → length (line i ws) ≤ most) where
  lines_short : (i n : ℕ) {ws : List ℕ} → i + n ≤ most_lines → Words ws → length (lines line i n ws) ≤ n * most
  unfolding lines
  lines_short i zero h s = zero-le
  lines_short i (suc n) {ws} h s =
      let one = short i (omega arith) (take 8 ws) (below_take 8 s) (omega (arith, length-take 8 ws)) in
      let rest = lines_short (suc i) n (omega arith) (below_drop 8 s) in
      simp length-append (omega (arith, one, rest))

module _ (n : ℕ) (h : n ≤ most_lines) {ws : List ℕ} (s : Words ws) where
  pub rows_short : length (listed_rows n ws) ≤ most_of_rows
  unfolding listed_rows
  rows_short =
      let l = lines_short row_line 81 (λ i few ws s h. row_short i few s) 0 n (omega arith) s in
      simp length-append (omega (arith, heading_short (bytes "rows") n h, l))

  pub nodes_short : length (listed_nodes n ws) ≤ most_of_nodes
  unfolding listed_nodes
  nodes_short =
      let l = lines_short node_line 93 (λ i few ws s h. node_short i few s h) 0 n (omega arith) s in
      simp length-append (omega (arith, heading_short (bytes "nodes") n h, l))

pub refusal_short : (number : ℕ) (p : Cursor) → number < 2 ^ 32 → p.offset.0 < 2 ^ 32 → p.line.0 < 2 ^ 32 → p.column.0 < 2 ^ 32
    → length (refusal_line number p) ≤ most_of_refusal
unfolding refusal_line
refusal_short number p n o l c = simp length-append (omega (arith, spaced_short (some n (some o (some l (some c none))))))
