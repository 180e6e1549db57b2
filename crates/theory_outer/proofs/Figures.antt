-- The calls over figures: what a tallying of a parsed text's nodes tells, and the laws of joining.
use Prim.Native.Nat.{ℕ, ◌+◌, ◌*◌, ◌^◌, ◌≤◌}
use native.Mathlib.Omega.{arith}
use mathlib.Core.Bool.{Bool, true, false, ◌&&◌}
use mathlib.Core.List.{List}
use mathlib.Core.Path.{◌≡◌, refl, ap, sym, ◌∙◌}
use lib.Dec.{leb}
use lib.ListN.{length, drop, get_or, replicate, length-map}
use Rattle.rules.specs.declared.Lexical.{Lexical}
use Rattle.rules.specs.declared.Lexical.TheVariants as lexical
use Rattle.rules.specs.Text.{most_bytes, place_at}
use Rattle.rules.specs.Refusals.{lexical_number}
use Rattle.rules.specs.Scan.{scan}
use Rattle.rules.specs.Tree.{Tree, tok_of, yield}
use Rattle.rules.specs.Nodes.{size}
use Rattle.rules.specs.Calls.{tokens}
use Rattle.laws.specs.Bounds.{Below}
use Rattle.laws.proofs.Rows.{few_rows}
use Rattle.theory_grammar.proofs.Laws.{nodes_within_rows, yield_width}
use Rattle.theory_calls.specs.Demand2.{rows_of, tokens_of, ScansFully, ProgramOf}
use Rattle.rules_tally.specs.declared.Tally.{Tally}
use Rattle.std.specs.Prelude.{Result, Ok, Err}
use Rattle.rules_tally.specs.declared.NotNodes.{NotNodes}
use Rattle.rules_tally.specs.declared.CountTooLarge.{CountTooLarge}
use Rattle.rules_tally.specs.Tally.{tally_by, tally_of, nodes_in}
use Rattle.rules_tally.specs.Calls.{counting_number, joining_number, counted, joined_counts, most_nodes, are_lent, are_countable, tallied, sum, fits, joined, tally_words, tally_in}
use Rattle.theory_tally.proofs.Sums.{whole, join_order, join_groups, join_empty, join_refused}
use Rattle.theory_tally.proofs.Words.{in_shaped, told_sum, told_empty, words_same, words_fit}
use Rattle.theory_tally.proofs.Told.{program_told}
use Rattle.spoonharbor.specs.OuterParse.{OuterLent, OuterAnswer, outer_1, outer_2, outer_3, outer_ending, outer_5, outer_nodes, outer_syntax}
use Rattle.theory_outer.specs.Calls.{ParseCall, TallyCall, JoinCall}
use Rattle.theory_outer.specs.Calls as call
use Rattle.theory_outer.specs.Said.{Tallies, Grouped}
use Rattle.theory_outer.proofs.Edits.{parse_answers}

-- ---- what the contracts say

pub tally_says : {nodes : List ℕ} {n r : ℕ} {counts : List ℕ} → TallyCall nodes n r counts
    → (r ≡ counting_number (tallied nodes n)) × (counts ≡ tally_words (counted (tallied nodes n)))
tally_says (call.tallied κs a r e p) = p

pub join_says : {first second : List ℕ} {r : ℕ} {counts : List ℕ} → JoinCall first second r counts
    → (r ≡ joining_number (joined (tally_in first) (tally_in second)))
    × (counts ≡ tally_words (joined_counts (joined (tally_in first) (tally_in second))))
join_says (call.joined κs a r e p) = p

-- ---- tallying

-- a text has no more nodes than a tallying takes
few_nodes : (t : List ℕ) (p : Tree) → ScansFully t → ProgramOf t p → size p ≤ most_nodes
unfolding scan tokens
few_nodes t p f g =
    let many : length (tokens_of t) ≡ length (rows_of t) = length-map (rows_of t) (tok_of t) in
    let same : length (yield p) ≡ length (tokens_of t) = ap length g.same in
    let few : length (rows_of t) ≤ length t + 1 = few_rows (place_at t) 0 0 0 t in
    let long : length t ≤ most_bytes = f.readable.fits in
    omega (arith, nodes_within_rows p, yield_width p)

lexical_some : (why : Lexical) → 11 ≤ lexical_number why
lexical_some lexical.NoRowBegins = omega arith
lexical_some lexical.LoneSign = omega arith
lexical_some lexical.NoHexDigit = omega arith
lexical_some lexical.OpenComment = omega arith
lexical_some lexical.OpenString = omega arith
lexical_some lexical.BadEscape = omega arith
lexical_some lexical.NumberTooLarge = omega arith

-- Lent what a parse left of a text's rows and told of it, a tallying gives the counts of the text's tree.
pub parse_then_tally : {text lent rows answer new told nodes : List ℕ} → OuterLent text lent rows answer
    → ParseCall text rows answer new told nodes → get_or told 0 0 ≡ 0
    → {r : ℕ} {counts : List ℕ} → TallyCall nodes (get_or told 6 0) r counts
    → Tallies text r counts
parse_then_tally {text} {lent} {rows} {answer} {new} {told} {nodes} g e z {r} {counts} c = by (parse_answers g e)
  where
    first : {n : ℕ} {ws : List ℕ} → told ≡ ws → get_or ws 0 0 ≡ n → n ≡ 0
    first p q = sym q ∙ ap (λ (ws : List ℕ). get_or ws 0 0) (sym p) ∙ z

    by : OuterAnswer text lent new told nodes → Tallies text r counts
    by (outer_1 l w) = absurd (omega (arith, first {n = 1} w.told refl))
    by (outer_2 l v w) = absurd (omega (arith, first {n = 2} w.told refl))
    by (outer_3 f l w) = absurd (omega (arith, first {n = 3} w.told refl))
    by (outer_ending f l why at q w) = absurd (omega (arith, first {n = lexical_number why} w.told refl, lexical_some why))
    by (outer_5 f l m w) = absurd (omega (arith, first {n = 5} w.told refl))
    by (outer_nodes f l m p is only w) =
        let t : tallied nodes (get_or told 6 0) ≡ Ok (tally_of p)
        = rw (w.told, w.left) (program_told 0 p (drop (8 * size p) new) is.is (few_nodes text p f is)) in
        record {
          tree = p;
          program = is;
          number = (tally_says c).0 ∙ ap counting_number t;
          told = (tally_says c).1 ∙ ap (λ (x : Result Tally NotNodes). tally_words (counted x)) t;
        }
    by (outer_syntax f l m lacks why row s w) = absurd (omega (arith, first w.told refl, s.number.0))

-- Beside 3 all twenty counts are 0.
pub tally_refused : {nodes : List ℕ} {n r : ℕ} {counts : List ℕ} → TallyCall nodes n r counts → r ≡ 3 → counts ≡ replicate 20 0
unfolding tallied tally_words tally_by
tally_refused {nodes} {n} {r} {counts} c e = by (leb n most_nodes && (are_lent nodes n && are_countable (nodes_in n nodes))) refl
  where
    by : (b : Bool) → (leb n most_nodes && (are_lent nodes n && are_countable (nodes_in n nodes))) ≡ b → counts ≡ replicate 20 0
    by true q =
        let z : counting_number (tallied nodes n) ≡ 0 = rw q in
        absurd (omega (arith, e, (tally_says c).0, z))
    by false q =
        let z : tally_words (counted (tallied nodes n)) ≡ replicate 20 0 = rw q in
        (tally_says c).1 ∙ z

-- ---- joining

module _ {a b : List ℕ} {r : ℕ} {x : List ℕ} (j : JoinCall a b r x) where
  -- what a joining tells by what is joined
  told : {o : Result Tally CountTooLarge} → joined (tally_in a) (tally_in b) ≡ o → (r ≡ joining_number o) × (x ≡ tally_words (joined_counts o))
  told e = ((join_says j).0 ∙ ap joining_number e, (join_says j).1 ∙ ap (λ (o : Result Tally CountTooLarge). tally_words (joined_counts o)) e)

  -- 70 where a sum passes 64 bits, and the first tally.
  pub joins_refused : fits (sum (tally_in a) (tally_in b)) ≡ false → length a ≡ 20 → (r ≡ 70) × (x ≡ a)
  joins_refused f l = let t = told (join_refused (tally_in a) (tally_in b) f) in (t.0, t.1 ∙ words_same a l)

  -- Where all sums fit, order does not matter.
  pub joins_order : {s : ℕ} {y : List ℕ} → JoinCall b a s y → fits (sum (tally_in a) (tally_in b)) ≡ true → (r ≡ 0) × (s ≡ 0) × (x ≡ y)
  joins_order k f =
      let o = join_order (tally_in a) (tally_in b) f in
      let t = told o.0 in (
        t.0,
        (join_says k).0 ∙ ap joining_number o.1,
        t.1 ∙ sym ((join_says k).1 ∙ ap (λ (z : Result Tally CountTooLarge). tally_words (joined_counts z)) o.1),
      )

-- Where the sums of all three fit, both groupings are answered, and leave the same.
pub joins_groups : {a b c ab bc x y : List ℕ} {r₁ r₂ r₃ r₄ : ℕ} → JoinCall a b r₁ ab → JoinCall ab c r₂ x → JoinCall b c r₃ bc
    → JoinCall a bc r₄ y → fits (sum (sum (tally_in a) (tally_in b)) (tally_in c)) ≡ true → Grouped r₁ r₂ r₃ r₄ x y
joins_groups {a} {b} {c} {ab} {bc} {x} {y} j₁ j₂ j₃ j₄ f =
    let g = join_groups (tally_in a) (tally_in b) (tally_in c) (in_shaped a) (in_shaped b) (in_shaped c) f in
    let t₁ = told j₁ g.first_two in
    let t₃ = told j₃ g.last_two in
    let left : tally_in ab ≡ sum (tally_in a) (tally_in b) = rw t₁.1 (told_sum a b) in
    let right : tally_in bc ≡ sum (tally_in b) (tally_in c) = rw t₃.1 (told_sum b c) in
    let both : Tally = sum (sum (tally_in a) (tally_in b)) (tally_in c) in
    let second : joined (tally_in ab) (tally_in c) ≡ whole both = rw left g.then_third in
    let fourth : joined (tally_in a) (tally_in bc) ≡ whole both = rw right g.before_first in
    let t₂ = told j₂ second in
    let t₄ = told j₄ fourth in
    record { first_two = t₁.0; then_third = t₂.0; last_two = t₃.0; before_first = t₄.0; same = t₂.1 ∙ sym t₄.1 }

-- The tally of nothing changes nothing, on either side.
module _ {a : List ℕ} (l : length a ≡ 20) (w : Below (2 ^ 64) a) where
  pub joins_nothing : {r : ℕ} {x : List ℕ} → JoinCall a (replicate 20 0) r x → (r ≡ 0) × (x ≡ a)
  joins_nothing j =
      let e : joined (tally_in a) (tally_in (replicate 20 0)) ≡ whole (tally_in a)
      = rw told_empty (join_empty (tally_in a) (in_shaped a) (words_fit a l w)).0 in
      let t = told j e in
      (t.0, t.1 ∙ words_same a l)

  pub nothing_joins : {r : ℕ} {x : List ℕ} → JoinCall (replicate 20 0) a r x → (r ≡ 0) × (x ≡ a)
  nothing_joins j =
      let e : joined (tally_in (replicate 20 0)) (tally_in a) ≡ whole (tally_in a)
      = rw told_empty (join_empty (tally_in a) (in_shaped a) (words_fit a l w)).1 in
      let t = told j e in
      (t.0, t.1 ∙ words_same a l)
