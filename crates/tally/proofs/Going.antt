-- The loop of a tallying: behind i nodes the tally is theirs, and each of them can be counted.
use Prim.Native.Nat.{ℕ, zero, suc, ◌+◌, ◌*◌, ◌^◌, ◌≤◌, ◌<◌}
use mathlib.Core.Bool.{Bool, true, false, cond, ◌&&◌}
use mathlib.Core.List.{List, [], ◌∷◌, ◌++◌}
use mathlib.Core.Path.{◌≡◌, refl, ap, sym, ◌∙◌}
use native.Mathlib.Omega.{arith}
use native.Mathlib.Numerals.{add-one}
use lib.Dec.{eqb, leb}
use lib.ListN.{drop, get_or}
use lib.Seq.{drop-drop, get_or-drop}
use borrow.Author.Tests.{leb-true, eqb-true, ne_eqb}
use Rattle.laws.proofs.Tests.{both_true, true_both}
use Rattle.rules.specs.Nodes.{Node, NodeUnit, NodeMap, NodeEvent}
use Rattle.rules_tally.specs.declared.Tally.{Tally}
use Rattle.rules_tally.specs.Tally.{Thing, a_unit, a_map, an_event, a_statement, unit_of, map_of, event_of, statement_of, methods_of, tally_by, empty, is_statement, node_in, nodes_in, node_total, nodes_total, nodes_tally}
use Rattle.rules_tally.specs.Calls.{most_nodes, is_countable, are_countable}
use Rattle.theory_tally.proofs.Totals.{nodes_last, tally_same}
use Rattle.theory_tally.proofs.Reading.{node_no, read_next}
use Rattle.theory_tally.proofs.Bounds.{units_one, maps_one, events_one, statements_one, methods_most, size_most, thing_read, max_read}
use Rattle.tally_steps.specs.Steps.{with_unit, UnitFits, with_map, MapFits}
use Rattle.tally.proofs.More.{unit_at, type_at, unit_more, map_more, with_other, other_more}

-- ---- what can be counted

unit_known : (k a : ℕ) → k ≡ NodeUnit → is_countable k a ≡ true → a ≤ 10
unfolding is_countable
unit_known k a e h = leb-true a 10 (rw e at h)

map_known : (k a : ℕ) → k ≡ NodeMap → is_countable k a ≡ true → (1 ≤ a) × (a ≤ 5)
unfolding is_countable
map_known k a e h = let b = both_true (leb 1 a) (leb a 5) (rw e at h) in (leb-true 1 a b.0, leb-true a 5 b.1)

further : (i : ℕ) (ws : List ℕ) → drop (8 * i) (drop 8 ws) ≡ drop (8 * suc i) ws
further i ws =
    let e : 8 + 8 * i ≡ 8 * suc i = omega arith in
    drop-drop (8 * i) 8 ws ∙ ap (λ (n : ℕ). drop n ws) e

-- one that cannot be counted
pub uncountable : (i n : ℕ) (ws : List ℕ) → i < n → is_countable (node_no ws i).kind (node_no ws i).fact0 ≡ false
    → are_countable (nodes_in n ws) ≡ false
unfolding are_countable nodes_in
uncountable i zero ws l e = absurd (omega arith)
uncountable zero (suc n) ws l e = rw e
uncountable (suc i) (suc n) ws l e =
    and_false (is_countable (node_in ws).kind (node_in ws).fact0) (uncountable i n (drop 8 ws) (omega arith) (rw (further i ws) e))
  where
    and_false : (b : Bool) {c : Bool} → c ≡ false → (b && c) ≡ false
    and_false true p = p
    and_false false p = refl

countable_next : (a : List Node) (n : Node) → are_countable a ≡ true → is_countable n.kind n.fact0 ≡ true
    → are_countable (a ++ (n ∷ [])) ≡ true
unfolding are_countable
countable_next [] n p q = true_both q refl
countable_next (m ∷ a) n p q =
    let h = both_true (is_countable m.kind m.fact0) (are_countable a) p in true_both h.0 (countable_next a n h.1 q)

-- a node is one event or statement at most
pub one_at_most : (b : Bool) → cond b 1 0 ≤ 1
one_at_most true = omega arith
one_at_most false = omega arith

-- ---- the words of node i

module _ (ws : List ℕ) (i : ℕ) where
  pub kind_word : (node_no ws i).kind ≡ get_or ws (i * 8 + 0) 0
  unfolding node_in
  kind_word = let e : 8 * i + 0 ≡ i * 8 + 0 = omega arith in get_or-drop (8 * i) ws 0 0 ∙ ap (λ (j : ℕ). get_or ws j 0) e

  pub fact_word : (node_no ws i).fact0 ≡ get_or ws (i * 8 + 4) 0
  unfolding node_in
  fact_word = let e : 8 * i + 4 ≡ i * 8 + 4 = omega arith in get_or-drop (8 * i) ws 4 0 ∙ ap (λ (j : ℕ). get_or ws j 0) e

  pub last_word : (node_no ws i).fact3 ≡ get_or ws (i * 8 + 7) 0
  unfolding node_in
  last_word = let e : 8 * i + 7 ≡ i * 8 + 7 = omega arith in get_or-drop (8 * i) ws 7 0 ∙ ap (λ (j : ℕ). get_or ws j 0) e

  -- what it counts

  unit_counts : get_or ws (i * 8 + 0) 0 ≡ NodeUnit → (f : Thing → ℕ) → node_total f (node_no ws i) ≡ f (a_unit (get_or ws (i * 8 + 4) 0))
  unfolding node_total
  unit_counts e f = rw (kind_word, fact_word, e)

  map_counts : get_or ws (i * 8 + 0) 0 ≡ NodeMap → (f : Thing → ℕ)
      → node_total f (node_no ws i) ≡ f (a_map (get_or ws (i * 8 + 4) 0) (get_or ws (i * 8 + 7) 0))
  unfolding node_total
  map_counts e f = rw (kind_word, fact_word, last_word, e)

  other_counts : (get_or ws (i * 8 + 0) 0 ≡ NodeUnit → ⊥) → (get_or ws (i * 8 + 0) 0 ≡ NodeMap → ⊥) → (f : Thing → ℕ)
      → node_total f (node_no ws i)
      ≡ cond (eqb (get_or ws (i * 8 + 0) 0) NodeEvent) (f an_event) (cond (is_statement (get_or ws (i * 8 + 0) 0)) (f a_statement) 0)
  unfolding node_total
  other_counts u m f = rw (kind_word, ne_eqb (get_or ws (i * 8 + 0) 0) NodeUnit u, ne_eqb (get_or ws (i * 8 + 0) 0) NodeMap m)

-- ---- the loop

pub record Going (ws : List ℕ) (n i : ℕ) (t : Tally) : Type 0 where
  pub within : i ≤ n
  pub tally : t ≡ nodes_tally (nodes_in i ws)
  pub countable : are_countable (nodes_in i ws) ≡ true

pub going_start : (ws : List ℕ) (n : ℕ) → Going ws n 0 empty
unfolding nodes_in nodes_tally nodes_total are_countable
going_start ws n = record { within = omega arith; tally = refl; countable = refl }

module _ (ws : List ℕ) (n i : ℕ) (t : Tally) (g : Going ws n i t) (l : i < n) (ok : is_countable (get_or ws (i * 8 + 0) 0) (get_or ws (i * 8 + 4) 0) ≡ true) where
  -- so far
  abbrev sofar : (Thing → ℕ) → ℕ
  sofar f = nodes_total f (nodes_in i ws)

  is : t ≡ tally_by sofar
  unfolding nodes_tally
  is = g.tally

  next : (t' : Tally) → t' ≡ tally_by (λ f. sofar f + node_total f (node_no ws i)) → Going ws n (i + 1) t'
  unfolding nodes_tally
  next t' e =
      rw (add-one i)
      (record {
        within = omega arith;
        tally = e ∙ tally_same (λ f. sym (nodes_last f (nodes_in i ws) (node_no ws i) refl refl)) ∙ ap nodes_tally (sym (read_next i ws));
        countable =
            rw (read_next i ws) (countable_next (nodes_in i ws) (node_no ws i) g.countable (rw (kind_word ws i, fact_word ws i) ok));
      })

  pub going_unit : get_or ws (i * 8 + 0) 0 ≡ NodeUnit → Going ws n (i + 1) (with_unit t (get_or ws (i * 8 + 4) 0))
  going_unit e =
      next _
      (ap (λ (x : Tally). with_unit x (get_or ws (i * 8 + 4) 0)) is
      ∙ unit_more sofar (get_or ws (i * 8 + 4) 0) (unit_known (get_or ws (i * 8 + 0) 0) (get_or ws (i * 8 + 4) 0) e ok)
      ∙ tally_same (λ f. ap (λ (x : ℕ). sofar f + x) (sym (unit_counts ws i e f))))

  pub going_map : get_or ws (i * 8 + 0) 0 ≡ NodeMap → Going ws n (i + 1) (with_map t (get_or ws (i * 8 + 4) 0) (get_or ws (i * 8 + 7) 0))
  going_map e =
      let b = map_known (get_or ws (i * 8 + 0) 0) (get_or ws (i * 8 + 4) 0) e ok in
      next _
      (ap (λ (x : Tally). with_map x (get_or ws (i * 8 + 4) 0) (get_or ws (i * 8 + 7) 0)) is
      ∙ map_more sofar (get_or ws (i * 8 + 4) 0) (get_or ws (i * 8 + 7) 0) b.0 b.1
      ∙ tally_same (λ f. ap (λ (x : ℕ). sofar f + x) (sym (map_counts ws i e f))))

  pub going_other : (get_or ws (i * 8 + 0) 0 ≡ NodeUnit → ⊥) → (get_or ws (i * 8 + 0) 0 ≡ NodeMap → ⊥)
      → Going ws n (i + 1) (with_other t (eqb (get_or ws (i * 8 + 0) 0) NodeEvent) (is_statement (get_or ws (i * 8 + 0) 0)))
  going_other u m =
      let k : ℕ = get_or ws (i * 8 + 0) 0 in
      next _
      (ap (λ (x : Tally). with_other x (eqb k NodeEvent) (is_statement k)) is
      ∙ other_more sofar (eqb k NodeEvent) (is_statement k) (λ e. rw (eqb-true k NodeEvent e) refl)
      ∙ tally_same (λ f. ap (λ (x : ℕ). sofar f + x) (sym (other_counts ws i u m f))))

  -- ---- nothing passes 64 bits

  module _ (few : n ≤ most_nodes) (words : (j : ℕ) → get_or ws j 0 < 2 ^ 32) where
    pub unit_fits : get_or ws (i * 8 + 0) 0 ≡ NodeUnit → UnitFits t (get_or ws (i * 8 + 4) 0)
    unfolding tally_by
    unit_fits e =
        let a : ℕ = get_or ws (i * 8 + 4) 0 in
        let known : a ≤ 10 = unit_known (get_or ws (i * 8 + 0) 0) a e ok in
        rw is
        (record {
          known = known;
          counted = rw (unit_at (λ k. sofar (unit_of k)) a known) (omega (arith, thing_read i ws words (unit_of a) 1 (units_one a)));
          allowed = omega (arith, thing_read i ws words methods_of 16 methods_most, size_most a);
        })

    pub map_fits : get_or ws (i * 8 + 0) 0 ≡ NodeMap → MapFits t (get_or ws (i * 8 + 4) 0) (get_or ws (i * 8 + 7) 0)
    unfolding tally_by
    map_fits e =
        let a : ℕ = get_or ws (i * 8 + 4) 0 in
        let b = map_known (get_or ws (i * 8 + 0) 0) a e ok in
        rw is
        (record {
          least = b.0;
          most = b.1;
          counted = rw (type_at (λ k. sofar (map_of k)) a b.0 b.1) (omega (arith, thing_read i ws words (map_of a) 1 (maps_one a)));
          added = omega (arith, max_read i ws words, words (i * 8 + 7));
        })

    pub events_few : t.events ≤ i
    unfolding tally_by
    events_few = rw is (omega (arith, thing_read i ws words event_of 1 events_one))

    pub statements_few : t.statements ≤ i
    unfolding tally_by
    statements_few = rw is (omega (arith, thing_read i ws words statement_of 1 statements_one))
