-- The counts of so many nodes stay far below 64 bits: each node counts one of a thing, at most 16 methods, and a max of one word.
use Prim.Native.Nat.{ℕ, ◌+◌, ◌*◌, ◌^◌, ◌≤◌, ◌<◌}
use mathlib.Core.Bool.{Bool, true, false, cond, ◌&&◌}
use mathlib.Core.List.{List, []}
use mathlib.Core.Path.{◌≡◌, refl}
use native.Mathlib.Omega.{arith}
use lib.Dec.{eqb, leb, ltb}
use lib.ListN.{length, get_or, get_or-eq_default}
use lib.Seq.{get_or-drop}
use borrow.Author.Tests.{leb-true, leb-false, lt-ltb}
use Rattle.laws.proofs.Tests.{below, true_both}
use Rattle.rules.specs.Sets.{Unknown, allowed, set_size}
use Rattle.rules_tally.specs.Tally.{Thing, a_unit, a_map, an_event, a_statement, unit_of, map_of, event_of, statement_of, max_of, methods_of, tally_by, node_in, nodes_in, nodes_total, nodes_tally}
use Rattle.rules_tally.specs.Calls.{most_nodes, counts_of, all_fit, fits}
use Rattle.theory_tally.proofs.Totals.{node_most, max_most}
use Rattle.theory_tally.proofs.Reading.{node_no, read_most}
use Rattle.theory_tally.proofs.Sums.{Shaped}

-- ---- what one thing counts

once : (b : Bool) → cond b 1 0 ≤ 1
once true = omega arith
once false = omega arith

pub units_one : (k : ℕ) (x : Thing) → unit_of k x ≤ 1
unfolding unit_of
units_one k (a_unit kind) = once (eqb kind k)
units_one k (a_map type max) = omega arith
units_one k an_event = omega arith
units_one k a_statement = omega arith

pub maps_one : (k : ℕ) (x : Thing) → map_of k x ≤ 1
unfolding map_of
maps_one k (a_unit kind) = omega arith
maps_one k (a_map type max) = once (eqb type k)
maps_one k an_event = omega arith
maps_one k a_statement = omega arith

pub events_one : (x : Thing) → event_of x ≤ 1
unfolding event_of
events_one (a_unit kind) = omega arith
events_one (a_map type max) = omega arith
events_one an_event = omega arith
events_one a_statement = omega arith

pub statements_one : (x : Thing) → statement_of x ≤ 1
unfolding statement_of
statements_one (a_unit kind) = omega arith
statements_one (a_map type max) = omega arith
statements_one an_event = omega arith
statements_one a_statement = omega arith

pub size_most : (k : ℕ) → set_size k ≤ 16
unfolding set_size allowed
size_most k = by (leb k Unknown) refl
  where
    small : k ≤ Unknown → leb (length (get_or allowed k [])) 16 ≡ true
    small h = below (λ j. leb (length (get_or allowed j [])) 16) 11 refl k (omega arith)

    by : (b : Bool) → leb k Unknown ≡ b → length (get_or allowed k []) ≤ 16
    by true e = leb-true _ _ (small (leb-true k Unknown e))
    by false e = rw (get_or-eq_default allowed [] {n = k} (omega (arith, leb-false k Unknown e))) (omega arith)

pub methods_most : (x : Thing) → methods_of x ≤ 16
unfolding methods_of
methods_most (a_unit kind) = size_most kind
methods_most (a_map type max) = omega arith
methods_most an_event = omega arith
methods_most a_statement = omega arith

-- ---- what n nodes count, whose words are words

module _ (n : ℕ) (ws : List ℕ) (h : (i : ℕ) → get_or ws i 0 < 2 ^ 32) where
  pub thing_read : (f : Thing → ℕ) (b : ℕ) → ((x : Thing) → f x ≤ b) → nodes_total f (nodes_in n ws) ≤ n * b
  thing_read f b l = read_most f b n ws (λ i. node_most f b l (node_no ws i))

  word : (i : ℕ) → (node_no ws i).fact3 < 2 ^ 32
  unfolding node_in
  word i = rw (get_or-drop (8 * i) ws 7 0) (h (8 * i + 7))

  pub max_read : nodes_total max_of (nodes_in n ws) ≤ n * 4294967295
  max_read = read_most max_of 4294967295 n ws (λ i. omega (arith, max_most (node_no ws i), word i))

  one_read : (f : Thing → ℕ) → ((x : Thing) → f x ≤ 1) → nodes_total f (nodes_in n ws) ≤ n
  one_read f l = omega (arith, thing_read f 1 l)

  -- One program, or two texts', never passes 64 bits.
  pub tally_fits : n ≤ most_nodes → fits (nodes_tally (nodes_in n ws)) ≡ true
  unfolding nodes_tally tally_by counts_of all_fit
  tally_fits m =
      unit 0 (unit 1 (unit 2 (unit 3 (unit 4 (unit 5 (unit 6 (unit 7 (unit 8 (unit 9 (unit 10
      (type 1 (type 2 (type 3 (type 4 (type 5
      (true_both (less event_of (omega (arith, one_read event_of events_one)))
      (true_both (less statement_of (omega (arith, one_read statement_of statements_one)))
      (true_both (less max_of (omega (arith, max_read)))
      (true_both (less methods_of (omega (arith, thing_read methods_of 16 methods_most))) refl)))))))))))))))))))
    where
      less : (f : Thing → ℕ) → nodes_total f (nodes_in n ws) < 2 ^ 64 → ltb (nodes_total f (nodes_in n ws)) (2 ^ 64) ≡ true
      less f l = lt-ltb _ _ l

      unit : (k : ℕ) {b : Bool} → b ≡ true → (ltb (nodes_total (unit_of k) (nodes_in n ws)) (2 ^ 64) && b) ≡ true
      unit k e = true_both (less (unit_of k) (omega (arith, one_read (unit_of k) (units_one k)))) e

      type : (k : ℕ) {b : Bool} → b ≡ true → (ltb (nodes_total (map_of k) (nodes_in n ws)) (2 ^ 64) && b) ≡ true
      type k e = true_both (less (map_of k) (omega (arith, one_read (map_of k) (maps_one k)))) e

pub nodes_shaped : (g : (Thing → ℕ) → ℕ) → Shaped (tally_by g)
unfolding tally_by
nodes_shaped g = record { units = refl; maps = refl }
