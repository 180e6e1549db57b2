-- The room of 2,000 rows and 2,000 nodes: no more are ever told, and what is listed of them.
use mathlib.Core.Path.{◌≡◌, refl, sym, ap, ◌∙◌}
use mathlib.Core.Bool.{Bool, true, false, cond}
use mathlib.Core.List.{List, ◌++◌}
use Prim.Native.Nat.{ℕ, ◌*◌, ◌≤◌, ◌<◌}
use native.Mathlib.Omega.{arith}
use lib.Dec.{leb, ltb}
use lib.ListN.{length, length-append, length-drop, length-replicate}
use borrow.Author.Tests.{leb-true, lt-ltb, le-ltb}
use Rattle.rules.specs.declared.Cursor.{Cursor}
use Rattle.rules.specs.Outcomes.{Ending, Judged, Parsed, unparsed, Told, unread}
use Rattle.std.specs.declared.option.Option.TheVariants.{None, Some}
use Rattle.std.specs.declared.result.Result.TheVariants.{Ok, Err}
use Rattle.rules.specs.declared.Outer.{Outer}
use Rattle.rules.specs.declared.Outer.TheVariants.{NoNodeRoom}
use Rattle.rules.specs.declared.Reason.{Reason}
use Rattle.rules.specs.declared.Reason.TheVariants as reason
use Rattle.rules.specs.declared.Table.{Table}
use Rattle.rules.specs.Text.{start_place, text_judged}
use Rattle.rules.specs.Nodes.{size}
use Rattle.rules.specs.Parse.{Out, ok, no}
use Rattle.rules.specs.Rows.{Row}
use Rattle.rules.specs.Scan.{room_of, told, scan_told, scan_leaves, scan, read_rows, read_ending}
use Rattle.rules.specs.Refusals.{outer_number, reason_number}
use Rattle.rules.specs.Calls.{node_room, judged, reading, out_told, out_leaves, ending_told, ending_leaves, parse_told, parse_leaves}
use Rattle.theory_grammar.proofs.Laws.{tree_length}
use Rattle.lister_parts.specs.Parts.{most_lines, refusal_line, listed_rows, listed_nodes}
use Rattle.lister_lines.specs.Lines.{room, listed_parse, listed_tree, listed_scan, listed_text, most_text, listed}

pub room_length : length room ≡ most_lines * 8
unfolding room
room_length = length-replicate {A = ℕ} (most_lines * 8) 0

pub rows_room : room_of room ≡ most_lines
unfolding room_of
rows_room = rw room_length

pub nodes_room : node_room room ≡ most_lines
unfolding node_room
nodes_room = rw room_length

-- ---- no more rows are told than there is room for

unfoldable pub count_of : Told → ℕ
count_of (Ok tbl) = tbl.count
count_of (Err e) = e.rows

told_few : (n m : ℕ) (rows : List Row) (e : Ending) → count_of (told n m rows e) ≤ m
unfolding told count_of
told_few n m rows e = by (leb (length rows) m) refl
  where
    by : (b : Bool) → leb (length rows) m ≡ b → count_of (told n m rows e) ≤ m
    by true q = rw q (leb-true (length rows) m q)
    by false q = rw q (omega arith)

pub scan_few : (t : List ℕ) (m : ℕ) → count_of (scan_told t m) ≤ m
unfolding scan_told count_of
scan_few t m = by (text_judged t) refl
  where
    by : (v : Judged) → text_judged t ≡ v → count_of (scan_told t m) ≤ m
    by (Ok _) q = rw (scan_told, q) (told_few (length t) m (read_rows (scan t)) (read_ending (scan t)))
    by (Err e) q = rw (scan_told, q) (omega arith)

-- ---- no more nodes

out_few : (ws : List ℕ) (o : Out) (m : List ℕ) (n : ℕ) → out_told ws o ≡ Ok n → length (out_leaves o m) ≡ length m → n * 8 ≤ length m
unfolding out_told out_leaves
out_few ws (ok t j) m n e l =
    let q : size t ≡ n = cc in
    omega (arith, q, tree_length 0 t, simp (length-append, length-drop) at l)
out_few ws (no why r) m n e l = let z : ◌≡◌ {A = ℕ} 0 1 = cc in absurd (omega arith)

module _ (t ws : List ℕ) (tbl : Table) (m : List ℕ) (n : ℕ) where
  ending_few : (e : Ending) → ending_told t ws tbl e (node_room m) ≡ Ok n → length (ending_leaves t ws tbl e m) ≡ length m → n * 8 ≤ length m
  unfolding ending_told ending_leaves
  ending_few None e l = by (ltb (node_room m) tbl.count) e l
    where
      by : (b : Bool) → cond b (Err (unparsed (reason.Outer NoNodeRoom) start_place 0)) (out_told ws (reading t ws tbl)) ≡ Ok n
          → length (cond b m (out_leaves (reading t ws tbl) m)) ≡ length m
          → n * 8 ≤ length m
      by true e l = let z : ◌≡◌ {A = ℕ} 0 1 = cc in absurd (omega arith)
      by false e l = out_few ws (reading t ws tbl) m n e l
  ending_few (Some refusal) e l = let z : ◌≡◌ {A = ℕ} 0 1 = cc in absurd (omega arith)

  pub parse_few : parse_told t ws tbl (node_room m) ≡ Ok n → length (parse_leaves t ws tbl m) ≡ length m → n * 8 ≤ length m
  unfolding parse_told parse_leaves
  parse_few e l = by (judged t ws tbl) e l
    where
      by : (v : Judged)
          → elim v as (λ _. Parsed) [ Ok _ ↦ ending_told t ws tbl tbl.ending (node_room m) | Err e ↦ Err (unparsed (reason.Outer e.why) e.at 0) ]
          ≡ Ok n
          → length {A = ℕ} (elim v [ Ok _ ↦ ending_leaves t ws tbl tbl.ending m | Err e ↦ m ]) ≡ length m
          → n * 8 ≤ length m
      by (Ok _) e l = ending_few tbl.ending e l
      by (Err refusal) e l = let z : ◌≡◌ {A = ℕ} 0 1 = cc in absurd (omega arith)

-- ---- what is listed

module _ (t ws : List ℕ) (tbl : Table) (r : Parsed) (ns : List ℕ) (e : r ≡ parse_told t ws tbl (node_room room)) (l : ns ≡ parse_leaves t ws tbl room) where
  tree_is : listed_tree t ws tbl ≡ listed_parse r ns
  unfolding listed_tree
  tree_is = rw (e, l, nodes_room)

  pub tree_nodes : (n : ℕ) → r ≡ Ok n → listed_tree t ws tbl ≡ listed_nodes n ns
  unfolding listed_parse
  tree_nodes n q = tree_is ∙ ap (λ (x : Parsed). listed_parse x ns) q

  pub tree_refused : (why : Reason) (p : Cursor) (found : ℕ) → r ≡ Err (unparsed why p found) → listed_tree t ws tbl ≡ refusal_line (reason_number why) p
  unfolding listed_parse
  tree_refused why p found q = tree_is ∙ ap (λ (x : Parsed). listed_parse x ns) q

  pub tree_few : (n : ℕ) → r ≡ Ok n → length ns ≡ length room → n * 8 ≤ most_lines * 8
  tree_few n q k = omega (arith, parse_few t ws tbl room n (sym e ∙ q) (ap length (sym l) ∙ k), room_length)

module _ (t : List ℕ) (r : Told) (ws : List ℕ) (e : r ≡ scan_told t (room_of room)) (l : ws ≡ scan_leaves t room) where
  text_is : listed_text t ≡ listed_scan t r ws
  unfolding listed_text
  text_is = rw (e, l, rows_room)

  few : count_of r ≤ most_lines
  few = rw (e, rows_room) (scan_few t most_lines)

  pub text_rows : (tbl : Table) → r ≡ Ok tbl → (listed_text t ≡ listed_rows tbl.count ws ++ listed_tree t ws tbl) × (tbl.count ≤ most_lines)
  unfolding listed_scan count_of
  text_rows tbl q = (text_is ∙ ap (λ (x : Told). listed_scan t x ws) q, rw q at few)

  pub text_refused : (why : Outer) (p : Cursor) (n : ℕ) → r ≡ Err (unread why p n)
      → (listed_text t ≡ listed_rows n ws ++ refusal_line (outer_number why) p) × (n ≤ most_lines)
  unfolding listed_scan count_of
  text_refused why p n q = (text_is ∙ ap (λ (x : Told). listed_scan t x ws) q, rw q at few)

pub listed_long : (t : List ℕ) → most_text < length t → listed t ≡ refusal_line 1 start_place
unfolding listed
listed_long t h = rw (lt-ltb most_text (length t) h)

pub listed_short : (t : List ℕ) → length t ≤ most_text → listed t ≡ listed_text t
unfolding listed
listed_short t h = rw (le-ltb most_text (length t) h)
