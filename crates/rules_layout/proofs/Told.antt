-- What the layout call tells, by one test of all that is lent: the table is the text's, and the nodes are those of what was read.
use mathlib.Core.Path.{◌≡◌, refl}
use mathlib.Core.Bool.{Bool, true, false, cond, ◌&&◌}
use mathlib.Core.List.{List}
use Prim.Native.Nat.{ℕ}
use Rattle.rules.specs.Outcomes.{Judged}
use Rattle.std.specs.declared.result.Result.TheVariants.{Ok}
use Rattle.rules.specs.declared.Table.{Table}
use Rattle.rules.specs.Text.{text_judged}
use Rattle.rules.specs.Parse.{Out, ok, no}
use Rattle.rules_layout.specs.declared.Unlaid.TheVariants.{NotItsTree}
use Rattle.std.specs.Prelude.{Err}
use Rattle.rules_layout.specs.Layout.{is_scan, is_scanned, is_read, reading, laid_of, room_told, tree_told, layout_told}

-- of what was read
read_told : (x : Out) (nodes : List ℕ) (count room : ℕ)
    → tree_told x nodes count room ≡ cond (is_read x nodes count) (room_told (laid_of x) room) (Err NotItsTree)
unfolding tree_told is_read laid_of
read_told (ok u j) nodes count room = refl
read_told (no why r) nodes count room = refl

scanned_told : (b : Bool) (x : Out) (nodes : List ℕ) (count room : ℕ)
    → cond b (tree_told x nodes count room) (Err NotItsTree)
    ≡ cond (b && is_read x nodes count) (room_told (laid_of x) room) (Err NotItsTree)
scanned_told true x nodes count room = read_told x nodes count room
scanned_told false x nodes count room = refl

pub layout_told_by : (t ws : List ℕ) (tbl : Table) (nodes : List ℕ) (count room : ℕ)
    → layout_told t ws tbl nodes count room
    ≡ cond (is_scanned t ws tbl && is_read (reading t) nodes count) (room_told (laid_of (reading t)) room) (Err NotItsTree)
unfolding layout_told is_scanned
layout_told_by t ws tbl nodes count room = go (text_judged t)
  where
    go : (j : Judged) → elim j [
      | Ok _ ↦ cond (is_scan t ws tbl) (tree_told (reading t) nodes count room) (Err NotItsTree)
      | Err e ↦ Err NotItsTree
    ] ≡ cond (elim j [ Ok _ ↦ is_scan t ws tbl | Err e ↦ false ] && is_read (reading t) nodes count)
        (room_told (laid_of (reading t)) room) (Err NotItsTree)
    go (Ok _) = scanned_told (is_scan t ws tbl) (reading t) nodes count room
    go (Err e) = refl
