-- `mend_block` meets its contract: a right block stays as it is, and one that differs is put in place and listed.
use mathlib.Core.Path.{◌≡◌, sym, ap, ◌∙◌}
use mathlib.Core.Bool.{false}
use mathlib.Core.List.{[], ◌∷◌}
use Prim.Native.Nat.{◌<◌}
use native.Mathlib.Omega.{arith}
use lib.ListN.{length, take}
use lib.Seq.{length-take-le}
use borrow.Author.Rules.{rules}
use Rattle.rules.specs.Kinds.{same_bytes}
use Rattle.file_patch.specs.Block.{block_of, entry_here}
use Rattle.file_patch.proofs.One.{entry_right, entry_wrong, right_stays, right_inside, list_stays, list_more}
use Rattle.file_patch.proofs.mend_block.Statement.{statement}
use Rattle.file_patch.proofs.mend_block.Tie as tie

-- ---- the places on the way: the function's entry, and where the block was held

abbrev at_right : tie.Then-is_right → tie.Start
at_right c = c.before.before.before.before.before

abbrev at_wrong : tie.Else-is_right → tie.Start
at_wrong c = c.before.before.before.before.before

abbrev differing : tie.After-restore_block → tie.Else-is_right
differing c = c.before.before

abbrev written : tie.After-slice_known-3-1 → tie.After-restore_block
written c = c.before.before

-- the entry, where the block is right and where it differs
none : (c : tie.Then-is_right) → let a = (at_right c).args in entry_here a.n a.k a.fresh.now a.memory.now ≡ []
none c =
    let a = (at_right c).args in
    entry_right a.fresh.now (take a.n a.memory.now) a.k (sym c.before.is_right.ensures ∙ c.if-is_right.true)

wrong : (c : tie.Else-is_right) → let a = (at_wrong c).args in same_bytes a.fresh.now (block_of a.k (take a.n a.memory.now)) ≡ false
wrong c = sym c.before.is_right.ensures ∙ c.if-is_right.false

one : (c : tie.Else-is_right) → let a = (at_wrong c).args in entry_here a.n a.k a.fresh.now a.memory.now ≡ a.k ∷ []
one c = let a = (at_wrong c).args in entry_wrong a.fresh.now (take a.n a.memory.now) a.k (wrong c)

room : (c : tie.Else-is_right) → let a = (at_wrong c).args in a.listed < length a.list.now
room c = omega (arith, (at_wrong c).requires.1.1, ap length (one c))

slice_reshare_prefix_is_right : tie.Need-slice_bounds-is_right-end
slice_reshare_prefix_is_right c = search rules

slice_aggregate_is_right : tie.Need-slice_bounds-is_right-end-2
slice_aggregate_is_right c = sym (length-take-le c.args.n c.args.memory.now c.requires.1.0)

is_right_requires : tie.Need-is_right-requires
is_right_requires c κs = search rules

same_length : tie.Need-shape_of-memory-then-is_right
same_length c = search rules

returns : tie.Need-returns-then-is_right
returns c =
    let s = at_right c in
    let a = s.args in
    let e = sym c.before.is_right.ensures ∙ c.if-is_right.true in
    let z = none c in
    let r = right_stays a.fresh.now a.memory.now a.k (right_inside a.fresh.now a.memory.now a.k a.n s.requires.0.0 e) in
    (omega (arith, ap length z), (r, list_stays a.list.now a.listed _ z))

restore_block_requires : tie.Need-restore_block-requires
restore_block_requires c κs = (at_wrong c.before).requires.0

mul_list : tie.Need-offset_bounds-list-listed
mul_list c = search rules

slice_write_list : tie.Need-bounds-list-listed
slice_write_list c = room (differing (written c))

add_result : tie.Need-overflow_add-result
add_result c = search rules

same_length_2 : tie.Need-shape_of-memory
same_length_2 c = search rules

same_length_3 : tie.Need-shape_of-list
same_length_3 c = search rules

returns_2 : tie.Need-returns
returns_2 c =
    let w = written c in
    let d = differing w in
    let a = (at_wrong d).args in
    let z = one d in
    (omega (arith, ap length z), (w.restore_block.ensures, list_more a.list.now a.listed a.k _ z (room d)))

pub mend_block_spec : {M : Type 1} → statement M
mend_block_spec =
    tie.close
    (tie.spec
    slice_reshare_prefix_is_right
    slice_aggregate_is_right
    is_right_requires
    same_length
    returns
    restore_block_requires
    mul_list
    slice_write_list
    add_result
    same_length_2
    same_length_3
    returns_2)
