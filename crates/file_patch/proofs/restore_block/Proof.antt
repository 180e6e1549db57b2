-- `restore_block` meets its contract: a block that has no entry stays as it is, and one that has an entry differs and
-- is written.
use mathlib.Core.Path.{◌≡◌, sym, ◌∙◌}
use Prim.Native.Nat.{◌<◌}
use native.Mathlib.Omega.{arith}
use lib.ListN.{length}
use borrow.Author.Rules.{rules}
use Rattle.file_patch.specs.Block.{entry}
use Rattle.file_patch.proofs.One.{entry_most, none_right, some_wrong, right_stays}
use Rattle.file_patch.proofs.restore_block.Statement.{statement}
use Rattle.file_patch.proofs.restore_block.Tie as tie

-- ---- the function's entry, as it is seen from both ends

abbrev at_right : tie.Then-count_block-eq0 → tie.Start
at_right c = c.before.before.before.before

abbrev at_wrong : tie.Else-count_block-eq0 → tie.Start
at_wrong c = c.before.before.before.before

count_block_requires : tie.Need-count_block-requires
count_block_requires c κs = search rules

same_length : tie.Need-shape_of-memory-then-count_block-eq0
same_length c = search rules

returns : tie.Need-returns-then-count_block-eq0
returns c =
    let a = (at_right c).args in
    let f = a.fresh.now in
    let m = a.memory.now in
    let z : length (entry a.k f m) ≡ 0 = omega (arith, c.before.count_block.ensures, c.if-count_block-eq0.true, entry_most f m a.k) in
    right_stays f m a.k (none_right f m a.k z)

-- the block differs in memory as it stands
write_block_requires : tie.Need-write_block-requires
write_block_requires c κs =
    let d = c.before in
    let s = at_wrong d in
    let a = s.args in
    let f = a.fresh.now in
    let m = a.memory.now in
    let h : 0 < length (entry a.k f m) = omega (arith, d.before.count_block.ensures, d.if-count_block-eq0.false) in
    (s.requires, some_wrong f m a.k h)

same_length_2 : tie.Need-shape_of-memory
same_length_2 c = search rules

returns_2 : tie.Need-returns
returns_2 c = search rules

pub restore_block_spec : {M : Type 1} → statement M
restore_block_spec =
    tie.close
    (tie.spec
    count_block_requires
    same_length
    returns
    write_block_requires
    same_length_2
    returns_2)
