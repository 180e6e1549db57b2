-- `is_right` meets its contract: a block that is cut or missing differs, and any other is compared byte for byte.
use mathlib.Core.Path.{◌≡◌, sym, ◌∙◌}
use Prim.Native.Nat.{◌+◌, ◌-◌, ◌*◌, ◌<◌}
use native.Mathlib.Omega.{arith}
use lib.ListN.{length}
use borrow.Author.Rules.{rules}
use Rattle.laws.proofs.Spelled.{same_says}
use Rattle.file_patch.proofs.One.{cut_differs}
use Rattle.file_patch.proofs.is_right.Statement.{statement}
use Rattle.file_patch.proofs.is_right.Tie as tie

-- ---- the function's entry, as it is seen from both ends

abbrev at_short : tie.Then-file-end → tie.Start
at_short c = c.before.before.before

abbrev at_same : tie.After-same → tie.Start
at_same c = c.before.before.before.before.before

mul_at : tie.Need-overflow_mul-at
mul_at c = search rules

add_end : tie.Need-overflow_add-end
add_end c = search rules

returns : tie.Need-returns-then-file-end
returns c =
    let s = at_short c in
    let a = s.args in
    let h : length a.file.now < 512 * a.k + 512 = omega arith in
    sym (cut_differs a.fresh.now a.file.now a.k s.requires h)

sub_same : tie.Need-slice_bounds-same-count
sub_same c = search rules

part_same_start : tie.Need-slice_bounds-same-start
part_same_start c = search rules

part_same_end : tie.Need-slice_bounds-same-end
part_same_end c = search rules

same_requires : tie.Need-same-requires
same_requires c κs = search rules

returns_2 : tie.Need-returns
returns_2 c =
    let a = (at_same c).args in
    let e : 512 * a.k + 512 - 512 * a.k ≡ 512 = omega arith in
    same_says c.same.result _ _ c.same.ensures ∙ rw e

pub is_right_spec : {M : Type 1} → statement M
is_right_spec =
    tie.close
    (tie.spec
    mul_at
    add_end
    returns
    sub_same
    part_same_start
    part_same_end
    same_requires
    returns_2)
