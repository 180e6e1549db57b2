-- `place_from` meets its contract: the bytes between the two places are passed.
use mathlib.Core.Path.{◌∙◌}
use borrow.Author.Rules.{rules}
use Rattle.file_beside.proofs.Places.{ahead_fits, counts_roomy, counted}
use Rattle.file_beside.proofs.place_from.Statement.{statement}
use Rattle.file_beside.proofs.place_from.Tie as tie

cast_from : tie.Need-overflow_cast-from
cast_from c = search rules

sub_pass : tie.Need-slice_bounds-pass-count
sub_pass c = search rules

part_pass_start : tie.Need-slice_bounds-pass-start
part_pass_start c = search rules

part_pass_end : tie.Need-slice_bounds-pass-end
part_pass_end c = search rules

sub_pass_2 : tie.Need-overflow_sub-offset
sub_pass_2 c = search rules

pass_requires : tie.Need-pass-requires
pass_requires c κs =
    let s = c.before.before.before in
    (ahead_fits s.requires, counts_roomy s.requires)

returns : tie.Need-returns
returns c =
    let s = c.before.before.before.before in
    c.pass.ensures ∙ counted s.requires

pub place_from_spec : {M : Type 1} → statement M
place_from_spec =
    tie.close
    (tie.spec cast_from sub_pass part_pass_start part_pass_end sub_pass_2 pass_requires returns)
