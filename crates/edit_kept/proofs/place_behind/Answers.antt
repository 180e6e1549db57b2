-- The place behind rows is behind the last of them.
use Rattle.std.proofs.Common.{◌≡◌, ℕ, suc, ◌-◌, sym, ap, ◌∙◌, arith}
use Rattle.rules.specs.Text.{start_place}
use Rattle.rules.specs.Rows.{Row, rows_in}
use Rattle.rules.specs.Edit.{end_place, last_end}
use Rattle.edit_kept.proofs.Kept.{behind_rows}
use Rattle.edit_kept.proofs.place_behind.Goals as goal

pub returns-then-n-eq0 : goal.returns-then-n-eq0
unfolding last_end rows_in
returns-then-n-eq0 c = rw c.if-n-eq0.true c.start.ensures

pub overflow_sub-result : goal.overflow_sub-result
overflow_sub-result c =
    let e : suc (c.args.n - 1) ≡ c.args.n = omega arith in
    let q = c.at-last.ensures in
    omega (arith, (c.requires.1 (c.args.n - 1) e).ordered, ap (λ (r : Row). r.start) q, ap (λ (r : Row). r.end) q)

pub overflow_add-result : goal.overflow_add-result
overflow_add-result c =
    let e : suc (c.args.n - 1) ≡ c.args.n = omega arith in
    let q = c.at-last.ensures in
    omega (arith, (c.requires.1 (c.args.n - 1) e).room, ap (λ (r : Row). r.start) q, ap (λ (r : Row). r.end) q, ap (λ (r : Row). r.column) q)

pub returns : goal.returns
unfolding end_place
returns c =
    let n = c.args.n in
    let e : suc (n - 1) ≡ n = omega arith in
    ap end_place c.at-last.ensures
    ∙ sym (behind_rows (n - 1) c.args.old.now start_place)
    ∙ ap (λ (k : ℕ). last_end start_place (rows_in k c.args.old.now)) e
