-- `copy_rows` meets its contract: the words that are copied stand before what was there.
use mathlib.Core.Path.{◌≡◌, refl, sym, ap, ◌∙◌}
use mathlib.Core.List.{List}
use Prim.Native.Nat.{ℕ, ◌-◌, ◌*◌, ◌≤◌}
use native.Mathlib.Nat.{zero-add}
use native.Mathlib.Numerals.{add-one}
use native.Mathlib.Omega.{arith}
use lib.ListN.{set, get_or, length, length-set}
use lib.Seq.{paste, paste-zero, paste-suc}
use Rattle.laws.proofs.Rows.{rows_words}
use Rattle.edit_kept.proofs.copy_rows.Statement.{statement}
use Rattle.edit_kept.proofs.copy_rows.Tie as tie

abbrev invariant_loop : tie.invariant-loop-i
invariant_loop old n new₀ words i₀ new i = (i ≤ words) × (length new ≡ length new₀) × (new ≡ paste new₀ 0 old i)

abbrev decreases_loop : tie.decreases-loop-i
decreases_loop old n new₀ words i₀ new i = words - i

mul_words : tie.Need-overflow_mul-words invariant_loop decreases_loop
mul_words c = omega arith

loop_holds : tie.Need-loop-i-init invariant_loop decreases_loop
loop_holds c = (omega arith, refl, paste-zero c.args.new.now 0 c.args.old.now)

mul_new : tie.Need-offset_bounds-old-i invariant_loop decreases_loop
mul_new c = omega (arith, c.before.before.well_formed.0.1)

shared_slice_read_new : tie.Need-bounds-old-i invariant_loop decreases_loop
shared_slice_read_new c = omega arith

mul_new_2 : tie.Need-offset_bounds-new-i invariant_loop decreases_loop
mul_new_2 c = omega (arith, c.before.before.before.well_formed.0.1)

slice_write_new : tie.Need-bounds-new-i invariant_loop decreases_loop
slice_write_new c = omega (arith, c.before.before.loop-i.invariant.1)

add_i : tie.Need-overflow_add-i invariant_loop decreases_loop
add_i c = omega arith

loop_less : tie.Need-loop-i-smaller invariant_loop decreases_loop
loop_less c = omega arith

loop_again : tie.Need-loop-i-preserved invariant_loop decreases_loop
loop_again c =
    let l = c.before.before.loop-i in
    let s = c.before.before.before in
    let d = s.args.new.now in
    let t = s.args.old.now in
    let e = paste-suc d 0 t l.i 0 (omega arith) (omega arith) in (
      omega arith,
      length-set l.new l.i _ ∙ l.invariant.1,
      ap (λ (z : List ℕ). set z l.i (get_or t l.i 0)) l.invariant.2
          ∙ ap (λ (k : ℕ). set (paste d 0 t l.i) k (get_or t l.i 0)) (sym (zero-add l.i))
          ∙ e
          ∙ ap (λ (k : ℕ). paste d 0 t k) (sym (add-one l.i)),
    )

same_length : tie.Need-shape_of-new invariant_loop decreases_loop
same_length c = c.before.loop-i.invariant.1

returns : tie.Need-returns invariant_loop decreases_loop
returns c =
    let l = c.before.loop-i in
    let s = c.before.before in
    let e : l.i ≡ 8 * s.args.n = omega arith in
    l.invariant.2 ∙ rw (zero-add, e, rows_words s.args.n s.args.old.now (omega arith))

pub copy_rows_spec : {M : Type 1} → statement M
copy_rows_spec =
    tie.close
    (tie.spec
    invariant_loop
    decreases_loop
    mul_words
    loop_holds
    mul_new
    shared_slice_read_new
    mul_new_2
    slice_write_new
    add_i
    loop_less
    loop_again
    same_length
    returns)
