-- `copy` meets its contract: the bytes that are copied stand before what was there.
use mathlib.Core.Path.{◌≡◌, refl, sym, ap, ◌∙◌}
use mathlib.Core.List.{List}
use Prim.Native.Nat.{ℕ, ◌-◌, ◌≤◌}
use native.Mathlib.Nat.{zero-add}
use native.Mathlib.Numerals.{add-one}
use native.Mathlib.Omega.{arith}
use lib.ListN.{set, get_or, length, length-set}
use lib.Seq.{paste, paste-zero, paste-suc, take-length}
use Rattle.file_move.proofs.copy.Statement.{statement}
use Rattle.file_move.proofs.copy.Tie as tie

abbrev invariant_loop : tie.invariant-loop-i
invariant_loop from to₀ i₀ to i = (i ≤ length from) × (length to ≡ length to₀) × (to ≡ paste to₀ 0 from i)

abbrev decreases_loop : tie.decreases-loop-i
decreases_loop from to₀ i₀ to i = length from - i

loop_holds : tie.Need-loop-i-init invariant_loop decreases_loop
loop_holds c = (omega arith, refl, paste-zero c.args.to.now 0 c.args.from.now)

shared_slice_read_to : tie.Need-bounds-from-i invariant_loop decreases_loop
shared_slice_read_to c = omega arith

slice_write_to : tie.Need-bounds-to-i invariant_loop decreases_loop
slice_write_to c = omega (arith, c.before.before.loop-i.invariant.1, c.before.before.before.requires)

add_i : tie.Need-overflow_add-i invariant_loop decreases_loop
add_i c = omega arith

loop_less : tie.Need-loop-i-smaller invariant_loop decreases_loop
loop_less c = omega arith

loop_again : tie.Need-loop-i-preserved invariant_loop decreases_loop
loop_again c =
    let l = c.before.before.loop-i in
    let s = c.before.before.before in
    let d = s.args.to.now in
    let t = s.args.from.now in
    let e = paste-suc d 0 t l.i 0 (omega (arith, s.requires)) (omega arith) in (
      omega arith,
      length-set l.to l.i _ ∙ l.invariant.1,
      ap (λ (z : List ℕ). set z l.i (get_or t l.i 0)) l.invariant.2
          ∙ ap (λ (k : ℕ). set (paste d 0 t l.i) k (get_or t l.i 0)) (sym (zero-add l.i))
          ∙ e
          ∙ ap (λ (k : ℕ). paste d 0 t k) (sym (add-one l.i)),
    )

same_length : tie.Need-shape_of-to invariant_loop decreases_loop
same_length c = c.before.loop-i.invariant.1

returns : tie.Need-returns invariant_loop decreases_loop
returns c =
    let l = c.before.loop-i in
    let s = c.before.before in
    let e : l.i ≡ length s.args.from.now = omega arith in
    l.invariant.2 ∙ rw (zero-add, e, take-length s.args.from.now)

pub copy_spec : {M : Type 1} → statement M
copy_spec =
    tie.close
    (tie.spec
    invariant_loop
    decreases_loop
    loop_holds
    shared_slice_read_to
    slice_write_to
    add_i
    loop_less
    loop_again
    same_length
    returns)
