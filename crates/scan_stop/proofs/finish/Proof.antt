-- `finish` meets its contract.
use mathlib.Core.Path.{◌≡◌, refl, sym, ◌∙◌}
use Prim.Native.Nat.{ℕ, ◌<◌}
use native.Mathlib.Omega.{arith}
use borrow.Author.Rules.{rules}
use native.Mathlib.Nat.{add-zero}
use Rattle.rules.specs.Rows.{eof_row}
use Rattle.scan_reader.proofs.Reasons.{code_least}
use Rattle.scan_puts.specs.Put.{row_of}
use Rattle.scan_stop.proofs.finish.Statement.{statement}
use Rattle.scan_stop.proofs.finish.Tie as tie

no : {A : Type 0} → ⊥ → A
no e = absurd e

apart : {j k : ℕ} → j < k → j ≡ k → ⊥
apart h e = omega arith

put_behind_requires : tie.Need-put_behind-requires
put_behind_requires c κs = search rules

add_t13 : tie.Need-overflow_add-result
add_t13 c = search rules

same_length : tie.Need-shape_of-rows-then-kind-eq-END
same_length c = search rules

returns : tie.Need-returns-then-kind-eq-END
unfolding eof_row row_of
returns c =
    let e = c.before.before.before.before.if-kind-eq-END.true in
    record {
      end = λ k. (refl, c.before.before.put_behind.ensures ∙ rw add-zero);
      unknown = λ k. no (apart (omega arith) (sym e ∙ k));
      refused = λ why k. no (apart (omega (arith, code_least why)) (sym e ∙ k));
    }

returns_2 : tie.Need-returns-then-kind-eq-UNKNOWN
returns_2 c =
    let e = c.if-kind-eq-UNKNOWN.true in
    record {
      end = λ k. no (c.before.if-kind-eq-END.false k);
      unknown = λ k. (refl, refl);
      refused = λ why k. no (apart (omega (arith, code_least why)) (sym e ∙ k));
    }

cast_onward : tie.Need-overflow_cast-told
cast_onward c = search rules

onward_requires : tie.Need-onward-place-requires
onward_requires c κs = search rules

reason_requires : tie.Need-reason-requires
reason_requires c κs = search rules

returns_3 : tie.Need-returns
returns_3 c =
    let s = c.before.before in
    record {
      end = λ k. no (s.before.before.if-kind-eq-END.false k);
      unknown = λ k. no (s.before.if-kind-eq-UNKNOWN.false k);
      refused = λ why k. (rw (c.reason.ensures why k, c.before.onward-place.ensures), refl);
    }

pub finish_spec : {M : Type 1} → statement M
finish_spec =
    tie.close
    (tie.spec
    put_behind_requires
    add_t13
    same_length
    returns
    returns_2
    cast_onward
    onward_requires
    reason_requires
    returns_3)
