-- The circle of expressions: a step of each loop, and what each function has written.
use Rattle.std.proofs.Common.{ℕ, ◌≤◌, arith, refl, sym, ap, subst, ◌∙◌}
use Rattle.layout_signs.specs.Levels.{number, node_level, right_place, pairs}
use Rattle.layout_expr.proofs.Ways.{star_done, field_steps, call_steps, bin_steps, arguing_none, arguing_on, arguing_all, no_expr, spine_none, spine_shut, spine_leaf, spine_step}
use Rattle.layout_expr.proofs.+args_call_expr_leaf_step.Goals as goal

pub args-loop-left-init : goal.args-loop-left-init
args-loop-left-init t c =
    record { fit = record { few = omega arith; long = refl }; goes = λ q. arguing_none c.args.room.now c.args.at q }

pub args-loop-left-preserved : goal.args-loop-left-preserved
args-loop-left-preserved t c =
    let l = c.loop-left in
    let v = c.expr-b in
    record {
      fit = record {
        few = omega (arith, l.invariant.fit.few, v.ensures.low);
        long = c.comma-to.auto.room ∙ v.auto.room ∙ l.invariant.fit.long;
      };
      goes = λ q. arguing_on (omega arith) (l.invariant.goes q) v.ensures c.comma-to.ensures;
    }

pub args-returns : goal.args-returns
args-returns t c = record {
  low = omega (arith, c.loop-left.invariant.fit.few);
  done = λ q. arguing_all (omega arith) (c.loop-left.invariant.goes q);
}

pub call-returns : goal.call-returns
call-returns t c =
    let v = c.args-b in
    record {
      low = v.ensures.low;
      done = λ k q. call_steps k c.word-things.ensures c.word-name.ensures c.bytes-shut.ensures v.ensures c.bytes-opens.ensures
          c.name-to.ensures c.bytes.ensures q;
    }

pub expr-loop-end-init : goal.expr-loop-end-init
expr-loop-end-init t c =
    record {
      fit = record { few = omega arith; long = refl };
      goes = λ q. spine_none (number c.args.place) c.args.room.now c.args.at q;
    }

pub expr-returns-then-k-le-DEREFERENCE : goal.expr-returns-then-k-le-DEREFERENCE
expr-returns-then-k-le-DEREFERENCE t c =
    let v = c.leaf-b.ensures in
    let l = c.loop-end in
    record {
      low = omega (arith, v.low, l.invariant.fit.few);
      done = λ q. spine_leaf (subst (λ (k : ℕ). k ≤ 3) c.word-k.ensures c.if-k-le-DEREFERENCE.true)
          (spine_shut (omega arith) (l.invariant.goes q)
          (c.pairs-more.ensures.0 ∙ ap (pairs _) (c.level.ensures ∙ ap node_level c.word-k.ensures)) c.repeated-to.ensures) v
          c.repeated.ensures;
    }

pub expr-loop-end-preserved : goal.expr-loop-end-preserved
expr-loop-end-preserved t c =
    let v = c.step-b.ensures in
    let l = c.loop-end in
    let k = c.word-k.ensures in
    record {
      fit = record {
        few = omega (arith, v.low, l.invariant.fit.few, c.pairs-more.ensures.1);
        long = c.step-b.auto.room ∙ c.repeated-to.auto.room ∙ l.invariant.fit.long;
      };
      goes = λ q. spine_step (omega (arith, k, c.if-k-le-DEREFERENCE.false)) (c.left-takes.ensures ∙ ap node_level k)
          (spine_shut (omega arith) (l.invariant.goes q) (c.pairs-more.ensures.0 ∙ ap (pairs _) (c.level.ensures ∙ ap node_level k)) c.repeated-to.ensures)
          v;
    }

pub expr-returns : goal.expr-returns
expr-returns t c = record { low = omega arith; done = λ q. absurd (no_expr (omega arith) (c.loop-end.invariant.goes q).part) }

pub leaf-returns-in-3 : goal.leaf-returns-in-3
leaf-returns-in-3 t c =
    let v = c.expr-b.ensures in
    record { low = v.low; done = λ h q. star_done (sym c.word-k.ensures ∙ c.in-3.is) v c.bytes.ensures q }

pub step-returns-in-12 : goal.step-returns-in-12
step-returns-in-12 t c =
    record {
      low = omega arith;
      done = λ h q. field_steps (sym c.word-k.ensures ∙ c.in-12.is) c.word-name.ensures c.name-to.ensures c.bytes.ensures q;
    }

pub step-returns-in_default : goal.step-returns-in_default
step-returns-in_default t c =
    let k = c.word-k.ensures in
    let v = c.expr-b.ensures in
    record {
      low = v.low;
      done = λ h q. bin_steps (λ e. omega (arith, k, e)) (λ e. omega (arith, k, e)) h (c.right.ensures ∙ ap right_place k) k v c.operator.ensures q;
    }
