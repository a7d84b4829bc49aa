-- `clock_run::trace_rows` meets its contract. The loop: the rows that are left end where all of them do. Assumes nothing.
use mathlib.Core.Path.{sym, ◌∙◌}
use native.Mathlib.Nat.{le_refl, le_antisymm}
use native.Mathlib.Omega.{arith}
use Rattle.plan.specs.Plan.{plan_of, node_at}
use Rattle.clock_steps.specs.Taking.{stand}
use Rattle.clock_run.proofs.Turns.{left_end, left-off, left-on, turn-length}
use Rattle.clock_run.proofs.trace_rows.Goals as goal

pub overflow_mul-at : goal.overflow_mul-at
overflow_mul-at c =
    omega (arith, c.loop-r-test.true, c.loop-r.invariant.1)

pub overflow_add-at : goal.overflow_add-at
overflow_add-at c =
    omega (arith, c.loop-r-test.true, c.loop-r.invariant.1)

pub returns-then-not-values_fit : goal.returns-then-not-values_fit
returns-then-not-values_fit c =
    let a = c.args in
    let i = c.loop-r.invariant in
    left-off (plan_of a.plan.now) (node_at a.lent.now) a.table.now a.numbers.now a.before a.value.now
    a.unknown.now a.out.now _ c.loop-r.r (stand c.loop-r.cells c.loop-r.places) c.loop-r.out i.8
    c.loop-r-test.true (omega (arith, c.loop-r-test.true)) i.7 _
    (sym c.values_fit.ensures ∙ c.if-not-values_fit.true) c.taken_of-last.ensures
    c.ended.ensures i.6

pub overflow_mul-r : goal.overflow_mul-r
overflow_mul-r c =
    omega (arith, c.loop-r-test.true, c.loop-r.invariant.5)

pub trace_turn-requires : goal.trace_turn-requires
trace_turn-requires c =
    let i = c.loop-r.invariant in
    omega (arith, c.loop-r-test.true, i.3, i.4)

pub loop-r-preserved : goal.loop-r-preserved
loop-r-preserved c =
    let t = c.trace_turn in
    let a = c.args in
    let i = c.loop-r.invariant in (
      omega (arith, c.loop-r-test.true),
      i.1,
      i.2,
      turn-length _ _ _ _ _ _ _ _ t.ensures ∙ i.3,
      i.4,
      i.5,
      i.6,
      i.7,
      left-on (plan_of a.plan.now) (node_at a.lent.now) a.table.now a.numbers.now a.before a.value.now
          a.unknown.now a.out.now _ c.loop-r.r (stand c.loop-r.cells c.loop-r.places) c.loop-r.out i.8
          c.loop-r-test.true (omega (arith, c.loop-r-test.true)) i.7
          (sym c.values_fit.ensures ∙ c.if-not-values_fit.false)
          c.put_values.ensures t.ensures,
    )

pub returns : goal.returns
returns c =
    let a = c.args in
    let i = c.loop-r.invariant in
    let e = le_antisymm i.0 c.loop-r-test.false in
    left_end (plan_of a.plan.now) (node_at a.lent.now) a.table.now a.numbers.now a.before a.value.now
    a.unknown.now a.out.now _ _ (stand c.loop-r.cells c.loop-r.places) c.loop-r.out (rw e at i.8) _
    (le_refl _) c.taken_of-last-2.ensures c.ended-2.ensures i.6
