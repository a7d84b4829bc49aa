-- `clock_run::run_rows` meets its contract. The loop: the rows that are left end where all of them do. Assumes nothing.
use mathlib.Core.Path.{refl, sym, ◌∙◌}
use native.Mathlib.Nat.{le_refl, le_antisymm}
use native.Mathlib.Omega.{arith}
use Rattle.plan.specs.Plan.{plan_of, node_at}
use Rattle.clock_steps.specs.Taking.{stand}
use Rattle.clock_run.proofs.Turns.{rest-first, rest_end, rest-off, rest-on}
use Rattle.clock_run.proofs.run_rows.Goals as goal

pub loop-r-init : goal.loop-r-init
loop-r-init c =
    let a = c.args in (
      omega arith,
      omega (arith, c.well_formed.1.1.1.1.1.0.0),
      c.upper-n.ensures.upper_bound,
      refl,
      c.upper-n.ensures.value,
      rest-first (plan_of a.plan.now) (node_at a.lent.now) a.table.now a.numbers.now a.before a.value.now
          a.unknown.now _
          c.hand.ensures,
    )

pub overflow_mul-at : goal.overflow_mul-at
overflow_mul-at c =
    omega (arith, c.loop-r-test.true, c.loop-r.invariant.1)

pub overflow_add-at : goal.overflow_add-at
overflow_add-at c =
    omega (arith, c.loop-r-test.true, c.loop-r.invariant.1)

pub returns-then-not-values_fit : goal.returns-then-not-values_fit
returns-then-not-values_fit c =
    let a = c.args in
    let i = c.loop-r.invariant in
    rest-off (plan_of a.plan.now) (node_at a.lent.now) a.table.now a.numbers.now a.before a.value.now
    a.unknown.now _
    c.loop-r.r (stand c.loop-r.cells c.loop-r.places) i.5 c.loop-r-test.true
    (omega (arith, c.loop-r-test.true)) i.4 _ _
    (sym c.values_fit.ensures ∙ c.if-not-values_fit.true) c.last_of-last.ensures
    c.ended.ensures i.3

pub loop-r-preserved : goal.loop-r-preserved
loop-r-preserved c =
    let a = c.args in
    let i = c.loop-r.invariant in (
      omega (arith, c.loop-r-test.true),
      i.1,
      i.2,
      i.3,
      i.4,
      rest-on (plan_of a.plan.now) (node_at a.lent.now) a.table.now a.numbers.now a.before a.value.now
          a.unknown.now _
          c.loop-r.r (stand c.loop-r.cells c.loop-r.places) i.5 c.loop-r-test.true
          (omega (arith, c.loop-r-test.true)) i.4
          (sym c.values_fit.ensures ∙ c.if-not-values_fit.false) c.put_values.ensures c.turn.ensures,
    )

pub returns : goal.returns
returns c =
    let a = c.args in
    let i = c.loop-r.invariant in
    let e = le_antisymm i.0 c.loop-r-test.false in
    rest_end (plan_of a.plan.now) (node_at a.lent.now) a.table.now a.numbers.now a.before a.value.now
    a.unknown.now _
    _ (stand c.loop-r.cells c.loop-r.places) (rw e at i.5) _ _ (le_refl _)
    c.last_of-last-2.ensures
    c.ended-2.ensures i.3
