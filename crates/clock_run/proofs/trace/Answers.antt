-- `clock_run::trace` meets its contract. Assumes nothing.
use mathlib.Core.Path.{sym, ◌∙◌}
use native.Mathlib.Omega.{arith}
use Rattle.plan.specs.Plan.{plan_of, node_at}
use Rattle.clock_run.proofs.Turns.{trace-23, trace-31, trace-25, trace-all}
use Rattle.clock_run.proofs.trace.Goals as goal

pub overflow_mul-value : goal.overflow_mul-value
overflow_mul-value c =
    omega (arith, c.well_formed.1.1.1.1.1.0.0)

pub returns-then-out-value : goal.returns-then-out-value
returns-then-out-value c =
    let a = c.args in
    trace-23 (plan_of a.plan.now) (node_at a.lent.now) a.table.now a.numbers.now a.before a.value.now
    a.unknown.now a.out.now c.if-out-value.true c.refused.ensures c.ended.ensures

pub returns-then-not-registers_fit : goal.returns-then-not-registers_fit
returns-then-not-registers_fit c =
    let a = c.args in
    trace-31 (plan_of a.plan.now) (node_at a.lent.now) a.table.now a.numbers.now a.before a.value.now
    a.unknown.now a.out.now c.if-out-value.false
    (sym c.registers_fit.ensures ∙ c.if-not-registers_fit.true)
    c.refused-then-not-registers_fit.ensures c.ended-then-not-registers_fit.ensures

pub returns-then-not-rows_whole : goal.returns-then-not-rows_whole
returns-then-not-rows_whole c =
    let a = c.args in
    trace-25 (plan_of a.plan.now) (node_at a.lent.now) a.table.now a.numbers.now a.before a.value.now
    a.unknown.now a.out.now c.if-out-value.false
    (sym c.registers_fit.ensures ∙ c.if-not-registers_fit.false)
    (sym c.rows_whole.ensures ∙ c.if-not-rows_whole.true)
    c.refused-then-not-rows_whole.ensures c.ended-then-not-rows_whole.ensures

pub trace_rows-requires : goal.trace_rows-requires
trace_rows-requires c =
    omega (arith, c.if-out-value.false)

pub returns : goal.returns
returns c =
    let a = c.args in
    trace-all (plan_of a.plan.now) (node_at a.lent.now) a.table.now a.numbers.now a.before a.value.now
    a.unknown.now a.out.now c.if-out-value.false
    (sym c.registers_fit.ensures ∙ c.if-not-registers_fit.false)
    (sym c.rows_whole.ensures ∙ c.if-not-rows_whole.false)
    c.trace_rows.ensures
