-- `workload::trace` meets its contract. The loop's invariant: the rows that are left come to what all come to. Assumes nothing.
use Prim.Native.Nat.{◌+◌, ◌-◌}
use native.Mathlib.Omega.{arith}
use mathlib.Core.Path.{◌≡◌, refl, sym, ◌∙◌}
use borrow.Author.Tests.{not-true, not-false}
use Rattle.plan.specs.Plan.{plan_of}
use Rattle.workload.proofs.Tracing.{trace-end, trace-short, trace-stopped, trace-more}
use Rattle.workload.proofs.trace.Goals as goal

pub loop-k-init : goal.loop-k-init
loop-k-init c =
    (omega arith, refl, refl)

pub returns-then-value-k : goal.returns-then-value-k
returns-then-value-k c =
    let l = c.loop-k in
    let a = c.args in
    let g = trace-short (plan_of a.plan.now) a.user a.value.now a.unknown.now l.k l.rest l.out (32 - l.k)
    (omega arith) c.if-value-k.true in
    (record { value = sym g.0 ∙ l.invariant.1; out_after = sym g.1 ∙ l.invariant.2 })

pub returns-then-not-rest : goal.returns-then-not-rest
returns-then-not-rest c =
    let l = c.loop-k in
    let a = c.args in
    let g = trace-stopped (plan_of a.plan.now) a.user a.value.now a.unknown.now l.k l.rest l.out (32 - l.k)
    (omega arith)
    c.if-value-k.false _ c.cycled-t.ensures _ c.after-rest.ensures (not-true _ c.if-not-rest.true) in
    (record { value = sym g.0 ∙ l.invariant.1; out_after = sym g.1 ∙ l.invariant.2 })

pub loop-k-preserved : goal.loop-k-preserved
loop-k-preserved c =
    let l = c.loop-k in
    let a = c.args in
    let g = trace-more (plan_of a.plan.now) a.user a.value.now a.unknown.now l.k l.rest l.out (32 - l.k)
    (omega arith)
    c.if-value-k.false _ c.cycled-t.ensures _ c.after-rest.ensures (not-false _ c.if-not-rest.false) _
    c.put_cycle.ensures (32 - (l.k + 1)) (omega arith) in
    (omega arith, sym g.0 ∙ l.invariant.1, sym g.1 ∙ l.invariant.2)

pub returns : goal.returns
returns c =
    let l = c.loop-k in
    let a = c.args in
    let e : l.k ≡ 32 = omega arith in
    let g = trace-end (plan_of a.plan.now) a.user a.value.now a.unknown.now 32 l.rest l.out (32 - 32)
    (omega arith) in
    (record { value = sym g.0 ∙ (rw e at l.invariant.1); out_after = sym g.1 ∙ (rw e at l.invariant.2) })
