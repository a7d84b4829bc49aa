-- `prepared_cycles::drives::by_draw` meets its contract. The loop's invariant: the draws that are left come to what all draws come to.
-- Assumes nothing.
use mathlib.Core.Path.{◌≡◌, refl, sym, ◌∙◌}
use Prim.Native.Nat.{◌+◌, ◌-◌}
use native.Mathlib.Omega.{arith}
use Rattle.plan.specs.Plan.{plan_of}
use Rattle.prepared_cycles.specs.Drives.{going_of, drawn_most}
use Rattle.prepared_cycles.proofs.Driving.{drawn-none, drawn-rested, drawn-more}
use Rattle.prepared_cycles.proofs.drives.by_draw.Goals as goal

pub loop-init : goal.loop-init
loop-init c =
    (omega arith, refl)

pub returns-then-e : goal.returns-then-e
returns-then-e c =
    let l = c.loop in
    let a = c.args in
    sym (drawn-rested (plan_of a.plan.now) (going_of l.cells l.pending l.places l.e) (drawn_most - l.counter)
    (omega (arith, c.loop-test.true)) c.if-e.true)
    ∙ l.invariant.1

pub loop-preserved : goal.loop-preserved
loop-preserved c =
    let l = c.loop in
    let a = c.args in
    let less : drawn_most - (l.counter + 1) ≡ drawn_most - l.counter - 1 = omega arith in (
      omega (arith, c.loop-test.true),
      rw less
          (sym (drawn-more (plan_of a.plan.now) (going_of l.cells l.pending l.places l.e) (drawn_most - l.counter)
          (omega (arith, c.loop-test.true)) c.if-e.false _ c.draw-e.ensures)
          ∙ l.invariant.1),
    )

pub returns : goal.returns
returns c =
    let l = c.loop in
    let a = c.args in
    sym (drawn-none (plan_of a.plan.now) (going_of l.cells l.pending l.places l.e) (drawn_most - l.counter)
    (omega (arith, c.loop-test.false)))
    ∙ l.invariant.1
