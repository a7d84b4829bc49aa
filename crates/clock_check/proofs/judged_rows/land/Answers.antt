-- `clock_check::judged_rows::land` meets its contract. The loop: the nodes so far are marked. Assumes nothing.
use mathlib.Core.Path.{◌≡◌, ap, ◌∙◌}
use native.Mathlib.Omega.{arith}
use Rattle.plan.specs.Plan.{plan_of}
use Rattle.nodes.specs.Cells.{node_of}
use Rattle.clock_check.specs.Judging.{wait_of}
use Rattle.clock_check.proofs.Filling.{lands_over, lands-none, lands-more, lands-all}
use Rattle.clock_check.proofs.judged_rows.land.Goals as goal

pub loop-n-init : goal.loop-n-init
loop-n-init c =
    let a = c.args in
    (omega arith, c.requires.rest, c.requires.marks_value ∙ lands-none (wait_of (plan_of a.plan.now) a.i) a.nodes.now)

pub bounds-marks-n : goal.bounds-marks-n
bounds-marks-n c =
    omega (arith, c.loop-n.invariant.1.most)

pub loop-n-preserved : goal.loop-n-preserved
loop-n-preserved c =
    let a = c.args in (
      omega arith,
      c.loop-n.invariant.1,
      lands-more (wait_of (plan_of a.plan.now) a.i) a.nodes.now c.loop-n.n c.loop-n.marks (node_of c.cell_at.result)
          c.lands.result (omega (arith, c.loop-n.invariant.1.most)) c.loop-n.invariant.2 c.cell_at.ensures c.lands.ensures,
    )

pub returns : goal.returns
returns c =
    let a = c.args in
    let w = wait_of (plan_of a.plan.now) a.i in
    let e : c.loop-n.n ≡ a.used = omega arith in
    c.loop-n.invariant.2 ∙ ap (lands_over w a.nodes.now) e ∙ lands-all w a.nodes.now a.used c.loop-n.invariant.1
