-- `clock_check::judged_nodes::nodes_fit` meets its contract. The loop: the nodes so far are in order, and their widths filled in.
use mathlib.Core.Path.{◌≡◌, sym, ◌∙◌}
use native.Mathlib.Omega.{arith}
use Rattle.plan.specs.Plan.{plan_of}
use Rattle.nodes.specs.Cells.{node_of}
use Rattle.clock_check.proofs.Filling.{passing-none, passing-more, passed, stopped, rest-off, rest-on}
use Rattle.clock_check.proofs.judged_nodes.nodes_fit.Goals as goal

pub loop-n-init : goal.loop-n-init
loop-n-init c =
    let a = c.args in
    (omega arith, c.variables_in-variables.ensures, c.requires, passing-none (plan_of a.plan.now) a.nodes.now)

pub returns-then-not-node_fits : goal.returns-then-not-node_fits
returns-then-not-node_fits c =
    let a = c.args in
    let both = stopped (plan_of a.plan.now) a.nodes.now c.loop-n.sizes c.loop-n.n c.loop-n.invariant.3 (omega (arith, c.loop-n-test.true, c.loop-n.invariant.2.most))
    (node_of c.cell_at-cell.result) c.cell_at-cell.ensures c.variables_in-variables.result c.loop-n.invariant.1 c.node_fits.result
    c.node_fits.ensures c.if-not-node_fits.true in
    record { value = both.0; sizes_after = both.1 }

pub bounds-sizes-n : goal.bounds-sizes-n
bounds-sizes-n c =
    omega (arith, c.loop-n-test.true, c.loop-n.invariant.2.most)

pub loop-n-preserved : goal.loop-n-preserved
loop-n-preserved c =
    let a = c.args in (
      omega arith,
      c.loop-n.invariant.1,
      c.loop-n.invariant.2,
      passing-more (plan_of a.plan.now) a.nodes.now c.loop-n.sizes c.loop-n.n c.loop-n.invariant.3
          (omega (arith, c.loop-n-test.true, c.loop-n.invariant.2.most)) (node_of c.cell_at-cell.result) c.cell_at-cell.ensures c.variables_in-variables.result c.loop-n.invariant.1
          c.node_fits.result c.node_fits.ensures c.if-not-node_fits.false c.node_width.result
          c.node_width.ensures,
    )

pub returns-then-used-ge4096 : goal.returns-then-used-ge4096
returns-then-used-ge4096 c =
    let a = c.args in
    let both = passed (plan_of a.plan.now) a.nodes.now c.loop-n.sizes c.loop-n.n c.loop-n.invariant.3
    (omega (arith, c.if-used-ge4096.true, c.loop-n-test.false, c.loop-n.invariant.2.most)) in
    record { value = both.0; sizes_after = both.1 }

pub returns-then-variables-eq0 : goal.returns-then-variables-eq0
returns-then-variables-eq0 c =
    let a = c.args in
    let e : c.loop-n.n ≡ a.used = omega (arith, c.loop-n-test.false) in
    let both = rest-off (plan_of a.plan.now) a.nodes.now a.used c.loop-n.invariant.2 c.loop-n.sizes (rw e at c.loop-n.invariant.3)
    c.if-used-ge4096.false (sym c.if-variables-eq0.true ∙ c.loop-n.invariant.1) in
    record { value = both.0; sizes_after = both.1 }

pub returns : goal.returns
returns c =
    let a = c.args in
    let e : c.loop-n.n ≡ a.used = omega (arith, c.loop-n-test.false) in
    let d = c.if-variables-eq0.false in
    let both = rest-on (plan_of a.plan.now) a.nodes.now a.used c.loop-n.invariant.2 c.loop-n.sizes (rw e at c.loop-n.invariant.3)
    c.width.result _ (omega (arith, c.loop-n.invariant.1)) c.width.ensures c.fill_rest.ensures in
    record { value = both.0; sizes_after = both.1 }
