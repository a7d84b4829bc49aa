-- `plan_nodes::work` meets its contract. Assumes nothing.
use mathlib.Core.Path.{refl, sym, ◌∙◌}
use native.Mathlib.Omega.{arith}
use borrow.Author.Rules.{rules}
use Rattle.plan.specs.Plan.{node_at}
use Rattle.plan_nodes.proofs.Nodes.{work-some, work_none, work-past, work-within}
use Rattle.plan_nodes.proofs.work.Goals as goal

pub returns-then-hi-gt4176 : goal.returns-then-hi-gt4176
returns-then-hi-gt4176 c =
    work-past _ _ _ _ c.if-hi-gt4176.true

pub loop-i-init : goal.loop-i-init
loop-i-init c =
    (omega arith, refl)

pub loop-i-preserved : goal.loop-i-preserved
loop-i-preserved c =
    let at-loop = c.loop-i in
    let a = c.args in (
      omega arith,
      work-some (node_at a.plan.now) at-loop.i a.hi at-loop.cells _ (search rules) c.work_node.ensures ∙ at-loop.invariant.1,
    )

pub returns : goal.returns
returns c =
    let at-loop = c.loop-i in
    let a = c.args in
    sym (work_none (node_at a.plan.now) at-loop.i a.hi at-loop.cells (search rules))
    ∙ at-loop.invariant.1
    ∙ sym (work-within (node_at a.plan.now) a.lo a.hi a.cells.now at-loop.invariant.0)
