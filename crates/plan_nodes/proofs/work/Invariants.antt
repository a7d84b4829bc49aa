-- `plan_nodes::work` meets its contract. Assumes nothing.
use mathlib.Core.Path.{◌≡◌}
use Prim.Native.Nat.{◌-◌, ◌≤◌}
use Rattle.plan.specs.Plan.{node_at}
use Rattle.plan_nodes.specs.Nodes.{work_from}
use Rattle.plan_nodes.proofs.work.Given as goal

abbrev pub invariant-loop-i : goal.invariant-loop-i
invariant-loop-i l =
    (l.hi ≤ 4176) × (work_from (node_at l.plan) l.i (l.hi - l.i) l.cells ≡ work_from (node_at l.plan) l.lo (l.hi - l.lo) l.initial.cells)
