-- `clock_check::judged_nodes::nodes_fit` meets its contract. The loop: the nodes so far are in order, and their widths filled in.
use mathlib.Core.Path.{◌≡◌}
use Prim.Native.Nat.{◌≤◌}
use Rattle.plan.specs.Plan.{plan_of}
use Rattle.clock_check.specs.Judging.{variables_in, Rest}
use Rattle.clock_check.proofs.Filling.{Passing}
use Rattle.clock_check.proofs.judged_nodes.nodes_fit.Given as goal

abbrev pub invariant-loop-n : goal.invariant-loop-n
invariant-loop-n l =
    (l.n ≤ l.used) × (l.variables ≡ variables_in (plan_of l.plan)) × Rest l.nodes l.used × Passing (plan_of l.plan) l.nodes l.sizes l.n
