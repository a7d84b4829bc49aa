-- `plan_nodes::work_node` meets its contract. Assumes nothing.
use Rattle.plan_nodes.specs.Nodes.{work_node}
use Rattle.plan_nodes.proofs.work_node.Goals as goal

pub returns : goal.returns
unfolding work_node
returns c =
    rw c.worth.ensures
