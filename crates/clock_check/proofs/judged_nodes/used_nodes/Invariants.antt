-- `clock_check::judged_nodes::used_nodes` meets its contract. The loop: the nodes from `n` on are variable 0. Assumes nothing.
use Rattle.clock_check.specs.Judging.{Rest}
use Rattle.clock_check.proofs.judged_nodes.used_nodes.Given as goal

abbrev pub invariant-loop-n : goal.invariant-loop-n
invariant-loop-n l =
    Rest l.nodes l.n
