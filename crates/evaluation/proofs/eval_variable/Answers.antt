-- `evaluation::eval_variable` meets its contract. Assumes nothing.
use Rattle.evaluation.specs.Bytes.{variable_node}
use Rattle.evaluation.proofs.eval_variable.Goals as goal

pub returns : goal.returns
unfolding variable_node
returns c =
    rw (c.width_at.ensures, c.value_at.ensures)
