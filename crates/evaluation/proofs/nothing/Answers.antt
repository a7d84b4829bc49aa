-- `evaluation::nothing` meets its contract. Assumes nothing.
use Rattle.evaluation.specs.Bytes.{nothing}
use Rattle.evaluation.proofs.nothing.Goals as goal

pub returns : goal.returns
unfolding nothing
returns c =
    rw c.all_unknown.ensures
