-- An assignment to the result is one instruction, behind whose expression the next byte stands. Assumes nothing.
use Rattle.bodies.specs.Filling.{fill_result}
use Rattle.bodies.proofs.fill_result.Goals as goal

pub returns : goal.returns
unfolding fill_result
returns c =
    rw (c.skip_expr-next.ensures, c.store.ensures, c.after.ensures)
