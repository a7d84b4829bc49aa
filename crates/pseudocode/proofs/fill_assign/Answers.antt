-- An assignment is one instruction, behind whose expression the next byte stands.
use mathlib.Core.Path.{◌∙◌}
use Rattle.pseudocode.specs.Filling.{emit, fill_assign}
use Rattle.pseudocode.proofs.fill_assign.Goals as goal

pub returns : goal.returns
unfolding fill_assign emit
returns c =
    c.emit.ensures ∙ rw c.skip_expr-next.ensures
