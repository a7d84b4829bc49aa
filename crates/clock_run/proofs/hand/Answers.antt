-- `clock_run::hand` meets its contract. Assumes nothing.
use Rattle.clock_run.specs.Running.{hand_on}
use Rattle.clock_run.proofs.hand.Goals as goal

pub returns : goal.returns
unfolding hand_on
returns c =
    rw (
      c.put_cell.ensures,
      c.put_values.ensures,
      c.at_most-n.ensures.value,
      c.registers.ensures,
      c.inputs-first.ensures,
    )
