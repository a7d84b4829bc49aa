-- `clock_run::answer` meets its contract. Assumes nothing.
use Rattle.values.specs.Values.{ones}
use Rattle.clock_run.specs.Running.{answer_on}
use Rattle.clock_run.proofs.answer.Goals as goal

pub returns : goal.returns
unfolding answer_on ones
returns c =
    rw (
      c.take_values-2.ensures.value_after,
      c.take_values-2.ensures.unknown_after,
      c.take_values.ensures.value_after,
      c.take_values.ensures.unknown_after,
      c.at_most.ensures.value,
      c.at_most-wires.ensures.value,
      c.wires.ensures,
      c.registers-more.ensures,
      c.inputs-first.ensures,
    )
