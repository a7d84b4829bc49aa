-- `clock_steps::take_register` meets its contract. Assumes nothing.
use Rattle.values.specs.Cells.{cell_at}
use Rattle.clock_steps.specs.Taking.{entry_cell, take_register}
use Rattle.clock_steps.proofs.take_register.Goals as goal

pub returns-then-has : goal.returns-then-has
unfolding take_register entry_cell cell_at
returns-then-has c =
    rw (
      ← c.has.ensures,
      c.if-has.true,
      c.store.ensures,
      c.load.ensures,
      c.slot.ensures.value,
    )

pub returns-else-has : goal.returns-else-has
unfolding take_register
returns-else-has c =
    rw (← c.has.ensures, c.if-has.false)
