-- `clock_steps::take_thread` meets its contract. Assumes nothing.
use Rattle.clock_steps.specs.Taking.{entry_cell, place_of, take_row, take_thread}
use Rattle.clock_steps.proofs.take_thread.Goals as goal

pub returns : goal.returns
unfolding take_thread take_row place_of entry_cell
returns c =
    rw (
      c.place_of.ensures,
      c.slot.ensures.value,
      c.take_registers.ensures,
      c.work_row.ensures,
      c.row_in-row.ensures.value,
    )
