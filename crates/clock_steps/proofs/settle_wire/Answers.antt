-- `clock_steps::settle_wire` meets its contract. Assumes nothing.
use Rattle.clock_steps.specs.Settling.{root_of, work_wire, settle_wire}
use Rattle.clock_steps.proofs.settle_wire.Goals as goal

pub returns : goal.returns
unfolding settle_wire work_wire root_of
returns c =
    rw (
      c.put_cell.ensures,
      c.inputs-first.ensures,
      c.registers-more.ensures,
      c.work.ensures,
      c.slot-root.ensures.value,
      c.wire-e.ensures,
    )
