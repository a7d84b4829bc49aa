-- `clock_steps::work_row` meets its contract. Assumes nothing.
use Rattle.clock_steps.specs.Taking.{work_row}
use Rattle.clock_steps.proofs.work_row.Goals as goal

pub returns : goal.returns
unfolding work_row
returns c =
    c.work.ensures
