-- `plan_fill::fill_instr` meets its contract. Assumes nothing.
use Rattle.plan_fill.specs.Filling.{fill_instr}
use Rattle.plan_fill.proofs.fill_instr.Goals as goal

pub returns-in-Wait : goal.returns-in-Wait
unfolding fill_instr
returns-in-Wait c =
    rw c.in-Wait.is c.fill_wait.ensures

pub returns-in-Act : goal.returns-in-Act
unfolding fill_instr
returns-in-Act c =
    rw c.in-Act.is c.fill_act.ensures
