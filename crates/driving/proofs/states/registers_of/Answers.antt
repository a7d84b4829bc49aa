-- `driving::states::registers_of` meets its contract. Assumes nothing.
use Rattle.driving.proofs.Plans.{registers-is}
use Rattle.driving.proofs.states.registers_of.Goals as goal

pub returns : goal.returns
returns c =
    registers-is _ _ _ _ c.numbers_from-value.ensures c.numbers_from-unknown.ensures
