-- `driving::states::unsettled` meets its contract. Assumes nothing.
use Rattle.driving.proofs.Plans.{unsettled-is}
use Rattle.driving.proofs.states.unsettled.Goals as goal

pub returns : goal.returns
returns c =
    unsettled-is _ _ _ _ c.start-begun.ensures
