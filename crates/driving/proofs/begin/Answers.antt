-- `driving::begin` meets its contract. Assumes nothing.
use Rattle.driving.proofs.Plans.{begun-is}
use Rattle.driving.proofs.begin.Goals as goal

pub returns : goal.returns
returns c =
    begun-is _ _ _ _ _ _ c.start-st.ensures c.resume.ensures
