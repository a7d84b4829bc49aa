-- `driving::resume` meets its contract. Assumes nothing.
use Rattle.driving.proofs.Plans.{resumed-is}
use Rattle.driving.proofs.resume.Goals as goal

pub returns : goal.returns
returns c =
    resumed-is _ _ _ _ _ _ _ _ c.seed_of-seed.ensures c.is_drawn.ensures c.settle-d.ensures
    c.rest_of.ensures
