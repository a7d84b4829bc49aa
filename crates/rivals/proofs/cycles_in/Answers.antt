-- `rivals::cycles_in` meets its contract. Assumes nothing.
use Rattle.rivals.specs.Judging.{cycles_in}
use Rattle.rivals.proofs.cycles_in.Goals as goal

pub returns : goal.returns
unfolding cycles_in
returns c =
    c.comparable.ensures
