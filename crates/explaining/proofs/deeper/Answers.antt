-- `explaining::deeper` meets its contract. Assumes nothing.
use Rattle.explaining.specs.Walking.{deeper}
use Rattle.explaining.proofs.deeper.Goals as goal

pub returns-then-on : goal.returns-then-on
unfolding deeper
returns-then-on c =
    rw c.if-on.true

pub returns-else-on : goal.returns-else-on
unfolding deeper
returns-else-on c =
    rw c.if-on.false
