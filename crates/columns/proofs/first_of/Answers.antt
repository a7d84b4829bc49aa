-- `columns::first_of` meets its contract. Assumes nothing.
use Rattle.columns.specs.Columns.{first_of}
use Rattle.columns.proofs.first_of.Goals as goal

pub returns-then-shown : goal.returns-then-shown
unfolding first_of
returns-then-shown c =
    rw c.if-shown.true

pub returns-else-shown : goal.returns-else-shown
unfolding first_of
returns-else-shown c =
    rw c.if-shown.false
