-- `columns::behind_of` meets its contract. Assumes nothing.
use Rattle.columns.specs.Columns.{behind_of}
use Rattle.columns.proofs.behind_of.Goals as goal

pub returns-then-shown : goal.returns-then-shown
unfolding behind_of
returns-then-shown c =
    rw c.if-shown.true

pub returns-else-shown : goal.returns-else-shown
unfolding behind_of
returns-else-shown c =
    rw c.if-shown.false
