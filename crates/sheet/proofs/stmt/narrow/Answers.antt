-- `sheet::stmt::narrow` meets its contract, edge by edge. Assumes nothing.
use Rattle.sheet.specs.Statement.{narrow}
use Rattle.sheet.proofs.stmt.narrow.Goals as goal

pub returns-in-Change : goal.returns-in-Change
unfolding narrow
returns-in-Change c =
    rw c.in-Change.is

pub returns-in-Posedge : goal.returns-in-Posedge
unfolding narrow
returns-in-Posedge c =
    rw (c.in-Posedge.is, c.byte_at-width.ensures)

pub returns-in-Negedge : goal.returns-in-Negedge
unfolding narrow
returns-in-Negedge c =
    rw (c.in-Negedge.is, c.byte_at-width.ensures)
