-- `values::branch_cell` meets its contract, by the condition.
use Rattle.std.proofs.Common.{sym, ◌∙◌}
use Rattle.values.proofs.branch_cell.Goals as goal

pub returns-then-holds_cell : goal.returns-then-holds_cell
returns-then-holds_cell c =
    rw (sym c.holds_cell.ensures ∙ c.if-holds_cell.true, c.store.ensures, c.load.ensures)

pub returns-else-holds_cell : goal.returns-else-holds_cell
returns-else-holds_cell c =
    rw (sym c.holds_cell.ensures ∙ c.if-holds_cell.false, c.store-else-holds_cell.ensures, c.load-else-holds_cell.ensures)
