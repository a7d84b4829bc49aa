-- `clock_nodes::fill_row` meets its contract. Assumes nothing.
use Rattle.clock_nodes.proofs.Turns.{row-past, row_here}
use Rattle.clock_nodes.proofs.fill_row.Goals as goal

pub returns-then-row-ge32 : goal.returns-then-row-ge32
returns-then-row-ge32 c =
    row-past _ _ _ _ _ _ c.if-row-ge32.true

pub returns : goal.returns
returns c =
    row_here _ _ _ _ _ _ c.if-row-ge32.false c.put_entries.ensures
    c.low_row-lo.ensures c.high_row-hi.ensures
