-- `cycles::fill_lent` meets its contract. Assumes nothing.
use Rattle.cycles.proofs.Preparing.{lent-filled}
use Rattle.cycles.proofs.fill_lent.Goals as goal

pub returns : goal.returns
returns c =
    let a = c.args in
    lent-filled a.plan.now a.nodes.now a.sizes.now a.rows.now a.written.now a.lent.now a.table.now
    a.numbers.now c.reach-count.ensures c.copy_nodes.ensures c.low_nodes.ensures
    c.fill_rows.ensures.numbers_after c.fill_rows.ensures.table_after
