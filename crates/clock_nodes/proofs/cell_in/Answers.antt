-- `clock_nodes::cell_in` meets its contract. Assumes nothing.
use Rattle.clock_nodes.proofs.Turns.{cell-variable, cell-node}
use Rattle.clock_nodes.proofs.cell_in.Goals as goal

pub returns-then-word_at-eq0 : goal.returns-then-word_at-eq0
returns-then-word_at-eq0 c =
    let a = c.args in
    cell-variable a.nodes.now _ c.word_at.ensures c.if-word_at-eq0.true c.word_at-then-word_at-eq0.ensures

pub returns : goal.returns
returns c =
    cell-node c.args.nodes.now _ c.word_at.ensures c.if-word_at-eq0.false
