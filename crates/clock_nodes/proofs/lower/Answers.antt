-- `clock_nodes::lower` meets its contract. Assumes nothing.
use Rattle.clock_nodes.proofs.Turns.{lower-variable, lower-node}
use Rattle.clock_nodes.proofs.lower.Goals as goal

pub returns-then-word_at-eq0 : goal.returns-then-word_at-eq0
returns-then-word_at-eq0 c =
    let a = c.args in
    lower-variable a.nodes.now a.lows.now _ _ c.word_at.ensures c.if-word_at-eq0.true

pub returns : goal.returns
returns c =
    let a = c.args in
    lower-node a.nodes.now a.lows.now _ _ c.word_at.ensures c.if-word_at-eq0.false c.low_in.ensures c.min.ensures
