-- `clock_nodes::higher` meets its contract. Assumes nothing.
use Rattle.clock_nodes.proofs.Turns.{higher-variable, higher-node}
use Rattle.clock_nodes.proofs.higher.Goals as goal

pub returns-then-word_at-eq0 : goal.returns-then-word_at-eq0
returns-then-word_at-eq0 c =
    higher-variable c.args.nodes.now _ _ c.word_at.ensures c.if-word_at-eq0.true

pub returns : goal.returns
returns c =
    higher-node c.args.nodes.now _ _ c.word_at.ensures c.if-word_at-eq0.false c.max.ensures
