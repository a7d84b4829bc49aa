-- `walk::rest` meets its contract. Assumes nothing.
use Rattle.extraction.proofs.Walking.{wait-path}
use borrow.Author.Rules.{rules}
use Rattle.extraction.proofs.walk.rest.Goals as goal

pub returns : goal.returns
returns c =
    wait-path _ _ _ _ _ c.land-registers.ensures c.emit_node-n.ensures.value c.word_of.ensures c.emit_node-n.ensures.nodes_after
