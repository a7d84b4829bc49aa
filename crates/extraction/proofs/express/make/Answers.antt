-- `express::make` meets its contract. Assumes nothing.
use Rattle.extraction.specs.Emitting.{made}
use borrow.Author.Rules.{rules}
use Rattle.extraction.proofs.express.make.Goals as goal

pub returns : goal.returns
unfolding made
returns c =
    rw (c.emit_node-n.ensures.value, c.emit_node-n.ensures.nodes_after)
