-- `nodes::cell_at` meets its contract: a node has four words. Assumes nothing.
use borrow.Author.Rules.{rules}
use Rattle.nextstate.specs.Nodes.{node_at}
use Rattle.nodes.proofs.cell_at.Goals as goal

pub returns : goal.returns
unfolding node_at
returns c =
    rw (c.cell_of.ensures, c.word_at.ensures, c.word_at-2.ensures, c.word_at-3.ensures, c.word_at-4.ensures)
